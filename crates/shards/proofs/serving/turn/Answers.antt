use Rattle.std.proofs.Common.{◌≡◌, ◌∙◌, ap, length, subst}
use Rattle.model.specs.Failures.{HasRisen}
use Rattle.std.specs.Prelude.{Err}
use Rattle.dealing.specs.Dealing.{OneDoes, dealt}
use Rattle.lines.specs.declared.fault.ServeFault.TheVariants.{Write}
use Rattle.shards.specs.Blocks.{Tells}
use Rattle.shards.proofs.GoingOn.{turns_same, under_same}
use Rattle.shards.proofs.serving.turn.Goals as goal

pub returns-in-Ok-clause-turns : goal.returns-in-Ok-clause-turns
returns-in-Ok-clause-turns g c start under =
    turns_same (λ n. OneDoes (Tells g.H.Handler.meaning c.args.drives) (dealt n)) (length c.args.shards.now)
    (length c.answer_waiting.new.shards) c.answer_waiting.auto.shards start _ _ c.read_more.result
    (c.read_more.ensures.turns start
    (under_same (λ n. OneDoes (Tells g.H.Handler.meaning c.args.drives) (dealt n)) (length c.args.shards.now)
    (length c.answer_waiting.new.shards) c.answer_waiting.auto.shards start _ _
    (c.in-Ok.ensures.ok start (g.R.Read.remaining c.args.reader.now.inner) under)))

pub returns-in-Err-clause-turns : goal.returns-in-Err-clause-turns
returns-in-Err-clause-turns g c start under =
    c.in-Err.ensures.err start (g.R.Read.remaining c.args.reader.now.inner) under

pub returns-in-Ok-clause-write : goal.returns-in-Ok-clause-write
returns-in-Ok-clause-write g c e =
    subst (λ n. HasRisen n c.read_more.new.writer.failed) (c.in-Ok.ensures.same (λ q. cc)) (c.read_more.ensures.write e)

pub returns-in-Ok-clause-write_same : goal.returns-in-Ok-clause-write_same
returns-in-Ok-clause-write_same g c apart = c.read_more.ensures.write_same apart ∙ c.in-Ok.ensures.same (λ q. cc)

pub returns-in-Err-clause-write : goal.returns-in-Err-clause-write
returns-in-Err-clause-write g c e =
    let f : c.in-Err.fault ≡ Write = cc in
    c.in-Err.ensures.write (ap Err f)

pub returns-in-Err-clause-write_same : goal.returns-in-Err-clause-write_same
returns-in-Err-clause-write_same g c apart =
    c.in-Err.ensures.same (λ q.
    let f : c.in-Err.fault ≡ Write = cc in
    apart (ap Err f))
