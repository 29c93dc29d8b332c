use Rattle.std.proofs.Common.{◌≡◌, ◌∙◌, length, map, ap, subst}
use Rattle.std.specs.Prelude.{Ok, Err}
use Rattle.lines.specs.declared.fault.ServeFault.TheVariants.{Write}
use Rattle.dealing.specs.Dealing.{OneDoes, dealt}
use Rattle.shards.specs.Blocks.{Tells, merged}
use Rattle.shards.specs.Kept.{AreReadFrom}
use Rattle.shards.proofs.GoingOn.{ended, ends_well, hears, kept_so, stops}
use Rattle.shards.proofs.Telling.{none_begins}
use Rattle.shards.proofs.serving.read_more.Goals as goal

pub returns-in-Err-clause-turns : goal.returns-in-Err-clause-turns
returns-in-Err-clause-turns g c start under =
    let so = c.step_lines.ensures.stepped in
    let still = hears (OneDoes (Tells g.H.Handler.meaning c.args.drives) (dealt (length c.args.shards.now))) start
    (g.R.Read.remaining c.args.reader.now.inner) (g.W.Write.contents c.args.writer.now.inner)
    (map (λ s. s.host) c.args.shards.now) _ under (g.R.Read.remaining c.take_part.new.reader.inner) _
    (λ begin answered heard. kept_so begin (g.R.Read.remaining c.args.reader.now.inner) answered _ heard
    (g.R.Read.remaining c.take_part.new.reader.inner) c.in-Err.ensures.kept) in
    stops (OneDoes (Tells g.H.Handler.meaning c.args.drives) (dealt (length c.args.shards.now))) start
    (g.R.Read.remaining c.take_part.new.reader.inner) (g.W.Write.contents c.args.writer.now.inner)
    (map (λ s. s.host) c.args.shards.now) _ still (g.W.Write.contents c.args.writer.now.inner)
    (map (λ s. s.host) c.step_lines.new.shards) (
      so.0,
      merged c.step_lines.new.desk.places.items so.1,
      subst (λ l. AreReadFrom l 0 so.0) c.in-Err.ensures.err so.2,
      so.3 ∙ ap length c.in-Err.ensures.err,
      so.4,
      none_begins (g.W.Write.contents c.args.writer.now.inner) _,
    )

pub returns-then-not-is_end-clause-turns : goal.returns-then-not-is_end-clause-turns
returns-then-not-is_end-clause-turns g c start under =
    hears (OneDoes (Tells g.H.Handler.meaning c.args.drives) (dealt (length c.args.shards.now))) start
    (g.R.Read.remaining c.args.reader.now.inner) (g.W.Write.contents c.args.writer.now.inner)
    (map (λ s. s.host) c.args.shards.now) _ under (g.R.Read.remaining c.take_part.new.reader.inner) _
    c.in-Ok.ensures.ok

pub returns-in-Err-clause-read : goal.returns-in-Err-clause-read
returns-in-Err-clause-read g c e = c.in-Err.ensures.fault.1

pub returns-in-Err-clause-read_same : goal.returns-in-Err-clause-read_same
returns-in-Err-clause-read_same g c apart = absurd (apart (ap Err c.in-Err.ensures.fault.0))

pub returns-in-Err-clause-write : goal.returns-in-Err-clause-write
returns-in-Err-clause-write g c e = let f = c.in-Err.ensures.fault.0 in absurd cc

pub returns-then-not-is_end-clause-goes : goal.returns-then-not-is_end-clause-goes
returns-then-not-is_end-clause-goes g c e =
    (c.take_part.ensures.held, c.in-Ok.ensures.within, c.in-Ok.ensures.fewer)

pub returns-in-Ok-answer_block-clause-turns : goal.returns-in-Ok-answer_block-clause-turns
returns-in-Ok-answer_block-clause-turns g c start under =
    let end = c.in-Ok.ensures.end (ap Ok c.if-not-is_end.false) in
    let on = hears (OneDoes (Tells g.H.Handler.meaning c.args.drives) (dealt (length c.args.shards.now))) start
    (g.R.Read.remaining c.args.reader.now.inner) (g.W.Write.contents c.args.writer.now.inner)
    (map (λ s. s.host) c.args.shards.now) _ under (g.R.Read.remaining c.take_part.new.reader.inner)
    (record {
      held = c.take_part.new.block.held.items;
      is_long = c.take_part.new.block.is_long;
      lines = c.take_part.new.block.lines;
      count = c.take_part.new.block.count;
    })
    c.in-Ok.ensures.ok in
    let at_end = ended start.input (g.R.Read.remaining c.args.reader.now.inner) under.answered _ under.heard
    (g.R.Read.remaining c.take_part.new.reader.inner) end.0 end.1 in
    ends_well (OneDoes (Tells g.H.Handler.meaning c.args.drives) (dealt (length c.args.shards.now))) start
    (g.R.Read.remaining c.take_part.new.reader.inner) (g.W.Write.contents c.answer_block.new.writer.inner)
    (map (λ s. s.host) c.answer_block.new.shards)
    (record {
      held = c.answer_block.new.block.held.items;
      is_long = c.answer_block.new.block.is_long;
      lines = c.answer_block.new.block.lines;
      count = c.answer_block.new.block.count;
    })
    (c.in-Ok-answer_block.ensures.ok start (g.R.Read.remaining c.take_part.new.reader.inner) on)
    c.in-Ok-answer_block.ensures.empty at_end (ap (λ v. v.items) c.answer_block.ensures.held ∙ end.2)
    (c.answer_block.ensures.long ∙ end.3)

pub returns-in-Err-answer_block-clause-turns : goal.returns-in-Err-answer_block-clause-turns
returns-in-Err-answer_block-clause-turns g c start under =
    let on = hears (OneDoes (Tells g.H.Handler.meaning c.args.drives) (dealt (length c.args.shards.now))) start
    (g.R.Read.remaining c.args.reader.now.inner) (g.W.Write.contents c.args.writer.now.inner)
    (map (λ s. s.host) c.args.shards.now) _ under (g.R.Read.remaining c.take_part.new.reader.inner)
    (record {
      held = c.take_part.new.block.held.items;
      is_long = c.take_part.new.block.is_long;
      lines = c.take_part.new.block.lines;
      count = c.take_part.new.block.count;
    })
    c.in-Ok.ensures.ok in
    c.in-Err-answer_block.ensures.err start (g.R.Read.remaining c.take_part.new.reader.inner) on

pub returns-in-Ok-answer_block-clause-write_same : goal.returns-in-Ok-answer_block-clause-write_same
returns-in-Ok-answer_block-clause-write_same g c apart = c.in-Ok-answer_block.ensures.same (λ q. cc)

pub returns-in-Err-answer_block-clause-write : goal.returns-in-Err-answer_block-clause-write
returns-in-Err-answer_block-clause-write g c e =
    let f : c.in-Err-answer_block.fault ≡ Write = cc in
    c.in-Err-answer_block.ensures.write (ap Err f)

pub returns-in-Err-answer_block-clause-write_same : goal.returns-in-Err-answer_block-clause-write_same
returns-in-Err-answer_block-clause-write_same g c apart =
    c.in-Err-answer_block.ensures.same (λ q.
    let f : c.in-Err-answer_block.fault ≡ Write = cc in
    apart (ap Err f))
