use Rattle.std.proofs.Common.{length, map}
use Rattle.dealing.specs.Dealing.{OneDoes, dealt}
use Rattle.shards.specs.Blocks.{Tells}
use Rattle.shards.proofs.GoingOn.{any_err, any_ok, goes_on, risen_err, same_unless, stops, stops_after}
use Rattle.shards.proofs.serving.answer_block.Goals as goal

pub returns-in-Ok-clause-ok : goal.returns-in-Ok-clause-ok
returns-in-Ok-clause-ok g c =
    any_ok c.flush_unless.result _ (λ start input under.
    goes_on (OneDoes (Tells g.H.Handler.meaning c.args.drives) (dealt (length c.args.shards.now))) start input
    (g.W.Write.contents c.args.writer.now.inner) (map (λ s. s.host) c.args.shards.now) _ under
    (g.W.Write.contents c.answer.new.writer.inner) (g.W.Write.contents c.flush_unless.new.writer.inner)
    (map (λ s. s.host) c.answer.new.shards) c.clear.new.self c.in-Ok.ensures.ok c.flush_unless.ensures.keeps
    c.clear.ensures)

pub returns-in-Ok-clause-err : goal.returns-in-Ok-clause-err
returns-in-Ok-clause-err g c =
    any_err c.flush_unless.result _ (λ start input under.
    stops_after (OneDoes (Tells g.H.Handler.meaning c.args.drives) (dealt (length c.args.shards.now))) start input
    (g.W.Write.contents c.args.writer.now.inner) (map (λ s. s.host) c.args.shards.now) _ under
    (g.W.Write.contents c.answer.new.writer.inner) (g.W.Write.contents c.flush_unless.new.writer.inner)
    (map (λ s. s.host) c.answer.new.shards) c.in-Ok.ensures.ok c.flush_unless.ensures.keeps)

pub returns-in-Err-clause-err : goal.returns-in-Err-clause-err
returns-in-Err-clause-err g c start input under =
    stops (OneDoes (Tells g.H.Handler.meaning c.args.drives) (dealt (length c.args.shards.now))) start input
    (g.W.Write.contents c.args.writer.now.inner) (map (λ s. s.host) c.args.shards.now) _ under
    (g.W.Write.contents c.answer.new.writer.inner) (map (λ s. s.host) c.answer.new.shards) c.in-Err.ensures.err

pub returns-in-Ok-clause-write : goal.returns-in-Ok-clause-write
returns-in-Ok-clause-write g c e =
    risen_err c.flush_unless.result _ c.args.writer.now.failed c.answer.new.writer.failed
    c.flush_unless.new.writer.failed (c.in-Ok.ensures.same (λ q. cc)) e c.flush_unless.ensures.err

pub returns-in-Ok-clause-same : goal.returns-in-Ok-clause-same
returns-in-Ok-clause-same g c apart =
    same_unless c.flush_unless.result
    c.args.writer.now.failed c.answer.new.writer.failed c.flush_unless.new.writer.failed
    (c.in-Ok.ensures.same (λ q. cc)) c.flush_unless.ensures.err c.flush_unless.ensures.same apart
