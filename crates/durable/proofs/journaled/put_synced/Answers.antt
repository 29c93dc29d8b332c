use Rattle.std.proofs.KnownBytes.{Appends-kept}
use Rattle.durable.proofs.Ends.{ends_with_grown}
use Rattle.durable.proofs.journaled.put_synced.Goals as goal

pub returns-in-Ok-clause-stands : goal.returns-in-Ok-clause-stands
returns-in-Ok-clause-stands g c = (
  ends_with_grown _ _ c.args.bytes.now (g.met.F.Durable.steady c.args.file.now c.sync.new.self)
      (Appends-kept _ _ _ _ c.in_ok-put_all.ensures.ok c.in-Ok.ensures.held),
  c.in-Ok.ensures.stands,
)
