use Rattle.std.proofs.Common.{◌≡◌, subst, List, ℕ, length}
use Rattle.model.specs.declared.records.Record.{Record}
use Rattle.codec.specs.Codes.{Encodes}
use Rattle.snapshot.specs.Logs.{log_code, AreWritten, FitsLog}
use Rattle.snapshot.proofs.log.encode_log.Goals as goal

pub returns-clause-written : goal.returns-clause-written
returns-clause-written c =
    let pairs = c.in_ok-pairs.pairs.items in
    let same : (c.len.result, c.as_slice.result.now) ≡ (length c.args.log.now.records, c.in_ok-pairs.pairs.items) =
    λ i. (c.len.ensures i, c.as_slice.ensures.value i) in
    let written : AreWritten c.args.log.now.records c.in_ok-pairs.pairs.items = record {
      live = c.in_ok-pairs.ensures.live;
      all = c.in_ok-pairs.ensures.all;
      room = c.in_ok-pairs.ensures.room;
      fit = subst FitsLog same c.in_ok-encode_pairs.ensures.fits;
    } in (
      pairs,
      written,
      subst (λ (log : ℕ × List (ℕ × Record)). Encodes log_code log c.args.out.now.items c.encode_pairs.new.out.items)
          same
          c.in_ok-encode_pairs.ensures.code,
    )
