-- Replay of one record more.
use Rattle.std.proofs.Common.{◌≡◌, sym, ◌∙◌, ap, ℕ, ◌+◌, List, take, get_or}
use Rattle.std.specs.Prelude.{Some, slice_get}
use Rattle.std.proofs.lemmas.Option.{same_Some, slice_get_within, slice_get-get_or}
use Rattle.std.proofs.lemmas.List.Sums.{fold_more}
use Rattle.model.specs.declared.names.Seat.{Seat}
use Rattle.model.specs.declared.records.Record.{Record}
use Rattle.model.specs.Handler.{Meaning}
use Rattle.compact.specs.Compact.{Progress}
use Rattle.compact.specs.Laws.{replayed, replayed_one}

-- Replay of one record more is replay of those before it, and then of that record.
pub replayed_more : {S : Type 0} (M : Meaning S)
    (seat : Seat) (p : Progress S) (records : List Record) (i : ℕ) (r : Record) → slice_get records i ≡ Some r
    → replayed M seat p (take (i + 1) records) ≡ replayed_one M seat (replayed M seat p (take i records)) r
replayed_more M seat p records i r e =
    let within = slice_get_within records i r e in
    fold_more (replayed_one M seat) p records i r within
    ∙ ap (replayed_one M seat (replayed M seat p (take i records)))
    (same_Some (get_or records i r) r (sym (slice_get-get_or records i r within) ∙ e))
