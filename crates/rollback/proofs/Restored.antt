-- There is a snapshot from which a unit is restored.
use Rattle.std.proofs.Common.{◌≡◌, inl, refl, sym, ap, ℕ, ◌≤◌, true, List, ◌++◌, arith}
use Rattle.std.specs.Prelude.{Option, Some, None, option_map}
use Rattle.std.specs.Option.{is_some}
use Rattle.std.proofs.lemmas.Option.{same_Some}
use Rattle.std.proofs.lemmas.List.Sums.{fold-append}
use Rattle.checkpoint.specs.declared.snapshot.Snapshot.{Snapshot}
use Rattle.checkpoint.specs.Shelves.{nearest_of}
use Rattle.checkpoint.proofs.Nearest.{nearest_none}
use Rattle.compact.specs.Compact.{Progress, fitted}
use Rattle.compact.specs.Laws.{replayed, replayed_one}
use Rattle.rollback.specs.Units.{Recovering, IsKept, BeginsBy}
use Rattle.model.specs.declared.records.Record.{Record}
use Rattle.model.specs.Handler.{Meaning}

has_base : {P : Type 0} (o : Option (Snapshot P)) (n : ℕ)
    → option_map (λ (s : Snapshot P). s.index) o ≡ Some n → (b : Snapshot P) × (o ≡ Some b) × (b.index ≡ n)
has_base None n e = cc
has_base (Some b) n e = (b, refl, same_Some b.index n e)

nearest_there : {S : Type 0} (u : Recovering S) (target : ℕ)
    → IsKept u → u.base ≤ target → (s : Snapshot (Progress S)) × (nearest_of u.shelf target ≡ Some s)
nearest_there {S} u target k low = go (nearest_of u.shelf target) refl
  where
    go : (o : Option (Snapshot (Progress S)))
        → nearest_of u.shelf target ≡ o → (s : Snapshot (Progress S)) × (nearest_of u.shelf target ≡ Some s)
    go (Some x) e = (x, e)
    go None e = absurd (let b = has_base u.shelf.base u.base k.base in
        let h = nearest_none u.shelf k.rises target e b.0 (inl b.1) in let i = b.2 in omega (arith, h, low, i))

-- so a restored unit is up
pub restored_up : {S Y : Type 0} (f : Snapshot (Progress S) → Y) (u : Recovering S) (target : ℕ)
    → IsKept u → u.base ≤ target → is_some (option_map f (nearest_of u.shelf target)) ≡ true
restored_up f u target k low = let n = nearest_there u target k low in rw n.1 refl

-- and where its snapshot is what some receipts give, it is what these and the records give
pub restored_fold : {S : Type 0} (M : Meaning S) (u : Recovering S) (target width : ℕ)
    (p : Progress S) (before records : List Record) → IsKept u → u.base ≤ target → BeginsBy M u target width p before
    → option_map (λ s. replayed M u.seat (fitted width s.state) records)
    (nearest_of u.shelf target) ≡ Some (replayed M u.seat p (before ++ records))
restored_fold M u target width p before records k low begins =
    let n = nearest_there u target k low in
    rw (n.1, begins n.0 n.1) (ap Some (sym (fold-append (replayed_one M u.seat) p before records)))
