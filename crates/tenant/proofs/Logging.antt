-- Records that are logged one after another.
use Rattle.std.proofs.Common.{◌≡◌, ◌⊎◌, inl, inr, sym, ◌∙◌, ap, ℕ, ◌+◌, ◌<◌, true, List, [], ◌∷◌, ◌++◌, length}
use Rattle.std.proofs.Common.{take, arith, append_assoc, map}
use Rattle.std.specs.Prelude.{Option, Some, slice_get, bytes_eq}
use Rattle.std.proofs.lemmas.List.{map-append}
use Rattle.model.specs.declared.records.Record.{Record}
use Rattle.model.proofs.Places.{get_below}
use Rattle.incarnation.proofs.Orders.{take_one}

abbrev pub AreOf : List ℕ → List Record → ℕ → Type 0
AreOf tenant records n = (k : ℕ) (r : Record) → k < n → slice_get records k ≡ Some r → bytes_eq r.tenant tenant ≡ true

module _ (tenant : List ℕ) (records : List Record)
    (i : ℕ) (within : i < length records) (before mid after : List (Option Record))
    (one : (r : Record) → slice_get records i ≡ Some r
    → (after ≡ mid ++ Some r ∷ []) × (bytes_eq r.tenant tenant ≡ true)) where
  -- Once the next record is appended, the log has one more of the records that are to be logged.
  pub logged_one : mid ≡ before ++ map Some (take i records) → after ≡ before ++ map Some (take (i + 1) records)
  logged_one so_far =
      let r = get_below records i within in
      (one r.0 r.1).0
      ∙ ap (λ rs. rs ++ Some r.0 ∷ []) so_far
      ∙ append_assoc before (map Some (take i records)) (Some r.0 ∷ [])
      ∙ ap (λ rs. before ++ rs)
      (sym (ap (map Some) (take_one records i r.0 r.1) ∙ map-append Some (take i records) (r.0 ∷ [])))

  -- Where the next record is of the tenant, one more of the first records are of the tenant.
  pub of_one : AreOf tenant records i → AreOf tenant records (i + 1)
  of_one so_far k r below found = elim (last k below) [
    | inl h ↦ so_far k r h found
    | inr e ↦ (one r (ap (slice_get records) (sym e) ∙ found)).1
  ]
    where
      last : (k : ℕ) → k < i + 1 → (k < i) ⊎ (k ≡ i)
      last k h = grind arith
