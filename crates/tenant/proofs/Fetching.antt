-- Records that are fetched by their positions among a unit's live ones.
use Rattle.std.proofs.Common.{◌≡◌, refl, sym, ◌∙◌, ap, ℕ, ◌+◌, ◌-◌, ◌≤◌, List, [], ◌∷◌, ◌++◌, length, take, drop, arith}
use Rattle.std.proofs.Common.{map, length-drop}
use Rattle.std.specs.Prelude.{Option, Some, slice_get}
use Rattle.std.proofs.lemmas.List.{map-append, take_all}
use native.Mathlib.Decide.{dec_le}
use Rattle.model.specs.declared.records.Record.{Record}
use Rattle.shared_log.specs.Logged.{IsLeftOf}
use Rattle.tenant.specs.Kept.{AreFetched}
use Rattle.incarnation.proofs.Orders.{take_one}
use Rattle.tenant.proofs.Places.{found_whole}
use Rattle.compact.proofs.Words.{drop_get}

-- An element of a list stands earlier by as many places as are dropped before it.
pub dropped_at : {X : Type 0} (xs : List X) (n i k : ℕ) (x : X)
    → k ≡ n + i → slice_get xs k ≡ Some x → slice_get (drop n xs) i ≡ Some x
dropped_at xs n i k x e f = drop_get xs n i x (ap (slice_get xs) (sym e) ∙ f)

counts : (a i b : ℕ) → a ≤ i → b ≤ i → (a ≤ b → i ≤ b) → (b ≤ a → i ≤ a) → i - a ≡ b - a
counts a i b h g k l = elim (dec_le a b) [
  | yes q ↦ let e = k q in
      omega (arith, e, g)
  | no q ↦ let e = l (omega (arith, q)) in omega (arith, e, q)
]

module _ (records : List (Option Record)) (places : List ℕ)
    (first i : ℕ) (low : first ≤ i) (fetched : List Record) (so_far : AreFetched records places first i fetched) where
  -- one more record
  pub fetched_one : (r : Record) → (p : ℕ) × (slice_get places i ≡ Some p) × (slice_get records p ≡ Some (Some r))
      → AreFetched records places first (i + 1) (fetched ++ r ∷ [])
  fetched_one r (p, at, is) =
      let count : i + 1 - first ≡ i - first + 1 = omega (arith, low) in
      let there = dropped_at places first (i - first) i p (omega (arith, low)) at in
      map-append (λ r. Some (Some r)) fetched (r ∷ [])
      ∙ (λ j. so_far j ++ (sym is j ∷ []))
      ∙ sym (map-append (slice_get records) (take (i - first) (drop first places)) (p ∷ []))
      ∙ ap (map (slice_get records))
      (sym (ap (λ n. take n (drop first places)) count ∙ take_one (drop first places) (i - first) p there))

  -- there are no more
  pub fetched_all : (last : ℕ) → length places ≤ i → i ≤ last → AreFetched records places first last fetched
  fetched_all last past above =
      let long = length-drop first places in
      so_far ∙ ap (map (slice_get records)) (take_all (i - first) (drop first places) (omega (arith, past, long))
      ∙ sym (take_all (last - first) (drop first places) (omega (arith, past, long, above))))

  -- Where fetching one by one ends, all records from the first position to the last are fetched.
  pub fetched_end : (last : ℕ)
      → last ≤ i → (first ≤ last → i ≤ last) → (last ≤ first → i ≤ first) → AreFetched records places first last fetched
  fetched_end last below range none =
      so_far ∙ ap (λ n. map (slice_get records) (take n (drop first places))) (counts first i last low below range none)

-- they are those of the whole list
pub whole_fetched : (records : List (Option Record)) (whole : List Record) → IsLeftOf records whole
    → (places : List ℕ) (fetched : List Record) → map (λ r. Some (Some r)) fetched ≡ map (slice_get records) places
    → map (λ r. Some r) fetched ≡ map (slice_get whole) places
whole_fetched records whole left [] [] e = refl
whole_fetched records whole left [] (r ∷ fetched) e = absurd (cc e)
whole_fetched records whole left (p ∷ places) [] e = absurd (cc e)
whole_fetched records whole left (p ∷ places) (r ∷ fetched) e =
    let head : Some (Some r) ≡ slice_get records p = cc in
    let tail : map (λ r. Some (Some r)) fetched ≡ map (slice_get records) places = ap (drop 1) e in
    λ i. sym (found_whole records whole p r left (sym head)) i ∷ whole_fetched records whole left places fetched tail i
