-- Fronts of lists, under a map.
use Rattle.std.proofs.Common.{◌≡◌, inl, inr, refl, sym, ◌∙◌, ap, ℕ, suc, ◌+◌, Bool, cond, List, [], ◌∷◌, take, map}
use Rattle.std.specs.Prelude.{Some, slice_get}
use Rattle.std.specs.List.{prefix_len, take_while}
use Rattle.std.proofs.lemmas.List.{take-map}
use Rattle.theory.proofs.ListLaws.{get_append_any, map_at}
use Rattle.theory.proofs.Released.{pairs_of}

-- two tests that agree on a list give fronts of the same length
pub same_prefix : {X Y : Type 0} (p : X → Bool) (q : Y → Bool) (f : X → Y) (xs : List X)
    → ((i : ℕ) (x : X) → slice_get xs i ≡ Some x → q (f x) ≡ p x) → prefix_len q (map f xs) ≡ prefix_len p xs
same_prefix p q f [] h = refl
same_prefix p q f (x ∷ xs) h =
    rw (h 0 x refl) (ap (λ n. cond (p x) (1 + n) 0) (same_prefix p q f xs (λ i y e. h (suc i) y e)))

-- and the same fronts
pub same_front : {X Y : Type 0} (p : X → Bool) (q : Y → Bool) (f : X → Y) (xs : List X)
    → ((i : ℕ) (x : X) → slice_get xs i ≡ Some x → q (f x) ≡ p x) → take_while q (map f xs) ≡ map f (take_while p xs)
same_front p q f xs h = ap (λ n. take n (map f xs)) (same_prefix p q f xs h) ∙ take-map f (prefix_len p xs) xs

-- the place of each pair is on the path
pub pair_on_path : {Y : Type 0} (f : ℕ → List Y) (path : List ℕ) (i : ℕ) (o : ℕ × Y)
    → slice_get (pairs_of f path) i ≡ Some o → (j : ℕ) × (slice_get path j ≡ Some o.0)
pair_on_path f [] i o e = cc
pair_on_path f (x ∷ path) i o e = elim (get_append_any (map (λ t. (x, t)) (f x)) (pairs_of f path) i o e) [
  | inl h ↦ let r = map_at (λ t. (x, t)) (f x) i o h in (0, ap (λ z. Some z.0) (sym r.2))
  | inr h ↦ let r = pair_on_path f path _ o h in (suc r.0, r.1)
]
