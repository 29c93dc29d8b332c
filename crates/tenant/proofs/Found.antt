-- What is found in a list.
use Rattle.std.proofs.Common.{◌≡◌, sym, ◌∙◌, ap, ℕ, ◌<◌, ◌≤◌, List, length}
use Rattle.std.specs.Prelude.{Option, Some, None, MatchOption, slice_get}
use Rattle.std.specs.List.{HoldsAt}
use Rattle.std.proofs.lemmas.Option.{get_or_from_slice_get, slice_get_past}
use Rattle.model.proofs.Places.{get_below}
use denote.Bor.{Bor}

-- what a look-up by index gives
pub found : {X : Type 0} (o : Option (Bor X)) (xs : List X) (i : ℕ)
    → MatchOption o (length xs ≤ i) (λ b. (i < length xs) × HoldsAt (λ y. b.now ≡ y) xs i)
    → MatchOption o (slice_get xs i ≡ None) (λ b. slice_get xs i ≡ Some b.now)
found None xs i h = slice_get_past xs i h
found (Some b) xs i h = let g = get_below xs i h.0 in
    g.1 ∙ ap (λ z. Some z) (sym (h.1 g.0 ∙ get_or_from_slice_get xs i g.0 g.0 g.1))
