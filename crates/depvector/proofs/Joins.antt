-- Laws of joined and widened vectors.
use Rattle.std.proofs.Common.{◌≡◌, refl, ap, ℕ, zero, suc, ◌+◌, ◌<◌, ◌≤◌, List, [], ◌∷◌, length, take, set, get_or}
use Rattle.std.proofs.Common.{arith, add-one, ◌++◌, ◌-◌, ◌∙◌, length-append, replicate, inl, inr}
use Rattle.model.specs.declared.names.Mark.{Mark}
use Rattle.model.specs.World.{greater_mark, no_mark}
use Rattle.std.specs.List.{AllClonesOf, AppendsClonesOf}
use Rattle.std.proofs.lemmas.List.{take_all}
use Rattle.depvector.specs.Vectors.{joined, widened}

-- a joined vector is as long as the first
pub length-joined : (own other : List Mark) → length (joined own other) ≡ length own
length-joined own [] = refl
length-joined [] (y ∷ other) = refl
length-joined (x ∷ own) (y ∷ other) = ap suc (length-joined own other)

pub ruleset joins = (length-joined)

-- one more entry is joined
joined_more : (own other : List Mark) (i : ℕ) (d : Mark) → i < length other → length other ≤ length own
    → set (joined own (take i other)) i (greater_mark (get_or (joined own (take i other)) i d) (get_or other i d))
    ≡ joined own (take (suc i) other)
joined_more own [] i d h k = absurd (omega arith)
joined_more [] (y ∷ other) i d h k = absurd (omega arith)
joined_more (x ∷ own) (y ∷ []) zero d h k = refl
joined_more (x ∷ own) (y ∷ (z ∷ other)) zero d h k = refl
joined_more (x ∷ own) (y ∷ other) (suc i) d h k =
    ap (λ r. greater_mark x y ∷ r) (joined_more own other i d (omega arith) (omega arith))

-- the step of a loop over the entries
pub joined_step : (own other now : List Mark) (i : ℕ) (d : Mark) → now ≡ joined own (take i other) → i < length other
    → length other ≤ length own
    → set now i (greater_mark (get_or now i d) (get_or other i d)) ≡ joined own (take (i + 1) other)
joined_step own other now i d is h k = rw (add-one i, is) (joined_more own other i d h k)

-- clones that are equal to what they are of
same_clones : {X : Type 0} (x : X) (ys : List X) → AllClonesOf (λ a b. b ≡ a) x ys → ys ≡ replicate (length ys) x
same_clones x [] all = refl
same_clones x (y ∷ ys) (inl e, all) = rw (e) (ap (λ zs. x ∷ zs) (same_clones x ys all))
same_clones x (y ∷ ys) (inr e, all) = rw (e) (ap (λ zs. x ∷ zs) (same_clones x ys all))

-- a shorter vector that grew to n entries
pub widened_by_clones : (own new : List Mark) (n : ℕ) → length own < n
    → AppendsClonesOf (λ a b. b ≡ a) (take n own) new no_mark → length new ≡ n → new ≡ widened own n
widened_by_clones own new n h (ys, e, all) l =
    let t : take n own ≡ own = take_all n own (omega arith) in
    let k : length own + length ys ≡ n = rw (e, t, length-append) at l in
    let m : length ys ≡ n - length own = omega (arith, k) in
    rw (e, t) (ap (λ zs. own ++ zs) (same_clones no_mark ys all ∙ ap (λ j. replicate j no_mark) m))
