-- Places that are the last of a unit's live ones.
use Rattle.std.proofs.Common.{◌≡◌, sym, ◌∙◌, ap, ℕ, ◌+◌, ◌-◌, ◌≤◌, min, List, [], ◌++◌, length, take, drop, arith}
use Rattle.std.proofs.Common.{length-append, length-drop, length-take}
use Rattle.std.proofs.lemmas.List.{drop-append-le, drop-take, drop_all}
use Rattle.tenant.specs.Represents.{AreLast}

-- No places are the last of any places.
pub last_none : (live : List ℕ) → AreLast [] live
last_none live = sym (drop_all (length live - 0) live (omega arith))

-- Places that are the last of others are no more than those.
pub last_fits : (own live : List ℕ) → AreLast own live → length own ≤ length live
last_fits own live h = let a = ap length h in let b = length-drop (length live - length own) live in omega (arith, a, b)

-- with more at the end
pub last_more : (own live more : List ℕ) → AreLast own live → AreLast (own ++ more) (live ++ more)
last_more own live more h =
    let o = length live - length own in
    let fits = last_fits own live h in
    let a = length-append own more in
    let b = length-append live more in
    let same : o ≡ length (live ++ more) - length (own ++ more) = omega (arith, a, b, fits) in
    let low : o ≤ length live = omega arith in
    ap (λ ps. ps ++ more) h ∙ sym (drop-append-le o live more low) ∙ ap (λ n. drop n (live ++ more)) same

-- some of them at the front
pub last_taken : (own live : List ℕ) (keep : ℕ)
    → AreLast own live → AreLast (take keep own) (take (length live - length own + keep) live)
last_taken own live keep h =
    let o = length live - length own in
    let fits = last_fits own live h in
    let a = length-take (o + keep) live in
    let b = length-take keep own in
    ap (take keep) h ∙ sym (drop-take o keep live) ∙ ap (λ n. drop n (take (o + keep) live))
    (counts (length live) (length own) keep (length (take (o + keep) live)) (length (take keep own)) fits a b)
  where
    counts : (l w keep a b : ℕ) → w ≤ l → a ≡ min (l - w + keep) l → b ≡ min keep w → l - w ≡ a - b
    counts l w keep a b f g h = omega (arith, f, g, h)
