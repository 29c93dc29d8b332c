-- The rows of a table, one after the other, each begin their unit's next incarnation.
use Rattle.std.proofs.Common.{◌≡◌, ◌⊎◌, inl, inr, refl, sym, ◌∙◌, ap, ℕ, zero, suc, ◌+◌, ◌<◌, Bool, true, false, cond}
use Rattle.std.proofs.Common.{max}
use Rattle.std.proofs.Common.{List, [], ◌∷◌, ◌++◌, length, take, drop, arith}
use Rattle.std.proofs.lemmas.List.Elements.{filter-append}
use Rattle.std.proofs.lemmas.Option.{same_Some}
use Rattle.std.specs.Prelude.{Some, slice_get, ◌==◌}
use Rattle.model.specs.declared.names.Row.{Row}
use Rattle.model.specs.World.{incarnation_of}
use Rattle.theory.proofs.ListLaws.{append_get, true_eq}
use Rattle.incarnation.specs.Filed.{Ordered}
use Rattle.incarnation.specs.Rows.{rows_of}

-- the unit's rows begin the incarnations behind this one
abbrev BeginBehind : ℕ → List Row → Type 0
BeginBehind k own = (j : ℕ) (r : Row) → slice_get own j ≡ Some r → r.incarnation ≡ (k + j) + 1

-- so many rows further on is the greatest, if there is a row
abbrev IsGreatest : ℕ → List Row → ℕ → Type 0
IsGreatest k own greatest =
    ((length own ≡ 0) × (greatest ≡ 0)) ⊎ ((0 < length own) × (greatest ≡ k + length own))

counted_from : (rows : List Row) (unit k : ℕ)
    → BeginBehind k (rows_of rows unit) → IsGreatest k (rows_of rows unit) (incarnation_of rows unit)
counted_from [] unit k h = inl (refl, refl)
counted_from (q ∷ rows) unit k h = go (q.unit == unit) (counted_from rows unit k) (counted_from rows unit (k + 1)) h
  where
    go : (b : Bool)
        → (BeginBehind k (rows_of rows unit) → IsGreatest k (rows_of rows unit) (incarnation_of rows unit))
        → (BeginBehind (k + 1) (rows_of rows unit) → IsGreatest (k + 1) (rows_of rows unit) (incarnation_of rows unit))
        → BeginBehind k (cond b (q ∷ rows_of rows unit) (rows_of rows unit))
        → IsGreatest k (cond b (q ∷ rows_of rows unit) (rows_of rows unit))
        (cond b (max q.incarnation (incarnation_of rows unit)) (incarnation_of rows unit))
    go false same more f = same f
    go true same more f =
        let first : q.incarnation ≡ (k + 0) + 1 = f 0 q refl in
        elim (more (λ j r e. let a = f (suc j) r e in omega (arith, a))) [
          | inl e ↦ let a = e.0 in let b = e.1 in inr (omega arith, omega (arith, first, a, b))
          | inr e ↦ let a = e.0 in let b = e.1 in inr (omega arith, omega (arith, first, a, b))
        ]

-- a list from the row at a place on
split : {X : Type 0} (xs : List X) (i : ℕ) (x : X) → slice_get xs i ≡ Some x → xs ≡ take i xs ++ x ∷ drop (suc i) xs
split [] i x e = absurd (cc e)
split (y ∷ xs) zero x e = ap (λ z. z ∷ xs) (same_Some y x e)
split (y ∷ xs) (suc i) x e = ap (λ zs. y ∷ zs) (split xs i x e)

behind : {X : Type 0} (xs : List X) (x : X) (ys : List X) → slice_get (xs ++ x ∷ ys) (length xs) ≡ Some x
behind [] x ys = refl
behind (z ∷ xs) x ys = behind xs x ys

-- Each row of a table begins the next incarnation of its unit by those before it.
pub next_at : (rows : List Row) (i : ℕ) (r : Row) → Ordered rows → slice_get rows i ≡ Some r
    → r.incarnation ≡ incarnation_of (take i rows) r.unit + 1
next_at rows i r o e =
    let unit : ℕ = r.unit in
    let before : List Row = rows_of (take i rows) unit in
    let here : rows_of (r ∷ drop (suc i) rows) unit ≡ r ∷ rows_of (drop (suc i) rows) unit =
    ap (λ b. cond b (r ∷ rows_of (drop (suc i) rows) unit) (rows_of (drop (suc i) rows) unit))
    (true_eq unit unit refl) in
    let all : rows_of rows unit ≡ before ++ r ∷ rows_of (drop (suc i) rows) unit =
    ap (λ xs. rows_of xs unit) (split rows i r e)
    ∙ filter-append (λ q. q.unit == unit) (take i rows) (r ∷ drop (suc i) rows)
    ∙ ap (λ xs. before ++ xs) here in
    let own : r.incarnation ≡ length before + 1 = o.in_order unit (length before) r
    (ap (λ xs. slice_get xs (length before)) all ∙ behind before r (rows_of (drop (suc i) rows) unit)) in
    let count = counted_from (take i rows) unit 0 (λ j q f.
    let a : q.incarnation ≡ j + 1 = o.in_order unit j q (ap (λ xs. slice_get xs j) all
    ∙ append_get before (r ∷ rows_of (drop (suc i) rows) unit) j q f) in omega (arith, a)) in
    elim count [
      | inl h ↦ let a = h.0 in let b = h.1 in omega (arith, own, a, b)
      | inr h ↦ let b = h.1 in omega (arith, own, b)
    ]

-- a beginning goes on with the row there
pub take_one : {X : Type 0} (xs : List X) (i : ℕ) (x : X) → slice_get xs i ≡ Some x
    → take (i + 1) xs ≡ take i xs ++ x ∷ []
take_one xs i x e = ap (λ n. take n xs) (let k : i + 1 ≡ suc i = omega arith in k) ∙ go xs i e
  where
    go : {X : Type 0} {x : X} (xs : List X) (i : ℕ) → slice_get xs i ≡ Some x → take (suc i) xs ≡ take i xs ++ x ∷ []
    go [] i e = absurd (cc e)
    go {x = x} (y ∷ xs) zero e = ap (λ z. z ∷ []) (same_Some y x e)
    go (y ∷ xs) (suc i) e = ap (λ zs. y ∷ zs) (go xs i e)
