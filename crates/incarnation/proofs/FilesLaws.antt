-- Laws of rows that are filed by unit.
use Rattle.std.proofs.Common.{◌≡◌, inl, inr, refl, sym, ◌∙◌, ap, subst, ℕ, zero, suc, ◌+◌, ◌-◌, ◌<◌, ◌≤◌, Bool, true}
use Rattle.std.proofs.Common.{false, cond, max, ◌&&◌, List, [], ◌∷◌, ◌++◌, length, take, arith, length-append, zero-add}
use Rattle.std.proofs.lemmas.List.{append-nil}
use Rattle.std.proofs.lemmas.List.Elements.{filter-append}
use Rattle.std.specs.Prelude.{Option, Some, None, slice_get, ◌==◌, nat_lt, nat_le, IsTrue, ◌↔◌, slice_index}
use Rattle.model.specs.declared.names.Row.{Row}
use Rattle.model.specs.declared.names.Mark.{Mark}
use Rattle.model.specs.World.{incarnation_of, mark_told, mark_lost}
use Rattle.model.proofs.Places.{get_below}
use Rattle.theory.proofs.ListLaws.{bool_cases, eq_true, true_eq, any_at, at_any, and_both, both_and, get_take, take_get}
use Rattle.theory.proofs.ListLaws.{get_append, lt_true, true_lt, le_true, true_le, or_cases, or_left, or_right}
use Rattle.theory.proofs.ListLaws.{index_map, or_false}
use Rattle.theory.proofs.VectorLaw.{same_bools}
use Rattle.incarnation.specs.Rows.{rows_of}
use Rattle.std.proofs.lemmas.Option.{slice_get_within, same_Some}
use native.Mathlib.Decide.{dec_lt}
use Rattle.incarnation.specs.Starts.{IsFirstLow}
use Rattle.std.proofs.lemmas.List.{length-map, map-append}
use Rattle.incarnation.specs.Filed.{Filed, nothing_filed, row_places_from, filed_of, filed_at, Files, IsFiled, Ordered}
use Rattle.incarnation.specs.Filed.{place_below, is_told_by, LosesAt, with_row}

abbrev if_of : {X : Type 0} → Row → ℕ → X → List X
if_of r unit x = cond (r.unit == unit) (x ∷ []) []

-- ---- one more row

pub rows_of-append : (rows : List Row) (r : Row) (unit : ℕ)
    → rows_of (rows ++ r ∷ []) unit ≡ rows_of rows unit ++ if_of r unit r
rows_of-append rows r unit = filter-append (λ q. q.unit == unit) rows (r ∷ [])

pub row_places_from-append : (k : ℕ) (rows : List Row) (r : Row) (unit : ℕ)
    → row_places_from k (rows ++ r ∷ []) unit ≡ row_places_from k rows unit ++ if_of r unit (k + length rows)
row_places_from-append k [] r unit = ap (λ p. if_of r unit p) (let e : k ≡ k + 0 = omega arith in e)
row_places_from-append k (q ∷ rows) r unit =
    go _ _ _ (q.unit == unit) (row_places_from-append (k + 1) rows r unit ∙ ap (λ p. row_places_from (k + 1) rows unit
    ++ if_of r unit p) (let e : (k + 1) + length rows ≡ k + suc (length rows) = omega arith in e))
  where
    go : (xs ys zs : List ℕ) (b : Bool) → xs ≡ ys ++ zs → cond b (k ∷ xs) xs ≡ cond b (k ∷ ys) ys ++ zs
    go xs ys zs true e = ap (λ t. k ∷ t) e
    go xs ys zs false e = e

pub incarnation_of-append : (rows : List Row) (r : Row) (unit : ℕ) → incarnation_of (rows ++ r ∷ [])
    unit ≡ cond (r.unit == unit) (max (incarnation_of rows unit) r.incarnation) (incarnation_of rows unit)
incarnation_of-append [] r unit = go (r.unit == unit)
  where
    go : (b : Bool) → cond b (max r.incarnation 0) 0 ≡ cond b (max 0 r.incarnation) 0
    go true = omega arith
    go false = refl
incarnation_of-append (q ∷ rows) r unit = go _ _ (q.unit == unit) (r.unit == unit) (incarnation_of-append rows r unit)
  where
    go : (m n : ℕ) (a b : Bool) → m ≡ cond b (max n r.incarnation) n → cond a (max q.incarnation m)
        m ≡ cond b (max (cond a (max q.incarnation n) n) r.incarnation) (cond a (max q.incarnation n) n)
    go m n true true e = rw e (omega arith)
    go m n true false e = rw e refl
    go m n false true e = e
    go m n false false e = e

-- ---- a row is filed where its unit is

pub record RowIsFiled (rows : List Row) (k unit i : ℕ) (r : Row) : Type 0 where
  pub at : ℕ
  pub has_row : slice_get (rows_of rows unit) at ≡ Some r
  pub has_place : slice_get (row_places_from k rows unit) at ≡ Some (k + i)

pub row_filed : (rows : List Row) (k unit i : ℕ) (r : Row)
    → slice_get rows i ≡ Some r → r.unit ≡ unit → RowIsFiled rows k unit i r
row_filed [] k unit i r e own = cc
row_filed (q ∷ rows) k unit zero r e own =
    let is : q ≡ r = same_Some q r e in
    let b : (q.unit == unit) ≡ true = true_eq _ _ (ap (λ (x : Row). x.unit) is ∙ own) in
    record { at = 0; has_row = rw b e; has_place = rw b (ap Some (let s : k ≡ k + 0 = omega arith in s)) }
row_filed (q ∷ rows) k unit (suc i) r e own =
    let f = row_filed rows (k + 1) unit i r e own in
    let s : (k + 1) + i ≡ k + suc i = omega arith in
    let p : slice_get (row_places_from (k + 1) rows unit) f.at ≡ Some (k + suc i) = f.has_place ∙ ap Some s in
    elim (bool_cases (q.unit == unit)) [
      | inl b ↦ record { at = suc f.at; has_row = rw b f.has_row; has_place = rw b p }
      | inr b ↦ record { at = f.at; has_row = rw b f.has_row; has_place = rw b p }
    ]

-- and what is filed is a row
pub record FiledIsRow (rows : List Row) (k unit j p : ℕ) : Type 0 where
  pub i : ℕ
  pub row : Row
  pub is : p ≡ k + i
  pub found : slice_get rows i ≡ Some row
  pub own : row.unit ≡ unit
  pub has_row : slice_get (rows_of rows unit) j ≡ Some row

placed_later : {rows : List Row} {k unit j p : ℕ} (q : Row) (at : ℕ) (b : Bool)
    → (q.unit == unit) ≡ b → FiledIsRow rows (k + 1) unit j p
    → slice_get (cond b (q ∷ rows_of rows unit) (rows_of rows unit)) at ≡ slice_get (rows_of rows unit) j
    → FiledIsRow (q ∷ rows) k unit at p
placed_later q at b e t same = let a = t.is in record {
  i = suc t.i;
  row = t.row;
  is = omega arith;
  found = t.found;
  own = t.own;
  has_row = rw e (same ∙ t.has_row);
}

placed_here : (q : Row) (rows : List Row) (k unit p : ℕ) → (q.unit == unit) ≡ true
    → ((j : ℕ) → slice_get (row_places_from (k + 1) rows unit) j ≡ Some p → FiledIsRow rows (k + 1) unit j p)
    → (j : ℕ) → slice_get (k ∷ row_places_from (k + 1) rows unit) j ≡ Some p → FiledIsRow (q ∷ rows) k unit j p
placed_here q rows k unit p b further zero e = let h : k ≡ p = same_Some k p e in
    record { i = 0; row = q; is = omega arith; found = refl; own = eq_true _ _ b; has_row = rw b refl }
placed_here q rows k unit p b further (suc j) e = placed_later q (suc j) true b (further j e) refl

pub filed_row : (rows : List Row) (k unit j p : ℕ)
    → slice_get (row_places_from k rows unit) j ≡ Some p → FiledIsRow rows k unit j p
filed_row [] k unit j p e = cc
filed_row (q ∷ rows) k unit j p e = elim (bool_cases (q.unit == unit)) [
  | inl b ↦ placed_here q rows k unit p b (λ i h. filed_row rows (k + 1) unit i p h) j (rw b at e)
  | inr b ↦ placed_later q j false b (filed_row rows (k + 1) unit j p (rw b at e)) refl
]

pub places_long : (rows : List Row) (k unit : ℕ) → length (rows_of rows unit) ≡ length (row_places_from k rows unit)
places_long [] k unit = refl
places_long (q ∷ rows) k unit = go _ _ (q.unit == unit) (places_long rows (k + 1) unit)
  where
    go : (xs : List Row) (ys : List ℕ) (b : Bool)
        → length xs ≡ length ys → length (cond b (q ∷ xs) xs) ≡ length (cond b (k ∷ ys) ys)
    go xs ys true e = ap suc e
    go xs ys false e = e

-- ---- the look-ups

below_some : (known : ℕ) (o : Option ℕ) → place_below known o ≡ true → (p : ℕ) × (o ≡ Some p) × (p < known)
below_some known None e = cc
below_some known (Some p) e = (p, refl, lt_true p known e)

not_zero : (n : ℕ) → (n == 0) ≡ false → 0 < n
not_zero zero e = cc
not_zero (suc n) e = omega arith

-- one look at the places tells whether a row is known
pub tells_is : (rows : List Row) (f : Filed) (known unit : ℕ) (mark : Mark)
    → Ordered rows → f ≡ filed_of rows unit → is_told_by f known mark ≡ mark_told (take known rows) unit mark
tells_is rows f known unit mark o is =
    rw is (same_bools (is_told_by (filed_of rows unit) known mark) (mark_told (take known rows) unit mark) there back)
  where
    incarnation : ℕ
    incarnation = mark.incarnation

    is_row : Row → Bool
    is_row r = (r.unit == unit) && (r.incarnation == incarnation)

    there : is_told_by (filed_of rows unit) known mark ≡ true → mark_told (take known rows) unit mark ≡ true
    there e = elim (or_cases (incarnation == 0) _ e) [
      | inl h ↦ or_left _ _ h
      | inr h ↦ elim (bool_cases (incarnation == 0)) [
        | inl z ↦ or_left _ _ z
        | inr z ↦
            let nz = not_zero incarnation z in
            let b = below_some known _ h in
            let t = filed_row rows 0 unit (incarnation - 1) b.0 b.1 in
            let at = o.in_order unit (incarnation - 1) t.row t.has_row in
            let a = t.is in let c = b.2 in
            or_right (incarnation == 0)
            _ (at_any is_row (take known rows) t.i t.row (take_get rows known t.i t.row (omega arith) t.found)
            (both_and (t.row.unit == unit) (t.row.incarnation == incarnation)
            (true_eq _ _ t.own) (true_eq t.row.incarnation incarnation (omega arith))))
      ]
    ]

    back : mark_told (take known rows) unit mark ≡ true → is_told_by (filed_of rows unit) known mark ≡ true
    back e = elim (or_cases (incarnation == 0) _ e) [
      | inl h ↦ or_left _ _ h
      | inr h ↦
          let a = any_at is_row (take known rows) h in
          let b = and_both (a.1.0.unit == unit) (a.1.0.incarnation == incarnation) a.1.2 in
          let t = get_take rows known a.0 a.1.0 a.1.1 in
          let d = row_filed rows 0 unit a.0 a.1.0 t.0 (eq_true _ _ b.0) in
          let n = o.in_order unit d.at a.1.0 d.has_row in
          let s : a.1.0.incarnation ≡ incarnation = eq_true _ _ b.1 in
          let k = t.1 in
          let j : d.at ≡ incarnation - 1 = omega arith in
          let p : slice_get (row_places_from 0 rows unit) (incarnation - 1) ≡ Some a.0 =
          rw (← j) (d.has_place ∙ ap Some (zero-add a.0)) in
          or_right (incarnation == 0) _ (rw p (true_lt a.0 known (omega arith)))
    ]

-- the rows of later incarnations tell whether a mark is lost
pub loses_is : (rows : List Row) (f : Filed) (known unit : ℕ) (mark : Mark) (b : Bool) → Ordered rows
    → f ≡ filed_of rows unit → (IsTrue b ↔ LosesAt f known mark) → b ≡ mark_lost (take known rows) unit mark
loses_is rows f known unit mark b o same_f is = same_bools b (mark_lost (take known rows) unit mark) there back
  where
    loses_by : Row → Bool
    loses_by r = (r.unit == unit) && (nat_lt mark.incarnation r.incarnation && nat_le r.start mark.index)

    there : b ≡ true → mark_lost (take known rows) unit mark ≡ true
    there e =
        let l : LosesAt (filed_of rows unit) known mark = rw same_f at (is.0 e) in
        let t = filed_row rows 0 unit l.at l.place l.has_place in
        let same : t.row ≡ l.row = same_Some _ _ (sym t.has_row ∙ l.has_row) in
        let n = o.in_order unit l.at l.row l.has_row in
        let k = t.is in let known_row = l.is_known in let late = l.later in
        at_any loses_by (take known rows)
        t.i l.row (take_get rows known t.i l.row (omega arith) (t.found ∙ ap Some same))
        (both_and (l.row.unit == unit) (nat_lt mark.incarnation l.row.incarnation && nat_le l.row.start mark.index)
        (true_eq l.row.unit unit (ap (λ (x : Row). x.unit) (sym same) ∙ t.own))
        (both_and (nat_lt mark.incarnation l.row.incarnation) (nat_le l.row.start mark.index)
        (true_lt mark.incarnation l.row.incarnation (omega arith)) (true_le l.row.start mark.index l.starts)))

    back : mark_lost (take known rows) unit mark ≡ true → b ≡ true
    back e =
        let a = any_at loses_by (take known rows) e in
        let r = a.1.0 in
        let u = and_both (r.unit == unit) (nat_lt mark.incarnation r.incarnation && nat_le r.start mark.index) a.1.2 in
        let m = and_both (nat_lt mark.incarnation r.incarnation) (nat_le r.start mark.index) u.1 in
        let t = get_take rows known a.0 a.1.0 a.1.1 in
        let d = row_filed rows 0 unit a.0 a.1.0 t.0 (eq_true _ _ u.0) in
        let n = o.in_order unit d.at a.1.0 d.has_row in
        let lt = lt_true mark.incarnation r.incarnation m.0 in
        let k = t.1 in
        let l : LosesAt (filed_of rows unit) known mark =
        record {
          at = d.at;
          row = a.1.0;
          place = 0 + a.0;
          later = omega arith;
          has_row = d.has_row;
          has_place = d.has_place;
          is_known = omega arith;
          starts = le_true r.start mark.index m.1;
        } in
        is.1 (subst (λ (x : Filed). LosesAt x known mark) (sym same_f) l)

same_filed : {xs ys : List Row} {ps qs : List ℕ}
    → xs ≡ ys → ps ≡ qs → (let f : Filed = record { rows = xs; places = ps } in f) ≡ record { rows = ys; places = qs }
same_filed {xs} {ys} {ps} {qs} e d = ap (λ zs. let f : Filed = record { rows = zs; places = ps } in f) e
    ∙ ap (λ zs. let f : Filed = record { rows = ys; places = zs } in f) d

-- ---- files are kept

pub files_none : Files [] []
files_none = record { filed = λ u. refl; ordered = record { counted = λ u. refl; in_order = λ u j r e. cc } }

-- Files in which each unit has what it had before are files of the same rows.
pub files_same : (rows : List Row) (files now : List Filed)
    → Files rows files → ((u : ℕ) → filed_at now u ≡ filed_at files u) → Files rows now
files_same rows files now f same = record { filed = λ u. same u ∙ f.filed u; ordered = f.ordered }

-- one more row is filed
pub files_append : (rows : List Row) (files now : List Filed) (r : Row)
    → Files rows files → r.incarnation ≡ incarnation_of rows r.unit + 1
    → ((u : ℕ) → filed_at now u ≡ with_row r (length rows) u (filed_at files u))
    → Files (rows ++ r ∷ []) now
files_append rows files now r f next is =
    record { filed = λ u. is u ∙ filed u; ordered = record { counted = counted; in_order = in_order } }
  where
    filed : (u : ℕ) → with_row r (length rows) u (filed_at files u) ≡ filed_of (rows ++ r ∷ []) u
    filed u = rw f.filed (elim (bool_cases (r.unit == u)) [
      | inl b ↦ rw b (sym (same_filed (rows_of-append rows r u
          ∙ rw b refl) (row_places_from-append 0 rows r u ∙ rw (b, zero-add) refl)))
      | inr b ↦ rw b (sym (same_filed (rows_of-append rows r u
          ∙ rw (b, append-nil) refl) (row_places_from-append 0 rows r u ∙ rw (b, append-nil) refl)))
    ])

    counted : (u : ℕ) → incarnation_of (rows ++ r ∷ []) u ≡ length (rows_of (rows ++ r ∷ []) u)
    counted u = rw (
      incarnation_of-append rows r u,
      rows_of-append rows r u,
      length-append (rows_of rows u) (if_of r u r),
      f.ordered.counted u,
    ) (elim (bool_cases (r.unit == u)) [
      | inl b ↦ let own : r.unit ≡ u = eq_true _ _ b in
          let n = f.ordered.counted r.unit in let same = ap (λ v. length (rows_of rows v)) own in rw b (omega arith)
      | inr b ↦ rw b (omega arith)
    ])

    in_order : (u j : ℕ) (q : Row) → slice_get (rows_of (rows ++ r ∷ []) u) j ≡ Some q → q.incarnation ≡ j + 1
    in_order u j q e =
        let e2 : slice_get (rows_of rows u ++ if_of r u r) j ≡ Some q = rw (← rows_of-append rows r u) e in
        elim (bool_cases (r.unit == u)) [
          | inl b ↦
              let e3 : slice_get (rows_of rows u ++ r ∷ []) j ≡ Some q = rw b at e2 in
              elim (get_append (rows_of rows u) r q j e3) [
                | inl h ↦ f.ordered.in_order u j q h
                | inr h ↦
                    let own : r.unit ≡ u = eq_true _ _ b in
                    let n = f.ordered.counted r.unit in
                    let same = ap (λ v. length (rows_of rows v)) own in
                    let first = h.0 in
                    let i = ap (λ (x : Row). x.incarnation) h.1 in
                    omega arith
              ]
          | inr b ↦
              let e3 : slice_get (rows_of rows u ++ []) j ≡ Some q = rw b at e2 in
              f.ordered.in_order u j q (rw append-nil at e3)
        ]

-- the last row of a unit begins its greatest incarnation
pub latest_is : (rows : List Row) (f : Filed) (unit n : ℕ)
    → Ordered rows → f ≡ filed_of rows unit → (length f.rows ≡ 0 → n ≡ 0)
    → ((r : Row) → slice_get f.rows (length f.rows - 1) ≡ Some r → n ≡ r.incarnation) → n ≡ incarnation_of rows unit
latest_is rows f unit n o same none last = go (length (rows_of rows unit)) refl
  where
    is : f.rows ≡ rows_of rows unit
    is = ap (λ (x : Filed). x.rows) same

    go : (k : ℕ) → k ≡ length (rows_of rows unit) → n ≡ incarnation_of rows unit
    go zero e = let c = o.counted unit in let z = none (ap length is ∙ sym e) in omega arith
    go (suc k) e =
        let c = o.counted unit in
        let g = get_below (rows_of rows unit) k (omega arith) in
        let i = o.in_order unit k g.0 g.1 in
        let at : length f.rows - 1 ≡ k = let l = ap length is in omega arith in
        let s = last g.0 (rw (at, is) g.1) in
        omega arith

-- where nothing is filed
pub tells_none : (rows : List Row) (known unit : ℕ) (mark : Mark) (b : Bool) → Ordered rows
    → filed_of rows unit ≡ nothing_filed → b ≡ (mark.incarnation == 0) → b ≡ mark_told (take known rows) unit mark
tells_none rows known unit mark b o none is =
    is ∙ or_false (mark.incarnation == 0) ∙ tells_is rows nothing_filed known unit mark o (sym none)

-- The known rows lose no mark of a unit for which nothing is filed.
pub loses_none : (rows : List Row) (known unit : ℕ) (mark : Mark)
    → Ordered rows → filed_of rows unit ≡ nothing_filed → false ≡ mark_lost (take known rows) unit mark
loses_none rows known unit mark o none = loses_is rows nothing_filed known unit mark false o (sym none) (
  (λ e. cc),
  (λ l. absurd (empty l.at l.row l.has_row)),
)
  where
    empty : (j : ℕ) (r : Row) → slice_get [] j ≡ Some r → ⊥
    empty j r e = cc

-- A unit for which nothing is filed has the incarnation 0.
pub latest_none : (rows : List Row) (unit : ℕ)
    → Ordered rows → filed_of rows unit ≡ nothing_filed → 0 ≡ incarnation_of rows unit
latest_none rows unit o none = let c = o.counted unit in let l = ap (λ (x : Filed). length x.rows) none in omega arith

-- ---- the first row that loses a mark

-- no rows are filed
pub filed_none : IsFiled [] [] []
filed_none = record { long = refl; same = refl; rising = λ i j p q h e f. cc }

-- one more row with its place
pub filed_more : (rows : List Row) (places starts : List ℕ) (r : Row) (place : ℕ)
    → IsFiled rows places starts → ((i p : ℕ) → slice_get places i ≡ Some p → p ≤ place)
    → IsFiled (rows ++ r ∷ []) (places ++ place ∷ []) (starts ++ r.start ∷ [])
filed_more rows places starts r place f below = record {
  long = let t = f.long in let a = length-append rows (r ∷ []) in
      let b = length-append places (place ∷ []) in omega (arith, t, a, b);
  same = ap (λ z. z ++ r.start ∷ []) f.same ∙ sym (map-append (λ (q : Row). q.start) rows (r ∷ []));
  rising = rising;
}
  where
    rising : (i j p q : ℕ) → i ≤ j
        → slice_get (places ++ place ∷ []) i ≡ Some p → slice_get (places ++ place ∷ []) j ≡ Some q → p ≤ q
    rising i j p q h e k = elim (get_append places place q j k) [
      | inl t ↦ elim (get_append places place p i e) [
        | inl z ↦ f.rising i j p q h z t
        | inr z ↦ absurd (let w = slice_get_within places j q t in let a = z.0 in omega (arith, w, a, h))
      ]
      | inr t ↦ elim (get_append places place p i e) [
        | inl z ↦ let w = below i p z in let same = t.1 in omega (arith, w, same)
        | inr z ↦ let a = z.1 in let same = t.1 in omega (arith, a, same)
      ]
    ]

-- the same of what a push leaves
pub filed_push : (rows now_rows : List Row) (places now_places starts now_starts : List ℕ) (r : Row) (place : ℕ)
    → now_rows ≡ rows ++ r ∷ [] → now_places ≡ places ++ place ∷ [] → now_starts ≡ starts ++ r.start ∷ []
    → IsFiled rows places starts
    → ((i p : ℕ) → slice_get places i ≡ Some p → p ≤ place) → IsFiled now_rows now_places now_starts
filed_push rows now_rows places now_places starts now_starts r place a b c f below =
    rw (a, b, c) (filed_more rows places starts r place f below)

-- The first row from the mark's incarnation on that starts no later than its index tells whether the mark is lost.
pub first_loses : (f : Filed) (starts : List ℕ) (known : ℕ) (mark : Mark) (at index : ℕ) (b : Bool)
    → IsFiled f.rows f.places starts → index ≡ mark.index → IsFirstLow starts index mark.incarnation at
    → b ≡ place_below known (slice_get f.places at) → (IsTrue b ↔ LosesAt f known mark)
first_loses f starts known mark at index b filed same_index first is = (there, back)
  where
    there : IsTrue b → LosesAt f known mark
    there e =
        let p = below_some known (slice_get f.places at) (sym is ∙ e) in
        let within = slice_get_within f.places at p.0 p.1 in
        let long = filed.long in
        let r = get_below f.rows at (omega (arith, within, long)) in
        let all = length-map f.rows (λ (q : Row). q.start) in
        let same = ap length filed.same in
        let low = first.low (omega (arith, within, long, all, same)) in
        let start = ap (λ z. slice_index z at) filed.same ∙ index_map (λ (q : Row). q.start) f.rows at r.0 r.1 in
        record {
          at = at;
          row = r.0;
          place = p.0;
          later = first.after;
          has_row = r.1;
          has_place = p.1;
          is_known = p.2;
          starts = omega (arith, low, start, same_index);
        }

    back : LosesAt f known mark → IsTrue b
    back l =
        let start = ap (λ z. slice_index z l.at) filed.same
        ∙ index_map (λ (q : Row). q.start) f.rows l.at l.row l.has_row in
        let before : at ≤ l.at = elim (dec_lt l.at at) [
          | no q ↦ omega (arith, q)
          | yes q ↦
              absurd (let t = first.high l.at l.later q in let k = l.starts in omega (arith, t, k, start, same_index))
        ] in
        let within = slice_get_within f.places l.at l.place l.has_place in
        let p = get_below f.places at (omega (arith, within, before)) in
        let rise = filed.rising at l.at p.0 l.place before p.1 l.has_place in
        let k = l.is_known in
        is ∙ rw p.1 (true_lt p.0 known (omega (arith, rise, k)))

-- the places that are filed are those of rows
pub places_below : (rows : List Row) (files : List Filed)
    → Files rows files → (u i p : ℕ) → slice_get (filed_at files u).places i ≡ Some p → p ≤ length rows
places_below rows files f u i p e =
    let t = filed_row rows 0 u i p (ap (λ (x : Filed). slice_get x.places i) (sym (f.filed u)) ∙ e) in
    let within = slice_get_within rows t.i t.row t.found in
    let is = t.is in
    omega (arith, within, is)
