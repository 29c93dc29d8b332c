-- Laws of the places of live records.
use Rattle.std.proofs.Common.{◌≡◌, refl, sym, ◌∙◌, ap, subst, ℕ, zero, suc, ◌+◌, ◌-◌, Bool, true, false, List, [], ◌∷◌}
use Rattle.std.proofs.Common.{◌++◌, length, take, drop, arith, append_assoc, append-nil, length-append, slice_get}
use Rattle.std.proofs.Common.{slice_set, length-set}
use Rattle.std.specs.Prelude.{◌<◌, ◌≤◌, All, Result, Ok, Err, OnOk, OnErr, Option, None, Some, ◌&&◌, ◌==◌}
use Rattle.std.specs.Prelude.{if◌then◌else◌, bytes_eq}
use Rattle.std.proofs.lemmas.Slice.Eq.{bytes_eq-Decides}
use Rattle.std.proofs.lemmas.Bool.Decides.{Decides-eqb}
use Rattle.std.proofs.Math.ListN.{drop_of_length-le}
use Rattle.std.proofs.lemmas.List.{length-drop, take_rest}
use Rattle.std.proofs.lemmas.List.Elements.{All-append, All-weaker, All-nil, All-cons}
use Rattle.model.specs.declared.records.Record.{Record}
use Rattle.shared_log.specs.Logged.{Logged, owner_of, is_owner, is_of, places_from, places_of, AllKept, IsHeld, emptied}

-- the places of a log are those of its list
pub places_are : (log : Logged) (tenant : List ℕ) (unit : ℕ)
    → places_of tenant unit log ≡ places_from tenant unit 0 log.records
unfolding places_of
places_are log tenant unit = refl

-- ---- owners

both : (a b : Bool) → a && b ≡ true → (a ≡ true) × (b ≡ true)
both true b e = (refl, e)
both false b e = absurd (let t : false ≡ true = e in cc)

-- the owner that passes the test is this unit of this tenant
pub owner_is : (tenant : List ℕ) (unit : ℕ) (owner : List ℕ × ℕ)
    → is_owner tenant unit owner ≡ true → (tenant ≡ owner.0) × (unit ≡ owner.1)
owner_is tenant unit owner e =
    let h = both (bytes_eq owner.0 tenant) (owner.1 == unit) e in
    (sym ((bytes_eq-Decides owner.0 tenant).0 h.0), sym ((Decides-eqb owner.1 unit).0 h.1))

-- the unit of a tenant is its own owner
pub owner_self : (tenant : List ℕ) (unit : ℕ) → is_owner tenant unit (tenant, unit) ≡ true
owner_self tenant unit = rw ((bytes_eq-Decides tenant tenant).1 refl, (Decides-eqb unit unit).1 refl) refl

-- it is another unit, or a unit of another tenant
abbrev pub Differs : List ℕ → ℕ → List ℕ → ℕ → Type 0
Differs tenant unit own_tenant own_unit = (tenant ≡ own_tenant) × (unit ≡ own_unit) → ⊥

-- a record of one unit is of no other
pub one_owner : (tenant own_tenant : List ℕ) (unit own_unit : ℕ) (r : Option Record)
    → Differs tenant unit own_tenant own_unit
    → is_of own_tenant own_unit r ≡ true → is_of tenant unit r ≡ false
one_owner tenant own_tenant unit own_unit None other own = refl
one_owner tenant own_tenant unit own_unit (Some r) other own = go (is_owner tenant unit (owner_of r)) refl
  where
    go : (b : Bool) → is_owner tenant unit (owner_of r) ≡ b → b ≡ false
    go false e = refl
    go true e =
        let h = owner_is tenant unit (owner_of r) e in
        let k = owner_is own_tenant own_unit (owner_of r) own in
        absurd (other (h.0 ∙ sym k.0, h.1 ∙ sym k.1))

-- ---- one more record

-- the place alone, or none
abbrev pub place_if : Bool → ℕ → List ℕ
place_if b place = if b then place ∷ [] else []

places_append : (tenant : List ℕ) (unit place : ℕ) (records : List (Option Record)) (r : Option Record)
    → places_from tenant unit place (records ++ r ∷ []) ≡ places_from tenant unit place records
    ++ place_if (is_of tenant unit r) (place + length records)
places_append tenant unit place [] r =
    let e : place + 0 ≡ place = omega arith in
    rw (e, append-nil) refl
places_append tenant unit place (x ∷ records) r =
    let e : (place + 1) + length records ≡ place + length (x ∷ records) = omega arith in
    ap (λ (ps : List ℕ). place_if (is_of tenant unit x) place ++ ps) (places_append tenant unit (place + 1) records r
    ∙ ap (λ n. places_from tenant unit (place + 1) records ++ place_if (is_of tenant unit r) n) e)
    ∙ sym (append_assoc (place_if (is_of tenant unit x) place)
    (places_from tenant unit (place + 1) records) (place_if (is_of tenant unit r) (place + length (x ∷ records))))

-- ---- places have records

get_at : (before after : List (Option Record)) (r : Option Record)
    → slice_get (before ++ r ∷ after) (length before) ≡ Some r
get_at [] after r = refl
get_at (x ∷ before) after r = get_at before after r

set_at : (before after : List (Option Record)) (r x : Option Record)
    → slice_set (before ++ r ∷ after) (length before) x ≡ before ++ x ∷ after
set_at [] after r x = refl
set_at (y ∷ before) after r x = ap (λ (rs : List (Option Record)). y ∷ rs) (set_at before after r x)

first_held : (tenant : List ℕ) (unit : ℕ) (before after : List (Option Record)) (r : Option Record)
    → All (IsHeld (before ++ r ∷ after)) (place_if (is_of tenant unit r) (length before))
first_held tenant unit before after None = All-nil (IsHeld (before ++ None ∷ after))
first_held tenant unit before after (Some r) = go (is_owner tenant unit (owner_of r))
  where
    go : (b : Bool) → All (IsHeld (before ++ Some r ∷ after)) (place_if b (length before))
    go true = All-cons (IsHeld (before ++ Some r ∷ after)) (length before) [] (
      r,
      get_at before after (Some r),
    ) (All-nil (IsHeld (before ++ Some r ∷ after)))
    go false = All-nil (IsHeld (before ++ Some r ∷ after))

length_one : (before : List (Option Record)) (r : Option Record) → length (before ++ r ∷ []) ≡ length before + 1
length_one before r = length-append before (r ∷ [])

held_from : (tenant : List ℕ) (unit : ℕ) (before records : List (Option Record))
    → All (IsHeld (before ++ records)) (places_from tenant unit (length before) records)
held_from tenant unit before [] = All-nil (IsHeld (before ++ []))
held_from tenant unit before (r ∷ records) =
    All-append (IsHeld (before ++ r ∷ records))
    (place_if (is_of tenant unit r) (length before)) (places_from tenant unit (length before + 1) records)
    (first_held tenant unit before records r)
    (subst (λ (rs : List (Option Record)). All (IsHeld rs) (places_from tenant unit (length before + 1) records))
    (append_assoc before (r ∷ []) records)
    (subst (λ (n : ℕ). All (IsHeld ((before ++ r ∷ []) ++ records)) (places_from tenant unit n records))
    (length_one before r)
    (held_from tenant unit (before ++ r ∷ []) records)))

get_within : (records : List (Option Record)) (place : ℕ) (r : Option Record)
    → slice_get records place ≡ Some r → place < length records
get_within [] zero r e = absurd (let t : None ≡ Some r = e in cc)
get_within [] (suc place) r e = absurd (let t : None ≡ Some r = e in cc)
get_within (x ∷ records) zero r e = omega arith
get_within (x ∷ records) (suc place) r e = let h = get_within records place r e in omega (arith, h)

-- Each of the live places of a unit has a record that is not forgotten.
pub all_held : (tenant : List ℕ) (unit : ℕ) (records : List (Option Record))
    → All (IsHeld records) (places_from tenant unit 0 records)
all_held tenant unit records = held_from tenant unit [] records

-- Each of the live places of a unit is within the list of records.
pub all_within : (tenant : List ℕ) (unit : ℕ) (records : List (Option Record))
    → All (λ p. p < length records) (places_from tenant unit 0 records)
all_within tenant unit records = All-weaker (IsHeld records) (λ p. p < length records)
    (λ p h. get_within records p (Some h.0) h.1) (places_from tenant unit 0 records) (all_held tenant unit records)

-- ---- some of a unit's records go

-- whether a record goes, and how many more stay and go after it, where it is the unit's or not
abbrev lost_one : Bool → ℕ → ℕ → Option Record → Option Record
lost_one false first count r = r
lost_one true (suc first) count r = r
lost_one true zero zero r = r
lost_one true zero (suc count) r = None

abbrev first_after : Bool → ℕ → ℕ
first_after false first = first
first_after true (suc first) = first
first_after true zero = zero

abbrev count_after : Bool → ℕ → ℕ → ℕ
count_after false first count = count
count_after true (suc first) count = count
count_after true zero zero = zero
count_after true zero (suc count) = count

-- the records without `count` of the unit's past its `first`
abbrev lost : List ℕ → ℕ → ℕ → ℕ → List (Option Record) → List (Option Record)
lost tenant unit first count [] = []
lost tenant unit first count (r ∷ records) =
    lost_one (is_of tenant unit r) first count r ∷ lost
    tenant unit (first_after (is_of tenant unit r) first) (count_after (is_of tenant unit r) first count) records

own_step : (tenant : List ℕ) (unit : ℕ)
    (b : Bool) (r : Option Record) (first count place : ℕ) (rest : ℕ → ℕ → List ℕ) (places : List ℕ)
    → ((f c : ℕ) → rest f c ≡ take f places ++ drop c (drop f places)) → is_of tenant unit r ≡ b
    → place_if (is_of tenant unit (lost_one b first count r)) place
    ++ rest (first_after b first) (count_after b first count)
    ≡ take first (place_if b place ++ places) ++ drop count (drop first (place_if b place ++ places))
own_step tenant unit false r first count place rest places h e = rw e (h first count)
own_step tenant unit true r (suc first) count place rest places h e =
    rw e (ap (λ (ps : List ℕ). place ∷ ps) (h first count))
own_step tenant unit true r zero zero place rest places h e = rw e (ap (λ (ps : List ℕ). place ∷ ps) (h 0 0))
own_step tenant unit true r zero (suc count) place rest places h e = h 0 count

own_nil : (tenant : List ℕ) (unit first count place : ℕ)
    → places_from tenant unit place [] ≡ take first (places_from tenant unit place [])
    ++ drop count (drop first (places_from tenant unit place []))
own_nil tenant unit zero zero place = refl
own_nil tenant unit zero (suc count) place = refl
own_nil tenant unit (suc first) zero place = refl
own_nil tenant unit (suc first) (suc count) place = refl

own_lost : (tenant : List ℕ) (unit first count place : ℕ) (records : List (Option Record))
    → places_from tenant unit place (lost tenant unit first count records) ≡ take
    first (places_from tenant unit place records) ++ drop count (drop first (places_from tenant unit place records))
own_lost tenant unit first count place [] = own_nil tenant unit first count place
own_lost tenant unit first count place (r ∷ records) =
    own_step tenant unit (is_of tenant unit r) r first count place
    (λ f c. places_from tenant unit (place + 1) (lost tenant unit f c records))
    (places_from tenant unit (place + 1) records)
    (λ f c. own_lost tenant unit f c (place + 1) records) refl

other_one : (tenant : List ℕ) (unit : ℕ) (b : Bool) (r : Option Record) (first count : ℕ)
    → (b ≡ true → is_of tenant unit r ≡ false)
    → is_of tenant unit (lost_one b first count r) ≡ is_of tenant unit r
other_one tenant unit false r first count h = refl
other_one tenant unit true r (suc first) count h = refl
other_one tenant unit true r zero zero h = refl
other_one tenant unit true r zero (suc count) h = sym (h refl)

other_lost : (tenant own_tenant : List ℕ) (unit own_unit first count place : ℕ) (records : List (Option Record))
    → Differs tenant unit own_tenant own_unit
    → places_from tenant unit place
    (lost own_tenant own_unit first count records) ≡ places_from tenant unit place records
other_lost tenant own_tenant unit own_unit first count place [] other = refl
other_lost tenant own_tenant unit own_unit first count place (r ∷ records) other =
    let own = is_of own_tenant own_unit r in
    ap (λ (b : Bool). place_if b place ++ places_from tenant
    unit (place + 1) (lost own_tenant own_unit (first_after own first) (count_after own first count) records))
    (other_one tenant unit own r first count (one_owner tenant own_tenant unit own_unit r other))
    ∙ ap (λ (ps : List ℕ). place_if (is_of tenant unit r) place ++ ps) (other_lost tenant
    own_tenant unit own_unit (first_after own first) (count_after own first count) (place + 1) records other)

none_emptied : (first count : ℕ) (records : List (Option Record))
    → emptied (take count (drop first [])) records ≡ records
none_emptied zero zero records = refl
none_emptied zero (suc count) records = refl
none_emptied (suc first) zero records = refl
none_emptied (suc first) (suc count) records = refl

-- from past one record, back to it
emptied_past : (tenant : List ℕ) (unit first count : ℕ) (before records : List (Option Record)) (r : Option Record)
    → emptied (take count (drop first (places_from tenant unit (length (before ++ r ∷ [])) records)))
    ((before ++ r ∷ []) ++ records) ≡ (before ++ r ∷ []) ++ lost tenant unit first count records
    → emptied (take count (drop first (places_from tenant unit (length before + 1) records)))
    (before ++ r ∷ records) ≡ before ++ r ∷ lost tenant unit first count records
emptied_past tenant unit first count before records r h =
    ap (λ (n : ℕ). emptied (take count (drop first (places_from tenant unit n records))) (before ++ r ∷ records))
    (sym (length_one before r))
    ∙ (ap (λ (rs : List (Option Record)). emptied (take count (drop first (places_from
    tenant unit (length (before ++ r ∷ [])) records))) rs) (sym (append_assoc before (r ∷ []) records))
    ∙ (h
    ∙ append_assoc before (r ∷ []) (lost tenant unit first count records)))

emptied_step : (tenant : List ℕ)
    (unit : ℕ) (b : Bool) (first count : ℕ) (before records : List (Option Record)) (r : Option Record)
    → ((f c : ℕ) (x : Option Record) → emptied (take c (drop f (places_from tenant unit (length before + 1) records)))
    (before ++ x ∷ records) ≡ before ++ x ∷ lost tenant unit f c records)
    → emptied (take count (drop first (place_if b (length before)
    ++ places_from tenant unit (length before + 1) records))) (before ++ r ∷ records)
    ≡ before ++ lost_one b first count r ∷ lost tenant unit (first_after b first) (count_after b first count) records
emptied_step tenant unit false first count before records r h = h first count r
emptied_step tenant unit true (suc first) count before records r h = h first count r
emptied_step tenant unit true zero zero before records r h = h 0 0 r
emptied_step tenant unit true zero (suc count) before records r h =
    ap (emptied (take count (places_from tenant unit (length before + 1) records))) (set_at before records r None)
    ∙ h 0 count None

-- emptying those places is losing those records
emptied_lost : (tenant : List ℕ) (unit first count : ℕ) (before records : List (Option Record))
    → emptied (take count (drop first (places_from tenant unit (length before) records))) (before ++ records) ≡ before
    ++ lost tenant unit first count records
emptied_lost tenant unit first count before [] = none_emptied first count (before ++ [])
emptied_lost tenant unit first count before (r ∷ records) =
    emptied_step tenant unit (is_of tenant unit r) first count before records r
    (λ f c x. emptied_past tenant unit f c before records x (emptied_lost tenant unit f c (before ++ x ∷ []) records))

-- ---- lists of all units

-- the places of each unit of each tenant
abbrev pub Lists : Type 0
Lists = List ℕ → ℕ → List ℕ

-- the lists are those that a walk of the records gives
abbrev pub Indexes : Lists → List (Option Record) → Type 0
Indexes lists records = (tenant : List ℕ) (unit : ℕ) → lists tenant unit ≡ places_from tenant unit 0 records

-- what is so of this unit and of all others is so of all
pub everywhere : (P : List ℕ → ℕ → Type 0) (own_tenant : List ℕ) (own_unit : ℕ) → P own_tenant own_unit
    → ((tenant : List ℕ) (unit : ℕ) → Differs tenant unit own_tenant own_unit → P tenant unit)
    → (tenant : List ℕ) (unit : ℕ) → P tenant unit
everywhere P own_tenant own_unit own others tenant unit = go (is_owner tenant unit (own_tenant, own_unit)) refl
  where
    go : (b : Bool) → is_owner tenant unit (own_tenant, own_unit) ≡ b → P tenant unit
    go true e =
        let h = owner_is tenant unit (own_tenant, own_unit) e in
        subst (λ (t : List ℕ). P t unit) (sym h.0) (subst (λ (u : ℕ). P own_tenant u) (sym h.1) own)
    go false e =
        others tenant unit (λ h.
        let t : is_owner tenant unit (own_tenant, own_unit) ≡ true =
        subst (λ (u : ℕ). is_owner tenant unit (own_tenant, u) ≡ true) h.1
        (subst (λ (t : List ℕ). is_owner tenant unit (t, unit) ≡ true) h.0 (owner_self tenant unit)) in
        cc (t, e))

one_more : (tenant : List ℕ) (unit : ℕ) (records : List (Option Record)) (r : Record)
    → places_from tenant unit 0 (records ++ Some r ∷ []) ≡ places_from tenant unit 0 records
    ++ place_if (is_owner tenant unit (owner_of r)) (length records)
one_more tenant unit records r =
    let e : 0 + length records ≡ length records = omega arith in
    places_append tenant unit 0 records (Some r)
    ∙ ap (λ n. places_from tenant unit 0 records ++ place_if (is_owner tenant unit (owner_of r)) n) e

appended : (before after : Lists) (records : List (Option Record)) (r : Record) (count : ℕ)
    → Indexes before records → count ≡ length records
    → after r.tenant r.unit ≡ before r.tenant r.unit ++ count ∷ []
    → ((tenant : List ℕ) (unit : ℕ) → Differs tenant unit r.tenant r.unit → after tenant unit ≡ before tenant unit)
    → Indexes after (records ++ Some r ∷ [])
appended before after records r count k n own others =
    everywhere (λ t u. after t u ≡ places_from t u 0 (records ++ Some r ∷ [])) r.tenant r.unit
    (own
    ∙ (ap (λ (ps : List ℕ). ps ++ count ∷ []) (k r.tenant r.unit)
    ∙ (ap (λ (m : ℕ). places_from r.tenant r.unit 0 records ++ m ∷ []) n
    ∙ (ap (λ (b : Bool). places_from r.tenant r.unit 0 records ++ place_if b (length records))
    (sym (owner_self r.tenant r.unit))
    ∙ sym (one_more r.tenant r.unit records r)))))
    (λ t u other. others t u other
    ∙ (k t u
    ∙ (sym (append-nil (places_from t u 0 records))
    ∙ (ap (λ (b : Bool). places_from t u 0 records ++ place_if b (length records))
    (sym (one_owner t r.tenant u r.unit (Some r) other (owner_self r.tenant r.unit)))
    ∙ sym (one_more t u records r)))))

-- the lists after an append that may have failed
pub append_lists : {T E : Type 0} (done : Result T E) (before after : Lists)
    (records now : List (Option Record)) (r : Record) (count : ℕ) → Indexes before records → count ≡ length records
    → OnOk done (after r.tenant r.unit ≡ before r.tenant r.unit ++ count ∷ [])
    → ((tenant : List ℕ) (unit : ℕ) → Differs tenant unit r.tenant r.unit → after tenant unit ≡ before tenant unit)
    → OnErr done ((tenant : List ℕ) (unit : ℕ) → after tenant unit ≡ before tenant unit)
    → OnOk done (now ≡ records ++ Some r ∷ []) → OnErr done (now ≡ records)
    → Indexes after now
append_lists (Ok x) before after records now r count k n own others same e f t u =
    appended before after records r count k n own others t u ∙ ap (places_from t u 0) (sym e)
append_lists (Err x) before after records now r count k n own others same e f t u =
    same t u ∙ (k t u ∙ ap (places_from t u 0) (sym f))

-- a place that is added and taken off again
pub undone : (before mid after : Lists) (tenant : List ℕ) (unit place : ℕ)
    → mid tenant unit ≡ before tenant unit ++ place ∷ []
    → ((t : List ℕ) (u : ℕ) → Differs t u tenant unit → mid t u ≡ before t u)
    → after tenant unit ≡ take (length (mid tenant unit) - 1) (mid tenant unit)
    → ((t : List ℕ) (u : ℕ) → Differs t u tenant unit → after t u ≡ mid t u)
    → (t : List ℕ) (u : ℕ) → after t u ≡ before t u
undone before mid after tenant unit place own others own_after others_after =
    everywhere (λ t u. after t u ≡ before t u) tenant unit
    (own_after ∙ (ap (λ ps. take (length ps - 1) ps) own ∙ take_all (before tenant unit) place))
    (λ t u other. others_after t u other ∙ others t u other)
  where
    take_each : (ps : List ℕ) (p : ℕ) → take (length ps) (ps ++ p ∷ []) ≡ ps
    take_each [] p = refl
    take_each (x ∷ ps) p = ap (λ (qs : List ℕ). x ∷ qs) (take_each ps p)

    take_all : (ps : List ℕ) (p : ℕ) → take (length (ps ++ p ∷ []) - 1) (ps ++ p ∷ []) ≡ ps
    take_all ps p = let e : length (ps ++ p ∷ []) - 1 ≡ length ps = rw (length-append) omega arith in
        rw (e) (take_each ps p)

-- the lists after some of a unit's records went
lost_lists : (before after : Lists) (records : List (Option Record)) (tenant : List ℕ) (unit first count : ℕ)
    → Indexes before records
    → after tenant unit ≡ take first (before tenant unit) ++ drop count (drop first (before tenant unit))
    → ((t : List ℕ) (u : ℕ) → Differs t u tenant unit → after t u ≡ before t u)
    → Indexes after (lost tenant unit first count records)
lost_lists before after records tenant unit first count k own others =
    everywhere (λ t u. after t u ≡ places_from t u 0 (lost tenant unit first count records)) tenant unit
    (own ∙ (ap (λ (ps : List ℕ). take first ps ++ drop count (drop first ps)) (k tenant unit)
    ∙ sym (own_lost tenant unit first count 0 records)))
    (λ t u other. others t u other ∙ (k t u ∙ sym (other_lost t tenant u unit first count 0 records other)))

-- An index stays right where a unit's list is cut to its front and the places behind are emptied.
pub cut_lists : (before after : Lists) (records now : List (Option Record)) (tenant : List ℕ) (unit keep : ℕ)
    → Indexes before records
    → now ≡ emptied (drop keep (before tenant unit)) records
    → after tenant unit ≡ take keep (before tenant unit)
    → ((t : List ℕ) (u : ℕ) → Differs t u tenant unit → after t u ≡ before t u)
    → Indexes after now
cut_lists before after records now tenant unit keep k e own others t u =
    let ps = before tenant unit in
    let count = length ps - keep in
    let long : length (drop keep ps) ≤ count = let h = length-drop keep ps in omega (arith, h) in
    lost_lists before after records tenant unit keep count k
    (own ∙ (sym (append-nil (take keep ps))
    ∙ ap (λ (qs : List ℕ). take keep ps ++ qs) (sym (drop_of_length-le (drop keep ps) long))))
    others t u
    ∙ ap (places_from t u 0)
    (sym (emptied_lost tenant unit keep count [] records)
    ∙ (ap (λ (qs : List ℕ). emptied (take count (drop keep qs)) records) (sym (k tenant unit))
    ∙ (ap (λ (qs : List ℕ). emptied qs records) (take_rest ps keep)
    ∙ sym e)))

-- An index stays right where the first places of a unit's list leave it and are emptied.
pub forget_lists : (before after : Lists) (records now : List (Option Record)) (tenant : List ℕ) (unit count : ℕ)
    → Indexes before records
    → now ≡ emptied (take count (before tenant unit)) records
    → after tenant unit ≡ drop count (before tenant unit)
    → ((t : List ℕ) (u : ℕ) → Differs t u tenant unit → after t u ≡ before t u)
    → Indexes after now
forget_lists before after records now tenant unit count k e own others t u =
    lost_lists before after records tenant unit 0 count k own others t u
    ∙ ap (places_from t u 0)
    (sym (emptied_lost tenant unit 0 count [] records)
    ∙ (ap (λ (qs : List ℕ). emptied (take count qs) records) (sym (k tenant unit))
    ∙ sym e))

-- ---- what a log has

-- the list of a unit is its places in the log
pub list_is : (lists : Lists) (records : List (Option Record)) (log : Logged) (tenant : List ℕ) (unit : ℕ)
    → Indexes lists records → records ≡ log.records → lists tenant unit ≡ places_of tenant unit log
list_is lists records log tenant unit k e =
    k tenant unit ∙ (ap (places_from tenant unit 0) e ∙ sym (places_are log tenant unit))

-- the same records
pub kept_same : (old new : Logged) → new.records ≡ old.records → AllKept old new
kept_same old new e tenant unit =
    places_are new tenant unit ∙ (ap (places_from tenant unit 0) e ∙ sym (places_are old tenant unit))

-- lists that are what they were in a unit are its places as they were
pub kept_lists : (before after : Lists) (records now : List (Option Record)) (old new : Logged)
    → Indexes before records → Indexes after now → records ≡ old.records → now ≡ new.records
    → (tenant : List ℕ) (unit : ℕ)
    → after tenant unit ≡ before tenant unit → places_of tenant unit new ≡ places_of tenant unit old
kept_lists before after records now old new k m e f tenant unit same =
    sym (list_is after now new tenant unit m f) ∙ (same ∙ list_is before records old tenant unit k e)

-- ---- emptying keeps every place

length_emptied : (places : List ℕ) (records : List (Option Record)) → length (emptied places records) ≡ length records
length_emptied [] records = refl
length_emptied (place ∷ places) records =
    length_emptied places (slice_set records place None) ∙ length-set records place None

-- ---- the clauses of an append

-- By an append that succeeds, the record's unit has the new place behind those that it had.
pub append_own : {T E : Type 0} (done : Result T E)
    (before after : Lists) (records now : List (Option Record)) (old new : Logged) (r : Record) (count : ℕ)
    → Indexes before records → Indexes after now → count ≡ length records → records ≡ old.records → now ≡ new.records
    → OnOk done (after r.tenant r.unit ≡ before r.tenant r.unit ++ count ∷ [])
    → OnOk done (places_of r.tenant r.unit new ≡ places_of r.tenant r.unit old ++ length old.records ∷ [])
append_own (Ok x) before after records now old new r count k m n e f own =
    sym (list_is after now new r.tenant r.unit m f)
    ∙ (own
    ∙ (ap (λ (ps : List ℕ). ps ++ count ∷ []) (list_is before records old r.tenant r.unit k e)
    ∙ ap (λ (p : ℕ). places_of r.tenant r.unit old ++ p ∷ []) (n ∙ ap length e)))
append_own (Err x) before after records now old new r count k m n e f own = tt

-- By an append that fails, no unit gains or loses a live record.
pub append_kept : {T E : Type 0}
    (done : Result T E) (before after : Lists) (records now : List (Option Record)) (old new : Logged)
    → Indexes before records → Indexes after now → records ≡ old.records → now ≡ new.records
    → OnErr done ((tenant : List ℕ) (unit : ℕ) → after tenant unit ≡ before tenant unit)
    → OnErr done (AllKept old new)
append_kept (Ok x) before after records now old new k m e f same = tt
append_kept (Err x) before after records now old new k m e f same =
    λ tenant unit. kept_lists before after records now old new k m e f tenant unit (same tenant unit)

-- as many places as there were
pub emptied_count : (count : ℕ) (places : List ℕ) (records now : List (Option Record))
    → count ≡ length records → now ≡ emptied places records → count ≡ length now
emptied_count count places records now n e = n ∙ sym (ap length e ∙ length_emptied places records)
