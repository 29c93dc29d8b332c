-- Laws of the records that a log takes which is being filled.
use Rattle.std.proofs.Common.{◌≡◌, refl, sym, ◌∙◌, ap, subst, ℕ, zero, suc, ◌+◌, Bool, true, false, List, [], ◌∷◌, ◌++◌}
use Rattle.std.proofs.Common.{◌⊎◌, inl, inr, replicate, arith, slice_get, slice_set}
use Rattle.std.specs.Prelude.{◌<◌, All, Option, None, Some}
use Rattle.std.proofs.lemmas.List.Elements.{All-weaker, All-nil, All-cons, All-head, All-tail}
use Rattle.model.specs.declared.records.Record.{Record}
use Rattle.shared_log.specs.Filled.{filled_in, filled, LeavesRoom}
use Rattle.shared_log.specs.Logged.{Logged, is_owner, owner_of, places_from, places_of}
use Rattle.shared_log.proofs.FilledLaws.{get_set_other}
use Rattle.shared_log.proofs.PlacesLaws.{owner_is, place_if, places_are}

-- ---- whose records the places of a unit have

-- So far behind the first place, there is a record of this unit.
abbrev pub OwnedFrom : List ℕ → ℕ → List (Option Record) → ℕ → ℕ → Type 0
OwnedFrom tenant unit records place p =
    (i : ℕ) × (p ≡ place + i) × (r : Record) × (slice_get records i ≡ Some (Some r)) × (r.tenant ≡ tenant)
    × (r.unit ≡ unit)

one_on : (tenant : List ℕ) (unit place : ℕ) (x : Option Record) (records : List (Option Record)) (p : ℕ)
    → OwnedFrom tenant unit records (place + 1) p → OwnedFrom tenant unit (x ∷ records) place p
one_on tenant unit place x records p h =
    let e : p ≡ place + suc h.0 = omega (arith, h.1) in
    (suc h.0, e, h.2, h.3, h.4, h.5)

first_owned : (b : Bool) (tenant : List ℕ) (unit place : ℕ) (r : Record) (records : List (Option Record))
    → is_owner tenant unit (owner_of r) ≡ b
    → All (OwnedFrom tenant unit (Some r ∷ records) place) (places_from tenant unit (place + 1) records)
    → All (OwnedFrom tenant unit (Some r ∷ records) place)
    (place_if b place ++ places_from tenant unit (place + 1) records)
first_owned true tenant unit place r records e rest =
    let h = owner_is tenant unit (owner_of r) e in
    let z : place ≡ place + 0 = omega arith in
    All-cons (OwnedFrom tenant unit (Some r ∷ records) place) place (places_from tenant unit (place + 1) records)
    (0, z, r, refl, sym h.0, sym h.1) rest
first_owned false tenant unit place r records e rest = rest

-- Each place of a unit is of one of its records.
pub owned_from : (tenant : List ℕ) (unit place : ℕ) (records : List (Option Record))
    → All (OwnedFrom tenant unit records place) (places_from tenant unit place records)
owned_from tenant unit place [] = All-nil (OwnedFrom tenant unit [] place)
owned_from tenant unit place (None ∷ records) =
    All-weaker (OwnedFrom tenant unit records (place + 1)) (OwnedFrom tenant unit (None ∷ records) place)
    (one_on tenant unit place None records) (places_from tenant unit (place + 1) records)
    (owned_from tenant unit (place + 1) records)
owned_from tenant unit place (Some r ∷ records) =
    first_owned (is_owner tenant unit (owner_of r)) tenant unit place r records refl
    (All-weaker (OwnedFrom tenant unit records (place + 1)) (OwnedFrom tenant unit (Some r ∷ records) place)
    (one_on tenant unit place (Some r) records) (places_from tenant unit (place + 1) records)
    (owned_from tenant unit (place + 1) records))

-- ---- what a filled log has

get_set_cases : (records : List (Option Record)) (at place : ℕ) (x y : Option Record)
    → slice_get (slice_set records at x) place ≡ Some y → ((at ≡ place) × (x ≡ y)) ⊎ (slice_get records place ≡ Some y)
get_set_cases [] zero place x y e = inr e
get_set_cases [] (suc at) place x y e = inr e
get_set_cases (z ∷ records) zero zero x y e = inl (refl, let t : Some x ≡ Some y = e in cc)
get_set_cases (z ∷ records) zero (suc place) x y e = inr e
get_set_cases (z ∷ records) (suc at) zero x y e = inr e
get_set_cases (z ∷ records) (suc at) (suc place) x y e = next (get_set_cases records at place x y e)
  where
    next : ((at ≡ place) × (x ≡ y)) ⊎ (slice_get records place ≡ Some y)
        → ((suc at ≡ suc place) × (x ≡ y)) ⊎ (slice_get records place ≡ Some y)
    next (inl h) = inl (ap suc h.0, h.1)
    next (inr h) = inr h

one_have : (P : ℕ → Record → Type 0) (start : List (Option Record)) (at : ℕ) (r : Record) → P at r
    → ((place : ℕ) (x : Record) → slice_get start place ≡ Some (Some x) → P place x)
    → (place : ℕ) (x : Record)
    → ((at ≡ place) × (Some r ≡ Some x)) ⊎ (slice_get start place ≡ Some (Some x)) → P place x
one_have P start at r own before place x (inl h) =
    let s : r ≡ x = let t = h.1 in cc in
    subst (λ (y : Record). P place y) s (subst (λ (p : ℕ). P p r) h.0 own)
one_have P start at r own before place x (inr e) = before place x e

-- what is so of each record that is put in is so of each that is there then, if it was before
filled_have : (P : ℕ → Record → Type 0) (pairs : List (ℕ × Record)) (start : List (Option Record))
    → All (λ (pair : ℕ × Record). P pair.0 pair.1) pairs
    → ((place : ℕ) (x : Record) → slice_get start place ≡ Some (Some x) → P place x)
    → (place : ℕ) (x : Record) → slice_get (filled_in pairs start) place ≡ Some (Some x) → P place x
filled_have P [] start all before place x e = before place x e
filled_have P (pair ∷ pairs) start all before place x e =
    let Q : ℕ × Record → Type 0 = λ pair. P pair.0 pair.1 in
    filled_have P pairs (slice_set start pair.0 (Some pair.1)) (All-tail Q pair pairs all)
    (λ p y h. one_have P start pair.0 pair.1 (All-head Q pair pairs all) before p y
    (get_set_cases start pair.0 p (Some pair.1) (Some y) h)) place x e

-- a place that none of these have has what it had
filled_other : (pairs : List (ℕ × Record)) (start : List (Option Record)) (place : ℕ)
    → All (λ (pair : ℕ × Record). pair.0 ≡ place → ⊥) pairs
    → slice_get (filled_in pairs start) place ≡ slice_get start place
filled_other [] start place other = refl
filled_other (pair ∷ pairs) start place other =
    let Q : ℕ × Record → Type 0 = λ pair. pair.0 ≡ place → ⊥ in
    filled_other pairs (slice_set start pair.0 (Some pair.1)) place (All-tail Q pair pairs other)
    ∙ get_set_other start pair.0 place (Some pair.1) (All-head Q pair pairs other)

vacant_get : (count place : ℕ) → place < count
    → slice_get {X = Option Record} (replicate count None) place ≡ Some None
vacant_get zero place h = absurd (omega arith)
vacant_get (suc count) zero h = refl
vacant_get (suc count) (suc place) h = vacant_get count place (omega arith)

vacant_none : (count place : ℕ) (x : Record) → slice_get (replicate count None) place ≡ Some (Some x) → ⊥
vacant_none zero zero x e = let t : None ≡ Some (Some x) = e in cc
vacant_none zero (suc place) x e = let t : None ≡ Some (Some x) = e in cc
vacant_none (suc count) zero x e = let t : Some None ≡ Some (Some x) = e in cc
vacant_none (suc count) (suc place) x e = vacant_none count place x e

-- Where those that were put in leave room for a record at this place, the place is empty and past those of its unit.
pub room_left : (log : Logged) (count : ℕ) (pairs : List (ℕ × Record)) (place : ℕ) (r : Record)
    → log.records ≡ filled count pairs → place < count → All (LeavesRoom place r) pairs
    → (slice_get log.records place ≡ Some None) × All (λ (p : ℕ). p < place) (places_of r.tenant r.unit log)
room_left log count pairs place r is within room = (empty, past)
  where
    empty : slice_get log.records place ≡ Some None
    empty = ap (λ (rs : List (Option Record)). slice_get rs place) is
        ∙ (filled_other pairs (replicate count None) place
        (All-weaker (LeavesRoom place r) (λ (pair : ℕ × Record). pair.0 ≡ place → ⊥) (λ pair h. h.0) pairs room)
        ∙ vacant_get count place within)

    lower : (p : ℕ) (x : Record) → slice_get log.records p ≡ Some (Some x) → x.tenant ≡ r.tenant → x.unit ≡ r.unit
        → p < place
    lower p x e =
        filled_have (λ (p : ℕ) (x : Record). x.tenant ≡ r.tenant → x.unit ≡ r.unit → p < place)
        pairs (replicate count None)
        (All-weaker (LeavesRoom place r)
        (λ (pair : ℕ × Record). pair.1.tenant ≡ r.tenant → pair.1.unit ≡ r.unit → pair.0 < place) (λ pair h. h.1)
        pairs room)
        (λ p x e. absurd (vacant_none count p x e)) p x
        (sym (ap (λ (rs : List (Option Record)). slice_get rs p) is) ∙ e)

    past : All (λ (p : ℕ). p < place) (places_of r.tenant r.unit log)
    past = subst (λ (ps : List ℕ). All (λ (p : ℕ). p < place) ps) (sym (places_are log r.tenant r.unit))
        (All-weaker (OwnedFrom r.tenant r.unit log.records 0) (λ (p : ℕ). p < place)
        (λ p h. let low = lower h.0 h.2 h.3 h.4 h.5 in omega (arith, low, h.1))
        (places_from r.tenant r.unit 0 log.records) (owned_from r.tenant r.unit 0 log.records))
