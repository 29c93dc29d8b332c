-- The places of live records, as the log grows.
use Rattle.std.proofs.Common.{◌≡◌, refl, sym, ◌∙◌, ap, ℕ, zero, suc, ◌+◌, Bool, true, false, List, [], ◌∷◌, ◌++◌}
use Rattle.std.proofs.Common.{length, arith, append_assoc, map}
use Rattle.std.specs.Prelude.{◌&&◌, ◌==◌, if◌then◌else◌, Option, Some, None, slice_get, bytes_eq}
use Rattle.std.proofs.lemmas.Slice.Eq.{bytes_eq-Decides}
use Rattle.std.proofs.lemmas.Bool.Decides.{Decides-eqb}
use Rattle.model.specs.declared.records.Record.{Record}
use Rattle.model.specs.Lists.{numbers_from}
use Rattle.shared_log.specs.Logged.{IsLeftOf, Logged, is_of, is_owner, owner_of, places_from, places_of}
use Rattle.shared_log.proofs.PlacesLaws.{places_are}

-- the places of two lists, one behind the other
pub places_behind : (name : List ℕ) (u p : ℕ) (xs ys : List (Option Record))
    → places_from name u p (xs ++ ys) ≡ places_from name u p xs ++ places_from name u (p + length xs) ys
places_behind name u p [] ys = ap (λ q. places_from name u q ys) (let e : p ≡ p + 0 = omega arith in e)
places_behind name u p (x ∷ xs) ys =
    let one : List ℕ = if is_of name u x then p ∷ [] else [] in
    ap (λ ps. one ++ ps) (places_behind name u (p + 1) xs ys ∙ ap (λ q. places_from name u (p + 1) xs
    ++ places_from name u q ys) (let e : p + 1 + length xs ≡ p + suc (length xs) = omega arith in e))
    ∙ sym (append_assoc one (places_from name u (p + 1) xs) (places_from name u (p + suc (length xs)) ys))

-- records of this unit have the places from where they stand on
pub own_places : (name : List ℕ) (u p : ℕ) (ys : List Record) → ((i : ℕ) (r : Record) → slice_get ys i ≡ Some r
    → is_owner name u (owner_of r) ≡ true) → places_from name u p (map Some ys) ≡ numbers_from p (length ys)
own_places name u p [] h = refl
own_places name u p (y ∷ ys) h =
    ap (λ b. (if b then p ∷ [] else []) ++ places_from name u (p + 1) (map Some ys)) (h 0 y refl)
    ∙ ap (λ ps. p ∷ ps) (own_places name u (p + 1) ys (λ i r e. h (suc i) r e)
    ∙ ap (λ q. numbers_from q (length ys)) (let e : p + 1 ≡ suc p = omega arith in e))

-- records of others have none
pub other_places : (name : List ℕ) (u p : ℕ) (ys : List Record) → ((i : ℕ) (r : Record)
    → slice_get ys i ≡ Some r → is_owner name u (owner_of r) ≡ false) → places_from name u p (map Some ys) ≡ []
other_places name u p [] h = refl
other_places name u p (y ∷ ys) h =
    ap (λ b. (if b then p ∷ [] else []) ++ places_from name u (p + 1) (map Some ys)) (h 0 y refl)
    ∙ other_places name u (p + 1) ys (λ i r e. h (suc i) r e)

-- A record of a tenant's unit passes the test for that owner.
pub owns : (name : List ℕ) (u : ℕ) (r : Record) → r.tenant ≡ name → r.unit ≡ u → is_owner name u (owner_of r) ≡ true
owns name u r e f = rw ((bytes_eq-Decides r.tenant name).1 e, (Decides-eqb r.unit u).1 f) refl

-- A record of another tenant or another unit fails the test for the owner.
pub owns_not : (name : List ℕ) (u : ℕ) (r : Record)
    → (r.tenant ≡ name → r.unit ≡ u → ⊥) → is_owner name u (owner_of r) ≡ false
owns_not name u r differ = go (bytes_eq r.tenant name) (r.unit == u) refl refl
  where
    go : (a b : Bool) → bytes_eq r.tenant name ≡ a → (r.unit == u) ≡ b → a && b ≡ false
    go false b e f = refl
    go true false e f = refl
    go true true e f = absurd (differ ((bytes_eq-Decides r.tenant name).0 e) ((Decides-eqb r.unit u).0 f))

-- a place that is not empty has the record of the whole list
pub found_whole : (records : List (Option Record)) (whole : List Record) (p : ℕ) (r : Record)
    → IsLeftOf records whole → slice_get records p ≡ Some (Some r) → slice_get whole p ≡ Some r
found_whole [] [] p r h e = absurd (cc e)
found_whole [] (w ∷ whole) p r h e = absurd h
found_whole (x ∷ records) [] p r h e = absurd h
found_whole (None ∷ records) (w ∷ whole) zero r h e = absurd (let t : Some None ≡ Some (Some r) = e in cc)
found_whole (Some x ∷ records) (w ∷ whole) zero r h e = let t : Some (Some x) ≡ Some (Some r) = e in
    let q : x ≡ r = cc in ap Some (sym h.0 ∙ q)
found_whole (None ∷ records) (w ∷ whole) (suc p) r h e = found_whole records whole p r h e
found_whole (Some x ∷ records) (w ∷ whole) (suc p) r h e = found_whole records whole p r h.1 e

-- both are as long
pub left_length : (records : List (Option Record)) (whole : List Record)
    → IsLeftOf records whole → length records ≡ length whole
left_length [] [] h = refl
left_length [] (w ∷ whole) h = absurd h
left_length (x ∷ records) [] h = absurd h
left_length (None ∷ records) (w ∷ whole) h = ap suc (left_length records whole h)
left_length (Some x ∷ records) (w ∷ whole) h = ap suc (left_length records whole h.1)

-- and are told by its list
pub places_same : (before after : Logged)
    → after.records ≡ before.records → (name : List ℕ) (u : ℕ) → places_of name u after ≡ places_of name u before
places_same before after e name u =
    places_are after name u ∙ ap (places_from name u 0) e ∙ sym (places_are before name u)

-- where the log tells the same places, so does its list
pub live_same : (before after : Logged) (name : List ℕ) (u : ℕ) → places_of name u after ≡ places_of name u before
    → places_from name u 0 after.records ≡ places_from name u 0 before.records
live_same before after name u e = sym (places_are after name u) ∙ e ∙ places_are before name u
