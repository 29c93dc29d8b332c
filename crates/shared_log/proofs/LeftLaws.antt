-- Laws of what is left of a list of records.
use Rattle.std.proofs.Common.{ap, ◌∙◌, ◌≡◌, refl, sym, subst, ℕ, zero, suc, List, [], ◌∷◌, ◌++◌, append-nil}
use Rattle.std.proofs.Common.{append_assoc, map, slice_get, slice_set}
use Rattle.std.specs.Prelude.{Result, Ok, Err, OnOk, Option, None, Some}
use Rattle.model.specs.declared.records.Record.{Record}
use Rattle.shared_log.specs.Logged.{IsLeftOf, Grows, KeepsContents, emptied}

-- one more record
pub left_append : (records : List (Option Record)) (r : Record) (whole : List Record)
    → IsLeftOf records whole → IsLeftOf (records ++ Some r ∷ []) (whole ++ r ∷ [])
left_append [] r [] h = (refl, tt)
left_append [] r (w ∷ whole) h = absurd h
left_append (x ∷ records) r [] h = absurd h
left_append (None ∷ records) r (w ∷ whole) h = left_append records r whole h
left_append (Some x ∷ records) r (w ∷ whole) h = (h.0, left_append records r whole h.1)

left_set : (records : List (Option Record)) (place : ℕ) (whole : List Record)
    → IsLeftOf records whole → IsLeftOf (slice_set records place None) whole
left_set [] zero whole h = h
left_set [] (suc place) whole h = h
left_set (x ∷ records) zero [] h = absurd h
left_set (x ∷ records) (suc place) [] h = absurd h
left_set (None ∷ records) zero (w ∷ whole) h = h
left_set (Some x ∷ records) zero (w ∷ whole) h = h.1
left_set (None ∷ records) (suc place) (w ∷ whole) h = left_set records place whole h
left_set (Some x ∷ records) (suc place) (w ∷ whole) h = (h.0, left_set records place whole h.1)

left_emptied : (places : List ℕ) (records : List (Option Record)) (whole : List Record)
    → IsLeftOf records whole → IsLeftOf (emptied places records) whole
left_emptied [] records whole h = h
left_emptied (place ∷ places) records whole h =
    left_emptied places (slice_set records place None) whole (left_set records place whole h)

-- so many more records
left_more : (records : List (Option Record)) (grown whole : List Record)
    → IsLeftOf records whole → IsLeftOf (records ++ map Some grown) (whole ++ grown)
left_more records [] whole h =
    subst (λ (rs : List (Option Record)). IsLeftOf rs (whole ++ []))
    (sym (append-nil records)) (subst (IsLeftOf records) (sym (append-nil whole)) h)
left_more records (r ∷ grown) whole h =
    subst (λ (rs : List (Option Record)). IsLeftOf rs (whole ++ r ∷ grown))
    (append_assoc records (Some r ∷ []) (map Some grown))
    (subst (λ (ws : List Record). IsLeftOf ((records ++ Some r ∷ []) ++ map Some grown) ws)
    (append_assoc whole (r ∷ []) grown)
    (left_more (records ++ Some r ∷ []) grown (whole ++ r ∷ []) (left_append records r whole h)))

-- a log that took these records and forgot none
pub appended_grows : (before after : List (Option Record)) (grown : List Record)
    → after ≡ before ++ map Some grown → Grows before grown after
appended_grows before after grown e = λ whole h. subst
    (λ (rs : List (Option Record)). IsLeftOf rs (whole ++ grown)) (sym e) (left_more before grown whole h)

-- a log that is as it was
pub same_grows : (before after : List (Option Record)) → after ≡ before → Grows before [] after
same_grows before after e = λ whole h.
    subst (λ (ws : List Record). IsLeftOf after ws) (sym (append-nil whole))
    (subst (λ (rs : List (Option Record)). IsLeftOf rs whole) (sym e) h)

-- By an append that succeeds, the log grows by just the record that was appended.
pub append_grows : {T E : Type 0} (done : Result T E) (before after : List (Option Record)) (r : Record)
    → OnOk done (after ≡ before ++ Some r ∷ []) → OnOk done (Grows before (r ∷ []) after)
append_grows (Ok x) before after r e = λ whole h. subst
    (λ (rs : List (Option Record)). IsLeftOf rs (whole ++ r ∷ [])) (sym e) (left_append before r whole h)
append_grows (Err x) before after r e = tt

-- A log in which places are emptied grows by no record.
pub emptied_grows : (places : List ℕ) (before after : List (Option Record))
    → after ≡ emptied places before → Grows before [] after
emptied_grows places before after e = λ whole h.
    subst (λ (ws : List Record). IsLeftOf after ws) (sym (append-nil whole))
    (subst (λ (rs : List (Option Record)). IsLeftOf rs whole) (sym e) (left_emptied places before whole h))

set_held : (records : List (Option Record)) (q place : ℕ) (r : Record)
    → slice_get (slice_set records q None) place ≡ Some (Some r) → slice_get records place ≡ Some (Some r)
set_held [] zero place r h = h
set_held [] (suc q) place r h = h
set_held (x ∷ records) zero zero r h = absurd (let t : Some None ≡ Some (Some r) = h in cc)
set_held (x ∷ records) zero (suc place) r h = h
set_held (x ∷ records) (suc q) zero r h = h
set_held (x ∷ records) (suc q) (suc place) r h = set_held records q place r h

emptied_held : (places : List ℕ) (records : List (Option Record)) (place : ℕ) (r : Record)
    → slice_get (emptied places records) place ≡ Some (Some r) → slice_get records place ≡ Some (Some r)
emptied_held [] records place r h = h
emptied_held (q ∷ places) records place r h =
    set_held records q place r (emptied_held places (slice_set records q None) place r h)

-- Where places are emptied, each place that still has a record has the one that it had.
pub emptied_keeps : (places : List ℕ) (before after : List (Option Record))
    → after ≡ emptied places before → KeepsContents before after
emptied_keeps places before after e =
    λ place r h. emptied_held places before place r (ap (λ (rs : List (Option Record)). slice_get rs place) (sym e) ∙ h)
