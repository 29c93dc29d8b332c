-- Laws of logs whose empty places are filled.
use Rattle.std.proofs.Common.{◌≡◌, refl, sym, ◌∙◌, ap, subst, ℕ, zero, suc, ◌+◌, ◌-◌, Bool, true, false, List, [], ◌∷◌}
use Rattle.std.proofs.Common.{◌++◌, ◌⊎◌, inl, inr, length, replicate, arith, append_assoc, slice_get, slice_set}
use Rattle.std.proofs.Common.{length-set, is_some, take}
use Rattle.std.specs.Prelude.{◌<◌, ◌≤◌, All, Contains, Result, Ok, Err, OnOk, OnErr, Option, None, Some, ◌==◌}
use Rattle.std.specs.Prelude.{slice_index_or, bytes_eq}
use Rattle.std.proofs.lemmas.Bool.Decides.{Decides-eqb}
use Rattle.std.proofs.lemmas.List.{length-replicate}
use Rattle.std.proofs.lemmas.List.Elements.{All-append, All-weaker, All-nil, All-cons, All-head, All-tail}
use Rattle.std.proofs.lemmas.List.Elements.{Contains-append_left, Contains-append_right, Contains-push}
use Rattle.std.proofs.lemmas.Map.Made.{is_some-lookup, is_member-Decides}
use Rattle.std.proofs.lemmas.Option.{slice_get_within, get_or_from_slice_get}
use Rattle.std.proofs.lemmas.Slice.Eq.{bytes_eq-Decides}
use Rattle.indexmap.specs.IndexMap.{IndexMap, get, keys}
use Rattle.model.specs.declared.records.Record.{Record}
use Rattle.shared_log.specs.Filled.{filled_in, AreLiveIn, Refills, NamesAllTenants, IsPast}
use Rattle.shared_log.specs.Index.{listed, of_tenant, IsIndexOf}
use Rattle.shared_log.specs.Logged.{Logged, is_of, places_from, places_of, IsHeld}
use Rattle.shared_log.proofs.PlacesLaws.{Differs, Lists, Indexes, place_if, one_owner, owner_self, everywhere}
use Rattle.shared_log.proofs.PlacesLaws.{places_are, list_is}

-- ---- a log with no live record

-- empty places have no live record
pub places_vacant : (tenant : List ℕ) (unit place n : ℕ) → places_from tenant unit place (replicate n None) ≡ []
places_vacant tenant unit place zero = refl
places_vacant tenant unit place (suc n) = places_vacant tenant unit (place + 1) n

-- ---- places rise

one_above : (b : Bool) (place : ℕ) → All (λ (p : ℕ). place ≤ p) (place_if b place)
one_above true place = All-cons (λ (p : ℕ). place ≤ p) place [] (omega arith) (All-nil (λ (p : ℕ). place ≤ p))
one_above false place = All-nil (λ (p : ℕ). place ≤ p)

-- each place is at the first of the list or past it
places_above : (tenant : List ℕ) (unit place : ℕ) (records : List (Option Record))
    → All (λ (p : ℕ). place ≤ p) (places_from tenant unit place records)
places_above tenant unit place [] = All-nil (λ (p : ℕ). place ≤ p)
places_above tenant unit place (r ∷ records) =
    All-append (λ (p : ℕ). place ≤ p)
    (place_if (is_of tenant unit r) place) (places_from tenant unit (place + 1) records)
    (one_above (is_of tenant unit r) place)
    (All-weaker (λ (p : ℕ). place + 1 ≤ p) (λ (p : ℕ). place ≤ p) (λ p h. omega arith)
    (places_from tenant unit (place + 1) records) (places_above tenant unit (place + 1) records))

cons_below : (place top : ℕ) (places : List ℕ) → All (λ (p : ℕ). place + 1 ≤ p) places → IsPast top (place ∷ places)
    → (IsPast top places → All (λ (p : ℕ). p < top) places)
    → All (λ (p : ℕ). p < top) (place ∷ places)
cons_below place top [] above past rest =
    All-cons (λ (p : ℕ). p < top) place [] (past place refl) (All-nil (λ (p : ℕ). p < top))
cons_below place top (q ∷ places) above past rest =
    let e : length (place ∷ q ∷ places) - 1 ≡ suc (length (q ∷ places) - 1) = omega arith in
    let all : All (λ (p : ℕ). p < top) (q ∷ places) =
    rest (λ last h. past last (ap (λ (i : ℕ). slice_get (place ∷ q ∷ places) i) e ∙ h)) in
    let near : place + 1 ≤ q = All-head (λ (p : ℕ). place + 1 ≤ p) q places above in
    let far : q < top = All-head (λ (p : ℕ). p < top) q places all in
    All-cons (λ (p : ℕ). p < top) place (q ∷ places) (omega (arith, near, far)) all

past_step : (b : Bool) (place top : ℕ) (places : List ℕ) → All (λ (p : ℕ). place + 1 ≤ p) places
    → IsPast top (place_if b place ++ places)
    → (IsPast top places → All (λ (p : ℕ). p < top) places)
    → All (λ (p : ℕ). p < top) (place_if b place ++ places)
past_step true place top places above past rest = cons_below place top places above past rest
past_step false place top places above past rest = rest past

-- Where the last place of a unit is below, each is.
pub past_all : (tenant : List ℕ) (unit place top : ℕ) (records : List (Option Record))
    → IsPast top (places_from tenant unit place records)
    → All (λ (p : ℕ). p < top) (places_from tenant unit place records)
past_all tenant unit place top [] past = All-nil (λ (p : ℕ). p < top)
past_all tenant unit place top (r ∷ records) past =
    past_step (is_of tenant unit r) place top (places_from tenant unit (place + 1) records)
    (places_above tenant unit (place + 1) records) past (past_all tenant unit (place + 1) top records)

-- where each is below, the last is
pub last_below : (places : List ℕ) (place last : ℕ) → slice_get places (length places - 1) ≡ Some last
    → All (λ (p : ℕ). p < place) places → last < place
last_below places place last e all =
    let h = slice_get_within places (length places - 1) last e in
    subst (λ (p : ℕ). p < place) (get_or_from_slice_get places (length places - 1) last 0 e)
    (all (length places - 1) 0 h)

rise_step : (b : Bool) (place : ℕ) (places : List ℕ) (j p : ℕ) → All (λ (q : ℕ). place + 1 ≤ q) places
    → ((i : ℕ) → slice_get places i ≡ Some p → All (λ (q : ℕ). q < p) (take i places))
    → slice_get (place_if b place ++ places) j ≡ Some p → All (λ (q : ℕ). q < p) (take j (place_if b place ++ places))
rise_step false place places j p above rest e = rest j e
rise_step true place places zero p above rest e = All-nil (λ (q : ℕ). q < p)
rise_step true place places (suc i) p above rest e =
    let h = slice_get_within places i p e in
    let near : place + 1 ≤ p = subst (λ (q : ℕ). place + 1 ≤ q) (get_or_from_slice_get places i p 0 e) (above i 0 h) in
    All-cons (λ (q : ℕ). q < p) place (take i places) (omega (arith, near)) (rest i e)

rise_from : (tenant : List ℕ) (unit place : ℕ) (records : List (Option Record)) (j p : ℕ)
    → slice_get (places_from tenant unit place records) j ≡ Some p
    → All (λ (q : ℕ). q < p) (take j (places_from tenant unit place records))
rise_from tenant unit place [] zero p e = absurd (let t : None ≡ Some p = e in cc)
rise_from tenant unit place [] (suc j) p e = absurd (let t : None ≡ Some p = e in cc)
rise_from tenant unit place (r ∷ records) j p e =
    rise_step (is_of tenant unit r) place (places_from tenant unit (place + 1) records) j p
    (places_above tenant unit (place + 1) records)
    (λ i h. rise_from tenant unit (place + 1) records i p h) e

-- The places of a unit rise: those before one of them are below it.
pub places_rise : (tenant : List ℕ) (unit : ℕ) (log : Logged) (j p : ℕ)
    → slice_get (places_of tenant unit log) j ≡ Some p → All (λ (q : ℕ). q < p) (take j (places_of tenant unit log))
places_rise tenant unit log j p e =
    let same = places_are log tenant unit in
    subst (λ (ps : List ℕ). All (λ (q : ℕ). q < p) (take j ps)) (sym same)
    (rise_from tenant unit 0 log.records j p (ap (λ (ps : List ℕ). slice_get ps j) (sym same) ∙ e))

none_between : (low : ℕ) (places : List ℕ) → All (λ (p : ℕ). low ≤ p) places → All (λ (p : ℕ). p < low) places
    → places ≡ []
none_between low [] above below = refl
none_between low (p ∷ places) above below =
    let near : low ≤ p = All-head (λ (p : ℕ). low ≤ p) p places above in
    let far : p < low = All-head (λ (p : ℕ). p < low) p places below in
    absurd (omega (arith, near, far))

all_rest : (P : ℕ → Type 0) (b : Bool) (place : ℕ) (places : List ℕ) → All P (place_if b place ++ places)
    → All P places
all_rest P true place places h = All-tail P place places h
all_rest P false place places h = h

-- ---- one empty place is filled

-- the unit of the record that comes into an empty place past its others has that place behind them
own_filled : (tenant : List ℕ) (unit place at : ℕ) (records : List (Option Record)) (r : Record)
    → is_of tenant unit (Some r) ≡ true → slice_get records at ≡ Some None
    → All (λ (p : ℕ). p < place + at) (places_from tenant unit place records)
    → places_from tenant unit place (slice_set records at (Some r))
    ≡ places_from tenant unit place records ++ (place + at) ∷ []
own_filled tenant unit place zero [] r own empty below = absurd (let t : None ≡ Some None = empty in cc)
own_filled tenant unit place (suc at) [] r own empty below = absurd (let t : None ≡ Some None = empty in cc)
own_filled tenant unit place zero (Some x ∷ records) r own empty below =
    absurd (let t : Some (Some x) ≡ Some None = empty in cc)
own_filled tenant unit place zero (None ∷ records) r own empty below =
    let ps = places_from tenant unit (place + 1) records in
    let none : ps ≡ [] = none_between (place + 1) ps (places_above tenant unit (place + 1) records)
    (All-weaker (λ (p : ℕ). p < place + 0) (λ (p : ℕ). p < place + 1) (λ p h. omega arith) ps below) in
    let e : place ≡ place + 0 = omega arith in
    ap (λ (b : Bool). place_if b place ++ ps) own
    ∙ (ap (λ (qs : List ℕ). place ∷ qs) none
    ∙ (ap (λ (n : ℕ). n ∷ []) e
    ∙ ap (λ (qs : List ℕ). qs ++ (place + 0) ∷ []) (sym none)))
own_filled tenant unit place (suc at) (x ∷ records) r own empty below =
    let ps = places_from tenant unit (place + 1) records in
    let e : (place + 1) + at ≡ place + suc at = omega arith in
    let rest = own_filled tenant unit (place + 1) at records r own empty
    (All-weaker (λ (p : ℕ). p < place + suc at) (λ (p : ℕ). p < (place + 1) + at) (λ p h. omega arith) ps
    (all_rest (λ (p : ℕ). p < place + suc at) (is_of tenant unit x) place ps below)) in
    ap (λ (qs : List ℕ). place_if (is_of tenant unit x) place ++ qs)
    (rest ∙ ap (λ (n : ℕ). ps ++ n ∷ []) e)
    ∙ sym (append_assoc (place_if (is_of tenant unit x) place) ps ((place + suc at) ∷ []))

-- another unit has the places that it had
other_filled : (tenant : List ℕ) (unit place at : ℕ) (records : List (Option Record)) (r : Record)
    → is_of tenant unit (Some r) ≡ false → slice_get records at ≡ Some None
    → places_from tenant unit place (slice_set records at (Some r)) ≡ places_from tenant unit place records
other_filled tenant unit place zero [] r other empty = absurd (let t : None ≡ Some None = empty in cc)
other_filled tenant unit place (suc at) [] r other empty = absurd (let t : None ≡ Some None = empty in cc)
other_filled tenant unit place zero (Some x ∷ records) r other empty =
    absurd (let t : Some (Some x) ≡ Some None = empty in cc)
other_filled tenant unit place zero (None ∷ records) r other empty =
    ap (λ (b : Bool). place_if b place ++ places_from tenant unit (place + 1) records) other
other_filled tenant unit place (suc at) (x ∷ records) r other empty =
    ap (λ (qs : List ℕ). place_if (is_of tenant unit x) place ++ qs)
    (other_filled tenant unit (place + 1) at records r other empty)

fill_one : (before after : Lists) (records : List (Option Record)) (r : Record) (place : ℕ)
    → Indexes before records → slice_get records place ≡ Some None → IsPast place (before r.tenant r.unit)
    → after r.tenant r.unit ≡ before r.tenant r.unit ++ place ∷ []
    → ((tenant : List ℕ) (unit : ℕ) → Differs tenant unit r.tenant r.unit → after tenant unit ≡ before tenant unit)
    → Indexes after (slice_set records place (Some r))
fill_one before after records r place k empty past own others =
    let z : place ≡ 0 + place = omega arith in
    let here = subst (λ (ps : List ℕ). IsPast place ps) (k r.tenant r.unit) past in
    let below = subst (λ (n : ℕ). All (λ (p : ℕ). p < n) (places_from r.tenant r.unit 0 records)) z
    (past_all r.tenant r.unit 0 place records here) in
    everywhere (λ t u. after t u ≡ places_from t u 0 (slice_set records place (Some r))) r.tenant r.unit
    (own
    ∙ (ap (λ (ps : List ℕ). ps ++ place ∷ []) (k r.tenant r.unit)
    ∙ (ap (λ (n : ℕ). places_from r.tenant r.unit 0 records ++ n ∷ []) z
    ∙ sym (own_filled r.tenant r.unit 0 place records r (owner_self r.tenant r.unit) empty below))))
    (λ t u other. others t u other
    ∙ (k t u
    ∙ sym (other_filled t u 0 place records r
    (one_owner t r.tenant u r.unit (Some r) other (owner_self r.tenant r.unit)) empty)))

-- An index stays right where an empty place past those of its unit is filled, or nothing changes.
pub fill_lists : {T E : Type 0} (done : Result T E) (before after : Lists)
    (records now : List (Option Record)) (r : Record) (place : ℕ) → Indexes before records
    → OnOk done (slice_get records place ≡ Some None) → OnOk done (IsPast place (before r.tenant r.unit))
    → OnOk done (after r.tenant r.unit ≡ before r.tenant r.unit ++ place ∷ [])
    → ((tenant : List ℕ) (unit : ℕ) → Differs tenant unit r.tenant r.unit → after tenant unit ≡ before tenant unit)
    → OnErr done ((tenant : List ℕ) (unit : ℕ) → after tenant unit ≡ before tenant unit)
    → OnOk done (now ≡ slice_set records place (Some r)) → OnErr done (now ≡ records)
    → Indexes after now
fill_lists (Ok x) before after records now r place k empty past own others same e f t u =
    fill_one before after records r place k empty past own others t u ∙ ap (places_from t u 0) (sym e)
fill_lists (Err x) before after records now r place k empty past own others same e f t u =
    same t u ∙ (k t u ∙ ap (places_from t u 0) (sym f))

-- as many places as there were
pub fill_count : {T E : Type 0} (done : Result T E) (records now : List (Option Record)) (r : Record) (place count : ℕ)
    → count ≡ length records → OnOk done (now ≡ slice_set records place (Some r)) → OnErr done (now ≡ records)
    → count ≡ length now
fill_count (Ok x) records now r place count n e f = n ∙ sym (ap length e ∙ length-set records place (Some r))
fill_count (Err x) records now r place count n e f = n ∙ sym (ap length f)

-- By a fill that succeeds, the record's unit has the place behind those that it had.
pub fill_own : {T E : Type 0} (done : Result T E)
    (before after : Lists) (records now : List (Option Record)) (old new : Logged) (r : Record) (place : ℕ)
    → Indexes before records → Indexes after now → records ≡ old.records → now ≡ new.records
    → OnOk done (after r.tenant r.unit ≡ before r.tenant r.unit ++ place ∷ [])
    → OnOk done (places_of r.tenant r.unit new ≡ places_of r.tenant r.unit old ++ place ∷ [])
fill_own (Ok x) before after records now old new r place k m e f own =
    sym (list_is after now new r.tenant r.unit m f)
    ∙ (own ∙ ap (λ (ps : List ℕ). ps ++ place ∷ []) (list_is before records old r.tenant r.unit k e))
fill_own (Err x) before after records now old new r place k m e f own = tt

-- By a fill that succeeds, the place is past those that the record's unit had.
pub fill_past : {T E : Type 0} (done : Result T E)
    (before : Lists) (records : List (Option Record)) (old : Logged) (r : Record) (place : ℕ)
    → Indexes before records → records ≡ old.records → OnOk done (IsPast place (before r.tenant r.unit))
    → OnOk done (All (λ (p : ℕ). p < place) (places_of r.tenant r.unit old))
fill_past (Ok x) before records old r place k e past =
    let all = past_all r.tenant r.unit 0 place records
    (subst (λ (ps : List ℕ). IsPast place ps) (k r.tenant r.unit) past) in
    subst (λ (ps : List ℕ). All (λ (p : ℕ). p < place) ps)
    (sym (k r.tenant r.unit) ∙ list_is before records old r.tenant r.unit k e) all
fill_past (Err x) before records old r place k e past = tt

-- ---- live records are listed

listed_from : (place at : ℕ) (records : List (Option Record)) (r : Record) → slice_get records at ≡ Some (Some r)
    → Contains (places_from r.tenant r.unit place records) (place + at)
listed_from place zero [] r e = absurd (let t : None ≡ Some (Some r) = e in cc)
listed_from place (suc at) [] r e = absurd (let t : None ≡ Some (Some r) = e in cc)
listed_from place zero (None ∷ records) r e = absurd (let t : Some None ≡ Some (Some r) = e in cc)
listed_from place zero (Some x ∷ records) r e =
    let t : Some (Some x) ≡ Some (Some r) = e in
    let s : x ≡ r = cc in
    let z : place ≡ place + 0 = omega arith in
    let ps = places_from r.tenant r.unit (place + 1) records in
    let own = ap (λ (y : Record). is_of r.tenant r.unit (Some y)) s ∙ owner_self r.tenant r.unit in
    subst (λ (b : Bool). Contains (place_if b place ++ ps) (place + 0)) (sym own)
    (subst (λ (p : ℕ). Contains (place ∷ ps) p) z
    (Contains-append_left (place ∷ []) ps place (Contains-push [] place)))
listed_from place (suc at) (x ∷ records) r e =
    let z : (place + 1) + at ≡ place + suc at = omega arith in
    let ps = places_from r.tenant r.unit (place + 1) records in
    Contains-append_right (place_if (is_of r.tenant r.unit x) place) ps (place + suc at)
    (subst (λ (p : ℕ). Contains ps p) z (listed_from (place + 1) at records r e))

-- The place of a live record is among those of its tenant's unit.
pub live_listed : (log : Logged) (place : ℕ) (r : Record) → slice_get log.records place ≡ Some (Some r)
    → Contains (places_of r.tenant r.unit log) place
live_listed log place r e =
    let z : 0 + place ≡ place = omega arith in
    subst (λ (ps : List ℕ). Contains ps place) (sym (places_are log r.tenant r.unit))
    (subst (λ (p : ℕ). Contains (places_from r.tenant r.unit 0 log.records) p) z (listed_from 0 place log.records r e))

-- a tenant with a list that has a place is among the keys
key_of : {X : Type 0} (index : IndexMap (List ℕ) (List (List ℕ)) X) (tenant : List ℕ) (unit place : ℕ)
    → Contains (listed index tenant unit) place → Contains (keys index) tenant
key_of index tenant unit place h = go (get bytes_eq index tenant) refl h
  where
    go : (o : Option (List (List ℕ))) → get bytes_eq index tenant ≡ o → Contains (of_tenant o unit) place
        → Contains (keys index) tenant
    go None e h = absurd (let t : h.0 < 0 = h.1 in omega arith)
    go (Some units) e h =
        (is_member-Decides {eq = bytes_eq} bytes_eq-Decides (keys index) tenant).0
        (sym (is_some-lookup (bytes_eq tenant) index.entries) ∙ ap (λ (o : Option (List (List ℕ))). is_some o) e)

-- The keys of an index have the tenant of each live record.
pub keys_name : {X : Type 0} (index : IndexMap (List ℕ) (List (List ℕ)) X) (records : List (Option Record))
    → IsIndexOf index records → NamesAllTenants records (keys index)
keys_name index records k = λ place r e.
    key_of index r.tenant r.unit (0 + place)
    (subst (λ (ps : List ℕ). Contains ps (0 + place)) (sym (k r.tenant r.unit)) (listed_from 0 place records r e))

-- ---- all live records are put into empty places

-- putting some in and then others
pub filled_append : (first more : List (ℕ × Record)) (start : List (Option Record))
    → filled_in (first ++ more) start ≡ filled_in more (filled_in first start)
filled_append [] more start = refl
filled_append (pair ∷ first) more start = filled_append first more (slice_set start pair.0 (Some pair.1))

-- no place comes or goes
pub length_filled : (pairs : List (ℕ × Record)) (start : List (Option Record))
    → length (filled_in pairs start) ≡ length start
length_filled [] start = refl
length_filled (pair ∷ pairs) start =
    length_filled pairs (slice_set start pair.0 (Some pair.1)) ∙ length-set start pair.0 (Some pair.1)

get_set : (records : List (Option Record)) (at : ℕ) (x : Option Record) → at < length records
    → slice_get (slice_set records at x) at ≡ Some x
get_set [] zero x h = absurd (omega arith)
get_set [] (suc at) x h = absurd (omega arith)
get_set (y ∷ records) zero x h = refl
get_set (y ∷ records) (suc at) x h = get_set records at x (omega arith)

-- another place has what it had
pub get_set_other : (records : List (Option Record)) (at place : ℕ) (x : Option Record) → (at ≡ place → ⊥)
    → slice_get (slice_set records at x) place ≡ slice_get records place
get_set_other [] zero place x other = refl
get_set_other [] (suc at) place x other = refl
get_set_other (y ∷ records) zero zero x other = absurd (other refl)
get_set_other (y ∷ records) zero (suc place) x other = refl
get_set_other (y ∷ records) (suc at) zero x other = refl
get_set_other (y ∷ records) (suc at) (suc place) x other =
    get_set_other records at place x (λ e. other (ap suc e))

-- lists with the same at each place
same_places : (xs ys : List (Option Record)) → ((place : ℕ) → slice_get xs place ≡ slice_get ys place) → xs ≡ ys
same_places [] [] h = refl
same_places [] (y ∷ ys) h = absurd (let t : None ≡ Some y = h 0 in cc)
same_places (x ∷ xs) [] h = absurd (let t : Some x ≡ None = h 0 in cc)
same_places (x ∷ xs) (y ∷ ys) h =
    let t : Some x ≡ Some y = h 0 in
    let e : x ≡ y = cc in
    ap (λ (z : Option Record). z ∷ xs) e
    ∙ ap (λ (zs : List (Option Record)). y ∷ zs) (same_places xs ys (λ place. h (suc place)))

-- the place is that of one of these
abbrev HasPlace : List (ℕ × Record) → ℕ → Type 0
HasPlace [] place = ⊥
HasPlace (pair ∷ pairs) place = (pair.0 ≡ place) ⊎ HasPlace pairs place

has_place : (pairs : List (ℕ × Record)) (place : ℕ) (r : Record) (k : ℕ) → k < length pairs
    → slice_index_or pairs k (place, r) ≡ (place, r) → HasPlace pairs place
has_place [] place r zero h e = absurd (omega arith)
has_place [] place r (suc k) h e = absurd (omega arith)
has_place (pair ∷ pairs) place r zero h e = inl (ap (λ (p : ℕ × Record). p.0) e)
has_place (pair ∷ pairs) place r (suc k) h e = inr (has_place pairs place r k (omega arith) e)

-- the place has what the log has there, or one of these is for it
abbrev Settles : List (Option Record) → Type 0 → List (Option Record) → ℕ → Type 0
Settles records rest start place = (slice_get start place ≡ slice_get records place) ⊎ rest

set_one : (start records : List (Option Record)) (at : ℕ) (r : Record) (place : ℕ) (rest : Type 0)
    → slice_get records at ≡ Some (Some r) → length start ≡ length records
    → Settles records ((at ≡ place) ⊎ rest) start place
    → Settles records rest (slice_set start at (Some r)) place
set_one start records at r place rest live same each = go (at == place) refl each
  where
    within : at < length start
    within = let h : at < length records = slice_get_within records at (Some r) live in omega (arith, h, same)

    apart : (at == place) ≡ false → at ≡ place → ⊥
    apart e h = let t : (at == place) ≡ true = (Decides-eqb at place).1 h in cc (t, e)

    go : (b : Bool) → (at == place) ≡ b → Settles records ((at ≡ place) ⊎ rest) start place
        → Settles records rest (slice_set start at (Some r)) place
    go true e each =
        let here : at ≡ place = (Decides-eqb at place).0 e in
        inl (subst (λ (q : ℕ). slice_get (slice_set start at (Some r)) q ≡ slice_get records q) here
        (get_set start at (Some r) within ∙ sym live))
    go false e (inl h) = inl (get_set_other start at place (Some r) (apart e) ∙ h)
    go false e (inr (inl h)) = absurd (apart e h)
    go false e (inr (inr h)) = inr h

settled : (records start : List (Option Record)) (place : ℕ) → Settles records ⊥ start place
    → slice_get start place ≡ slice_get records place
settled records start place (inl e) = e
settled records start place (inr h) = absurd h

fill_rest : (pairs : List (ℕ × Record)) (start records : List (Option Record)) → AreLiveIn records pairs
    → length start ≡ length records → ((place : ℕ) → Settles records (HasPlace pairs place) start place)
    → filled_in pairs start ≡ records
fill_rest [] start records live same each =
    same_places start records (λ place. settled records start place (each place))
fill_rest (pair ∷ pairs) start records live same each =
    let P : ℕ × Record → Type 0 = λ pair. slice_get records pair.0 ≡ Some (Some pair.1) in
    fill_rest pairs (slice_set start pair.0 (Some pair.1)) records (All-tail P pair pairs live)
    (length-set start pair.0 (Some pair.1) ∙ same)
    (λ place. set_one start records pair.0 pair.1 place (HasPlace pairs place)
    (All-head P pair pairs live) same (each place))

vacant_or_held : (records : List (Option Record)) (place : ℕ)
    → Settles records (IsHeld records place) (replicate (length records) None) place
vacant_or_held [] zero = inl refl
vacant_or_held [] (suc place) = inl refl
vacant_or_held (None ∷ records) zero = inl refl
vacant_or_held (Some r ∷ records) zero = inr (r, refl)
vacant_or_held (x ∷ records) (suc place) = vacant_or_held records place

-- Putting all live records of a log into as many empty places, in any order, gives the records of the log.
pub refilled : Refills
refilled records pairs live all =
    fill_rest pairs (replicate (length records) None) records live (length-replicate (length records) None)
    (λ place. go place (vacant_or_held records place))
  where
    go : (place : ℕ) → Settles records (IsHeld records place) (replicate (length records) None) place
        → Settles records (HasPlace pairs place) (replicate (length records) None) place
    go place (inl e) = inl e
    go place (inr h) =
        let c = all place h.0 h.1 in
        inr (has_place pairs place h.0 c.0 c.1 c.2)
