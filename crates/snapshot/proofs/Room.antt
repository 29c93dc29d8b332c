-- Laws of the order in which the live records of a log are written: each leaves room for those behind it.
use Rattle.std.proofs.Common.{◌≡◌, refl, sym, ◌∙◌, ap, subst, ℕ, zero, suc, ◌+◌, Bool, true, false, List, [], ◌∷◌, ◌++◌}
use Rattle.std.proofs.Common.{arith, length, slice_get, slice_index_or, take, drop, bytes_eq, ◌⊎◌, inl, inr}
use Rattle.std.specs.Prelude.{◌<◌, ◌≤◌, ◌≢◌, All, AllPairs, Option, None, Some}
use Rattle.std.specs.List.{IsDistinct}
use Rattle.std.proofs.lemmas.Bool.{cases_lt}
use Rattle.std.proofs.lemmas.List.{append-nil}
use Rattle.std.proofs.lemmas.List.Elements.{All-append, All-weaker, All-nil, All-cons, All-head, All-tail}
use Rattle.std.proofs.lemmas.List.Kept.{AllPairs-cons}
use Rattle.std.proofs.lemmas.Option.{slice_get_within}
use Rattle.model.specs.declared.records.Record.{Record}
use Rattle.shared_log.specs.Filled.{filled, pair_at, pairs_at, AreLiveIn, LeavesRoom}
use Rattle.shared_log.specs.Logged.{Logged, is_of, places_from, places_of}
use Rattle.shared_log.proofs.LiveLaws.{pairs_append, pairs_live}
use Rattle.shared_log.proofs.PlacesLaws.{place_if, places_are}
use Rattle.shared_log.proofs.RoomLaws.{OwnedFrom, owned_from, room_left}
use Rattle.snapshot.specs.Logs.{unit_places, AreWithin, LeaveRoom, NoneOf}
use Rattle.snapshot.proofs.Order.{AllPairs-append, AllPairs-head, AllPairs-nil, AllPairs-one, AllPairs-tail, before}
use Rattle.snapshot.proofs.Order.{no_more}

-- ---- the places of a unit rise

abbrev Below : ℕ → ℕ → Type 0
Below p q = p < q

rise_cons : (b : Bool) (place : ℕ) (places : List ℕ) → All (λ (p : ℕ). place + 1 ≤ p) places → AllPairs Below places
    → AllPairs Below (place_if b place ++ places)
rise_cons true place places above rest =
    AllPairs-cons Below place places
    (All-weaker (λ (p : ℕ). place + 1 ≤ p) (Below place) (λ p h. omega (arith, h)) places above) rest
rise_cons false place places above rest = rest

rising_from : (tenant : List ℕ) (unit place : ℕ) (records : List (Option Record))
    → AllPairs Below (places_from tenant unit place records)
rising_from tenant unit place [] = AllPairs-nil Below
rising_from tenant unit place (r ∷ records) =
    rise_cons (is_of tenant unit r) place (places_from tenant unit (place + 1) records)
    (All-weaker (OwnedFrom tenant unit records (place + 1)) (λ (p : ℕ). place + 1 ≤ p)
    (λ p h. let e : p ≡ (place + 1) + h.0 = h.1 in omega (arith, e)) (places_from tenant unit (place + 1) records)
    (owned_from tenant unit (place + 1) records))
    (rising_from tenant unit (place + 1) records)

-- ---- pairs of places and records

-- what is so of each place with its record is so of each pair
of_pairs : (records : List (Option Record)) (P : ℕ × Record → Type 0) (places : List ℕ)
    → All (λ (p : ℕ). (r : Record) → slice_get records p ≡ Some (Some r) → P (p, r)) places
    → All P (pairs_at records places)
of_pairs records P [] all = All-nil P
of_pairs records P (p ∷ places) all =
    All-append P (pair_at p (slice_get records p)) (pairs_at records places)
    (one (slice_get records p) refl) (of_pairs records P places (All-tail Q p places all))
  where
    Q : ℕ → Type 0
    Q p = (r : Record) → slice_get records p ≡ Some (Some r) → P (p, r)

    one : (o : Option (Option Record)) → slice_get records p ≡ o → All P (pair_at p o)
    one None e = All-nil P
    one (Some None) e = All-nil P
    one (Some (Some r)) e = All-cons P (p, r) [] (All-head Q p places all r e) (All-nil P)

-- the first leaves room for the later
abbrev Room : ℕ × Record → ℕ × Record → Type 0
Room first later = LeavesRoom later.0 later.1 first

-- pairs whose places rise leave room
rising_room : (records : List (Option Record)) (places : List ℕ) → AllPairs Below places
    → LeaveRoom (pairs_at records places)
rising_room records [] all = AllPairs-nil Room
rising_room records (p ∷ places) all =
    AllPairs-append Room (pair_at p (slice_get records p)) (pairs_at records places)
    (one (slice_get records p)) (rising_room records places (AllPairs-tail Below p places all))
    (across (slice_get records p))
  where
    one : (o : Option (Option Record)) → LeaveRoom (pair_at p o)
    one None = AllPairs-nil Room
    one (Some None) = AllPairs-nil Room
    one (Some (Some r)) = AllPairs-one Room (p, r)

    above : All (λ (y : ℕ × Record). p < y.0) (pairs_at records places)
    above = of_pairs records (λ (y : ℕ × Record). p < y.0) places
        (All-weaker (Below p) (λ (q : ℕ). (r : Record) → slice_get records q ≡ Some (Some r) → p < q)
        (λ q h r e. h) places (AllPairs-head Below p places all))

    Leaves : ℕ × Record → Type 0
    Leaves x = All (Room x) (pairs_at records places)

    far : (r : Record) (y : ℕ × Record) → p < y.0 → Room (p, r) y
    far r y h = (λ e. let same : p ≡ y.0 = e in omega (arith, h, same), λ t u. h)

    across : (o : Option (Option Record)) → All Leaves (pair_at p o)
    across None = All-nil Leaves
    across (Some None) = All-nil Leaves
    across (Some (Some r)) =
        All-cons Leaves (p, r) []
        (All-weaker (λ (y : ℕ × Record). p < y.0) (Room (p, r)) (far r) (pairs_at records places) above)
        (All-nil Leaves)

-- live records of different units leave room for each other
apart : (records : List (Option Record)) (x y : ℕ × Record) → slice_get records x.0 ≡ Some (Some x.1)
    → slice_get records y.0 ≡ Some (Some y.1)
    → (x.1.tenant ≡ y.1.tenant → x.1.unit ≡ y.1.unit → ⊥) → Room x y
apart records x y first later differ = (other, λ t u. absurd (differ t u))
  where
    other : x.0 ≡ y.0 → ⊥
    other e =
        let t : Some (Some x.1) ≡ Some (Some y.1) = sym first ∙ (ap (slice_get records) e ∙ later) in
        let same : x.1 ≡ y.1 = cc in
        differ (ap (λ (r : Record). r.tenant) same) (ap (λ (r : Record). r.unit) same)

all_apart : (records : List (Option Record)) (P Q : ℕ × Record → Type 0) (xs ys : List (ℕ × Record))
    → AreLiveIn records xs → AreLiveIn records ys → All P xs → All Q ys
    → ((x y : ℕ × Record) → P x → Q y → x.1.tenant ≡ y.1.tenant → x.1.unit ≡ y.1.unit → ⊥)
    → All (λ (x : ℕ × Record). All (Room x) ys) xs
all_apart records P Q xs ys first later p q differ = λ k d h j e i.
    let x = slice_index_or xs k d in
    let y = slice_index_or ys j e in
    apart records x y (first k d h) (later j e i) (differ x y (p k d h) (q j e i))

-- ---- the records of a unit and of a tenant

own_pairs : (log : Logged) (tenant : List ℕ) (unit : ℕ)
    → All (λ (y : ℕ × Record). (y.1.tenant ≡ tenant) × (y.1.unit ≡ unit))
    (pairs_at log.records (places_of tenant unit log))
own_pairs log tenant unit =
    of_pairs log.records (λ (y : ℕ × Record). (y.1.tenant ≡ tenant) × (y.1.unit ≡ unit)) (places_of tenant unit log)
    (subst (All Owned) (sym (places_are log tenant unit))
    (All-weaker (OwnedFrom tenant unit log.records 0) Owned own (places_from tenant unit 0 log.records)
    (owned_from tenant unit 0 log.records)))
  where
    Owned : ℕ → Type 0
    Owned p = (r : Record) → slice_get log.records p ≡ Some (Some r) → (r.tenant ≡ tenant) × (r.unit ≡ unit)

    own : (p : ℕ) → OwnedFrom tenant unit log.records 0 p → Owned p
    own p h r e =
        let at : p ≡ h.0 = let z = h.1 in omega (arith, z) in
        let t : Some (Some h.2) ≡ Some (Some r) = sym h.3 ∙ (ap (slice_get log.records) (sym at) ∙ e) in
        let same : h.2 ≡ r = cc in
        (ap (λ (x : Record). x.tenant) (sym same) ∙ h.4, ap (λ (x : Record). x.unit) (sym same) ∙ h.5)

unit_room : (log : Logged) (tenant : List ℕ) (unit : ℕ)
    → LeaveRoom (pairs_at log.records (places_of tenant unit log))
unit_room log tenant unit =
    rising_room log.records (places_of tenant unit log)
    (subst (AllPairs Below) (sym (places_are log tenant unit)) (rising_from tenant unit 0 log.records))

-- a record of one of so many units of a tenant
abbrev OfUnits : List ℕ → ℕ → ℕ × Record → Type 0
OfUnits tenant count pair = (pair.1.tenant ≡ tenant) × (pair.1.unit < count)

unit_pairs : (log : Logged) (tenant : List ℕ) (count : ℕ)
    → All (OfUnits tenant count) (pairs_at log.records (unit_places tenant count log))
unfolding unit_places
unit_pairs log tenant zero = All-nil (OfUnits tenant 0)
unit_pairs log tenant (suc count) =
    let all = OfUnits tenant (suc count) in
    let first = pairs_at log.records (unit_places tenant count log) in
    let last = pairs_at log.records (places_of tenant count log) in
    subst (All (OfUnits tenant (suc count)))
    (sym (pairs_append log.records (unit_places tenant count log) (places_of tenant count log)))
    (All-append (OfUnits tenant (suc count)) first last
    (All-weaker (OfUnits tenant count) (OfUnits tenant (suc count))
    (λ x h. (h.0, let u = h.1 in omega (arith, u))) first
    (unit_pairs log tenant count))
    (All-weaker (λ (y : ℕ × Record). (y.1.tenant ≡ tenant) × (y.1.unit ≡ count)) (OfUnits tenant (suc count))
    (λ x h. (h.0, let u = h.1 in omega (arith, u))) last (own_pairs log tenant count)))

tenant_room : (log : Logged) (tenant : List ℕ) (count : ℕ)
    → LeaveRoom (pairs_at log.records (unit_places tenant count log))
unfolding unit_places
tenant_room log tenant zero = AllPairs-nil Room
tenant_room log tenant (suc count) =
    let first = pairs_at log.records (unit_places tenant count log) in
    let last = pairs_at log.records (places_of tenant count log) in
    subst LeaveRoom (sym (pairs_append log.records (unit_places tenant count log) (places_of tenant count log)))
    (AllPairs-append Room first last (tenant_room log tenant count) (unit_room log tenant count)
    (all_apart log.records (OfUnits tenant count)
    (λ (y : ℕ × Record). (y.1.tenant ≡ tenant) × (y.1.unit ≡ count)) first last
    (pairs_live log.records (unit_places tenant count log)) (pairs_live log.records (places_of tenant count log))
    (unit_pairs log tenant count) (own_pairs log tenant count)
    (λ x y p q t u. let low = p.1 in let here = q.1 in omega (arith, low, here, u))))

-- ---- the walk along the units of a tenant

pub no_units : (tenant : List ℕ) (log : Logged) (old : List ℕ) → old ≡ old ++ unit_places tenant 0 log
unfolding unit_places
no_units tenant log old = sym (append-nil old)

pub one_unit : (tenant : List ℕ) (count : ℕ) (log : Logged)
    → unit_places tenant (count + 1) log ≡ unit_places tenant count log ++ places_of tenant count log
unfolding unit_places
one_unit tenant count log =
    ap (λ (n : ℕ). unit_places tenant n log) (let e : count + 1 ≡ suc count = omega arith in e)

-- Units without records add none.
pub all_units : (tenant : List ℕ) (log : Logged) (count top : ℕ) → count ≤ top
    → ((unit : ℕ) → count ≤ unit → places_of tenant unit log ≡ [])
    → unit_places tenant count log ≡ unit_places tenant top log
unfolding unit_places
all_units tenant log count zero within none =
    ap (λ (n : ℕ). unit_places tenant n log) (let e : count ≡ 0 = omega (arith, within) in e)
all_units tenant log count (suc top) within none =
    go (cases_lt count (suc top)) (λ h. all_units tenant log count top h none)
  where
    go : (count < suc top) ⊎ (suc top ≤ count)
        → (count ≤ top → unit_places tenant count log ≡ unit_places tenant top log)
        → unit_places tenant count log ≡ unit_places tenant top log ++ places_of tenant top log
    go (inl h) before =
        before (omega (arith, h))
        ∙ (sym (append-nil (unit_places tenant top log))
        ∙ ap (λ (ps : List ℕ). unit_places tenant top log ++ ps) (sym (none top (omega (arith, h)))))
    go (inr h) before =
        ap (λ (n : ℕ). unit_places tenant n log) (let e : count ≡ suc top = omega (arith, h, within) in e)

-- ---- the walk along the tenants

-- Where no record of a tenant is among those before, its records may follow.
pub tenant_follows : (log : Logged) (old new : List ℕ) (tenant : List ℕ) (count : ℕ)
    → new ≡ old ++ unit_places tenant count log → NoneOf tenant (pairs_at log.records old)
    → LeaveRoom (pairs_at log.records old) → LeaveRoom (pairs_at log.records new)
tenant_follows log old new tenant count e none room =
    let more = unit_places tenant count log in
    subst (λ (ps : List ℕ). LeaveRoom (pairs_at log.records ps)) (sym e)
    (subst LeaveRoom (sym (pairs_append log.records old (unit_places tenant count log)))
    (AllPairs-append Room (pairs_at log.records old) (pairs_at log.records more) room (tenant_room log tenant count)
    (all_apart log.records (λ (y : ℕ × Record). y.1.tenant ≡ tenant → ⊥) (OfUnits tenant count)
    (pairs_at log.records old) (pairs_at log.records more)
    (pairs_live log.records old) (pairs_live log.records more) none (unit_pairs log tenant count)
    (λ x y p q t u. p (t ∙ q.0)))))

one_other : (log : Logged) (old new : List ℕ) (tenant name : List ℕ) (count : ℕ)
    → new ≡ old ++ unit_places tenant count log → tenant ≢ name → NoneOf name (pairs_at log.records old)
    → NoneOf name (pairs_at log.records new)
one_other log old new tenant name count e differ none =
    let more = unit_places tenant count log in
    let P : ℕ × Record → Type 0 = λ y. y.1.tenant ≡ name → ⊥ in
    subst (λ (ps : List ℕ). NoneOf name (pairs_at log.records ps)) (sym e)
    (subst (NoneOf name) (sym (pairs_append log.records old (unit_places tenant count log)))
    (All-append P (pairs_at log.records old) (pairs_at log.records more) none
    (All-weaker (OfUnits tenant count) P (λ x h t. differ (sym h.0 ∙ t)) (pairs_at log.records more)
    (unit_pairs log tenant count))))

-- No record of the tenants behind is among those of the tenants so far.
pub others_follow : (log : Logged) (old new : List ℕ) (tenant : List ℕ) (count : ℕ) (names rest : List (List ℕ)) (i : ℕ)
    → new ≡ old ++ unit_places tenant count log → IsDistinct bytes_eq names → drop i names ≡ tenant ∷ rest
    → All (λ (name : List ℕ). NoneOf name (pairs_at log.records old)) rest
    → All (λ (name : List ℕ). NoneOf name (pairs_at log.records new)) rest
others_follow log old new tenant count names rest i e once left none = λ k d h.
    one_other log old new tenant (slice_index_or rest k d) count e (no_more names i tenant rest once left k d h)
    (none k d h)

pub none_yet : (records : List (Option Record)) (old : List ℕ) (names : List (List ℕ)) → old ≡ []
    → All (λ (name : List ℕ). NoneOf name (pairs_at records old)) names
none_yet records old names e =
    subst (λ (ps : List ℕ). All (λ (name : List ℕ). NoneOf name (pairs_at records ps)) names) (sym e)
    (λ k d h. All-nil (λ (y : ℕ × Record). y.1.tenant ≡ slice_index_or names k d → ⊥))

pub room_yet : (records : List (Option Record)) (old : List ℕ) → old ≡ [] → LeaveRoom (pairs_at records old)
room_yet records old e = subst (λ (ps : List ℕ). LeaveRoom (pairs_at records ps)) (sym e) (AllPairs-nil Room)

-- ---- filling

-- The places of live records are there.
pub within : (records : List (Option Record)) (pairs : List (ℕ × Record)) → AreLiveIn records pairs
    → AreWithin (length records) pairs
within records pairs live = λ k d h.
    slice_get_within records (slice_index_or pairs k d).0 (Some (slice_index_or pairs k d).1) (live k d h)

-- Where each of the pairs leaves room for those behind it, the next one can be filled in.
pub fits_next : (made : Logged) (count : ℕ) (pairs done : List (ℕ × Record)) (i place : ℕ) (r : Record)
    → i < length pairs → ◌≡◌ {A = ℕ × Record} (place, r) (slice_index_or pairs i (place, r)) → done ≡ take i pairs
    → made.records ≡ filled count done → LeaveRoom pairs → AreWithin count pairs
    → (slice_get made.records place ≡ Some None) × All (λ (p : ℕ). p < place) (places_of r.tenant r.unit made)
fits_next made count pairs done i place r h is so_far records room all =
    room_left made count done place r records
    (subst (λ (y : ℕ × Record). y.0 < count) (sym is) (all i (place, r) h))
    (subst (All (LeavesRoom place r)) (sym so_far) (before Room pairs i (place, r) h is room))
