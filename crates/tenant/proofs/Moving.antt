-- A unit's base moves on, and the tenant stands for the world that it stood for.
use Rattle.std.proofs.Common.{◌≡◌, ◌⊎◌, inl, inr, refl, sym, ◌∙◌, ap, subst, ℕ, suc, ◌+◌, ◌-◌, ◌<◌, ◌≤◌, Bool, true}
use Rattle.std.proofs.Common.{false, cond, min, List, [], ◌∷◌, ◌++◌, length, take, drop, arith, length-set, length-drop}
use Rattle.std.proofs.Common.{append-nil}
use Rattle.std.specs.Prelude.{IfSome, Option, Some, None, slice_get, slice_set, nat_le, option_and_then, option_map}
use Rattle.std.specs.Prelude.{◌==◌, bytes_eq}
use Rattle.std.specs.List.{fold, list_any}
use Rattle.std.specs.Option.{option_map_or}
use Rattle.std.proofs.lemmas.List.{drop_all, drop-drop}
use Rattle.std.proofs.lemmas.List.Sums.{fold-append}
use Rattle.std.proofs.lemmas.Option.{same_Some}
use Rattle.std.proofs.lemmas.Slice.Eq.{bytes_eq-Decides}
use native.Mathlib.Decide.{dec_le}
use Rattle.model.specs.declared.records.Record.{Record}
use Rattle.model.specs.declared.replies.Reply.{Reply}
use Rattle.model.specs.declared.replies.Said.{Said}
use Rattle.model.specs.declared.steps.TenantStep.{TenantStep}
use Rattle.model.specs.Failures.{HasRisen}
use Rattle.model.specs.Handler.{Meaning}
use Rattle.model.specs.World.{World}
use Rattle.theory.proofs.ListLaws.{any_at, bool_cases, eq_same, eq_true, get_drop, get_set, get_take, le_true}
use Rattle.theory.proofs.ListLaws.{or_cases, or_left, or_right, true_eq, set_same}
use Rattle.checkpoint.specs.declared.snapshot.Snapshot.{Snapshot as Shelf}
use Rattle.checkpoint.specs.Shelves.{Shelved, based_at, has_index, is_at, later_of, nearest_of}
use Rattle.compact.specs.Compact.{Compact, Interval, CompactLetter, Represents, Snapshot, CompactUnit}
use Rattle.compact.specs.Forgetting.{rebased}
use Rattle.compact.specs.Steps.{with_unit_at}
use Rattle.compact.specs.StepLaws.{StandsCompact}
use Rattle.compact.proofs.Flushes.{logs_may_grow}
use Rattle.compact.proofs.Forgetting.{bases_move, contents_go}
use Rattle.rollback.specs.Units.{IsKept, Recovering, based_on, forgotten, places}
use Rattle.rollback.proofs.Forgetting.{kept_forgotten, others_have}
use Rattle.rollback_laws.specs.Seen.{IsReady, IsSeen}
use Rattle.rollback_laws.proofs.Forgetting.{forgetting_is_seen}
use Rattle.rollback_laws.proofs.Places.{places_are_seen}
use Rattle.rollback_laws.proofs.Standing.{units_are_ready}
use Rattle.shared_log.specs.Logged.{Grows, IsLeftOf, Logged, places_of}
use Rattle.shared_log.proofs.LeftLaws.{same_grows}
use Rattle.tenant.specs.Bases.{IsBeside, LetsGo, emptied_all, emptied_at, emptied_by, given_up, moved_kept, next_base}
use Rattle.tenant.specs.Bases.{passed, rebased_member}
use Rattle.tenant.specs.Kept.{TenantState, Member}
use Rattle.tenant.specs.Represents.{AreLast, IsCompact, IsMember}
use Rattle.tenant.specs.Stands.{Did, IsStanding, Stands, live_in}
use Rattle.tenant.proofs.Follow.{KeepsUnit, keeps}
use Rattle.tenant.proofs.Lasts.{last_fits}
use Rattle.incarnation.proofs.Orders.{take_one}
use Rattle.tenant.proofs.Others.{stands_beside}
use Rattle.tenant.proofs.Standing.{closed}
use Rattle.tenant.proofs.Places.{live_same}
use Rattle.shared_log.proofs.PlacesLaws.{places_are}

-- ---- the nearest snapshot

nearest_among : {P : Type 0} (t : ℕ) (b : Option (Shelf P)) (xs : List (Shelf P)) (x : Shelf P)
    → fold (later_of t) b xs ≡ Some x → (b ≡ Some x) ⊎ ((list_any (is_at x.index) xs ≡ true) × (x.index ≤ t))
nearest_among t b [] x e = inl e
nearest_among {P} t b (z ∷ xs) x e = elim (nearest_among t (later_of t b z) xs x e) [
  | inr h ↦ inr (or_right (z.index == x.index) (list_any (is_at x.index) xs) h.0, h.1)
  | inl h ↦ go (nat_le z.index t) refl h
]
  where
    go : (q : Bool) → nat_le z.index t ≡ q
        → cond q (Some z) b ≡ Some x → (b ≡ Some x) ⊎ ((list_any (is_at x.index) (z ∷ xs) ≡ true) × (x.index ≤ t))
    go true p f =
        let is : z ≡ x = same_Some z x f in
        let at : z.index ≡ x.index = ap (λ (y : Shelf P). y.index) is in
        let low = le_true z.index t p in
        inr (
          or_left (z.index == x.index) (list_any (is_at x.index) xs) (ap (λ n. n == x.index) at ∙ eq_same x.index),
          omega (arith, at, low),
        )
    go false p f = inl f

base_among : {P : Type 0} (t : ℕ) (o : Option (Shelf P)) (x : Shelf P)
    → option_and_then (later_of t None) o ≡ Some x → (option_map_or (is_at x.index) o false ≡ true) × (x.index ≤ t)
base_among t None x e = absurd (cc e)
base_among {P} t (Some z) x e = go (nat_le z.index t) refl e
  where
    go : (q : Bool) → nat_le z.index t ≡ q
        → cond q (Some z) None ≡ Some x → ((z.index == x.index) ≡ true) × (x.index ≤ t)
    go true p f =
        let at : z.index ≡ x.index = ap (λ (y : Shelf P). y.index) (same_Some z x f) in
        let low = le_true z.index t p in
        (ap (λ n. n == x.index) at ∙ eq_same x.index, omega (arith, at, low))
    go false p f = absurd (cc f)

-- it is on the shelf, and not above
nearest_is : {P : Type 0} (s : Shelved P) (t : ℕ) (x : Shelf P)
    → nearest_of s t ≡ Some x → (has_index s x.index ≡ true) × (x.index ≤ t)
nearest_is s t x e = elim (nearest_among t (option_and_then (later_of t None) s.base) s.others x e) [
  | inr h ↦ (or_right (option_map_or (is_at x.index) s.base false) (list_any (is_at x.index) s.others) h.0, h.1)
  | inl h ↦ let b = base_among t s.base x h in
      (or_left (option_map_or (is_at x.index) s.base false) (list_any (is_at x.index) s.others) b.0, b.1)
]

index_of : {P : Type 0} (o : Option (Shelf P)) (n : ℕ)
    → option_map (λ (s : Shelf P). s.index) o ≡ Some n → (x : Shelf P) × (o ≡ Some x) × (x.index ≡ n)
index_of None n e = absurd (cc e)
index_of (Some x) n e = (x, refl, same_Some x.index n e)

-- what the base moves to is shelved, and below the frontier
pub next_is : {S : Type 0} (r : Recovering S) (f base : ℕ)
    → next_base r f ≡ Some base → (has_index r.shelf base ≡ true) × (base ≤ min (f - 1) (places r - 1))
next_is r f base e =
    let t = min (f - 1) (places r - 1) in
    let x = index_of (nearest_of r.shelf t) base e in
    let n = nearest_is r.shelf t x.0 x.1 in
    (ap (has_index r.shelf) (sym x.2) ∙ n.0, let a = x.2 in let b = n.1 in omega (arith, a, b))

-- A unit's next base is not before its base.
pub not_back : {S : Type 0} (r : Recovering S) → IsKept r → (f base : ℕ) → next_base r f ≡ Some base → r.base ≤ base
not_back r k f base next =
    let there = (next_is r f base next).0 in
    let b = index_of r.shelf.base r.base k.base in
    elim (or_cases (option_map_or (is_at base) r.shelf.base false) (list_any (is_at base) r.shelf.others) there) [
      | inl h ↦
          let at : (b.0.index == base) ≡ true = ap (λ o. option_map_or (is_at base) o false) (sym b.1) ∙ h in
          let e = eq_true b.0.index base at in
          let i = b.2 in
          omega (arith, e, i)
      | inr h ↦
          let y = any_at (is_at base) r.shelf.others h in
          let above = k.rises.above b.0 y.0 y.1.0 b.1 y.1.1 in
          let e = eq_true y.1.0.index base y.1.2 in
          let i = b.2 in
          omega (arith, above, e, i)
    ]

-- The next base of a unit is one of its places.
pub next_within : {S : Type 0} (r : Recovering S) (f last : ℕ)
    → last + 1 ≡ places r → (o : Option ℕ) → o ≡ next_base r f → IfSome o (λ b. b < places r)
next_within r f last e None g = tt
next_within r f last e (Some b) g = let n = (next_is r f b (sym g)).1 in omega (arith, n, e)

-- ---- lists

-- the last places without the first of both
last_dropped : (own live : List ℕ) (n : ℕ) → AreLast own live → AreLast (drop n own) (drop n live)
last_dropped own live n h =
    let o = length live - length own in
    let fits = last_fits own live h in
    let a = length-drop n live in
    let b = length-drop n own in
    ap (drop n) h ∙ drop-drop n o live
    ∙ elim (dec_le n (length own)) [
      | yes q ↦ ap (λ m. drop m live)
          (let e : o + n ≡ n + (length (drop n live) - length (drop n own)) = omega (arith, a, b, fits, q) in e)
      | no q ↦
          drop_all (o + n) live (omega (arith, fits, q))
          ∙ sym (drop_all (n + (length (drop n live) - length (drop n own))) live (omega (arith, a, b, fits, q)))
    ]
    ∙ sym (drop-drop (length (drop n live) - length (drop n own)) n live)

-- ---- one unit

module _ {S : Type 0} (M : Meaning S) (name : List ℕ) (t : TenantState S) (w : World) (before after : Logged)
    (s : IsStanding M name t w before.records) (u : ℕ) (m : Member S) (found : slice_get t.members u ≡ Some m)
    (f : ℕ) (front : slice_get t.frontiers u ≡ Some f) where
  abbrev whole : List Record
  whole = s.whole

  abbrev live : ℕ → List ℕ
  live = live_in name before.records

  abbrev k : Compact S
  k = s.stands.0

  is : IsCompact t live k
  is = s.stands.1

  st : StandsCompact M name k w whole
  st = s.stands.2

  x : KeepsUnit t live k u m
  x = keeps t live k is u m found

  abbrev r : Recovering S
  r = m.unit_state

  ready : IsReady r k x.unit
  ready = units_are_ready M name k w whole st u x.unit x.at r x.is.kept x.is.seen

  base_is : x.unit.base.index ≡ r.base
  base_is = (places_are_seen M r x.unit x.is.kept x.is.seen).base

  front_is : f ≡ x.unit.frontier
  front_is = same_Some f x.unit.frontier (sym front ∙ x.is.frontier)

  -- ---- letters

  -- each of these intervals is of the unit, and firm
  abbrev AreFirm : List Interval → Type 0
  AreFirm given = (j : ℕ) (v : Interval) → slice_get given j ≡ Some v
      → (i : ℕ) × (slice_get x.unit.intervals i ≡ Some v) × (x.unit.base.index + i < x.unit.frontier)

  letter_goes : (v : Interval)
      → ((i : ℕ) × (slice_get x.unit.intervals i ≡ Some v) × (x.unit.base.index + i < x.unit.frontier))
      → (letters : List CompactLetter) → Represents M name (record k { letters = letters }) w whole
      → Represents M name (record k { letters = emptied_by letters v.letter }) w whole
  letter_goes v at letters rep = by_letter v.letter refl
    where
      by_content : (l : ℕ) → v.letter ≡ Some l → (o : Option CompactLetter)
          → slice_get letters l ≡ o → Represents M name (record k { letters = emptied_at letters l o }) w whole
      by_content l e None g = rep
      by_content l e (Some c) g = contents_go M name (record k { letters = letters })
          w whole (record { reached = st.reached; represents = rep }) u x.unit x.at at.0 v at.1 at.2 l e c g

      by_letter : (o : Option ℕ)
          → v.letter ≡ o → Represents M name (record k { letters = emptied_by letters o }) w whole
      by_letter None e = rep
      by_letter (Some l) e = by_content l e (slice_get letters l) refl

  letters_go : (given : List Interval)
      → AreFirm given → (letters : List CompactLetter) → Represents M name (record k { letters = letters }) w whole
      → Represents M name (record k { letters = emptied_all letters given }) w whole
  letters_go [] firm letters rep = rep
  letters_go (v ∷ given) firm letters rep = letters_go
      given (λ j y e. firm (suc j) y e) (emptied_by letters v.letter) (letter_goes v (firm 0 v refl) letters rep)

  passed_firm : (base : ℕ) → base < x.unit.frontier → AreFirm (passed r base)
  passed_firm base low j v e =
      let a = get_take (drop 1 r.intervals) (base - r.base) j v e in
      let b = get_drop r.intervals 1 j v a.0 in (
        1 + j,
        ap (λ vs. slice_get vs (1 + j)) x.is.seen.intervals ∙ b,
        let c = a.1 in
            let d = base_is in omega (arith, c, d, low),
      )

  -- ---- the log

  module _ (v : TenantState S) (count : ℕ) (go : LetsGo name m.unit count before after) where
    live_own : live_in name after.records u ≡ drop count (live u)
    live_own =
        sym (places_are after name u)
        ∙ ap (λ n. places_of name n after) (sym x.is.own)
        ∙ go.own
        ∙ ap (λ n. drop count (places_of name n before)) x.is.own
        ∙ ap (drop count) (places_are before name u)

    live_other : (a : ℕ) → (a ≡ u → ⊥) → live_in name after.records a ≡ live a
    live_other a other = live_same before after name a (go.others name a (λ h. other (h.1 ∙ x.is.own)))

    closes : (z : Compact S) → IsCompact v (live_in name after.records) z
        → Represents M name z w whole → Stands M name v w after.records
    closes z is_after rep = closed (record {
      whole = whole ++ [];
      left = go.grows whole s.left;
      stands = (z, is_after, record { reached = st.reached; represents = logs_may_grow M name z w whole [] rep });
    })

  -- ---- the base moves to another snapshot

  module _ (base : ℕ) (has : has_index r.shelf base ≡ true) (low : base ≤ min (f - 1) (places r - 1))
      (other : (base == r.base) ≡ false) (go : LetsGo name m.unit (base - r.base) before after) where
    firm : base < x.unit.frontier
    firm = let a = ready.firm_base in let b = front_is in omega (arith, low, a, b)

    abbrev letters : List CompactLetter
    letters = emptied_all t.letters (passed r base)

    abbrev q : Member S
    q = rebased_member m base

    abbrev v : TenantState S
    v = moved_kept t u m (Some base)

    abbrev emptier : Compact S
    emptier = record k { letters = letters }

    emptier_stands : Represents M name emptier w whole
    emptier_stands = letters_go (passed r base) (passed_firm base firm) t.letters
        (subst (λ (ls : List CompactLetter). Represents M name (record k { letters = ls }) w whole)
        is.letters st.represents)

    to : (i : ℕ) × ((z : Snapshot S)
        × (slice_get x.unit.shelf i ≡ Some z) × (z.index ≡ base) × IsSeen (forgotten r base) (rebased x.unit i z))
    to = forgetting_is_seen M r x.unit x.is.kept x.is.seen base has other

    abbrev y : CompactUnit S
    y = rebased x.unit to.0 to.1.0

    rebased_stands : Represents M name (with_unit_at emptier u y) w whole
    rebased_stands = bases_move M name emptier w whole (record { reached = st.reached; represents = emptier_stands })
        u x.unit x.at to.0 to.1.0 to.1.1 (let a = to.1.2 in let b = firm in omega (arith, a, b))

    kept_after : IsKept (forgotten r base)
    kept_after = subst IsKept (sym (ap (λ b. cond b r (based_on r base)) other))
        (kept_forgotten r base (based_at r.shelf base) (drop (base - r.base) r.intervals)
        x.is.kept (others_have r.shelf r.base base x.is.kept.base other has) refl refl)

    count_is : to.1.0.index - x.unit.base.index ≡ base - r.base
    count_is = λ i. to.1.2 i - base_is i

    one : IsMember v (live_in name after.records) u q y
    one = record {
      kept = kept_after;
      seen = to.1.3;
      own = x.is.own;
      outputs = x.is.outputs;
      known = x.is.known;
      stable = x.is.stable;
      frontier = x.is.frontier;
      released = x.is.released;
      places = subst (λ (n : ℕ). AreLast (drop n x.unit.live) (live_in name after.records u)) (sym count_is)
          (subst (λ (ps : List ℕ). AreLast (drop (base - r.base) x.unit.live) ps)
          (sym (live_own v (base - r.base) go)) (last_dropped x.unit.live (live u) (base - r.base) x.is.places));
    }

    width_is : length (slice_set k.units u y) ≡ length k.units
    width_is = length-set k.units u y

    is_after : IsCompact v (live_in name after.records) (with_unit_at emptier u y)
    is_after = record {
      quota = is.quota;
      optimism = is.optimism;
      table = is.table;
      width = length-set t.members u q ∙ is.width ∙ sym width_is;
      stables = is.stables ∙ sym width_is;
      fronts = is.fronts ∙ sym width_is;
      counts = is.counts ∙ sym width_is;
      lines = is.lines ∙ sym width_is;
      members = λ c n z atn atz. elim (get_set t.members u c q n atn) [
        | inl e ↦ elim (get_set k.units u c y z atz) [
          | inl g ↦ own_stands c n z e.0 e.1 g.1
          | inr g ↦ absurd (g.0 e.0)
        ]
        | inr e ↦ elim (get_set k.units u c y z atz) [
          | inl g ↦ absurd (e.0 g.0)
          | inr g ↦ other_stands c n z e.0 (is.members c n z e.1 g.1)
        ]
      ];
      letters = refl;
    }
      where
        own_stands : (c : ℕ) (n : Member S) (z : CompactUnit S)
            → c ≡ u → n ≡ q → z ≡ y → IsMember v (live_in name after.records) c n z
        own_stands c n z e g h =
            subst (λ (z : CompactUnit S). IsMember v (live_in name after.records) c n z) (sym h)
            (subst (λ (n : Member S). IsMember v (live_in name after.records) c n y) (sym g)
            (subst (λ (c : ℕ). IsMember v (live_in name after.records) c q y) (sym e) one))

        other_stands : (c : ℕ) (n : Member S) (z : CompactUnit S)
            → (c ≡ u → ⊥) → IsMember t live c n z → IsMember v (live_in name after.records) c n z
        other_stands c n z other i = record {
          kept = i.kept;
          seen = i.seen;
          own = i.own;
          outputs = i.outputs;
          known = i.known;
          stable = i.stable;
          frontier = i.frontier;
          released = i.released;
          places = subst (λ (ps : List ℕ). AreLast z.live ps) (sym (live_other v (base - r.base) go c other)) i.places;
        }

    moves : Stands M name v w after.records
    moves = closes v (base - r.base) go (with_unit_at emptier u y) is_after rebased_stands

  -- ---- it stays

  -- what the tenant stands for stays where nothing of it goes
  stays : (v : TenantState S) → v ≡ t → LetsGo name m.unit 0 before after → Stands M name v w after.records
  stays v same go = subst (λ (z : TenantState S). Stands M name z w after.records)
      (sym same) (stands_beside M name t w before.records after.records [] go.grows live_same (closed s))
    where
      live_same : (a : ℕ) → live_in name after.records a ≡ live a
      live_same a = elim (bool_cases (a == u)) [
        | inl h ↦ let e = eq_true a u h in ap (live_in name after.records) e ∙ live_own t 0 go ∙ ap live (sym e)
        | inr h ↦ live_other t 0 go a (λ e. let q = true_eq a u e in cc (q, h))
      ]

  none_moved : moved_kept t u m None ≡ t
  none_moved = ap (λ ms. record t { members = ms }) (set_same t.members u m found)

  same_moved : (base : ℕ) → (base == r.base) ≡ true → moved_kept t u m (Some base) ≡ t
  same_moved base e =
      let none : base - r.base ≡ 0 = let h = eq_true base r.base e in omega (arith, h) in
      (λ i. record t {
        members = slice_set t.members u (record m { unit_state = cond (e i) r (based_on r base) });
        letters = emptied_all t.letters (take (none i) (drop 1 r.intervals));
      })
      ∙ none_moved

  moved_by : (o : Option ℕ) → next_base r f ≡ o
      → LetsGo name m.unit (given_up r o) before after → Stands M name (moved_kept t u m o) w after.records
  moved_by None e go = stays (moved_kept t u m None) none_moved go
  moved_by (Some base) e go =
      let n = next_is r f base e in
      elim (bool_cases (base == r.base)) [
        | inl h ↦ stays (moved_kept t u m (Some base)) (same_moved base h)
            (subst (λ (c : ℕ). LetsGo name m.unit c before after) (let q = eq_true base r.base h in
            let z : base - r.base ≡ 0 = omega (arith, q) in z) go)
        | inr h ↦ moves base n.0 n.1 h go
      ]

  -- it does where a unit's base moves on as far as it is firm
  pub moved_stands : (v : TenantState S) → v ≡ moved_kept t u m (next_base r f)
      → LetsGo name m.unit (given_up r (next_base r f)) before after → Stands M name v w after.records
  moved_stands v is_moved go =
      subst (λ (z : TenantState S). Stands M name z w after.records) (sym is_moved) (moved_by (next_base r f) refl go)

-- ---- beside it

-- A log that stays as it was takes no record, and keeps those of other tenants live.
pub beside_same : (name : List ℕ) (log : Logged) → IsBeside name log log
beside_same name log =
    record { others = λ other u differs. refl; grows = same_grows log.records log.records refl; failures = refl }

-- one after the other
pub grows_then : (a b c : List (Option Record)) (grown : List Record) → Grows a grown b → Grows b [] c → Grows a grown c
grows_then a b c grown g h =
    λ whole left. subst (λ ws. IsLeftOf c ws) (append-nil (whole ++ grown)) (h (whole ++ grown) (g whole left))

-- Two changes of a log that each keep other tenants' records and take none do so together.
pub beside_then : (name : List ℕ) (a b c : Logged) → IsBeside name a b → IsBeside name b c → IsBeside name a c
beside_then name a b c g h = record {
  others = λ other u differs. h.others other u differs ∙ g.others other u differs;
  grows = grows_then a.records b.records c.records [] g.grows h.grows;
  failures = h.failures ∙ g.failures;
}

-- A log that lets first records of one unit go keeps those of other tenants, and takes none.
pub lets_beside : (name : List ℕ) (u count : ℕ) (before after : Logged)
    → LetsGo name u count before after → IsBeside name before after
lets_beside name u count before after go = record {
  others = λ other v differs. go.others other v (λ h. let is : bytes_eq other name ≡ true =
      (bytes_eq-Decides other name).1 h.0 in cc (is, differs));
  grows = go.grows;
  failures = go.failures;
}

-- what another tenant stands for stays
pub beside_stands : {S : Type 0} (M : Meaning S)
    (name other : List ℕ) (t : TenantState S) (w : World) (before after : Logged) → IsBeside name before after
    → bytes_eq other name ≡ false → Stands M other t w before.records → Stands M other t w after.records
beside_stands M name other t w before after b differs s =
    stands_beside M other t w before.records
    after.records [] b.grows (λ u. live_same before after other u (b.others other u differs)) s

-- a step was done, and then what it left goes on to something that stands for the same world
pub did_then : {S : Type 0} (M : Meaning S) (name : List ℕ) (w : World) (k v : TenantState S) (step : TenantStep)
    (said : Said) (answer : Reply) (before mid after : Logged) → Did M name w k step said answer before mid
    → ((z : World) → Stands M name k z mid.records → Stands M name v z after.records)
    → IsBeside name mid after → Did M name w v step said answer before after
did_then M name w k v step said answer before mid after d stands b = record {
  steps = (d.steps.0, d.steps.1, stands d.steps.0 d.steps.2);
  logs = record {
    honest = (
      d.logs.honest.0,
      grows_then before.records mid.records after.records d.logs.honest.0 d.logs.honest.1 b.grows,
      d.logs.honest.2,
    );
    device = λ e. subst (λ (n : ℕ). HasRisen before.failures n) (sym b.failures) (d.logs.device e);
  };
}

-- ---- letters, one after another

next_at : (xs : List Interval) (i j : ℕ) (v : Interval)
    → j ≡ suc i → slice_get xs j ≡ Some v → slice_get (drop 1 xs) i ≡ Some v
next_at [] i j v e h = absurd (cc h)
next_at (x ∷ xs) i j v e h = ap (slice_get (x ∷ xs)) (sym e) ∙ h

-- Emptying one more interval's letter leaves the letters emptied up to that interval.
pub passed_one : (letters : List CompactLetter) (intervals : List Interval) (base index : ℕ)
    → base ≤ index → (v : Interval) → slice_get intervals (index + 1 - base) ≡ Some v
    → emptied_by (emptied_all letters (take (index - base) (drop 1 intervals)))
    v.letter ≡ emptied_all letters (take (index + 1 - base) (drop 1 intervals))
passed_one letters intervals base index low v at =
    let xs = drop 1 intervals in
    let n = index - base in
    let next : index + 1 - base ≡ suc n = omega (arith, low) in
    let more : n + 1 ≡ index + 1 - base = omega (arith, low) in
    sym (fold-append (λ ls (i : Interval). emptied_by ls i.letter) letters (take n xs) (v ∷ []))
    ∙ ap (emptied_all letters) (sym (take_one xs n v (next_at intervals n (index + 1 - base) v next at))
    ∙ ap (λ c. take c xs) more)

-- the end of the walk
pub passed_all : (index base from : ℕ) → from ≤ index
    → (base ≤ from → index ≤ from) → base ≤ index → (from ≤ base → index ≤ base) → index - from ≡ base - from
passed_all index base from a b d e = elim (dec_le base from) [
  | yes q ↦ let h = b q in omega (arith, a, h, q)
  | no q ↦ let h = e (omega (arith, q)) in omega (arith, d, h)
]
