-- A unit's base moves, and the tenant keeps what the rules leave.
use Rattle.std.proofs.Common.{◌≡◌, inl, inr, refl, sym, ◌∙◌, ap, subst, ℕ, zero, suc, ◌+◌, ◌-◌, ◌<◌, ◌≤◌, Bool, true}
use Rattle.std.proofs.Common.{false, cond, ◌||◌, List, [], ◌∷◌, ◌++◌, length, take, drop, arith, map}
use Rattle.std.specs.Prelude.{Option, Some, None, slice_get, slice_set, is_none, ◌==◌}
use Rattle.std.specs.List.{list_any}
use Rattle.std.proofs.lemmas.List.{drop-drop, drop-map, map-set, take-map}
use Rattle.std.proofs.lemmas.List.Folds.{list_any-append}
use Rattle.std.proofs.lemmas.Option.{slice_get_past, slice_get_within, same_Some}
use native.Mathlib.Decide.{dec_lt, ℕ_discrete}
use Rattle.model.specs.declared.records.Record.{Record}
use Rattle.model.specs.Handler.{Meaning}
use Rattle.model.specs.Keeping.{Shelf, all_based, based, changed, changed_if, firm_length, received_at}
use Rattle.model.specs.Keeping.{received_for_good, receives}
use Rattle.model.specs.Nodes.{Cause, Node, began, letter, node_at, outside}
use Rattle.model.specs.Records.{letter_of}
use Rattle.model.specs.World.{Member, World}
use Rattle.model.proofs.Places.{get_below}
use Rattle.theory.proofs.Certificate.{Invariant, reachable_invariant}
use Rattle.theory.proofs.ListLaws.{any_none, at_map, bool_cases, eq_true, get_drop, get_set, get_take}
use Rattle.theory.proofs.ListLaws.{set_get_other, set_get_same, true_eq, or_false}
use Rattle.layer_laws.specs.Laws.{frontier}
use Rattle.compact.specs.Compact.{Compact, Interval, IsUnit, CompactLetter, interval_of}
use Rattle.compact.specs.Forgetting.{without_content}
use Rattle.compact.specs.StepLaws.{StandsCompact}
use Rattle.rollback.specs.Units.{Recovering, based_on, forgotten}
use Rattle.rollback_laws.proofs.Places.{places_are_seen}
use Rattle.tenant.specs.Bases.{emptied_all, emptied_at, emptied_by, moved_kept, next_base, passed}
use Rattle.tenant.specs.Past.{IsKeeping, KeepsPast, based_one, shelf_of}
use Rattle.tenant.specs.Kept.{TenantState, Member as MemberOf}
use Rattle.tenant.specs.Represents.{IsCompact}
use Rattle.tenant.specs.Stands.{IsStanding, Stands, live_in}
use Rattle.tenant.proofs.Follow.{KeepsUnit, keeps}
use Rattle.tenant.proofs.Moving.{not_back}
use Rattle.tenant.proofs.Lasting.{past_closed, past_opened}
use Rattle.tenant.proofs.Shelves.{based_is, next_there}
use Rattle.tenant.proofs.Standing.{opened}

-- ---- letters

-- the letter is this one
abbrev is_of : ℕ → Option ℕ → Bool
is_of l None = false
is_of l (Some n) = n == l

or_true : (b : Bool) → true ≡ (b || true)
or_true true = refl
or_true false = refl

or_then : (a b c : Bool) → ((a || b) || c) ≡ (a || (b || c))
or_then true b c = refl
or_then false b c = refl

is_not : (n l : ℕ) → (n ≡ l → ⊥) → (n == l) ≡ false
is_not n l h = elim (bool_cases (n == l)) [ inl e ↦ absurd (h (eq_true n l e)) | inr e ↦ e ]

-- a letter after some gave up their contents, and as it was before
pub record Was (letters : List CompactLetter) (l : ℕ) (c : CompactLetter) (gone : Bool) : Type 0 where
  pub was : CompactLetter
  pub at : slice_get letters l ≡ Some was
  pub receiver : c.receiver ≡ was.receiver
  pub content : is_none c.content ≡ (is_none was.content || gone)

was_by : (letters : List CompactLetter) (o : Option ℕ) (l : ℕ) (c : CompactLetter)
    → slice_get (emptied_by letters o) l ≡ Some c → Was letters l c (is_of l o)
was_by letters None l c e = record { was = c; at = e; receiver = refl; content = or_false (is_none c.content) }
was_by letters (Some n) l c e = go (slice_get letters n) refl e
  where
    go : (o : Option CompactLetter) → slice_get letters n ≡ o
        → slice_get (emptied_at letters n o) l ≡ Some c → Was letters l c (n == l)
    go None f e =
        let other : (n == l) ≡ false = is_not n l (λ same. let none : slice_get letters l ≡ None =
        ap (slice_get letters) (sym same) ∙ f in cc (none, e)) in
        record {
          was = c;
          at = e;
          receiver = refl;
          content = or_false (is_none c.content) ∙ ap (λ b. is_none c.content || b) (sym other);
        }
    go (Some d) f e = elim (get_set letters n l (without_content d) c e) [
      | inl h ↦
          let same : (n == l) ≡ true = true_eq n l (sym h.0) in
          record {
            was = d;
            at = ap (slice_get letters) h.0 ∙ f;
            receiver = ap (λ (x : CompactLetter). x.receiver) h.1;
            content = ap (λ (x : CompactLetter). is_none x.content) h.1
                ∙ or_true (is_none d.content) ∙ ap (λ b. is_none d.content || b) (sym same);
          }
      | inr h ↦
          let other : (n == l) ≡ false = is_not n l (λ same. h.0 (sym same)) in
          record {
            was = c;
            at = h.1;
            receiver = refl;
            content = or_false (is_none c.content) ∙ ap (λ b. is_none c.content || b) (sym other);
          }
    ]

was_all : (letters : List CompactLetter) (given : List Interval) (l : ℕ) (c : CompactLetter)
    → slice_get (emptied_all letters given) l ≡ Some c → Was letters l c (list_any (λ i. is_of l i.letter) given)
was_all letters [] l c e = record { was = c; at = e; receiver = refl; content = or_false (is_none c.content) }
was_all letters (v ∷ given) l c e =
    let mid = was_all (emptied_by letters v.letter) given l c e in
    let first = was_by letters v.letter l mid.was mid.at in
    let rest = list_any (λ i. is_of l i.letter) given in
    record {
      was = first.was;
      at = first.at;
      receiver = mid.receiver ∙ first.receiver;
      content = mid.content ∙ ap (λ b. b || rest) first.content
          ∙ or_then (is_none first.was.content) (is_of l v.letter) rest;
    }

-- ---- intervals

is_received : (c : Cause) (l : ℕ) → is_of l (letter_of c) ≡ receives l c
is_received began l = refl
is_received (outside number text) l = refl
is_received (letter n s) l = refl

any_of : (nodes : List Node) (places : List ℕ) (l : ℕ)
    → list_any (λ (i : Interval). is_of l i.letter) (map (interval_of nodes) places) ≡ received_at nodes places l
any_of nodes [] l = refl
any_of nodes (x ∷ places) l = let rest = any_of nodes places l in λ j. is_received (node_at nodes x).cause l j || rest j

-- a longer front
no_more : (k : ℕ) → take {A = ℕ} k [] ≡ []
no_more zero = refl
no_more (suc k) = refl

take_more : (path : List ℕ) (a n : ℕ) → take (a + n) path ≡ take a path ++ take n (drop a path)
take_more path zero n = (let e : 0 + n ≡ n = omega arith in ap (λ k. take k path) e)
take_more [] (suc a) n = no_more (suc a + n) ∙ ap (λ xs. [] ++ xs) (sym (no_more n))
take_more (x ∷ path) (suc a) n = (let e : suc a + n ≡ suc (a + n) = omega arith in ap (λ k. take k (x ∷ path)) e)
    ∙ ap (λ ys. x ∷ ys) (take_more path a n)

-- ---- one unit's base moves

module _ {S : Type 0} (M : Meaning S) (name : List ℕ) (t : TenantState S) (w : World) (records : List (Option Record))
    (s : IsStanding M name t w records) (u : ℕ) (m : MemberOf S) (found : slice_get t.members u ≡ Some m)
    (f : ℕ) (front : slice_get t.frontiers u ≡ Some f) (shelves : List Shelf) (kept : IsKeeping t w shelves) where
  abbrev k : Compact S
  k = s.stands.0

  is : IsCompact t (live_in name records) k
  is = s.stands.1

  st : StandsCompact M name k w s.whole
  st = s.stands.2

  g : Invariant M w
  g = reachable_invariant M st.reached

  abbrev r : Recovering S
  r = m.unit_state

  x : KeepsUnit t (live_in name records) k u m
  x = keeps t (live_in name records) k is u m found

  pub world_unit : (q : Member) × (slice_get w.members u ≡ Some q)
  world_unit = get_below w.members u (let width = st.represents.width in
      let a = slice_get_within k.units u x.unit x.at in omega (arith, a, width))

  abbrev q : Member
  q = world_unit.0

  here : IsUnit M name w s.whole q x.unit
  here = st.represents.units u q x.unit world_unit.1 x.at

  base_is : x.unit.base.index ≡ r.base
  base_is = (places_are_seen M r x.unit x.is.kept x.is.seen).base

  front_is : f ≡ frontier w q
  front_is = same_Some f x.unit.frontier (sym front ∙ x.is.frontier) ∙ here.front

  low : r.base < f
  low = let a = here.firm_base in let b = base_is in let c = front_is in omega (arith, a, b, c)

  shelved : slice_get shelves u ≡ Some (shelf_of m.first_put r)
  shelved = ap (λ ss. slice_get ss u) (sym kept.shelved)
      ∙ at_map (λ (n : MemberOf S). shelf_of n.first_put n.unit_state) t.members u m found

  module _ (base : ℕ) (next : next_base r f ≡ Some base) where
    abbrev given : List Interval
    given = passed r base

    given_is : given ≡ map (interval_of w.nodes) (take (base - r.base) (drop (suc r.base) q.path))
    given_is =
        ap (λ is. take (base - r.base) (drop 1 is)) (sym x.is.seen.intervals ∙ here.intervals)
        ∙ ap (take (base - r.base)) (drop-map (interval_of w.nodes) 1 (drop x.unit.base.index q.path)
        ∙ ap (map (interval_of w.nodes)) (drop-drop 1 x.unit.base.index q.path ∙ ap (λ n. drop n q.path) (let b =
        base_is in let e : x.unit.base.index + 1 ≡ suc r.base = omega (arith, b) in e)))
        ∙ take-map (interval_of w.nodes) (base - r.base) (drop (suc r.base) q.path)

    given_any : (l : ℕ) → list_any (λ (i : Interval). is_of l i.letter)
        given ≡ received_at w.nodes (take (base - r.base) (drop (suc r.base) q.path)) l
    given_any l = ap (list_any (λ (i : Interval). is_of l i.letter)) given_is
        ∙ any_of w.nodes (take (base - r.base) (drop (suc r.base) q.path)) l

    later_base : r.base ≤ base → (l : ℕ) → received_at w.nodes (take (suc base) q.path)
        l ≡ (received_at w.nodes (take (suc r.base) q.path) l || list_any (λ (i : Interval). is_of l i.letter) given)
    later_base h l =
        ap (λ n. received_at w.nodes (take n q.path) l)
        (let e : suc base ≡ suc r.base + (base - r.base) = omega (arith, h) in e)
        ∙ ap (λ xs. received_at w.nodes xs l) (take_more q.path (suc r.base) (base - r.base))
        ∙ list_any-append (λ y. receives l (node_at w.nodes y).cause)
        (take (suc r.base) q.path) (take (base - r.base) (drop (suc r.base) q.path))
        ∙ ap (λ b. received_at w.nodes (take (suc r.base) q.path) l || b) (sym (given_any l))

    -- a letter to another unit was not received there
    cause_of : (y l : ℕ) → receives l (node_at w.nodes y).cause ≡ true
        → (a : ℕ) × ((node_at w.nodes y).cause ≡ letter l a)
    cause_of y l e = go (node_at w.nodes y).cause e
      where
        go : (c : Cause) → receives l c ≡ true → (a : ℕ) × (c ≡ letter l a)
        go began e = absurd (cc e)
        go (outside number text) e = absurd (cc e)
        go (letter n a) e = (a, ap (λ i. letter i a) (eq_true n l e))

    other_none : (l : ℕ) (c : CompactLetter) → slice_get t.letters l ≡ Some c
        → (c.receiver ≡ u → ⊥) → list_any (λ (i : Interval). is_of l i.letter) given ≡ false
    other_none l c at other = given_any l ∙ any_none (λ y. receives l (node_at w.nodes y).cause) (take (base - r.base)
        (drop (suc r.base) q.path)) (λ i y e. elim (bool_cases (receives l (node_at w.nodes y).cause)) [
          | inr h ↦ h
          | inl h ↦
              let on = get_drop q.path (suc r.base) i y (get_take (drop (suc r.base) q.path) (base - r.base) i y e).0 in
              let o = g.chain.sound.units u q world_unit.1 in
              let a = cause_of y l h in
              let b = g.numbered y l a.0 (o.made (suc r.base + i) y on) a.1 in
              let letter_is = st.represents.letters l b.msg c b.made (ap (λ ls. slice_get ls l) is.letters ∙ at) in
              absurd (other (letter_is.receiver ∙ b.receiver ∙ o.own (suc r.base + i) y on))
        ])

    abbrev v : TenantState S
    v = moved_kept t u m (Some base)

    abbrev moved_shelves : List Shelf
    moved_shelves = slice_set shelves u (based f (shelf_of m.first_put r))

    based_to : shelf_of m.first_put (forgotten r base) ≡ based f (shelf_of m.first_put r)
    based_to = based_is r m.first_put x.is.kept f low base next

    base_to : (shelf_of m.first_put (forgotten r base)).base ≡ base
    base_to = go (base == r.base) refl
      where
        go : (b : Bool) → (base == r.base) ≡ b → (shelf_of m.first_put (cond b r (based_on r base))).base ≡ base
        go true e = sym (eq_true base r.base e)
        go false e = refl

    not_lower : r.base ≤ base
    not_lower = not_back r x.is.kept f base next

    own_letter : (l : ℕ) (c : CompactLetter) → Was t.letters l c (list_any (λ (i : Interval). is_of l i.letter) given)
        → c.receiver ≡ u → (z : Shelf) → z ≡ based f (shelf_of m.first_put r)
        → is_none c.content ≡ received_for_good w q z l
    own_letter l c was to z same =
        let to_unit : was.was.receiver ≡ u = sym was.receiver ∙ to in
        let before = kept.letters l was.was q (shelf_of m.first_put r) was.at (ap (slice_get w.members) to_unit
        ∙ world_unit.1) (ap (slice_get shelves) to_unit ∙ shelved) in
        let moved_base : z.base ≡ base = ap (λ (y : Shelf). y.base) (same ∙ sym based_to) ∙ base_to in
        was.content
        ∙ ap (λ b. b || list_any (λ (i : Interval). is_of l i.letter) given) before
        ∙ sym (later_base not_lower l)
        ∙ ap (λ b. received_at w.nodes (take (suc b) q.path) l) (sym moved_base)

    pub moved_keeping : IsKeeping v w moved_shelves
    moved_keeping = record {
      shelved =
          map-set (λ (n : MemberOf S). shelf_of n.first_put n.unit_state) t.members u
          (record m { unit_state = forgotten r base })
          ∙ (λ j. slice_set (kept.shelved j) u (based_to j));
      letters = λ l c n z at after own.
          let was = was_all t.letters given l c at in
          elim (ℕ_discrete c.receiver u) [
            | yes to ↦
                let same_unit : q ≡ n = same_Some q n (sym world_unit.1 ∙ ap (slice_get w.members) (sym to) ∙ after) in
                let own_shelf : z ≡ based f (shelf_of m.first_put r) =
                sym (same_Some (based f (shelf_of m.first_put r)) z (sym (set_get_same shelves u (based f
                (shelf_of m.first_put r))
                (shelf_of m.first_put r) shelved) ∙ ap (slice_get moved_shelves) (sym to) ∙ own)) in
                own_letter l c was to z own_shelf ∙ ap (λ (y : Member). received_for_good w y z l) same_unit
            | no other ↦
                let away : was.was.receiver ≡ u → ⊥ = λ e. other (was.receiver ∙ e) in
                let own_before : slice_get shelves was.was.receiver ≡ Some z =
                sym (set_get_other shelves u was.was.receiver (based f (shelf_of m.first_put r)) away)
                ∙ ap (slice_get moved_shelves) (sym was.receiver) ∙ own in
                was.content
                ∙ ap (λ b. is_none was.was.content || b) (other_none l was.was was.at away)
                ∙ sym (or_false (is_none was.was.content))
                ∙ kept.letters l was.was n z was.at (ap (slice_get w.members) (sym was.receiver) ∙ after) own_before
          ];
    }

  -- Its base moves as far as it is firm.
  moved_to : (o : Option ℕ) → next_base r f ≡ o
      → IsKeeping (moved_kept t u m o) w (slice_set shelves u (based f (shelf_of m.first_put r)))
  moved_to None e = absurd (next_there r m.first_put x.is.kept f low e)
  moved_to (Some base) e = moved_keeping base e

  pub moved_keeps : (v : TenantState S)
      → v ≡ moved_kept t u m (next_base r f) → IsKeeping v w (changed (based (firm_length w q)) u shelves)
  moved_keeps v same =
      subst (λ (ss : List Shelf). IsKeeping v w ss) ((λ j. slice_set shelves u (based (front_is j)
      (shelf_of m.first_put r)))
      ∙ ap (changed_if (based (firm_length w q)) u shelves) (sym shelved))
      (subst (λ (z : TenantState S). IsKeeping z w (slice_set shelves u (based f (shelf_of m.first_put r))))
      (sym same) (moved_to (next_base r f) refl))

-- ---- all units, one after another

shifted : (f : Shelf → Shelf) (u : ℕ) (s : Shelf) (rest : List Shelf)
    → s ∷ changed f u rest ≡ changed f (suc u) (s ∷ rest)
shifted f u s rest = go (slice_get rest u)
  where
    go : (o : Option Shelf) → s ∷ changed_if f u rest o ≡ changed_if f (suc u) (s ∷ rest) o
    go None = refl
    go (Some r) = refl

-- one more of them
pub based_more : (w : World) (u : ℕ) (members : List Member) (shelves : List Shelf) → all_based
    w (take (suc u) members) shelves ≡ based_one w u (slice_get members u) (all_based w (take u members) shelves)
based_more w zero [] shelves = refl
based_more w (suc u) [] shelves = refl
based_more w zero (m ∷ members) [] = refl
based_more w zero (m ∷ members) (s ∷ shelves) = refl
based_more w (suc u) (m ∷ members) [] = go (slice_get members u)
  where
    go : (o : Option Member) → [] ≡ based_one w (suc u) o []
    go None = refl
    go (Some q) = refl
based_more w (suc u) (m ∷ members) (s ∷ shelves) =
    ap (λ rest. based (firm_length w m) s ∷ rest) (based_more w u members shelves)
    ∙ go (slice_get members u) (based (firm_length w m) s) (all_based w (take u members) shelves)
  where
    go : (o : Option Member) (first : Shelf) (rest : List Shelf)
        → first ∷ based_one w u o rest ≡ based_one w (suc u) o (first ∷ rest)
    go None first rest = refl
    go (Some q) first rest = shifted (based (firm_length w q)) u first rest

module _ {S : Type 0} (M : Meaning S) (name : List ℕ) (t : TenantState S) (w : World) (records : List (Option Record))
    (s : Stands M name t w records) (u : ℕ) (shelves : List Shelf) (kept : KeepsPast t w shelves) where
  -- the unit at this place forgot
  pub one_keeps : (m : MemberOf S) (f : ℕ)
      → slice_get t.members u ≡ Some m → slice_get t.frontiers u ≡ Some f → (v : TenantState S)
      → v ≡ moved_kept t u m (next_base m.unit_state f) → KeepsPast v w (based_one w u (slice_get w.members u) shelves)
  one_keeps m f found front v same =
      let k = moved_keeps M name t w records (opened s) u m found f front shelves (past_opened kept) v same in
      let q = world_unit M name t w records (opened s) u m found f front shelves (past_opened kept) in
      past_closed (subst (λ (o : Option Member). IsKeeping v w (based_one w u o shelves)) (sym q.1) k)

  -- there is none at this place
  pub none_keeps : ((u < length t.members) → (u < length t.frontiers) → ⊥)
      → KeepsPast t w (based_one w u (slice_get w.members u) shelves)
  none_keeps none =
      let is = (opened s).stands.1 in
      let a = is.width in
      let b = is.fronts in
      let c = (opened s).stands.2.represents.width in
      let high : length w.members ≤ u = elim (dec_lt u (length w.members)) [
        | yes h ↦
            absurd (none (omega (arith, a, c, h)) (omega (arith, b, c, h)))
        | no h ↦ omega (arith, h)
      ] in
      subst
      (λ (o : Option Member). KeepsPast t w (based_one w u o shelves)) (sym (slice_get_past w.members u high)) kept
