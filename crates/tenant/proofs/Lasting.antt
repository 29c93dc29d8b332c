-- What was received up to a base stays so over a step, and so does what a tenant keeps of its past.
use Rattle.std.proofs.Common.{◌≡◌, ◌⊎◌, inl, inr, refl, sym, ◌∙◌, ap, ℕ, zero, suc, ◌-◌, ◌<◌, ◌≤◌, Bool, true, false}
use Rattle.std.proofs.Common.{cond, ◌||◌, List, [], ◌∷◌, ◌++◌, length, take, arith}
use Rattle.std.specs.Prelude.{Option, Some, None, slice_get, is_none, ◌==◌}
use Rattle.std.specs.List.{list_any}
use Rattle.std.proofs.lemmas.Option.{slice_get_within, same_Some}
use Rattle.std.proofs.lemmas.Bool.Decides.{nat_tests}
use Rattle.std.proofs.lemmas.List.{length-map}
use native.Mathlib.Decide.{dec_lt}
use Rattle.model.specs.declared.records.Record.{Record}
use Rattle.model.specs.declared.replies.Reply.{Reply}
use Rattle.model.specs.declared.replies.Said.{Said}
use Rattle.model.specs.declared.steps.TenantStep.{TenantStep}
use Rattle.model.specs.Alone.{Reachable, step_open}
use Rattle.model.specs.Alone.Reachable.{stepped}
use Rattle.model.specs.Handler.{Meaning}
use Rattle.model.specs.Keeping.{Shelf, changed, changed_if, first_shelf, marked, put, with_room, received_at}
use Rattle.model.specs.Keeping.{received_for_good, receives}
use Rattle.model.specs.Lists.{has}
use Rattle.model.specs.Nodes.{Cause, Message, Node, began, letter, node_at, outside, parents, place_before, sender_of}
use Rattle.model.specs.Steps.{Outcome}
use Rattle.model.specs.World.{Member, World, executed, is_firm}
use Rattle.model.proofs.Places.{get_below}
use Rattle.theory.proofs.Certificate.{Invariant, reachable_invariant}
use Rattle.theory.proofs.Changes.{Change, step_changes}
use Rattle.theory.proofs.Firm.{firm_change}
use Rattle.theory.proofs.ListLaws.{any_none, append_get, at_map, get_append, get_append_any, get_set, get_take}
use Rattle.theory.proofs.ListLaws.{take_get, take_while_le}
use Rattle.theory.proofs.Released.{firm_on, nodes_kept}
use Rattle.layer_laws.specs.Laws.{frontier}
use Rattle.compact.proofs.Tails.{before_frontier}
use Rattle.rollback_laws.proofs.Places.{places_are_seen}
use Rattle.compact.specs.Compact.{Content, IsContent, IsLetter, CompactLetter}
use Rattle.tenant.specs.Past.{IsKeeping, KeepsPast, Shelves, shelf_of, shelves_of}
use Rattle.tenant.specs.Kept.{TenantState, Member as MemberOf}
use Rattle.tenant.specs.Outcomes.{done}
use Rattle.tenant.specs.Stands.{IsStanding, live_in}
use Rattle.tenant.proofs.Reading.{stands_at}

-- ---- closed, and opened for the proofs of this crate

-- That a tenant keeps what is left of its past can be opened.
pub past_opened : {S : Type 0} {t : TenantState S} {w : World} {shelves : List Shelf}
    → KeepsPast t w shelves → IsKeeping t w shelves
unfolding KeepsPast
past_opened k = k

-- That a tenant keeps what is left of its past can be closed again.
pub past_closed : {S : Type 0} {t : TenantState S} {w : World} {shelves : List Shelf}
    → IsKeeping t w shelves → KeepsPast t w shelves
unfolding KeepsPast
past_closed k = k

-- ---- lists

-- two fronts of which each place passes alike
any_same : (p q : ℕ → Bool) (n : ℕ) (xs ys : List ℕ) → n ≤ length xs → ((i x : ℕ) → i < n → slice_get xs i ≡ Some x
    → (slice_get ys i ≡ Some x) × (p x ≡ q x)) → list_any p (take n xs) ≡ list_any q (take n ys)
any_same p q zero xs ys h f = refl
any_same p q (suc n) [] ys h f = absurd (omega (arith, h))
any_same p q (suc n) (x ∷ xs) [] h f = absurd (let a = (f 0 x (omega arith) refl).0 in cc a)
any_same p q (suc n) (x ∷ xs) (y ∷ ys) h f =
    let a = f 0 x (omega arith) refl in
    let same : y ≡ x = same_Some y x a.0 in
    let rest = any_same p q n xs ys (omega (arith, h)) (λ i z l e. f (suc i) z (omega (arith, l)) e) in
    (λ j. a.1 j || rest j) ∙ ap (λ z. q z || list_any q (take n ys)) (sym same)

-- ---- worlds

-- who depends on nothing received nothing
none_from : (n : Node) (l : ℕ) → parents n ≡ [] → receives l n.cause ≡ false
none_from n l e = go (place_before n.before) n.cause e
  where
    go : (before : List ℕ) (c : Cause) → before ++ sender_of c ≡ [] → receives l c ≡ false
    go before began e = refl
    go before (outside number text) e = refl
    go [] (letter m sender) e = absurd (cc e)
    go (b ∷ before) (letter m sender) e = absurd (cc e)

-- nor does a cause whose letters are all of lower numbers
none_above : (c : Cause) (l n : ℕ) → n ≤ l → ((m s : ℕ) → c ≡ letter m s → m < n) → receives l c ≡ false
none_above began l n h f = refl
none_above (outside number text) l n h f = refl
none_above (letter m s) l n h f = let low = f m s refl in grind (arith, nat_tests)

module _ {S : Type 0} (M : Meaning S)
    (w : World) (g : Invariant M w) (u : ℕ) (m : Member) (found : slice_get w.members u ≡ Some m) where
  -- a letter that was not made is received by no interval
  pub unmade : (n l : ℕ) → length (executed M w).letters ≤ l → received_at w.nodes (take n m.path) l ≡ false
  unmade n l h = any_none (λ x. receives l (node_at w.nodes x).cause) (take n m.path) (λ i x e.
      let s = g.chain.sound.units u m found in
      let on = (get_take m.path n i x e).0 in
      none_above (node_at w.nodes x).cause l (length (executed M w).letters) h (λ c a is.
      let b = g.numbered x c a (s.made i x on) is in slice_get_within (executed M w).letters c b.msg b.made))

  -- nor is any by a beginning
  pub first_none : (l : ℕ) → received_at w.nodes (take 1 m.path) l ≡ false
  first_none l = any_none (λ x. receives l (node_at w.nodes x).cause) (take 1 m.path) (λ i x e.
      let s = g.chain.sound.units u m found in
      let a = get_take m.path 1 i x e in
      let low = a.1 in
      let zero_is : i ≡ 0 = omega (arith, low) in
      none_from (node_at w.nodes x) l (s.first x (ap (slice_get m.path) (sym zero_is) ∙ a.0)))

module _ {S : Type 0} (M : Meaning S) (v w : World) (g : Invariant M v) (g' : Invariant M w) (c : Change M v w)
    (u : ℕ) (m n : Member) (found : slice_get v.members u ≡ Some m) (after : slice_get w.members u ≡ Some n) where
  -- a firm interval stays in its place
  stays : (i x : ℕ) → i < frontier v m
      → slice_get m.path i ≡ Some x → (slice_get n.path i ≡ Some x) × (node_at w.nodes x ≡ node_at v.nodes x)
  stays i x low on =
      let s = g.chain.sound.units u m found in
      let within = s.made i x on in
      let k = nodes_kept M c x within in
      let firm = firm_change M
      g.chain.sound c x within (before_frontier v m i x (take_get m.path (frontier v m) i x low on)).1 in (
        (firm_on w g'.chain.sound u i x n after k.0 firm (ap (λ z. z.unit) k.1
            ∙ s.own i x on) (ap (λ z. z.index) k.1 ∙ s.indexed i x on)).0,
        k.1,
      )

  -- so whether a letter was received for good is as it was
  pub received_stays : (base l : ℕ) → base < frontier v m
      → received_at v.nodes (take (suc base) m.path) l ≡ received_at w.nodes (take (suc base) n.path) l
  received_stays base l low =
      any_same (λ x. receives l (node_at v.nodes x).cause)
      (λ x. receives l (node_at w.nodes x).cause) (suc base) m.path n.path
      (let a = take_while_le (is_firm v) m.path in omega (arith, a, low))
      (λ i x h on. let s = stays i x (omega (arith, h, low)) on in (s.0, ap (λ z. receives l z.cause) (sym s.1)))

-- ---- a tenant over a step that moves no base

-- Each shelf has the base that it had, or is a new one, of a unit at its beginning.
abbrev pub SameBases : (List Shelf → List Shelf) → Type 0
SameBases change = (shelves : List Shelf) (u : ℕ) (s : Shelf) → slice_get (change shelves) u ≡ Some s
    → ((r : Shelf) × (slice_get shelves u ≡ Some r) × (r.base ≡ s.base)) ⊎ ((length shelves ≤ u) × (s.base ≡ 0))

module _ {S : Type 0} (M : Meaning S) (name : List ℕ)
    (t v : TenantState S) (w z : World) (records : List (Option Record)) (standing : IsStanding M name t w records)
    (step : TenantStep) (said : Said) (reply : Reply) (stepped_to : step_open M w step said ≡ done reply z)
    (shelves : List Shelf) (keeping : IsKeeping t w shelves)
    (change : List Shelf → List Shelf) (bases : SameBases change) (made : Shelves change t v) where
  reached : Reachable M w
  reached = standing.stands.2.reached

  to : (step_open M w step said).world ≡ Some z
  to = ap (λ (o : Outcome). o.world) stepped_to

  g : Invariant M w
  g = reachable_invariant M reached

  g' : Invariant M z
  g' = reachable_invariant M (stepped (record { step = step; said = said }) reached to)

  moved : Change M w z
  moved = step_changes M w z step said to

  width : length shelves ≡ length w.members
  width =
      let a = standing.stands.1.width in
      let b = standing.stands.2.represents.width in
      let c : length (shelves_of t) ≡ length t.members =
      length-map t.members (λ (m : MemberOf S). shelf_of m.first_put m.unit_state) in
      ap length (sym keeping.shelved) ∙ c ∙ a ∙ b

  count : length t.letters ≡ length (executed M w).letters
  count = ap length (sym standing.stands.1.letters) ∙ standing.stands.2.represents.sent

  -- the unit of a shelf, whose base is firm
  of_shelf : (u : ℕ) (s : Shelf)
      → slice_get shelves u ≡ Some s → (m : Member) × (slice_get w.members u ≡ Some m) × (s.base < frontier w m)
  of_shelf u s at =
      let m = get_below w.members u (let a = slice_get_within shelves u s at in let b = width in omega (arith, a, b)) in
      let x = stands_at M name (live_in name records) t w standing.whole standing.stands u m.0 m.1 in
      let own : shelf_of x.member.first_put x.member.unit_state
      ≡ s = same_Some (shelf_of x.member.first_put x.member.unit_state) s
      (sym (at_map (λ (n : MemberOf S). shelf_of n.first_put n.unit_state) t.members u x.member x.found)
      ∙ ap (λ ss. slice_get ss u) keeping.shelved ∙ at) in
      let base : x.member.unit_state.base ≡ s.base = ap (λ (r : Shelf). r.base) own in
      let seen : x.unit.base.index ≡ x.member.unit_state.base =
      (places_are_seen M x.member.unit_state x.unit x.kept.kept x.kept.seen).base in
      let firm : x.unit.base.index < frontier w m.0 = x.stands.firm_base in
      (m.0, m.1, omega (arith, base, seen, firm))

  -- a letter to a unit that was not there has its content
  content_there : (l : ℕ) (c : CompactLetter) (received : Message) → IsLetter w l received c
      → length w.members ≤ c.receiver → (o : Option Content) → IsContent w l received o → is_none o ≡ false
  content_there l c received is high None taken =
      let within = slice_get_within w.members received.receiver taken.member taken.found in
      let same : c.receiver ≡ received.receiver = is.receiver in
      absurd (omega (arith, within, same, high))
  content_there l c received is high (Some content) e = refl

  has_content : (l : ℕ) (c : CompactLetter)
      → slice_get t.letters l ≡ Some c → length w.members ≤ c.receiver → is_none c.content ≡ false
  has_content l c at high =
      let rep = standing.stands.2.represents in
      let e : slice_get standing.stands.0.letters l ≡ Some c =
      ap (λ ls. slice_get ls l) standing.stands.1.letters ∙ at in
      let received = get_below (executed M w).letters l (let a = slice_get_within t.letters l c at in
      let b = count in omega (arith, a, b)) in
      let is = rep.letters l received.0 c received.1 e in
      content_there l c received.0 is high c.content is.content

  -- a letter that was there, or a new one
  module _ (l : ℕ) (c : CompactLetter) (n : Member) (s : Shelf) (after : slice_get z.members c.receiver ≡ Some n) where
    first_of : s.base ≡ 0 → received_for_good z n s l ≡ false
    first_of none = ap (λ b. received_at z.nodes (take (suc b) n.path) l) none ∙ first_none M z g' c.receiver n after l

    by_shelf : (slice_get t.letters l ≡ Some c) ⊎ ((length t.letters ≤ l) × (is_none c.content ≡ false))
        → ((r : Shelf) × (slice_get shelves c.receiver ≡ Some r) × (r.base ≡ s.base))
        ⊎ ((length shelves ≤ c.receiver) × (s.base ≡ 0)) → is_none c.content ≡ received_for_good z n s l
    by_shelf (inl at) (inl r) =
        let m = of_shelf c.receiver r.0 r.1 in
        keeping.letters l c m.0 r.0 at m.1 r.1
        ∙ received_stays M w z g g' moved c.receiver m.0 n m.1 after r.0.base l m.2
        ∙ ap (λ b. received_at z.nodes (take (suc b) n.path) l) r.2
    by_shelf (inr new) (inl r) =
        let m = of_shelf c.receiver r.0 r.1 in
        let low = new.0 in
        let many = count in
        new.1
        ∙ sym (unmade M w g c.receiver m.0 m.1 (suc r.0.base) l (omega (arith, low, many)))
        ∙ received_stays M w z g g' moved c.receiver m.0 n m.1 after r.0.base l m.2
        ∙ ap (λ b. received_at z.nodes (take (suc b) n.path) l) r.2
    by_shelf (inl at) (inr h) =
        has_content l c at (let a = h.0 in let b = width in omega (arith, a, b)) ∙ sym (first_of h.1)
    by_shelf (inr new) (inr h) = new.1 ∙ sym (first_of h.1)

  letter_cases : (l : ℕ) (c : CompactLetter) → slice_get v.letters l ≡ Some c
      → (slice_get t.letters l ≡ Some c) ⊎ ((length t.letters ≤ l) × (is_none c.content ≡ false))
  letter_cases l c at =
      let e : slice_get (t.letters ++ made.letters.made) l ≡ Some c =
      ap (λ ls. slice_get ls l) (sym made.letters.letters) ∙ at in
      elim (dec_lt l (length t.letters)) [
        | yes q ↦
            let old = get_below t.letters l q in
            let same : old.0 ≡ c = same_Some old.0 c (sym (append_get t.letters made.letters.made l old.0 old.1) ∙ e) in
            inl (old.1 ∙ ap (λ (d : CompactLetter). Some d) same)
        | no q ↦ elim (get_append_any t.letters made.letters.made l c e) [
          | inl h ↦ absurd (let within = slice_get_within t.letters l c h in omega (arith, within, q))
          | inr h ↦ inr (omega (arith, q), made.letters.whole (l - length t.letters) c h)
        ]
      ]

  -- After a step that changes the shelves but no base, the tenant keeps what is left of its past.
  pub keeps_on : IsKeeping v z (change shelves)
  keeps_on = record {
    shelved = made.shelves ∙ ap change keeping.shelved;
    letters = λ l c n s at after own. by_shelf l c n s after (letter_cases l c at) (bases shelves c.receiver s own);
  }

-- ---- what leaves the bases

-- Shelves that stay as they were have the bases that they had.
pub same_bases : SameBases (λ shelves. shelves)
same_bases shelves u s at = inl (s, at, refl)

-- Where one unit's shelf changes and its base doesn't, all shelves have the bases that they had.
pub changed_bases : (f : Shelf → Shelf) → ((s : Shelf) → (f s).base ≡ s.base) → (u : ℕ) → SameBases (changed f u)
changed_bases f keeps u shelves v s at = go (slice_get shelves u) refl at
  where
    go : (o : Option Shelf) → slice_get shelves u ≡ o → slice_get (changed_if f u shelves o) v ≡ Some s
        → ((r : Shelf) × (slice_get shelves v ≡ Some r) × (r.base ≡ s.base)) ⊎ ((length shelves ≤ v) × (s.base ≡ 0))
    go None e q = inl (s, q, refl)
    go (Some r) e q = elim (get_set shelves u v (f r) s q) [
      | inl h ↦ inl (r, ap (slice_get shelves) h.0 ∙ e, sym (keeps r) ∙ ap (λ (x : Shelf). x.base) (sym h.1))
      | inr h ↦ inl (s, h.1, refl)
    ]

-- A shelf on which an index is put has the base that it had.
pub put_base : (index : ℕ) (s : Shelf) → (put index s).base ≡ s.base
put_base index s = go ((s.base == index) || has s.others index)
  where
    go : (b : Bool)
        → (cond b (marked index s) (record (marked index s) { others = with_room s.others ++ index ∷ [] })).base
        ≡ s.base
    go true = refl
    go false = refl

-- Where the first shelf of a new unit is added, the other shelves have the bases that they had.
pub joined_bases : SameBases (λ shelves. shelves ++ first_shelf ∷ [])
joined_bases shelves u s at = elim (get_append shelves first_shelf s u at) [
  | inl h ↦ inl (s, h, refl)
  | inr h ↦ inr (let e = h.0 in omega (arith, e), ap (λ (x : Shelf). x.base) h.1)
]
