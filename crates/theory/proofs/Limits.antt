-- Of each unit a tenant has no more than its quotas and the limits allow.
use Rattle.std.proofs.Common.{
  ◌≡◌,
  ◌⊎◌,
  inl,
  inr,
  refl,
  sym,
  ◌∙◌,
  ap,
  subst,
  ℕ,
  zero,
  suc,
  ◌+◌,
  ◌-◌,
  ◌<◌,
  ◌≤◌,
  Bool,
  true,
  false,
  cond,
  min,
  List,
  [],
  ◌∷◌,
  ◌++◌,
  length,
  take,
  drop,
  arith,
  map,
  length-append,
  length-take,
  append-nil,
}
use Rattle.std.specs.Prelude.{Option, Some, None, slice_get, nat_lt, ◌==◌}
use Rattle.std.specs.List.{flat_map, fold, take_while}
use Rattle.std.proofs.lemmas.Bool.Decides.{nat_tests}
use Rattle.std.proofs.lemmas.Grind.{flat_map-append}
use Rattle.std.proofs.lemmas.List.{length-drop, length-map}
use Rattle.std.proofs.lemmas.List.Sums.{sum_by-append, sum_by-cons, take_while-cons}
use Rattle.std.proofs.lemmas.Option.{same_Some}
use Rattle.model.specs.declared.names.Quota.{Quota}
use Rattle.model.specs.declared.names.Row.{Row}
use Rattle.model.specs.declared.names.Seat.{Seat}
use Rattle.model.specs.declared.refusals.Refusal.{Refusal}
use Rattle.model.specs.declared.refusals.Refusal.TheVariants.{BadOpen}
use Rattle.model.specs.declared.replies.Reply.TheVariants.{Refused}
use Rattle.model.specs.declared.replies.Said.{Said}
use Rattle.model.specs.declared.steps.TenantStep.{TenantStep}
use Rattle.model.specs.declared.steps.TenantStep.TheVariants.{
  Open,
  Join,
  Post,
  Deliver,
  Flush,
  Checkpoint,
  Kill,
  Restart,
  Notice,
  Release,
  Status,
}
use Rattle.model.specs.Alone.{Reachable, step_open, step_unopened}
use Rattle.model.specs.Alone.Reachable.{opened, stepped}
use Rattle.model.specs.Handler.{Meaning, Turn}
use Rattle.model.specs.Lists.{from_end}
use Rattle.model.specs.Nodes.{Cause, Message, Node, begun, count_along, letter, letters_of, line, outside, sends_within}
use Rattle.model.specs.World.{World, Member, executed, held, incarnation_of, path_outputs, releasable}
use Rattle.model.specs.Steps.{
  Outcome,
  at_unit,
  at_up,
  back_at,
  beginning,
  can_open,
  flushed,
  fresh,
  gone_back,
  if_letter,
  is_quota,
  join_kind,
  killed,
  kind_or_0,
  next_node,
  notice_orphan,
  notice_rows,
  open_new,
  opened_with,
  path_kept,
  row_for,
  turn_upon_receipt,
  unless,
  with_known,
  with_member,
  with_place,
  with_receipt,
  with_released,
  with_unit,
}
use Rattle.theory.specs.Laws.{StaysWithin, rows_of}
use Rattle.theory.proofs.ListLaws.{
  and_both,
  append_get_last,
  bool_cases,
  eq_true,
  get_append,
  get_set,
  get_take,
  get_take_while,
  le_true,
  take_while_le,
  true_eq,
}
use Rattle.theory.proofs.Changes.{Passed, if_unit_cases, unless_cases}
use Rattle.theory.proofs.HeldCanGo.{reachable_limited}
use Rattle.theory.proofs.Invariants.{incarnation_more}
use Rattle.theory.proofs.Released.{flat_same, turns_older}
use Rattle.theory.proofs.RowLaws.{row_reached}
use Rattle.theory.proofs.Sending.{turns_length}

-- ---- lists

-- a front of a list gives no more than the list
front_fewer : {X Y : Type 0} (f : X → List Y) (xs rest : List X)
    → length (flat_map f xs) ≤ length (flat_map f (xs ++ rest))
front_fewer f xs rest =
    let e = ap length (flat_map-append f xs rest) in
    let a = length-append (flat_map f xs) (flat_map f rest) in
    omega (arith, e, a)

-- a list is a front of it and the rest
cut_in_two : {X : Type 0} (n : ℕ) (xs : List X) → take n xs ++ drop n xs ≡ xs
cut_in_two zero xs = refl
cut_in_two (suc n) [] = refl
cut_in_two (suc n) (x ∷ xs) = ap (λ (t : List _). x ∷ t) (cut_in_two n xs)

take_fewer : {X Y : Type 0} (f : X → List Y) (n : ℕ) (xs : List X)
    → length (flat_map f (take n xs)) ≤ length (flat_map f xs)
take_fewer f n xs =
    let few = front_fewer f (take n xs) (drop n xs) in
    let e = ap (λ ys. length (flat_map f ys)) (cut_in_two n xs) in
    omega (arith, few, e)

passing_fewer : {X Y : Type 0} (f : X → List Y) (p : X → Bool) (xs : List X)
    → length (flat_map f (take_while p xs)) ≤ length (flat_map f xs)
passing_fewer f p [] = omega arith
passing_fewer {X} f p (x ∷ xs) = go (p x) refl (passing_fewer f p xs)
  where
    go : (b : Bool) → p x ≡ b → length (flat_map f (take_while p xs)) ≤ length (flat_map f xs)
        → length (flat_map f (take_while p (x ∷ xs))) ≤ length (flat_map f (x ∷ xs))
    go true e h =
        let one : take_while p (x ∷ xs) ≡ x ∷ take_while p xs =
        take_while-cons p x xs ∙ ap (λ b. cond b (x ∷ take_while p xs) []) e in
        let a = length-append (f x) (flat_map f (take_while p xs)) in
        let b = length-append (f x) (flat_map f xs) in
        let c = ap (λ ys. length (flat_map f ys)) one in
        omega (arith, h, a, b, c)
    go false e h =
        let none : take_while p (x ∷ xs) ≡ [] = take_while-cons p x xs ∙ ap (λ b. cond b (x ∷ take_while p xs) []) e in
        let c = ap (λ ys. length (flat_map f ys)) none in
        omega (arith, c)

-- There are as many letters as sends.
pub length_letters_of : (place u : ℕ) (earlier : ℕ → ℕ) (done sends : List (ℕ × List ℕ))
    → length (letters_of place u earlier done sends) ≡ length sends
length_letters_of place u earlier done [] = refl
length_letters_of place u earlier done (s ∷ sends) = ap suc (length_letters_of place u earlier (done ++ s ∷ []) sends)

-- ---- what is kept by each step

-- the outputs of the turn of the node at this place, each with the place
abbrev marked : {S : Type 0} → ℕ → Turn S → List (ℕ × List ℕ)
marked x t = map (λ text. (x, text)) t.outputs

marked_length : {S : Type 0} (x : ℕ) (t : Turn S) → length (marked x t) ≡ length t.outputs
marked_length x t = length-map t.outputs (λ (text : List ℕ). let o : ℕ × List ℕ = (x, text) in o)

-- what a unit puts out along a path
abbrev outs : {S : Type 0} → Meaning S → World → Member → List ℕ → List (ℕ × List ℕ)
outs M w m path =
    flat_map (λ x. marked x (from_end (executed M w).turns x (begun M m.seat))) path

-- all that is within the limits, and what it takes to see that it stays so: paths are of nodes that were made, and a
-- unit has no more rows than incarnations
record Keeps {S : Type 0} (M : Meaning S) (w : World) : Type 0 where
  quota : is_quota w.quota ≡ true
  volatile : (u : ℕ) (m : Member) → slice_get w.members u ≡ Some m → length m.path - m.stable ≤ w.quota.volatile
  held : (u : ℕ) (m : Member) → slice_get w.members u ≡ Some m → length (held M w m) ≤ w.quota.held
  letters : length (executed M w).letters ≤ w.quota.letters
  rows : (u : ℕ) → rows_of w.table u ≤ incarnation_of w.table u
  made : (u : ℕ) (m : Member) → slice_get w.members u ≡ Some m → (i x : ℕ) → slice_get m.path i ≡ Some x
      → x < length w.nodes

module _ {S : Type 0} (M : Meaning S) (v : World) (k : Keeps M v) where
  -- one unit changes, and nothing else
  set_keeps : (u : ℕ) (n : Member) → length n.path - n.stable ≤ v.quota.volatile → length (held M v n) ≤ v.quota.held
      → ((i x : ℕ) → slice_get n.path i ≡ Some x → x < length v.nodes) → Keeps M (with_member v u n)
  set_keeps u n few fewer made = record {
    quota = k.quota;
    volatile = λ x q f. elim (get_set v.members u x n q f) [
      | inl e ↦ subst (λ (z : Member). length z.path - z.stable ≤ v.quota.volatile) (sym e.1) few
      | inr e ↦ k.volatile x q e.1
    ];
    held = λ x q f. elim (get_set v.members u x n q f) [
      | inl e ↦ subst (λ (z : Member). length (held M v z) ≤ v.quota.held) (sym e.1) fewer
      | inr e ↦ k.held x q e.1
    ];
    letters = k.letters;
    rows = k.rows;
    made = λ x q f. elim (get_set v.members u x n q f) [
      | inl e ↦ subst (λ (z : Member). (i y : ℕ) → slice_get z.path i ≡ Some y → y < length v.nodes) (sym e.1) made
      | inr e ↦ k.made x q e.1
    ];
  }

  module _ (u : ℕ) (m : Member) (found : slice_get v.members u ≡ Some m) where
    held_is : length (held M v m) ≡ length (path_outputs M v m) - length m.released
    held_is = length-drop (length m.released) (path_outputs M v m)

    few_held : length (path_outputs M v m) - length m.released ≤ v.quota.held
    few_held = let a = k.held u m found in let b = held_is in omega (arith, a, b)

    -- a path that gives no more outputs
    held_fewer : (n : Member) → length (path_outputs M v n) ≤ length (path_outputs M v m)
        → length m.released ≤ length n.released → length (held M v n) ≤ v.quota.held
    held_fewer n less more =
        let a = few_held in
        let b = length-drop (length n.released) (path_outputs M v n) in
        omega (arith, less, more, a, b)

    flush_keeps : (count : ℕ) → Keeps M (with_member v u (flushed m count))
    flush_keeps count = set_keeps u (flushed m count) (let a = k.volatile u m found in omega (arith, a))
        (k.held u m found) (k.made u m found)

    kill_keeps : Keeps M (with_member v u (killed m))
    kill_keeps = set_keeps u (killed m) (let a = length-take m.stable m.path in omega (arith, a))
        (held_fewer (killed m) (take_fewer _ m.stable m.path) (omega arith))
        (λ i x e. k.made u m found i x (get_take m.path m.stable i x e).0)

    learn_keeps : (known : ℕ) → Keeps M (with_member v u (with_known m known))
    learn_keeps known = set_keeps u (with_known m known) (k.volatile u m found) (k.held u m found) (k.made u m found)

    release_keeps : (texts : List (List ℕ)) → Keeps M (with_member v u (with_released m texts))
    release_keeps texts = set_keeps u (with_released m texts) (k.volatile u m found)
        (held_fewer (with_released m texts) (omega arith) (let a = length-append m.released texts in omega (arith, a)))
        (k.made u m found)

    -- the rows with one more of this unit
    abbrev row : Row
    row = row_for v u (path_kept v m)

    rows_more : (x : ℕ) → rows_of (v.table ++ row ∷ []) x ≤ incarnation_of (v.table ++ row ∷ []) x
    rows_more x =
        let more = sum_by-append (λ (r : Row). cond (r.unit == x) 1 0) v.table (row ∷ []) in
        let one = sum_by-cons (λ (r : Row). cond (r.unit == x) 1 0) row [] in
        let old = k.rows x in
        let up = incarnation_more v.table row x in
        elim (bool_cases (u == x)) [
          | inl e ↦
              let same : u ≡ x = eq_true u x e in
              let last = row_reached (v.table ++ row ∷ []) (length v.table) row (append_get_last v.table row) in
              let here : ◌≡◌ {A = ℕ} (cond (u == x) 1 0) 1 = rw e refl in
              let at : incarnation_of v.table u + 1 ≤ incarnation_of (v.table ++ row ∷ []) x =
              subst (λ y. incarnation_of v.table u + 1 ≤ incarnation_of (v.table ++ row ∷ []) y) same last in
              let was : incarnation_of v.table u ≡ incarnation_of v.table x = ap (incarnation_of v.table) same in
              omega (arith, more, one, old, here, at, was)
          | inr e ↦
              let there : ◌≡◌ {A = ℕ} (cond (u == x) 1 0) 0 = rw e refl in
              omega (arith, more, one, old, up, there)
        ]

    back_keeps : Keeps M (gone_back v u m (path_kept v m))
    back_keeps =
        let n = back_at m (path_kept v m) (length v.table + 1) in
        let less : length (path_kept v m) ≤ length m.path = take_while_le _ m.path in
        let set = set_keeps u n (let a = k.volatile u m found in omega (arith, a, less))
        (held_fewer n (passing_fewer _ _ m.path) (omega arith))
        (λ i x e. k.made u m found i x (get_take_while _ m.path i x e).0) in
        record {
          quota = set.quota;
          volatile = set.volatile;
          held = set.held;
          letters = set.letters;
          rows = rows_more;
          made = set.made;
        }

  -- ---- one more node

  -- the outputs of a path of older nodes are what they were
  outs_older : (n : Node) (m : Member) (path : List ℕ) → ((i x : ℕ) → slice_get path i ≡ Some x → x < length v.nodes)
      → outs M (record v { nodes = n ∷ v.nodes }) m path ≡ outs M v m path
  outs_older n m path made = flat_same _ _ path (λ i x e.
      ap (λ (t : Turn S). marked x t) (turns_older M v n x (begun M m.seat) (made i x e)))

  -- so are those that a unit holds
  held_older : (n : Node) (m : Member) → ((i x : ℕ) → slice_get m.path i ≡ Some x → x < length v.nodes)
      → held M (record v { nodes = n ∷ v.nodes }) m ≡ held M v m
  held_older n m made = ap (drop (length m.released)) (outs_older n m m.path made)

  -- the turn of the new node
  newest_turn : (n : Node) (d : Turn S) → (t : Turn S) (rest : List (Turn S)) → length rest ≡ length v.nodes
      → from_end (t ∷ rest) (length v.nodes) d ≡ t
  newest_turn n d t rest e = rw (true_eq (length v.nodes) (length rest) (sym e)) refl

  module _ (u : ℕ) (m : Member) (cause : Cause) (found : slice_get v.members u ≡ Some m) where
    abbrev turn : Turn S
    turn = turn_upon_receipt M v u m cause

    abbrev after : World
    after = with_receipt v u m cause

    abbrev grown : Member
    grown = with_place m (length v.nodes)

    outs_new : length (path_outputs M after grown) ≡ length (path_outputs M v m) + length turn.outputs
    outs_new =
        let n = next_node v u m cause in
        let w = record v { nodes = n ∷ v.nodes } in
        let f : ℕ → List (ℕ × List ℕ) = λ x. marked x (from_end (executed M w).turns x (begun M m.seat)) in
        let parts = ap length (flat_map-append f m.path (length v.nodes ∷ [])) in
        let both = length-append (flat_map f m.path) (flat_map f (length v.nodes ∷ [])) in
        let old = ap length (outs_older n m m.path (k.made u m found)) in
        let is = newest_turn n
        (begun M m.seat) (turn_upon_receipt M v u m cause) (executed M v).turns (turns_length M v.nodes) in
        let new = ap (λ (t : Turn S). length (marked (length v.nodes) t)) is in
        let last = marked_length (length v.nodes) (turn_upon_receipt M v u m cause) in
        let end = length-append (f (length v.nodes)) [] in
        omega (arith, parts, both, old, new, last, end)

    receipt_keeps : length m.path - m.stable < v.quota.volatile
        → length (held M v m) + length turn.outputs ≤ v.quota.held
        → length (executed M v).letters + length (sends_within (length v.members) turn) ≤ v.quota.letters
        → Keeps M after
    receipt_keeps few fewer sent =
        let n = next_node v u m cause in
        record {
          quota = k.quota;
          volatile = λ x q f. elim (get_set v.members u x grown q f) [
            | inl e ↦ subst (λ (z : Member). length z.path - z.stable ≤ v.quota.volatile) (sym e.1) grown_few
            | inr e ↦ k.volatile x q e.1
          ];
          held = λ x q f. elim (get_set v.members u x grown q f) [
            | inl e ↦ subst (λ (z : Member). length (held M after z) ≤ v.quota.held) (sym e.1) grown_holds
            | inr e ↦
                let same = ap length (held_older n q (k.made x q e.1)) in
                let old = k.held x q e.1 in
                omega (arith, same, old)
          ];
          letters =
              let earlier : ℕ → ℕ = λ y. count_along (executed M v).sends y (line v.nodes n.before) in
              let sends = sends_within (length v.members) (turn_upon_receipt M v u m cause) in
              let made = length_letters_of (length v.nodes) u earlier [] sends in
              let all = length-append (executed M v).letters (letters_of (length v.nodes) u earlier [] sends) in
              omega (arith, made, all, sent);
          rows = k.rows;
          made = λ x q f. elim (get_set v.members u x grown q f) [
            | inl e ↦ subst (λ (z : Member). (i y : ℕ)
                → slice_get z.path i ≡ Some y → y < suc (length v.nodes)) (sym e.1) grown_made
            | inr e ↦ λ i y g. let t = k.made x q e.1 i y g in omega (arith, t)
          ];
        }
      where
        grown_few : length grown.path - grown.stable ≤ v.quota.volatile
        grown_few = let a = length-append m.path (length v.nodes ∷ []) in omega (arith, a, few)

        grown_holds : length (held M after grown) ≤ v.quota.held
        grown_holds =
            let a = outs_new in
            let b = length-drop (length m.released) (path_outputs M after grown) in
            let c = length-drop (length m.released) (path_outputs M v m) in
            omega (arith, a, b, c, fewer)

        grown_made : (i y : ℕ) → slice_get grown.path i ≡ Some y → y < suc (length v.nodes)
        grown_made i y g = elim (get_append m.path (length v.nodes) y i g) [
          | inl e ↦ let t = k.made u m found i y e in omega (arith, t)
          | inr e ↦ let t = e.1 in omega (arith, t)
        ]

  -- one more unit, which holds nothing
  unit_keeps : (home kind : ℕ) → 1 ≤ v.quota.volatile → Keeps M (with_unit home v kind)
  unit_keeps home kind room =
      let seat : Seat = record { unit = length v.members; kind = kind; home = home } in
      let n = beginning seat home in
      let new = fresh seat (length v.nodes) (length v.table) in
      record {
        quota = k.quota;
        volatile = λ x q f. elim (get_append v.members new q x f) [
          | inl e ↦ k.volatile x q e
          | inr e ↦ subst (λ (z : Member). length z.path - z.stable ≤ v.quota.volatile) (sym e.1) (omega arith)
        ];
        held = λ x q f. elim (get_append v.members new q x f) [
          | inl e ↦
              let same = ap length (held_older n q (k.made x q e)) in
              let old = k.held x q e in
              omega (arith, same, old)
          | inr e ↦
              let is = newest_turn n (begun M seat) (begun M seat) (executed M v).turns (turns_length M v.nodes) in
              let none = ap (λ (t : Turn S). length (marked (length v.nodes) t ++ [])) is in
              subst (λ (z : Member). length (held M (with_unit home v kind) z) ≤ v.quota.held)
              (sym e.1) (omega (arith, none))
        ];
        letters = let all = length-append (executed M v).letters [] in let old = k.letters in omega (arith, all, old);
        rows = k.rows;
        made = λ x q f. elim (get_append v.members new q x f) [
          | inl e ↦ λ i y g. let t = k.made x q e i y g in omega (arith, t)
          | inr e ↦ subst (λ (z : Member). (i y : ℕ)
              → slice_get z.path i ≡ Some y → y < suc (length v.nodes)) (sym e.1) (λ i y g. first_made i y g)
        ];
      }
    where
      first_made : (i y : ℕ) → slice_get (length v.nodes ∷ []) i ≡ Some y → y < suc (length v.nodes)
      first_made zero y g = let t = same_Some (length v.nodes) y g in omega (arith, t)
      first_made (suc i) y g = absurd (cc g)

-- ---- each step

quota_room : (q : Quota) → is_quota q ≡ true → 1 ≤ q.volatile
quota_room q e = le_true 1 q.volatile (and_both _ _ (and_both _ _ e).0).0

module _ {S : Type 0} (M : Meaning S) (v w : World) (k : Keeps M v) where
  stays : v ≡ w → Keeps M w
  stays e = subst (λ z. Keeps M z) e k

  becomes : (x : World) → Keeps M x → Some x ≡ Some w → Keeps M w
  becomes x kept e = subst (λ z. Keeps M z) (same_Some x w e) kept

  unless_keeps : (tests : List (Bool × Refusal)) (out : Outcome) → (Passed tests → out.world ≡ Some w → Keeps M w)
      → (unless v tests out).world ≡ Some w → Keeps M w
  unless_keeps tests out f e = elim (unless_cases v w tests out e) [ inl h ↦ stays h | inr h ↦ f h.0 h.1 ]

  unit_step : (u : ℕ) (f : Member → Outcome)
      → ((m : Member) → slice_get v.members u ≡ Some m → (f m).world ≡ Some w → Keeps M w)
      → (at_unit v u f).world ≡ Some w → Keeps M w
  unfolding at_unit
  unit_step u f g e = elim (if_unit_cases v w f (slice_get v.members u) e) [ inl h ↦ stays h | inr h ↦ g h.0 h.1 h.2 ]

  up_step : (u : ℕ) (f : Member → Outcome)
      → ((m : Member) → slice_get v.members u ≡ Some m → (f m).world ≡ Some w → Keeps M w)
      → (at_up v u f).world ≡ Some w → Keeps M w
  unfolding at_up
  up_step u f g e = unit_step u _ (λ m found. unless_keeps _ (f m) (λ passed q. g m found q)) e

  letter_keeps : (o : Option Message) → (l : ℕ) → (if_letter M v l o).world ≡ Some w → Keeps M w
  letter_keeps None l q = stays (same_Some v w q)
  letter_keeps (Some msg) l q = unit_step msg.receiver _ (λ m found. unless_keeps _ _ (λ passed h.
      let room = passed.1.1.1.1.1.1 in
      becomes _ (receipt_keeps M v k msg.receiver m (letter l msg.sender) found (grind (arith, nat_tests, room.1.0))
      (grind (arith, nat_tests, room.1.1.1.1.0)) (grind (arith, nat_tests, room.1.1.1.1.1.0))) h)) q

  notice_keeps : (u : ℕ) (said : Said) (m : Member) → slice_get v.members u ≡ Some m → (b : Bool)
      → (cond b (notice_orphan v u said m) (notice_rows v u m)).world ≡ Some w → Keeps M w
  notice_keeps u said m found true q = unless_keeps _ _ (λ passed h. becomes _ (back_keeps M v k u m found) h) q
  notice_keeps u said m found false q = becomes _ (learn_keeps M v k u m found (length v.table)) q

  join_keeps : (o : Option ℕ) → (join_kind v o).world ≡ Some w → Keeps M w
  join_keeps None e = stays (same_Some v w e)
  join_keeps (Some kind) e = unless_keeps _ _ (λ passed q.
      becomes _ (unit_keeps M v k (length v.members + 1) kind (quota_room v.quota k.quota)) q) e

  -- each step of an open tenant
  step_keeps : (step : TenantStep) (said : Said) → (step_open M v step said).world ≡ Some w → Keeps M w
  step_keeps (Open kinds quota optimism) said e = stays (same_Some v w e)
  step_keeps (Join kind) said e = join_keeps (M.kind kind) e
  step_keeps (Post u number text) said e = unit_step u _ (λ m found. unless_keeps _ _ (λ passed h.
      let room = passed.1.1.1 in
      becomes _ (receipt_keeps M v k u m (outside number text) found (grind (arith, nat_tests, room.1.0))
      (grind (arith, nat_tests, room.1.1.1.1.0)) (grind (arith, nat_tests, room.1.1.1.1.1.0))) h)) e
  step_keeps (Deliver l) said e = letter_keeps (slice_get (executed M v).letters l) l e
  step_keeps (Flush u) said e = up_step u _ (λ m found q.
      becomes _ (flush_keeps M v k u m found (min said.appended (length m.path - m.stable))) q) e
  step_keeps (Checkpoint u) said e = up_step u _ (λ m found. unless_keeps _ _ (λ passed q. stays (same_Some v w q))) e
  step_keeps (Kill u) said e = up_step u _ (λ m found q. becomes _ (kill_keeps M v k u m found) q) e
  step_keeps (Restart u) said e = unit_step u _ (λ m found. unless_keeps _ _ (λ passed q.
      becomes _ (back_keeps M v k u m found) q)) e
  step_keeps (Notice u) said e = up_step u _ (λ m found q.
      notice_keeps u said m found (nat_lt (length (path_kept v m)) (length m.path)) q) e
  step_keeps (Release u) said e = up_step u _ (λ m found q.
      becomes _ (release_keeps M v k u m found (map (λ o. o.1) (releasable M v m))) q) e
  step_keeps (Status u) said e = unit_step u _ (λ m found q. stays (same_Some v w q)) e

-- ---- every world

module _ {S : Type 0} (M : Meaning S) where
  none_kept : (quota : Quota) (optimism : ℕ) → is_quota quota ≡ true
      → Keeps M (record { quota = quota; optimism = optimism; members = []; nodes = []; table = [] })
  none_kept quota optimism is = record {
    quota = is;
    volatile = λ u m e. absurd (cc e);
    held = λ u m e. absurd (cc e);
    letters = omega arith;
    rows = λ u. omega arith;
    made = λ u m e. absurd (cc e);
  }

  units_keep : (home : ℕ) (names : List (List ℕ)) (w : World) → Keeps M w
      → Keeps M (fold (λ w n. with_unit home w (kind_or_0 (M.kind n))) w names)
  units_keep home [] w k = k
  units_keep home (n ∷ names) w k =
      units_keep home names (with_unit home w (kind_or_0 (M.kind n)))
      (unit_keeps M w k home (kind_or_0 (M.kind n)) (quota_room w.quota k.quota))

  open_keeps : (names : List (List ℕ)) (quota : Quota) (optimism : ℕ) (w : World)
      → (open_new M names quota optimism).world ≡ Some w → Keeps M w
  open_keeps names quota optimism w e = go (can_open M names quota optimism) refl e
    where
      go : (b : Bool) → can_open M names quota optimism ≡ b
          → (cond b (opened_with M names quota optimism) (record { reply = Refused BadOpen; world = None })).world
          ≡ Some w
          → Keeps M w
      go false is h = absurd (cc h)
      go true is h =
          let both = (and_both _ _ (and_both _ _ (and_both _ _ is).1).1).0 in
          subst (λ z. Keeps M z) (same_Some _ w h) (units_keep (length names) names _ (none_kept quota optimism both))

  first_keeps : (step : TenantStep) (w : World) → (step_unopened M step).world ≡ Some w → Keeps M w
  first_keeps (Open kinds quota optimism) w e = open_keeps kinds quota optimism w e
  first_keeps (Join kind) w e = absurd (cc e)
  first_keeps (Post unit number text) w e = absurd (cc e)
  first_keeps (Deliver l) w e = absurd (cc e)
  first_keeps (Flush unit) w e = absurd (cc e)
  first_keeps (Checkpoint unit) w e = absurd (cc e)
  first_keeps (Kill unit) w e = absurd (cc e)
  first_keeps (Restart unit) w e = absurd (cc e)
  first_keeps (Notice unit) w e = absurd (cc e)
  first_keeps (Release unit) w e = absurd (cc e)
  first_keeps (Status unit) w e = absurd (cc e)

  reachable_keeps : {w : World} → Reachable M w → Keeps M w
  reachable_keeps {w} (opened e h) = first_keeps e.step w h
  reachable_keeps {w} (stepped {v = v} e r h) = step_keeps M v w (reachable_keeps r) e.step e.said h

  -- Of each unit a tenant has no more than its quotas and the limits allow, in every world that it can come to.
  pub stays_within : StaysWithin M
  stays_within w r =
      let k = reachable_keeps r in
      record {
        quota = k.quota;
        volatile = k.volatile;
        held = k.held;
        letters = k.letters;
        rows = λ u. let a = k.rows u in let b = reachable_limited M r u in omega (arith, a, b);
      }
