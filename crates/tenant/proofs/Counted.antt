-- How much a tenant has of a unit's past is what the rules of keeping leave, and how long its lists are.
use Rattle.std.proofs.Common.{◌≡◌, inl, inr, refl, sym, ◌∙◌, ap, subst, ℕ, suc, ◌+◌, ◌-◌, ◌≤◌, Bool, true, false, cond}
use Rattle.std.proofs.Common.{not, ◌&&◌, List, [], ◌∷◌, length, drop, arith, length-append}
use Rattle.std.specs.Prelude.{MatchOption, Option, None, Some, option_map, slice_get, is_none, ◌==◌}
use Rattle.std.specs.List.{count_by, enumerate_from, filter}
use Rattle.std.specs.Option.{is_some}
use Rattle.std.proofs.lemmas.Option.{same_Some, slice_get_past}
use Rattle.std.proofs.lemmas.List.{length-drop, length-map}
use Rattle.std.proofs.lemmas.List.Sums.{sum_by-cons}
use native.Mathlib.Decide.{dec_lt}
use Rattle.model.specs.declared.kept.Kept.{Kept as Amount}
use Rattle.model.specs.declared.names.Row.{Row}
use Rattle.model.specs.declared.records.Record.{Record}
use Rattle.model.specs.Handler.{Meaning}
use Rattle.model.specs.Keeping.{Shelf, base_count, keeps_letter, kept_behind, kept_if, kept_in, received_for_good}
use Rattle.model.specs.Nodes.{Message, node_at}
use Rattle.model.specs.World.{Member, World, executed, held, is_firm, mark_of}
use Rattle.model.proofs.Places.{get_below}
use Rattle.theory.specs.Laws.{rows_of}
use Rattle.theory.proofs.ListLaws.{at_map, bool_cases, eq_true, take_while_le}
use Rattle.layer_laws.specs.Laws.{frontier}
use Rattle.compact.specs.Compact.{CompactLetter, interval_of}
use Rattle.rollback_laws.proofs.Places.{places_are_seen}
use Rattle.tenant.specs.declared.footprint.Footprint.{Footprint}
use Rattle.unit_steps.specs.SentLetters.{is_spent_to, is_whole_to}
use Rattle.tenant.specs.Footprint.{IsFootprint, IsLengths, gives_up_letter}
use Rattle.tenant.specs.Past.{IsKeeping, KeepsPast, amount_of, kept_by, shelf_of}
use Rattle.tenant.specs.Kept.{TenantState, Member as MemberOf}
use Rattle.tenant.specs.Stands.{Stands, live_in}
use Rattle.tenant.proofs.Lasting.{past_opened}
use Rattle.tenant.proofs.Reading.{stands_at}
use Rattle.tenant.proofs.Standing.{opened}

-- as many pass of two lists whose places pass alike
one_more : {X : Type 0} (b : Bool) (x : X) (xs : List X) → length (cond b (x ∷ xs) xs) ≡ cond b 1 0 + length xs
one_more true x xs = omega arith
one_more false x xs = omega arith

count_same : {X Y : Type 0} (p : X → Bool) (q : ℕ × Y → Bool) (n : ℕ) (xs : List X) (ys : List Y)
    → length xs ≡ length ys
    → ((i : ℕ) (x : X) (y : Y) → slice_get xs i ≡ Some x → slice_get ys i ≡ Some y → p x ≡ q (n + i, y))
    → length (filter p xs) ≡ count_by q (enumerate_from n ys)
count_same p q n [] [] h f = refl
count_same p q n [] (y ∷ ys) h f = absurd (cc h)
count_same p q n (x ∷ xs) [] h f = absurd (cc h)
count_same {X} {Y} p q n (x ∷ xs) (y ∷ ys) h f =
    let first : p x ≡ q (n, y) = f 0 x y refl refl ∙ ap (λ k. q (k, y)) (omega arith) in
    let rest = count_same p q (n + 1) xs ys (omega (arith, h)) (λ i a b ea eb. f (suc i) a b ea eb
    ∙ ap (λ k. q (k, b)) (omega arith)) in
    one_more (p x) x (filter p xs)
    ∙ (λ i. cond (first i) 1 0 + rest i)
    ∙ sym (sum_by-cons (λ (b : ℕ × Y). cond (q b) 1 0) (n, y) (enumerate_from (n + 1) ys))

module _ {S : Type 0} (M : Meaning S) (name : List ℕ) (t : TenantState S) (w : World) (records : List (Option Record))
    (shelves : List Shelf) (s : Stands M name t w records) (k : KeepsPast t w shelves) where
  keeping : IsKeeping t w shelves
  keeping = past_opened k

  -- a letter to a unit that is there has its content just where it was not received for good
  whole_same : (u : ℕ) (m : Member) (f : Shelf) → slice_get w.members u ≡ Some m → slice_get shelves u ≡ Some f
      → (l : ℕ) (c : CompactLetter) (x : Message)
      → slice_get t.letters l ≡ Some c → c.receiver ≡ x.receiver → is_whole_to u c ≡ keeps_letter w u m f (l, x)
  whole_same u m f here there l c x at to = elim (bool_cases (x.receiver == u)) [
    | inl e ↦
        let same : c.receiver ≡ u = to ∙ eq_true x.receiver u e in
        let gone : is_none c.content ≡ received_for_good w m f l =
        keeping.letters l c m f at (ap (slice_get w.members) same ∙ here) (ap (slice_get shelves) same ∙ there) in
        let has : is_some c.content ≡ not (received_for_good w m f l) = twice (is_some c.content) ∙ ap not gone in
        (λ i. (to i == u) && has i)
    | inr e ↦ (λ i. (to i == u) && is_some c.content)
        ∙ ap (λ b. b && is_some c.content) e ∙ ap (λ b. b && not (received_for_good w m f l)) (sym e)
  ]
    where
      twice : (b : Bool) → b ≡ not (not b)
      twice true = refl
      twice false = refl

  letters_same : (u : ℕ) (m : Member) (f : Shelf) → slice_get w.members u ≡ Some m → slice_get shelves u ≡ Some f
      → length (filter (is_whole_to u) t.letters)
      ≡ count_by (keeps_letter w u m f) (enumerate_from 0 (executed M w).letters)
  letters_same u m f here there =
      let stands = (opened s).stands in
      let are = stands.1.letters in
      let sent = stands.2.represents.sent in
      count_same (is_whole_to u) (keeps_letter w u m f) 0 t.letters (executed M w).letters (ap length (sym are) ∙ sent)
      (λ l c x at made. whole_same u m f here there l c x at (stands.2.represents.letters l x c
      made (ap (λ ls. slice_get ls l) are ∙ at)).receiver ∙ ap (λ k. keeps_letter w u m f (k, x)) (omega arith))

  -- A tenant keeps as much of a unit's past as the rules of keeping leave.
  pub kept_same : (u : ℕ) → kept_by t u ≡ kept_in M w shelves u
  kept_same u = elim (dec_lt u (length w.members)) [
    | yes q ↦
        let m = get_below w.members u q in
        let x = stands_at M name (live_in name records) t w (opened s).whole (opened s).stands u m.0 m.1 in
        let f : Shelf = shelf_of x.member.first_put x.member.unit_state in
        let there : slice_get shelves u ≡ Some f = ap (λ ss. slice_get ss u) (sym keeping.shelved)
        ∙ at_map (λ (n : MemberOf S). shelf_of n.first_put n.unit_state) t.members u x.member x.found in
        let stable = sym x.kept.seen.stable ∙ x.stands.stable in
        let others : length x.member.unit_state.shelf.others ≡ length f.others =
        sym (length-map x.member.unit_state.shelf.others (λ s. s.index)) in
        let same : amount_of t.letters u x.member ≡ kept_behind M w u m.0 f = (λ i. record {
          records = stable i - 1 - f.base;
          shelved = others i + base_count f.base f.first_put;
          letters = letters_same u m.0 f m.1 there i;
        }) in
        ap (option_map (amount_of t.letters u)) x.found
        ∙ ap (λ (a : Amount). Some a) same ∙ sym (λ i. kept_if M w u (m.1 i) (there i))
    | no q ↦
        let width = (opened s).stands.1.width in
        let units = (opened s).stands.2.represents.width in
        ap (option_map (amount_of t.letters u)) (slice_get_past t.members u (omega (arith, q, width, units)))
        ∙ sym (ap (λ (o : Option Member). kept_if M w u o (slice_get shelves u))
        (slice_get_past w.members u (omega (arith, q))))
  ]

  -- ---- how long its lists are

  -- a letter to a unit that is there gave its content up just where it was received for good
  spent_at : (u : ℕ) (m : Member) (f : Shelf) → slice_get w.members u ≡ Some m → slice_get shelves u ≡ Some f
      → (l : ℕ) (c : CompactLetter) (x : Message) → slice_get t.letters l ≡ Some c → c.receiver ≡ x.receiver
      → is_spent_to u c ≡ gives_up_letter w u m f (l, x)
  spent_at u m f here there l c x at to = elim (bool_cases (x.receiver == u)) [
    | inl e ↦
        let same : c.receiver ≡ u = to ∙ eq_true x.receiver u e in
        let gone : is_none c.content ≡ received_for_good w m f l =
        keeping.letters l c m f at (ap (slice_get w.members) same ∙ here) (ap (slice_get shelves) same ∙ there) in
        (λ i. (to i == u) && gone i)
    | inr e ↦
        (λ i. (to i == u) && is_none c.content)
        ∙ ap (λ b. b && is_none c.content) e
        ∙ ap (λ b. b && received_for_good w m f l) (sym e)
  ]

  spent_same : (u : ℕ) (m : Member) (f : Shelf) → slice_get w.members u ≡ Some m → slice_get shelves u ≡ Some f
      → length (filter (is_spent_to u) t.letters)
      ≡ count_by (gives_up_letter w u m f) (enumerate_from 0 (executed M w).letters)
  spent_same u m f here there =
      let stands = (opened s).stands in
      let are = stands.1.letters in
      let sent = stands.2.represents.sent in
      count_same (is_spent_to u)
      (gives_up_letter w u m f) 0 t.letters (executed M w).letters (ap length (sym are) ∙ sent)
      (λ l c x at made.
      spent_at u m f here there l c x at
      (stands.2.represents.letters l x c made (ap (λ ls. slice_get ls l) are ∙ at)).receiver
      ∙ ap (λ k. gives_up_letter w u m f (k, x)) (omega arith))

  -- the lengths of the tenant's lists are those of the world, with these checkpoints
  footprint_same : (u : ℕ) (n : MemberOf S) (f : Footprint) → slice_get t.members u ≡ Some n → IsLengths t u n f
      → (m : Member) (q : Shelf) → slice_get w.members u ≡ Some m → slice_get shelves u ≡ Some q
      → IsFootprint M w u m q f
  footprint_same u n f found lengths m q here there =
      let x = stands_at M name (live_in name records) t w (opened s).whole (opened s).stands u m here in
      let own : IsLengths t u x.member f =
      subst (λ z. IsLengths t u z f) (same_Some n x.member (sym found ∙ x.found)) lengths in
      let r = x.member.unit_state in
      let all = places_are_seen M r x.unit x.kept.kept x.kept.seen in
      let kept_there = ap (λ ss. slice_get ss u) (sym keeping.shelved)
      ∙ at_map (λ (z : MemberOf S). shelf_of z.first_put z.unit_state) t.members u x.member x.found in
      let shelf : shelf_of x.member.first_put r ≡ q = same_Some (shelf_of x.member.first_put r) q (sym kept_there
      ∙ there) in
      let base : r.base ≡ q.base = ap (λ (z : Shelf). z.base) shelf in
      let path : length x.unit.intervals ≡ length m.path - x.unit.base.index =
      ap length x.stands.intervals
      ∙ length-map (drop x.unit.base.index m.path) (interval_of w.nodes)
      ∙ length-drop x.unit.base.index m.path in
      let seen : length x.unit.intervals ≡ length r.intervals = ap length x.kept.seen.intervals in
      let firm = x.stands.firm_base in
      let front : frontier w m ≤ length m.path = take_while_le (is_firm w) m.path in
      let index = all.base in
      let unstable = all.unstable in
      let stable = x.stands.stable in
      let out = x.kept.released in
      record {
        intervals = own.intervals ∙ sym seen ∙ path ∙ (λ i. length m.path - (index ∙ base) i);
        volatile = own.volatile ∙ sym unstable ∙ omega (arith, path, firm, front, stable);
        held =
            own.held
            ∙ ap length (sym x.kept.outputs)
            ∙ ap length x.stands.hold
            ∙ length-map (held M w m) (λ o. record { mark = mark_of (node_at w.nodes o.0); text = o.1 });
        rows = own.rows ∙ ap (λ (rows : List Row). rows_of rows u) (sym (opened s).stands.1.table
            ∙ (opened s).stands.2.represents.table);
        spent = own.spent ∙ spent_same u m q here there;
        released =
            own.released (length out.0) out.1 out.2 out.3
            ∙ sym (length-append out.0 out.1)
            ∙ ap length (sym out.4)
            ∙ ap length x.stands.released;
        texts =
            let a = own.released (length out.0) out.1 out.2 out.3 in
            let b = own.texts out.1 out.3 in
            omega (arith, a, b);
      }

  -- a unit that the tenant lacks is none of the world's
  unit_missing : (u : ℕ) → slice_get t.members u ≡ None → slice_get w.members u ≡ None
  unit_missing u none =
      let width = (opened s).stands.1.width in
      let units = (opened s).stands.2.represents.width in
      slice_get_past w.members u (elim (dec_lt u (length t.members)) [
        | yes q ↦ absurd (let g = get_below t.members u q in cc (g.1, none))
        | no q ↦ omega (arith, q, width, units)
      ])

  -- what is told of the lengths of a unit's lists is so of the world
  pub footprint_told : (u : ℕ) (found : Option Footprint)
      → MatchOption found (slice_get t.members u ≡ None) (λ f. (n : MemberOf S) → slice_get t.members u ≡ Some n
      → IsLengths t u n f)
      → MatchOption found (slice_get w.members u ≡ None) (λ f. (m : Member) (q : Shelf) → slice_get w.members u ≡ Some m
      → slice_get shelves u ≡ Some q → IsFootprint M w u m q f)
  footprint_told u None none = unit_missing u none
  footprint_told u (Some f) lengths = λ m q here there.
      let x = stands_at M name (live_in name records) t w (opened s).whole (opened s).stands u m here in
      footprint_same u x.member f x.found (lengths x.member x.found) m q here there
