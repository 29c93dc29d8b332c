-- What holds of every world that a tenant can come to, and that the certificate holds of each.
use Rattle.std.proofs.Common.{◌≡◌, refl, sym, ◌∙◌, ap, subst, ℕ, zero, suc, ◌+◌, ◌<◌, ◌≤◌, Bool, true, false, cond}
use Rattle.std.proofs.Common.{◌&&◌, List, [], ◌∷◌, ◌++◌, length, take, arith, map, length-take}
use Rattle.std.specs.Prelude.{Some, Result, Ok, Err, slice_get, nat_lt}
use Rattle.std.specs.List.{flat_map, take_while}
use Rattle.std.proofs.lemmas.List.Sums.{take_while-cons}
use Rattle.std.proofs.lemmas.List.{length-map}
use Rattle.std.proofs.lemmas.Bool.Decides.{nat_tests}
use Rattle.std.proofs.lemmas.Option.{slice_get_within, same_Some}
use mathlib.Core.List.{IsPrefix}
use Rattle.model.specs.declared.names.Seat.{Seat}
use Rattle.model.specs.declared.moves.Move.{Move}
use Rattle.model.specs.declared.moves.Flaw.{Flaw}
use Rattle.model.specs.declared.steps.TenantStep.{TenantStep}
use Rattle.model.specs.Handler.{Meaning}
use Rattle.model.specs.Lists.{from_end, numbers_from}
use Rattle.model.specs.Nodes.{node_at, begun, sender_of}
use Rattle.model.specs.World.{World, Member, executed, is_firm, stable_path}
use Rattle.model.specs.FailureFree.{Worker, Network, new_worker, moved, if_moved, run_from, move_at, opening_seats}
use Rattle.model.specs.FailureFree.{certificate, failure_free, logged, FitsAll, BeginWith, CertificateHolds}
use Rattle.model.specs.Alone.{step, step_unopened, Reachable}
use Rattle.model.specs.Alone.Reachable.{opened, stepped}
use Rattle.model.proofs.Places.{get_below}
use Rattle.theory.specs.Laws.{CertificateLaw, ReleasedAreFirm, firm_outputs}
use Rattle.theory.proofs.ListLaws.{take_get, at_map, get_take_while, take_while_passes, true_lt, has_before}
use Rattle.theory.proofs.Changes.{Change, step_changes}
use Rattle.theory.proofs.Chain.{Chain}
use Rattle.theory.proofs.ChainKept.{chain_change, first_chain}
use Rattle.theory.proofs.Simulation.{worker, receipt}
use Rattle.theory.proofs.Fronts.{front, same_front}
use Rattle.theory.proofs.Counts.{Counted, counted_change, first_counted, Begun}
use Rattle.theory.proofs.Numbers.{Numbered, numbered_change}
use Rattle.theory.proofs.CertificateRun.{seat_in, turn_in, path_of, done_in, MatchesAt, seat_of, place_step}
use Rattle.theory.proofs.CertificateRun.{began_alone, receipts_in}
use Rattle.theory.proofs.Pasts.{parent_within}
use Rattle.theory.proofs.Vectors.{Linked, linked_change}
use Rattle.theory.proofs.Released.{AllReleased, released_change, prefix_at, prefix_flat, flat_same, firm_on}
use Rattle.theory.proofs.Released.{from_end_default}
use Rattle.theory.proofs.Sending.{turns_length}

-- what holds of every world that a tenant can come to
pub record Invariant {S : Type 0} (M : Meaning S) (w : World) : Type 0 where
  pub chain : Chain w
  pub opening : ℕ
  pub counted : Counted opening w.nodes w.members
  pub numbered : Numbered (executed M w).letters w.nodes
  pub released : AllReleased M w
  pub linked : Linked w.nodes

-- ---- the run

no_front : (w : World) (path : List ℕ) → front w 0 path ≡ []
no_front w [] = refl
no_front w (x ∷ xs) = take_while-cons (λ y. is_firm w y && nat_lt y 0) x xs ∙ go (is_firm w x)
  where
    go : (b : Bool) → cond (b && nat_lt x 0) (x ∷ front w 0 xs) [] ≡ []
    go true = let t : nat_lt x 0 ≡ false = grind (arith, nat_tests) in rw t refl
    go false = refl

run_append : {S : Type 0} (M : Meaning S) (xs ys : List Move) (net next : Network S)
    → run_from M net xs ≡ Ok next → run_from M net (xs ++ ys) ≡ run_from M next ys
run_append M [] ys net next e = let q : net ≡ next = cc in ap (λ z. run_from M z ys) q
run_append {S} M (x ∷ xs) ys net next e = go (moved M net x) (λ n f. run_append M xs ys n next f) e
  where
    go : (r : Result (Network S) Flaw)
        → ((n : Network S) → run_from M n xs ≡ Ok next → run_from M n (xs ++ ys) ≡ run_from M next ys)
        → if_moved r (λ n. run_from M n xs) ≡ Ok next → if_moved r (λ n. run_from M n (xs ++ ys)) ≡ run_from M next ys
    go (Err flaw) rest f = cc
    go (Ok n) rest f = rest n f

seats_length : (o : ℕ) (ss : List Seat) → o ≤ length ss → length (take o ss) ≡ o
seats_length o ss h = let t = length-take o ss in omega arith

module _ {S : Type 0} (M : Meaning S) (w : World) (g : Invariant M w) where
  run_all : (n x : ℕ) → x + n ≡ length w.nodes → (net : Network S) → MatchesAt M w g.opening x (done_in w x) net
      → (final : Network S) × (run_from M net (flat_map (move_at w) (numbers_from x n)) ≡ Ok final)
      × MatchesAt M w g.opening (length w.nodes) (done_in w (length w.nodes)) final
  run_all zero x e net m = (
    net,
    refl,
    let q : x ≡ length w.nodes = omega arith in
        subst (λ z. MatchesAt M w g.opening z (done_in w z) net) q m,
  )
  run_all (suc n) x e net m =
      let first = place_step M w g.chain g.opening g.counted g.numbered x (omega arith) net m in
      let rest = run_all n (suc x) (omega arith) first.0 first.2 in (
        rest.0,
        run_append M (move_at w x) (flat_map (move_at w) (numbers_from (suc x) n)) net first.0 first.1 ∙ rest.1,
        rest.2,
      )

  abbrev start : Network S
  start = record { workers = map (new_worker M) (opening_seats w); packets = [] }

  opens : opening_seats w ≡ take g.opening (map (λ m. m.seat) w.members)
  opens = ap (λ z. take z (map (λ m. m.seat) w.members)) g.counted.opening

  starts : MatchesAt M w g.opening 0 (done_in w 0) start
  starts = record {
    count = length-map (opening_seats w) (new_worker M)
        ∙ ap length opens ∙ seats_length g.opening (map (λ m. m.seat) w.members) enough;
    work = λ u h. rw (no_front w (path_of (slice_get w.members u)))
        (at_map (new_worker M) (opening_seats w) u (seat_in w u)
        (ap (λ z. slice_get z u) opens ∙ take_get (map (λ m. m.seat) w.members)
        g.opening u (seat_in w u) h (seat_get u (let t = g.counted.within in omega arith))));
    queue = λ v u. rw (no_front w (path_of (slice_get w.members u)), no_front w (path_of (slice_get w.members v))) refl;
    enough = λ v u. rw (no_front w (path_of (slice_get w.members u))) (omega arith);
  }
    where
      enough : g.opening ≤ length (map (λ m. m.seat) w.members)
      enough = let t = g.counted.within in let z = length-map w.members (λ m. m.seat) in omega arith

      seat_get : (u : ℕ) → u < length w.members → slice_get (map (λ m. m.seat) w.members) u ≡ Some (seat_in w u)
      seat_get u h = let m = get_below w.members u h in
          at_map (λ m. m.seat) w.members u m.0 m.1 ∙ ap (λ z. Some (seat_of z)) (sym m.1)

  ran : (final : Network S) × (failure_free M (opening_seats w) (certificate w) ≡ Ok final)
      × MatchesAt M w g.opening (length w.nodes) (done_in w (length w.nodes)) final
  ran = run_all (length w.nodes) 0 (omega arith) start starts

  -- ---- what the run leaves

  done_all : (u : ℕ) (m : Member)
      → slice_get w.members u ≡ Some m → done_in w (length w.nodes) u ≡ take_while (is_firm w) m.path
  done_all u m found = ap (λ z. front w (length w.nodes) (path_of z)) found
      ∙ same_front _ _ m.path (λ j y e. let h = (g.chain.sound.units u m found).made j y e in
      rw (true_lt y (length w.nodes) h) (both_true (is_firm w y)))
    where
      both_true : (b : Bool) → (b && true) ≡ b
      both_true true = refl
      both_true false = refl

  front_stable : (u : ℕ) (m : Member)
      → slice_get w.members u ≡ Some m → IsPrefix (take_while (is_firm w) m.path) (stable_path m)
  front_stable u m found = prefix_at _ _ (λ i x e.
      let s = g.chain.sound.units u m found in
      let t = get_take_while (is_firm w) m.path i x e in
      let k = firm_on w g.chain.sound u i
      x m found (s.made i x t.0) (take_while_passes (is_firm w) m.path i x e) (s.own i x t.0) (s.indexed i x t.0) in
      take_get m.path m.stable i x k.1 t.0)

  one_fits : (u : ℕ) (m : Member) (a : Worker S) → slice_get w.members u ≡ Some m
      → slice_get ran.0.workers u ≡ Some a → IsPrefix a.received (logged M w m) × IsPrefix m.released a.outputs
  one_fits u m a found has_a =
      let within = slice_get_within w.members u m found in
      let is : worker M (receipts_in M w) u (done_in w (length w.nodes) u) ≡ a =
      same_Some _ a (sym (ran.2.work u (let t = g.counted.total in omega arith)) ∙ has_a) in
      let done = done_all u m found in (
        subst (λ z. IsPrefix z.received (logged M w m)) is
            (subst (λ z. IsPrefix (flat_map (receipt M (receipts_in M w)) z) (logged M w m)) (sym done)
            (prefix_flat (receipt M (receipts_in M w))
            (take_while (is_firm w) m.path) (stable_path m) (front_stable u m found))),
        subst (λ z. IsPrefix m.released z.outputs) is
            (subst (λ z. IsPrefix m.released (flat_map (λ x. (turn_in M w x).outputs) z)) (sym done)
            (subst (IsPrefix m.released) (flat_same (λ x. (from_end (executed M w).turns x (begun M m.seat)).outputs)
            (λ x. (turn_in M w x).outputs) (take_while (is_firm w) m.path)
            (λ i x e. let h = (g.chain.sound.units u m found).made i x (get_take_while (is_firm w) m.path i x e).0 in
            let size = turns_length M w.nodes in
            ap (λ z. z.outputs) (from_end_default (executed M w).turns
            x (begun M m.seat) (begun M (seat_in w (node_at w.nodes x).unit)) (omega arith))))
            (g.released u m found))),
      )

  fits_all : (workers : List (Worker S)) (members : List Member) → length workers ≡ length members
      → ((u : ℕ) (m : Member) (a : Worker S) → slice_get members u ≡ Some m
      → slice_get workers u ≡ Some a → IsPrefix a.received (logged M w m) × IsPrefix m.released a.outputs)
      → FitsAll M w workers members × BeginWith workers (map (λ m. m.released) members)
  fits_all [] [] e h = (tt, tt)
  fits_all (a ∷ workers) [] e h = absurd (omega arith)
  fits_all [] (m ∷ members) e h = absurd (omega arith)
  fits_all (a ∷ workers) (m ∷ members) e h =
      let first = h 0 m a refl refl in
      let rest = fits_all workers members (omega arith) (λ u n b f k. h (suc u) n b f k) in
      ((first.0, rest.0), (first.1, rest.1))

  -- the certificate is a run without failures that fits the world and puts out what is released
  pub certificate_holds : CertificateHolds M w
  certificate_holds =
      let f = fits_all ran.0.workers w.members (ran.2.count ∙ g.counted.total) one_fits in
      (ran.0, ran.1, f.0, f.1)

-- ---- every world

module _ {S : Type 0} (M : Meaning S) where
  -- a change keeps all of it
  pub invariant_change : {v w : World} → Invariant M v → Change M v w → Invariant M w
  invariant_change g c = record {
    chain = chain_change M g.chain c;
    opening = g.opening;
    counted = counted_change M g.opening g.chain.sound g.chain.owned g.counted c;
    numbered = numbered_change M g.chain.sound g.numbered c;
    released = released_change M g.chain.sound g.released c;
    linked = linked_change M g.chain.sound g.linked c;
  }

  -- it holds of a world just opened
  pub first_invariant : (step : TenantStep) (w : World) → (step_unopened M step).world ≡ Some w → Invariant M w
  first_invariant step w e = let k = first_counted M step w e in
      let c = first_chain M step w e in let r = no_letters k in record {
        chain = c;
        opening = k.units;
        counted = k.counted;
        numbered = r;
        released = λ u m f. rw (k.unreleased u m f) (firm_outputs M w m, refl);
        linked = λ x p f. absurd (
            let has_p = has_before (node_at w.nodes x).before (sender_of (node_at w.nodes x).cause) p f in
            let h = parent_within w.nodes x p has_p in
            let z = rw (began_alone M w c k.units k.counted r x h (k.all_began x h)) at has_p in cc z);
      }
    where
      no_letters : Begun w → Numbered (executed M w).letters w.nodes
      no_letters k x l s h f = let t = k.all_began x h in absurd (let q = rw f at t in cc q)

  -- it holds of every world that the tenant can come to
  pub reachable_invariant : {w : World} → Reachable M w → Invariant M w
  reachable_invariant {w} (opened e h) = first_invariant e.step w h
  reachable_invariant {w} (stepped {v = v} e r h) =
      invariant_change (reachable_invariant r) (step_changes M v w e.step e.said h)

  -- the certificate holds of every world
  pub certificate_law : CertificateLaw M
  certificate_law w r = certificate_holds M w (reachable_invariant r)

  -- what a unit released begins its firm outputs
  pub released_are_firm : ReleasedAreFirm M
  released_are_firm w r = (reachable_invariant r).released
