-- The state and the letter numbers of a unit, along its path.
use Rattle.std.proofs.Common.{◌≡◌, refl, sym, ◌∙◌, ap, ℕ, zero, suc, ◌-◌, ◌<◌, List, [], ◌∷◌, ◌++◌, length, take, arith}
use Rattle.std.specs.Prelude.{Some, slice_get}
use Rattle.std.specs.List.{fold}
use Rattle.std.proofs.lemmas.Option.{slice_get_within}
use Rattle.std.proofs.lemmas.List.{append-nil}
use Rattle.std.proofs.Math.Seq.{take-length}
use Rattle.std.proofs.lemmas.Grind.{flat_map-append}
use Rattle.std.proofs.lemmas.List.Sums.{fold-append}
use Rattle.model.specs.Handler.{Meaning}
use Rattle.model.specs.Lists.{from_end}
use Rattle.model.specs.Nodes.{Cause, began, outside, letter, node_at, begun, turn_at, turn_of, count_to}
use Rattle.model.specs.World.{World, Member, executed, receipts, receipt_of}
use Rattle.model.proofs.Places.{get_below}
use Rattle.theory.specs.Laws.{StatesAreFolds, NumbersAlongPaths}
use Rattle.theory.proofs.Sending.{turns_length}
use Rattle.theory.proofs.LettersExact.{letters_sent, take_more, first_before}
use Rattle.theory.proofs.Numbers.{line_whole}
use Rattle.theory.proofs.CertificateRun.{seat_of, seat_in, turn_is}
use Rattle.theory.proofs.Released.{from_end_default}
use Rattle.theory.proofs.Counts.{is_began}
use Rattle.theory.proofs.Certificate.{Invariant, reachable_invariant}

module _ {S : Type 0} (M : Meaning S)
    (w : World) (g : Invariant M w) (u : ℕ) (m : Member) (found : slice_get w.members u ≡ Some m) where
  abbrev folded : List ℕ → S
  folded path =
      fold (λ s q. (M.handle m.seat s q.0 q.1).state) (M.begin m.seat) (receipts (executed M w).letters w.nodes path)

  folded_more : (path : List ℕ) (x : ℕ) → folded (path ++ x ∷ []) ≡ fold (λ s q. (M.handle m.seat s q.0 q.1).state)
      (folded path) (receipt_of (executed M w).letters w.nodes (node_at w.nodes x).cause)
  folded_more path x =
      ap (fold (λ s q. (M.handle m.seat s q.0 q.1).state) (M.begin m.seat))
      (flat_map-append (λ y. receipt_of (executed M w).letters w.nodes (node_at w.nodes y).cause) path (x ∷ [])
      ∙ ap (λ t. receipts (executed M w).letters w.nodes path ++ t)
      (append-nil (receipt_of (executed M w).letters w.nodes (node_at w.nodes x).cause)))
      ∙ fold-append (λ s q. (M.handle m.seat s q.0 q.1).state) (M.begin m.seat) (receipts
      (executed M w).letters w.nodes path) (receipt_of (executed M w).letters w.nodes (node_at w.nodes x).cause)

  -- the turn of one cause
  by_cause : (x : ℕ) → x < length w.nodes
      → (state : S) (c : Cause) → (node_at w.nodes x).cause ≡ c → (c ≡ began → state ≡ M.begin m.seat)
      → (turn_of M m.seat (executed M w).letters state c).state
      ≡ fold (λ s q. (M.handle m.seat s q.0 q.1).state) state (receipt_of (executed M w).letters w.nodes c)
  by_cause x h state began e first = sym (first refl)
  by_cause x h state (outside number text) e first = refl
  by_cause x h state (letter l s) e first =
      let b = g.numbered x l s h e in
      let sent = letters_sent M w.nodes g.chain.sound.placed l b.msg b.made in
      let source : b.msg.source ≡ (node_at w.nodes s).unit =
      sent.source ∙ ap (λ z. (node_at w.nodes z).unit) b.sender in
      rw (b.made, source) refl

  -- the state after a node, from that before it
  state_next : (i x : ℕ) → slice_get m.path i ≡ Some x
      → (turn_at M m.seat (executed M w).turns (node_at w.nodes x).before).state ≡ folded (take i m.path)
      → (turn_at M m.seat (executed M w).turns (Some x)).state ≡ folded (take (suc i) m.path)
  state_next i x e before =
      let s = g.chain.sound.units u m found in
      let h = s.made i x e in
      let size = turns_length M w.nodes in
      let seat : seat_in w (node_at w.nodes x).unit ≡ m.seat = ap (seat_in w) (s.own i x e) ∙ ap seat_of found in
      let first : (node_at w.nodes x).cause ≡ began → folded (take i m.path) ≡ M.begin m.seat = λ b.
      let head = g.counted.heads x m h (ap is_began b) (ap (slice_get w.members) (s.own i x e) ∙ found) in
      let none : i ≡ 0 = sym (s.indexed i x e) ∙ s.indexed 0 x head in rw none refl in
      ap (λ z. z.state) (from_end_default
      (executed M w).turns x (begun M m.seat) (begun M (seat_in w (node_at w.nodes x).unit)) (omega arith)
      ∙ turn_is M w g.chain g.opening g.counted g.numbered x h
      ∙ ap (λ z. turn_of M z (executed M w).letters
      (turn_at M z (executed M w).turns (node_at w.nodes x).before).state (node_at w.nodes x).cause) seat)
      ∙ ap (λ z. (turn_of M m.seat (executed M w).letters z (node_at w.nodes x).cause).state) before
      ∙ by_cause x h (folded (take i m.path)) (node_at w.nodes x).cause refl first
      ∙ sym (folded_more (take i m.path) x)
      ∙ ap folded (sym (take_more m.path i x e))

  state_at : (i x : ℕ) → slice_get m.path i ≡ Some x
      → (turn_at M m.seat (executed M w).turns (Some x)).state ≡ folded (take (suc i) m.path)
  state_at zero x e = state_next 0 x e (rw (first_before (g.chain.sound.units u m found) e) refl)
  state_at (suc j) x e =
      let within = slice_get_within m.path (suc j) x e in
      let r = get_below m.path j (omega arith) in
      state_next (suc j) x e (rw ((g.chain.sound.units u m found).chained j r.0 x r.1 e) (state_at j r.0 r.1))

  state_now : (turn_at M m.seat (executed M w).turns (slice_get m.path (length m.path - 1))).state ≡ folded m.path
  state_now =
      let s = g.chain.sound.units u m found in
      let begun = s.begun in let logged = s.logged in
      let r = get_below m.path (length m.path - 1) (omega arith) in
      let size : suc (length m.path - 1) ≡ length m.path = omega arith in
      ap (λ o. (turn_at M m.seat (executed M w).turns o).state) r.1 ∙ state_at (length m.path - 1) r.0 r.1
      ∙ ap folded (ap (λ k. take k m.path) size ∙ take-length m.path)

module _ {S : Type 0} (M : Meaning S) where
  -- the state of a unit is the fold of the receipts on its path
  pub states_are_folds : StatesAreFolds M
  states_are_folds w r u m found = state_now M w (reachable_invariant M r) u m found

  -- the numbers of a unit's next letters go on from the counts along its path
  pub numbers_along_paths : NumbersAlongPaths M
  numbers_along_paths w r u m found t =
      let s = (reachable_invariant M r).chain.sound in
      line_whole s.placed (s.units u m found) (λ x. count_to t (from_end (executed M w).sends x []))
