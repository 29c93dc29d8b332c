-- The certificate's moves make a run without failures, which stays beside the firm fronts of the paths.
use Rattle.std.proofs.Common.{◌≡◌, ◌≢◌, inl, inr, refl, sym, ◌∙◌, ap, subst, ℕ, zero, suc, ◌+◌, ◌<◌, ◌≤◌, Bool, true}
use Rattle.std.proofs.Common.{false, cond, ◌&&◌, List, [], ◌∷◌, ◌++◌, length, take, arith, length-take}
use Rattle.std.specs.Prelude.{Option, Some, None, Ok, slice_get, nat_lt, nat_le}
use Rattle.std.specs.List.{filter, sum_by, take_while, prefix_len}
use Rattle.std.proofs.lemmas.Bool.Decides.{nat_tests}
use Rattle.std.proofs.lemmas.Option.{slice_get_within}
use Rattle.std.proofs.lemmas.List.Sums.{fold-append}
use native.Mathlib.Decide.{dec_lt, ℕ_discrete}
use Rattle.model.specs.declared.names.Seat.{Seat}
use Rattle.model.specs.declared.names.Source.{Source}
use Rattle.model.specs.declared.names.Source.TheVariants.{Outside, Unit as FromUnit}
use Rattle.model.specs.declared.moves.Move.{Move}
use Rattle.model.specs.declared.moves.Move.TheVariants.{Outside as Takes, Letter as TakesLetter, Join as Joins}
use Rattle.model.specs.Handler.{Turn, Meaning}
use Rattle.model.specs.Lists.{from_end}
use Rattle.model.specs.Nodes.{no_node, node_at, Cause, began, outside, letter, place_before, parents, line, count_to}
use Rattle.model.specs.Nodes.{begun, turn_at, next_turn, DependsOn}
use Rattle.model.specs.Nodes.DependsOn.{itself}
use Rattle.model.specs.World.{World, Member, executed, taken, source_of, text_of, is_from, is_firm}
use Rattle.model.specs.FailureFree.{Network, moved, run_from, move_of, move_at, opening_units}
use Rattle.model.proofs.Places.{get_below}
use Rattle.theory.proofs.ListLaws.{bool_cases, has_sender}
use Rattle.theory.proofs.Pasts.{first_step, from_parent, depends_le}
use Rattle.theory.proofs.Invariants.{Sound}
use Rattle.theory.proofs.Firm.{StandsStable, firm_stands, stands_firm}
use Rattle.theory.proofs.Chain.{Chain}
use Rattle.theory.proofs.Sending.{Received, turns_are}
use Rattle.theory.proofs.Simulation.{Matches, one_more, more_here, more_other, outside_step, letter_step, begin_step}
use Rattle.theory.proofs.Simulation.{join_step, matches_same, state_after, texts_to, taken_from, Receipts}
use Rattle.theory.proofs.Fronts.{front, front_at, front_before, front_after, front_skips, firm_past}
use Rattle.theory.proofs.Counts.{Counted, is_began, units_at, units_first, units_above, units_step_le}
use Rattle.theory.proofs.LettersExact.{letters_sent, sends_are, sum_line_path, take_more, text_at, first_before}
use Rattle.theory.proofs.Numbers.{Numbered, received_of, sender_below}

-- ---- what a world says of each receipt

-- the seat of a unit, if it is there
abbrev pub seat_of : Option Member → Seat
seat_of None = no_node.seat
seat_of (Some m) = m.seat

-- the seat of the unit at u
abbrev pub seat_in : World → ℕ → Seat
seat_in w u = seat_of (slice_get w.members u)

-- from whom the node at x received
abbrev pub source_in : World → ℕ → Option Source
source_in w x = source_of w.nodes (node_at w.nodes x).cause

-- the text that it received
abbrev pub text_in : {S : Type 0} → Meaning S → World → ℕ → List ℕ
text_in M w x = text_of (executed M w).letters (node_at w.nodes x).cause

-- its turn
abbrev pub turn_in : {S : Type 0} → Meaning S → World → ℕ → Turn S
turn_in M w x = from_end (executed M w).turns x (begun M (seat_in w (node_at w.nodes x).unit))

-- its sends to units that were there
abbrev pub sends_in : {S : Type 0} → Meaning S → World → ℕ → List (ℕ × List ℕ)
sends_in M w x = from_end (executed M w).sends x []

-- all of these in one
abbrev pub receipts_in : {S : Type 0} → Meaning S → World → Receipts S
receipts_in M w =
    record { seat = seat_in w; source = source_in w; text = text_in M w; turn = turn_in M w; sends_of = sends_in M w }

-- the path of a unit, if it is there
abbrev pub path_of : Option Member → List ℕ
path_of None = []
path_of (Some m) = m.path

-- the receipts of a unit's path that are firm and were made before the k-th node
abbrev pub done_in : World → ℕ → ℕ → List ℕ
done_in w k u = front w k (path_of (slice_get w.members u))

-- the state of a unit after these nodes
abbrev state_in : {S : Type 0} → Meaning S → World → ℕ → List ℕ → S
state_in M w u path = state_after M (receipts_in M w) u path

-- the network stands where the world's first k nodes do
abbrev pub MatchesAt : {S : Type 0} → Meaning S → World → ℕ → ℕ → (ℕ → List ℕ) → Network S → Type 0
MatchesAt M w o k done net = Matches M (receipts_in M w) (units_at o w.nodes k) done net

-- ---- fronts

take_take : {X : Type 0} (i n : ℕ) (xs : List X) → i ≤ n → take i (take n xs) ≡ take i xs
take_take zero n xs h = refl
take_take (suc i) zero xs h = absurd (omega arith)
take_take (suc i) (suc n) [] h = refl
take_take (suc i) (suc n) (x ∷ xs) h = ap (λ t. x ∷ t) (take_take i n xs (omega arith))

front_takes : (p : ℕ → Bool) (path : List ℕ) (i : ℕ)
    → i ≤ length (take_while p path) → take i (take_while p path) ≡ take i path
front_takes p path i h =
    take_take i (prefix_len p path) path (let t = length-take (prefix_len p path) path in omega arith)

-- ---- the world

module _ {S : Type 0} (M : Meaning S) (w : World)
    (c : Chain w) (o : ℕ) (k : Counted o w.nodes w.members) (r : Numbered (executed M w).letters w.nodes) where
  s : Sound w
  s = c.sound

  owner : (x : ℕ) → x < length w.nodes → (m : Member) × (slice_get w.members (node_at w.nodes x).unit ≡ Some m)
  owner x h = get_below w.members (node_at w.nodes x).unit (c.owned x h)

  -- a beginning depends on no other node
  pub began_alone : (x : ℕ) → x < length w.nodes
      → is_began (node_at w.nodes x).cause ≡ true → parents (node_at w.nodes x) ≡ []
  began_alone x h b =
      let m = (owner x h).0 in
      let found = (owner x h).1 in
      (s.units (node_at w.nodes x).unit m found).first x (k.heads x m h b found)

  -- a beginning is firm
  began_firm : (x : ℕ) → x < length w.nodes → is_began (node_at w.nodes x).cause ≡ true → is_firm w x ≡ true
  began_firm x h b =
      let m = (owner x h).0 in
      let found = (owner x h).1 in
      let head = k.heads x m h b found in
      let u = s.units (node_at w.nodes x).unit m found in
      stands_firm w x (λ y d. elim (first_step d) [
        | inl e ↦ record {
          unit = (node_at w.nodes x).unit;
          member = m;
          place = 0;
          found = found;
          on_path = head ∙ ap Some e;
          logged = let t = u.begun in omega arith;
        }
        | inr q ↦ absurd (let z = rw (u.first x head) at q.1 in cc z)
      ])

  -- each unit's seat
  seat_is : (u : ℕ) (m : Member) → slice_get w.members u ≡ Some m → (seat_in w u).unit ≡ u
  seat_is u m found = ap (λ z. (seat_of z).unit) found ∙ (s.units u m found).seated

  -- a node sits at its unit's seat
  node_seat : (x : ℕ) → x < length w.nodes → (node_at w.nodes x).seat ≡ seat_in w (node_at w.nodes x).unit
  node_seat x h = let m = owner x h in k.seated x m.0 h m.1 ∙ sym (ap seat_of m.1)

  -- the unit of an earlier node is there
  unit_there : (x j : ℕ) → x < j → j ≤ length w.nodes → (node_at w.nodes x).unit < units_at o w.nodes j
  unit_there x j h le = elim (bool_cases (is_began (node_at w.nodes x).cause)) [
    | inr b ↦ let t = k.present x (omega arith) b in let g = units_step_le o w.nodes x j (omega arith) in omega arith
    | inl b ↦ elim (dec_lt x o) [
      | yes q ↦ let t = k.first_unit x q in let g = units_above o w.nodes j in omega arith
      | no q ↦
          let t = k.joined x (omega arith) (omega arith) b in
          let g = units_step_le o w.nodes (suc x) j (omega arith) in
          let le' : nat_le o x ≡ true = grind (arith, nat_tests) in
          let z : units_at o w.nodes (suc x) ≡ suc (units_at o w.nodes x) = rw (le', b) refl in
          omega (arith, t, g, z)
    ]
  ]

  -- what a node depends on is of a unit that was there
  pub past_unit : (x y : ℕ) → x < length w.nodes
      → DependsOn w.nodes x y → (node_at w.nodes y).unit < (node_at w.nodes x).units
  past_unit x y h d = elim (bool_cases (is_began (node_at w.nodes x).cause)) [
    | inl b ↦ elim (first_step d) [
      | inr q ↦ absurd (let z = rw (began_alone x h b) at q.1 in cc z)
      | inl e ↦ rw (← e) (elim (dec_lt x o) [
        | yes low ↦ let t = k.first_units x low in let z = k.first_unit x low in omega arith
        | no high ↦ let t = k.joined_units x h (omega arith) b in omega arith
      ])
    ]
    | inr b ↦ let t = k.others x h b in let le = depends_le s.placed d in elim (ℕ_discrete y x) [
      | yes q ↦ rw q (let z = k.present x h b in omega arith)
      | no q ↦ let z = unit_there y x (omega arith) (omega arith) in omega arith
    ]
  ]

  units_same : (x : ℕ) → is_began (node_at w.nodes x).cause ≡ false → units_at o w.nodes (suc x) ≡ units_at o w.nodes x
  units_same x b = rw b (go (nat_le o x))
    where
      go : (q : Bool) → cond (q && false) (suc (units_at o w.nodes x)) (units_at o w.nodes x) ≡ units_at o w.nodes x
      go true = refl
      go false = refl

  units_opening : (x : ℕ) → x < o → units_at o w.nodes (suc x) ≡ units_at o w.nodes x
  units_opening x h = units_first o w.nodes (suc x) (omega arith) ∙ sym (units_first o w.nodes x (omega arith))

  units_join : (x : ℕ) → o ≤ x
      → is_began (node_at w.nodes x).cause ≡ true → units_at o w.nodes (suc x) ≡ suc (units_at o w.nodes x)
  units_join x h b = let le : nat_le o x ≡ true = grind (arith, nat_tests) in rw (le, b) refl

  received : Received (executed M w).letters w.nodes
  received = received_of s.placed r

  -- the turn of a node is its unit's turn upon what it received, after the state before it
  pub turn_is : (x : ℕ) → x < length w.nodes → turn_in M w x ≡ next_turn
      M (seat_in w (node_at w.nodes x).unit) (executed M w) (node_at w.nodes x).before (node_at w.nodes x).cause
  turn_is x h = turns_are M w.nodes (begun M (seat_in w (node_at w.nodes x).unit)) s.placed received x h
      ∙ ap (λ z. next_turn M z (executed M w) (node_at w.nodes x).before (node_at w.nodes x).cause) (node_seat x h)

  -- the state before a node of a path
  state_is : (u : ℕ) (m : Member) → slice_get w.members u ≡ Some m → (i x : ℕ) → slice_get m.path i ≡ Some x
      → (turn_at M (seat_in w u) (executed M w).turns (node_at w.nodes x).before).state ≡ state_in M w u (take i m.path)
  state_is u m found zero x e = rw (first_before (s.units u m found) e) refl
  state_is u m found (suc j) x e =
      let within = slice_get_within m.path (suc j) x e in
      let q = get_below m.path j (omega arith) in
      let g = s.units u m found in
      rw (g.chained j q.0 x q.1 e, take_more m.path j q.0 q.1)
      (ap (λ v. (from_end (executed M w).turns q.0 (begun M (seat_in w v))).state) (sym (g.own j q.0 q.1))
      ∙ sym (fold-append (λ _ y. (turn_in M w y).state) (M.begin (seat_in w u)) (take j m.path) (q.0 ∷ [])))

  -- what each unit has done once the node at x is done too
  module _ (u i x : ℕ) (m : Member)
      (found : slice_get w.members u ≡ Some m) (on : slice_get m.path i ≡ Some x) (firm : is_firm w x ≡ true) where
    done_before : done_in w x u ≡ take i m.path
    done_before = ap (λ z. front w x (path_of z)) found ∙ front_before w s u i x m found on firm

    done_after : done_in w (suc x) u ≡ take i m.path ++ x ∷ []
    done_after = ap (λ z. front w (suc x) (path_of z)) found
        ∙ front_after w s u i x m found on firm ∙ take_more m.path i x on

    not_of_other : (v : ℕ) → v ≢ u
        → (z : Option Member) → slice_get w.members v ≡ z → (j : ℕ) → ¬ (slice_get (path_of z) j ≡ Some x)
    not_of_other v other None f j e = cc
    not_of_other v other (Some n) f j e =
        absurd (other (sym ((s.units v n f).own j x e) ∙ (s.units u m found).own i x on))

    done_next : (v : ℕ) → one_more (done_in w x) u x v ≡ done_in w (suc x) v
    done_next v = elim (ℕ_discrete v u) [
      | yes q ↦ rw (q, more_here (done_in w x) u x, done_before) (sym done_after)
      | no q ↦ more_other (done_in w x) u x v q ∙ sym
          (front_skips w x (path_of (slice_get w.members v)) (inr (not_of_other v q (slice_get w.members v) refl)))
    ]

  -- ---- one place

  abbrev Next : ℕ → Network S → List Move → Type 0
  Next x net moves = (next : Network S)
      × (run_from M net moves ≡ Ok next) × MatchesAt M w o (suc x) (done_in w (suc x)) next

  skip_step : (x : ℕ) → x < length w.nodes
      → is_firm w x ≡ false → (net : Network S) → MatchesAt M w o x (done_in w x) net → Next x net []
  skip_step x h lax net m =
      let plain : is_began (node_at w.nodes x).cause ≡ false =
      elim (bool_cases (is_began (node_at w.nodes x).cause)) [
        | inr b ↦ b
        | inl b ↦ absurd (let t = began_firm x h b in cc (t, lax))
      ] in (
        net,
        refl,
        matches_same M (receipts_in M w)
            (units_at o w.nodes x) (units_at o w.nodes (suc x)) (done_in w x) (done_in w (suc x)) net
            (sym (units_same x plain)) (λ v. sym (front_skips w x (path_of (slice_get w.members v)) (inl lax))) m,
      )

  began_turn : (x : ℕ) → x < length w.nodes
      → (node_at w.nodes x).cause ≡ began → turn_in M w x ≡ begun M (seat_in w (node_at w.nodes x).unit)
  began_turn x h e = turn_is x h ∙ rw e refl

  began_sends : (x : ℕ) → x < length w.nodes → (node_at w.nodes x).cause ≡ began → sends_in M w x ≡ []
  began_sends x h e = sends_are M w.nodes (begun M (seat_in w (node_at w.nodes x).unit)) x h
      ∙ rw (began_turn x h e) refl

  began_case : (x : ℕ) → x < length w.nodes → (node_at w.nodes x).cause ≡ began → (units : ℕ) (net : Network S)
      → Matches M (receipts_in M w) units (done_in w x) net
      → Matches M (receipts_in M w) units (done_in w (suc x)) net
  began_case x h e units net mt =
      let b : is_began (node_at w.nodes x).cause ≡ true = rw e refl in
      let u = (node_at w.nodes x).unit in
      let m = (owner x h).0 in
      let found = (owner x h).1 in
      let head = k.heads x m h b found in
      let firm = began_firm x h b in
      matches_same M (receipts_in M w)
      units units (one_more (done_in w x) u x) (done_in w (suc x)) net refl (done_next u 0 x m found head firm)
      (begin_step M (receipts_in M w) units (done_in w x)
      net u x (done_before u 0 x m found head firm) mt (rw e refl) (began_turn x h e) (began_sends x h e))

  open_step : (x : ℕ) → x < length w.nodes → (node_at w.nodes x).cause ≡ began
      → x < o → (net : Network S) → MatchesAt M w o x (done_in w x) net → Next x net []
  open_step x h e low net mt = (
    net,
    refl,
    subst (λ units. Matches M (receipts_in M w) units (done_in w (suc x)) net)
        (sym (units_opening x low)) (began_case x h e (units_at o w.nodes x) net mt),
  )

  join_case : (x : ℕ) → x < length w.nodes → (node_at w.nodes x).cause ≡ began → o ≤ x
      → (net : Network S) → MatchesAt M w o x (done_in w x) net → Next x net (Joins (node_at w.nodes x).seat.kind ∷ [])
  join_case x h e high net mt =
      let b : is_began (node_at w.nodes x).cause ≡ true = rw e refl in
      let u = (node_at w.nodes x).unit in
      let m = (owner x h).0 in
      let found = (owner x h).1 in
      let head = k.heads x m h b found in
      let is : u ≡ units_at o w.nodes x = k.joined x h high b in
      let within = slice_get_within w.members u m found in
      let room : nat_le 16 (units_at o w.nodes x) ≡ false = let t = k.few in
      let z : units_at o w.nodes x < 16 = omega arith in grind (arith, nat_tests, z) in
      let kind : (node_at w.nodes x).seat.kind ≡ m.seat.kind = ap (λ z. z.kind) (k.seated x m h found) in
      let none : done_in w x (units_at o w.nodes x) ≡ [] =
      ap (done_in w x) (sym is) ∙ done_before u 0 x m found head (began_firm x h b) in
      let seat : seat_in w (units_at o w.nodes x) ≡ record {
        unit = units_at o w.nodes x;
        kind = (node_at w.nodes x).seat.kind;
        home = units_at o w.nodes x + 1;
      } =
      ap (seat_in w) (sym is) ∙ ap seat_of found
      ∙ seat_parts m.seat (units_at o w.nodes x) (node_at w.nodes x).seat.kind ((s.units u m found).seated ∙ is)
      (sym kind) (k.homes u m found (let t = units_above o w.nodes x in omega arith) ∙ ap (λ z. z + 1) is) in
      let j = join_step M (receipts_in M w)
      (units_at o w.nodes x) (node_at w.nodes x).seat.kind (done_in w x) net room none seat mt in (
        j.0,
        rw j.1 refl,
        subst (λ units. Matches M (receipts_in M w) units (done_in w (suc x)) j.0)
            (sym (units_join x high b)) (began_case x h e (suc (units_at o w.nodes x)) j.0 j.2),
      )
    where
      seat_parts : (q : Seat) (unit kind : ℕ)
          → q.unit ≡ unit → q.kind ≡ kind → q.home ≡ unit + 1 → q ≡ record { unit = unit; kind = kind; home = unit + 1 }
      seat_parts q unit kind e f g = λ i. record { unit = e i; kind = f i; home = g i }

  -- the path that a firm node stands on
  standing : (x : ℕ) → x < length w.nodes → is_firm w x ≡ true → StandsStable w.members x
  standing x h firm = firm_stands w x x s.placed h firm itself

  sends_now : (x : ℕ) → x < length w.nodes → is_began (node_at w.nodes x).cause ≡ false
      → sends_in M w x ≡ filter (λ q. nat_lt q.0 (units_at o w.nodes x)) (turn_in M w x).sends
  sends_now x h b = sends_are M w.nodes (begun M (seat_in w (node_at w.nodes x).unit)) x h
      ∙ ap (λ z. filter (λ q. nat_lt q.0 z) (turn_in M w x).sends) (k.others x h b)

  -- what the next network is at a receipt
  arrive : (x u i : ℕ) (m : Member) → slice_get w.members u ≡ Some m → slice_get m.path i ≡ Some x
      → is_firm w x ≡ true → is_began (node_at w.nodes x).cause ≡ false → (net : Network S) (move : Move)
      → (next : Network S) × (moved M net move ≡ Ok next)
      × Matches M (receipts_in M w) (units_at o w.nodes x) (one_more (done_in w x) u x) next
      → Next x net (move ∷ [])
  arrive x u i m found on firm b net move j = (
    j.0,
    rw j.1 refl,
    matches_same M (receipts_in M w)
        (units_at o w.nodes x) (units_at o w.nodes (suc x)) (one_more (done_in w x) u x) (done_in w (suc x)) j.0
        (sym (units_same x b)) (done_next u i x m found on firm) j.2,
  )

  outside_case : (x number : ℕ) (text : List ℕ)
      → x < length w.nodes → is_firm w x ≡ true → (node_at w.nodes x).cause ≡ outside number text
      → (net : Network S) → MatchesAt M w o x (done_in w x) net → Next x net (Takes (node_at w.nodes x).unit text ∷ [])
  outside_case x number text h firm e net mt =
      let b : is_began (node_at w.nodes x).cause ≡ false = rw e refl in
      let st = standing x h firm in
      let u = st.unit in
      let own : (node_at w.nodes x).unit ≡ u = (s.units u st.member st.found).own st.place x st.on_path in
      let read : text_in M w x ≡ text = rw e refl in
      let here : u < units_at o w.nodes x = let t = k.present x h b in omega arith in
      let works : turn_in M w x ≡ M.handle (seat_in w u) (state_in M w u (done_in w x u)) Outside (text_in M w x) =
      turn_is x h ∙ rw (e, own, done_before u st.place x st.member st.found st.on_path firm)
      (ap (λ z. M.handle (seat_in w u) z Outside text) (state_is u st.member st.found st.place x st.on_path)) in
      subst (λ move. Next x net (move ∷ []))
      (let z : Takes u (text_in M w x) ≡ Takes (node_at w.nodes x).unit text = rw (read, own) refl in z)
      (arrive x u st.place st.member st.found st.on_path firm b net (Takes u (text_in M w x))
      (outside_step M (receipts_in M w) (units_at o w.nodes x)
      (done_in w x) net u x here (seat_is u st.member st.found) mt (rw e refl) (sends_now x h b) works))

  sender_firm : (x l q : ℕ) → x < length w.nodes
      → is_firm w x ≡ true → (node_at w.nodes x).cause ≡ letter l q → is_firm w q ≡ true
  sender_firm x l q h firm e = firm_past w x q s.placed
      h firm (from_parent (has_sender (place_before (node_at w.nodes x).before) (node_at w.nodes x).cause l q e) itself)

  number_at : (n place a b u q : ℕ) → a ≡ u → b ≡ q → n ≡ sum_by (λ y. count_to a (sends_in M w y))
      (line w.nodes (node_at w.nodes b).before) + count_to a (take place (sends_in M w b))
      → n ≡ sum_by (λ y. count_to u (sends_in M w y))
      (line w.nodes (node_at w.nodes q).before) + count_to u (take place (sends_in M w q))
  number_at n place a b u q e f h = rw (← e, ← f) h

  -- the letter of a firm node is the next from its sender
  is_next : (x l q : ℕ) → x < length w.nodes → is_firm w x ≡ true → (node_at w.nodes x).cause ≡ letter l q
      → (u i : ℕ) (m : Member) → slice_get w.members u ≡ Some m → slice_get m.path i ≡ Some x
      → slice_get (texts_to M (receipts_in M w) u (done_in w x (node_at w.nodes q).unit))
      (taken_from M (receipts_in M w) (node_at w.nodes q).unit (done_in w x u)) ≡ Some (text_in M w x)
  is_next x l q h firm e u i m found on =
      let b = r x l q h e in
      let msg = b.msg in
      let before : q < x = sender_below w.nodes s.placed x l q e in
      let firm' = sender_firm x l q h firm e in
      let st = standing q (omega arith) firm' in
      let g = s.units st.unit st.member st.found in
      let v = (node_at w.nodes q).unit in
      let own : v ≡ st.unit = g.own st.place q st.on_path in
      let to : msg.receiver ≡ u = b.receiver ∙ (s.units u m found).own i x on in
      let sent = letters_sent M w.nodes s.placed l msg b.made in
      let done = front w x st.member.path in
      let at : slice_get done st.place ≡ Some q =
      front_at w s st.unit st.place q st.member st.found st.on_path firm' x before in
      let there : slice_get (sends_in M w q) sent.place ≡ Some (u, msg.text) =
      ap (λ z. slice_get (sends_in M w z) sent.place) (sym b.sender)
      ∙ sent.there ∙ ap (λ z. Some (z, msg.text)) to in
      let source : msg.source ≡ v = sent.source ∙ ap (λ z. (node_at w.nodes z).unit) b.sender in
      let along : sum_by (λ y. count_to u (sends_in M w y))
      (take st.place done) ≡ sum_by (λ y. count_to u (sends_in M w y)) (line w.nodes (node_at w.nodes q).before) =
      ap (sum_by (λ y. count_to u (sends_in M w y)))
      (front_takes _ st.member.path st.place (let t = slice_get_within done st.place q at in omega arith))
      ∙ sym (sum_line_path s.placed g (λ y. count_to u (sends_in M w y)) st.place q st.on_path) in
      let sent_number : msg.number ≡ sum_by (λ y. count_to u (sends_in M w y))
      (line w.nodes (node_at w.nodes q).before) + count_to u (take sent.place (sends_in M w q)) =
      number_at msg.number sent.place msg.receiver msg.sender u q to b.sender sent.number in
      let taken_number : msg.number ≡ taken w.nodes (take i m.path) (FromUnit v) =
      b.number ∙ rw source
      (sum_line_path s.placed (s.units u m found) (λ y. cond (is_from (FromUnit v) (source_in w y)) 1 0) i x on) in
      let count : taken w.nodes (done_in w x u) (FromUnit v) ≡ sum_by
      (λ y. count_to u (sends_in M w y)) (take st.place done) + count_to u (take sent.place (sends_in M w q)) =
      ap (λ z. taken w.nodes z (FromUnit v)) (done_before u i x m found on firm)
      ∙ sym taken_number ∙ sent_number ∙ ap (λ z. z + count_to u (take sent.place (sends_in M w q))) (sym along) in
      let read : text_in M w x ≡ msg.text = rw (e, b.made) refl in
      let paths : done_in w x v ≡ done = ap (done_in w x) own ∙ ap (λ z. front w x (path_of z)) st.found in
      rw (paths, read, count) (text_at (sends_in M w) u done st.place q sent.place msg.text at there)

  letter_case : (x l q : ℕ) → x < length w.nodes → is_firm w x ≡ true
      → (node_at w.nodes x).cause ≡ letter l q → (net : Network S) → MatchesAt M w o x (done_in w x) net
      → Next x net (TakesLetter (node_at w.nodes x).unit (node_at w.nodes q).unit ∷ [])
  letter_case x l q h firm e net mt =
      let plain : is_began (node_at w.nodes x).cause ≡ false = rw e refl in
      let st = standing x h firm in
      let u = st.unit in
      let v = (node_at w.nodes q).unit in
      let own : (node_at w.nodes x).unit ≡ u = (s.units u st.member st.found).own st.place x st.on_path in
      let here : u < units_at o w.nodes x = let t = k.present x h plain in omega arith in
      let before : q < x = sender_below w.nodes s.placed x l q e in
      let there : v < units_at o w.nodes x = unit_there q x before (omega arith) in
      let b = r x l q h e in
      let sent = letters_sent M w.nodes s.placed l b.msg b.made in
      let source : b.msg.source ≡ v = sent.source ∙ ap (λ z. (node_at w.nodes z).unit) b.sender in
      let works : turn_in M w x ≡ M.handle (seat_in w u) (state_in M w u (done_in w x u)) (FromUnit v) (text_in M w x) =
      turn_is x h ∙ rw (
        e,
        b.made,
        own,
        done_before u st.place x st.member st.found st.on_path firm,
        source,
      ) (ap (λ z. M.handle (seat_in w u) z (FromUnit v) b.msg.text)
      (state_is u st.member st.found st.place x st.on_path)) in
      subst (λ z. Next x net (TakesLetter z v ∷ [])) (sym own)
      (arrive x u st.place st.member st.found st.on_path firm plain net (TakesLetter u v)
      (letter_step M (receipts_in M w)
      (units_at o w.nodes x) (done_in w x) net u v x here there (seat_is u st.member st.found) mt (rw e refl)
      (is_next x l q h firm e u st.place st.member st.found st.on_path) (sends_now x h plain) works))

  -- ---- all places

  -- the next place of the world is the next move of the run, or none
  pub place_step : (x : ℕ) → x < length w.nodes
      → (net : Network S) → MatchesAt M w o x (done_in w x) net → Next x net (move_at w x)
  place_step x h net mt = elim (bool_cases (is_firm w x)) [
    | inr lax ↦ rw lax (skip_step x h lax net mt)
    | inl firm ↦ rw firm (go (node_at w.nodes x).cause refl firm)
  ]
    where
      go : (cause : Cause) → (node_at w.nodes x).cause ≡ cause
          → is_firm w x ≡ true → Next x net (move_of w.nodes (opening_units w.members) (node_at w.nodes x) cause)
      go began e firm = elim (dec_lt x o) [
        | yes low ↦
            let t = k.first_unit x low in
            let z : nat_lt (node_at w.nodes x).unit (opening_units w.members) ≡ true =
            rw k.opening (grind (arith, nat_tests)) in
            rw z (open_step x h e low net mt)
        | no high ↦
            let t : (node_at w.nodes x).unit ≡ units_at o w.nodes x = k.joined x h (omega arith) (rw e refl) in
            let f = units_above o w.nodes x in
            let z : nat_lt (node_at w.nodes x).unit (opening_units w.members) ≡ false =
            rw k.opening (grind (arith, nat_tests)) in
            rw z (join_case x h e (omega arith) net mt)
      ]
      go (outside number text) e firm = outside_case x number text h firm e net mt
      go (letter l q) e firm = letter_case x l q h firm e net mt
