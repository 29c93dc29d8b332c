-- What is read off a tenant is that of the world that it stands for.
use Rattle.std.specs.Prelude.{All}
use Rattle.std.proofs.lemmas.List.{nil_from_length}
use Rattle.std.proofs.lemmas.List.Elements.{All-get_or}
use Rattle.std.proofs.lemmas.Option.{get_or_from_slice_get}
use Rattle.std.proofs.Common.{◌≡◌, refl, subst, sym, ◌∙◌, ap, ℕ, ◌+◌, ◌<◌, List, [], ◌∷◌, ◌++◌, length, take, drop, map}
use Rattle.std.proofs.Common.{get_or, add-one, append_assoc, arith}
use Rattle.std.specs.Prelude.{Some, option_map, slice_get}
use Rattle.std.proofs.Math.Seq.{drop-cons}
use Rattle.std.proofs.lemmas.Option.{slice_get_past, slice_get_within}
use native.Mathlib.Decide.{dec_lt}
use Rattle.model.specs.declared.names.Seat.{Seat}
use Rattle.model.specs.declared.records.Record.{Record}
use Rattle.model.specs.FailureFree.{opening_seats, opening_units}
use Rattle.model.specs.Handler.{Meaning}
use Rattle.model.specs.Nodes.{Message}
use Rattle.model.specs.World.{World, Member as InWorld, executed}
use Rattle.model.proofs.Places.{get_below}
use Rattle.compact.specs.Compact.{IsUnit, CompactLetter, CompactUnit}
use Rattle.compact.proofs.Words.{maps_same}
use Rattle.tenant.specs.Kept.{TenantState, Member}
use Rattle.tenant.specs.Reads.{opening_count, opening_of, seats_of}
use Rattle.tenant.specs.Represents.{IsMember, StandsFor}
use Rattle.tenant.specs.Stands.{receiver_in, released_in}

-- how many units the world was opened with, by their seats
units_opened : (members : List InWorld) → opening_units members ≡ opening_count (map (λ m. m.seat) members)
units_opened [] = refl
units_opened (m ∷ members) = refl

-- one seat more of the front
pub more_seats : {S : Type 0} (members : List (Member S)) (i : ℕ) (m : Member S) (before after : List Seat)
    (seat : Seat) → i < length members → m ≡ get_or members i m → before ++ seats_of (drop i members) ≡ seats_of members
    → seat ≡ m.unit_state.seat
    → after ≡ before ++ seat ∷ [] → after ++ seats_of (drop (i + 1) members) ≡ seats_of members
more_seats {S} members i m before after seat within at so_far is made =
    let rest : List Seat = seats_of (drop (i + 1) members) in
    let here : seat ≡ (get_or members i m).unit_state.seat = is ∙ ap (λ (n : Member S). n.unit_state.seat) at in
    let next : drop i members ≡ get_or members i m ∷ drop (i + 1) members = rw add-one (drop-cons members i m within) in
    ap (λ ss. ss ++ rest) made
    ∙ append_assoc before (seat ∷ []) rest
    ∙ ap (λ (s : Seat). before ++ s ∷ rest) here
    ∙ ap (λ ms. before ++ seats_of ms) (sym next)
    ∙ so_far

-- What holds of each element holds of this one.
pub All-at : {X : Type 0} (P : X → Type 0) (xs : List X) (u : ℕ) (x : X) → All P xs → slice_get xs u ≡ Some x → P x
All-at P xs u x all at =
    subst P (get_or_from_slice_get xs u x x at) (All-get_or P xs u x (slice_get_within xs u x at) all)

module _ {S : Type 0} (M : Meaning S) (name : List ℕ)
    (live : ℕ → List ℕ) (t : TenantState S) (w : World) (log : List Record) (s : StandsFor M name live t w log) where
  -- the unit of the tenant, and that of the compact state, which stand for a member of the world
  pub record StandsAt (u : ℕ) (m : InWorld) : Type 0 where
    pub member : Member S
    pub unit : CompactUnit S
    pub found : slice_get t.members u ≡ Some member
    pub kept : IsMember t live u member unit
    pub stands : IsUnit M name w log m unit

  -- For each unit of the world, the tenant has a member that stands for it.
  pub stands_at : (u : ℕ) (m : InWorld) → slice_get w.members u ≡ Some m → StandsAt u m
  stands_at u m at =
      let represents = s.2.represents in
      let within = slice_get_within w.members u m at in
      let units = represents.width in
      let width = s.1.width in
      let x = get_below s.0.units u (omega (arith, within, units)) in
      let n = get_below t.members u (omega (arith, within, units, width)) in
      record {
        member = n.0;
        unit = x.0;
        found = n.1;
        kept = s.1.members u n.0 x.0 n.1 x.1;
        stands = represents.units u m x.0 at x.1;
      }

  -- The table of a tenant is that of its world.
  pub table_same : t.table ≡ w.table
  table_same = sym s.1.table ∙ s.2.represents.table

  -- where no text was given up
  pub released_same : All (λ n. n ≡ 0) t.gone → (u : ℕ) → slice_get t.released u ≡ released_in w u
  released_same none u = elim (dec_lt u (length w.members)) [
    | yes q ↦
        let m = get_below w.members u q in
        let x = stands_at u m.0 m.1 in
        let out = x.kept.released in
        out.3 ∙ ap (λ (r : List (List ℕ)). Some r) (ap (λ (r : List (List ℕ)). r ++ out.1)
        (sym (nil_from_length out.0 (All-at (λ n. n ≡ 0) t.gone u (length out.0) none out.2)))
        ∙ sym out.4 ∙ x.stands.released) ∙ ap (option_map (λ (m : InWorld). m.released)) (sym m.1)
    | no q ↦
        let units = s.2.represents.width in
        let lines = s.1.lines in
        slice_get_past t.released u (omega (arith, q, units, lines))
        ∙ ap (option_map (λ (m : InWorld). m.released)) (sym (slice_get_past w.members u (omega (arith, q))))
  ]

  seats_same : seats_of t.members ≡ map (λ m. m.seat) w.members
  seats_same = maps_same (λ (n : Member S). n.unit_state.seat)
      (λ (m : InWorld). m.seat) t.members w.members (s.1.width ∙ s.2.represents.width) (λ u n m a b.
      let x = get_below s.0.units u (let within = slice_get_within t.members u n a in
      let width = s.1.width in omega (arith, within, width)) in
      sym (s.1.members u n x.0 a x.1).seen.seat ∙ (s.2.represents.units u m x.0 b x.1).seat)

  -- The seats that a tenant was opened with are those of its world's opening.
  pub opening_same : opening_of (seats_of t.members) ≡ opening_seats w
  opening_same = ap opening_of seats_same
      ∙ ap (λ n. take n (map (λ (m : InWorld). m.seat) w.members)) (sym (units_opened w.members))

  -- whom the letter is to
  pub receiver_same : (l : ℕ) → option_map (λ (c : CompactLetter). c.receiver) (slice_get t.letters l)
      ≡ receiver_in M w l
  receiver_same l =
      let represents = s.2.represents in
      let sent : length t.letters ≡ length (executed M w).letters = ap length (sym s.1.letters) ∙ represents.sent in
      elim (dec_lt l (length t.letters)) [
        | yes q ↦
            let c = get_below t.letters l q in
            let received = get_below (executed M w).letters l (omega (arith, q, sent)) in
            let is = represents.letters l received.0 c.0 received.1 (ap (λ ls. slice_get ls l) s.1.letters ∙ c.1) in
            ap (option_map (λ (c : CompactLetter). c.receiver)) c.1
            ∙ ap Some is.receiver ∙ sym (ap (option_map (λ (m : Message). m.receiver)) received.1)
        | no q ↦
            ap (option_map (λ (c : CompactLetter). c.receiver)) (slice_get_past t.letters l (omega (arith, q)))
            ∙ sym (ap (option_map
            (λ (m : Message). m.receiver)) (slice_get_past (executed M w).letters l (omega (arith, q, sent))))
      ]
