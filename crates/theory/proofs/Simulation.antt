-- A run without failures beside some paths: what one more receipt, beginning or join does to it.
use Rattle.std.proofs.Common.{◌≡◌, ◌≢◌, ◌⊎◌, inl, inr, refl, sym, ◌∙◌, ap, ℕ, zero, suc, ◌+◌, ◌<◌, ◌≤◌, Bool, true}
use Rattle.std.proofs.Common.{false, cond, List, [], ◌∷◌, ◌++◌, length, drop, arith, map, length-append, length-set}
use Rattle.std.proofs.Common.{ne_eqb}
use Rattle.std.specs.Prelude.{Option, Some, None, Ok, slice_get, slice_set, ◌==◌, nat_lt, nat_le, option_to_list}
use Rattle.std.specs.List.{filter, fold, flat_map, count_by}
use Rattle.std.proofs.lemmas.Bool.Decides.{nat_tests}
use Rattle.std.proofs.lemmas.Option.{slice_get_within, same_Some}
use Rattle.std.proofs.lemmas.List.Sums.{sum_by-append, fold-append}
use Rattle.std.proofs.lemmas.List.{append-nil, drop-append-le}
use Rattle.std.proofs.lemmas.Grind.{flat_map-append}
use native.Mathlib.Decide.{ℕ_discrete}
use Rattle.model.specs.declared.names.Seat.{Seat}
use Rattle.model.specs.declared.names.Source.{Source}
use Rattle.model.specs.declared.names.Source.TheVariants.{Outside, Unit as FromUnit}
use Rattle.model.specs.declared.moves.Move.TheVariants.{Outside as Takes, Letter as TakesLetter, Join as Joins}
use Rattle.model.specs.Handler.{Turn, Meaning}
use Rattle.model.specs.World.{is_from, same_source}
use Rattle.model.specs.Nodes.{begun}
use Rattle.model.specs.FailureFree.{new_worker, Worker, Packet, Network, is_between, next_text, without_next, works_on}
use Rattle.model.specs.FailureFree.{moved}
use Rattle.theory.proofs.ListLaws.{eq_same, true_lt, set_get_same, set_get_other, append_get, append_get_last}

-- the texts on their way from one unit to another
abbrev pub texts_between : ℕ → ℕ → List Packet → List (List ℕ)
texts_between v u packets = map (λ p. p.text) (filter (is_between v u) packets)

between_append : (v u : ℕ) (ps qs : List Packet)
    → texts_between v u (ps ++ qs) ≡ texts_between v u ps ++ texts_between v u qs
between_append v u [] qs = refl
between_append v u (p ∷ ps) qs = go (is_between v u p) (between_append v u ps qs)
  where
    go : (b : Bool) → texts_between v u (ps ++ qs) ≡ texts_between v u ps ++ texts_between v u qs
        → map (λ p. p.text) (cond b (p ∷ filter (is_between v u) (ps ++ qs)) (filter (is_between v u) (ps ++ qs))) ≡ map
        (λ p. p.text) (cond b (p ∷ filter (is_between v u) ps) (filter (is_between v u) ps)) ++ texts_between v u qs
    go true e = ap (λ t. p.text ∷ t) e
    go false e = e

-- the next text is the first of those
next_first : (v u : ℕ) (ps : List Packet) (t : List ℕ) (ts : List (List ℕ))
    → texts_between v u ps ≡ t ∷ ts → next_text v u ps ≡ Some t
next_first v u [] t ts e = cc
next_first v u (p ∷ ps) t ts e = go (is_between v u p) (next_first v u ps t ts) e
  where
    go : (b : Bool) → (texts_between v u ps ≡ t ∷ ts → next_text v u ps ≡ Some t)
        → map (λ p. p.text) (cond b (p ∷ filter (is_between v u) ps) (filter (is_between v u) ps)) ≡ t ∷ ts
        → cond b (Some p.text) (next_text v u ps) ≡ Some t
    go true rest e = cc
    go false rest e = rest e

-- taking it leaves the others
without_rest : (v u : ℕ) (ps : List Packet) (t : List ℕ) (ts : List (List ℕ))
    → texts_between v u ps ≡ t ∷ ts → texts_between v u (without_next v u ps) ≡ ts
without_rest v u [] t ts e = cc
without_rest v u (p ∷ ps) t ts e = go (is_between v u p) refl (without_rest v u ps t ts) e
  where
    go : (b : Bool) → is_between v u p ≡ b
        → (texts_between v u ps ≡ t ∷ ts → texts_between v u (without_next v u ps) ≡ ts)
        → map (λ p. p.text) (cond b (p ∷ filter (is_between v u) ps) (filter (is_between v u) ps)) ≡ t ∷ ts
        → texts_between v u (cond b ps (p ∷ without_next v u ps)) ≡ ts
    go true q rest e = cc
    go false q rest e = rw q (rest e)

-- and leaves what is between other units
without_other : (v u v' u' : ℕ)
    → (v ≢ v') ⊎ (u ≢ u') → (ps : List Packet) → texts_between v' u' (without_next v u ps) ≡ texts_between v' u' ps
without_other v u v' u' h [] = refl
without_other v u v' u' h (p ∷ ps) = go (is_between v u p) refl (is_between v' u' p) refl (without_other v u v' u' h ps)
  where
    clash : is_between v u p ≡ true → is_between v' u' p ≡ true → ⊥
    clash a b = grind (arith, nat_tests)

    go : (b : Bool) → is_between v u p ≡ b
        → (b' : Bool) → is_between v' u' p ≡ b' → texts_between v' u' (without_next v u ps) ≡ texts_between v' u' ps
        → texts_between v' u' (cond b ps (p ∷ without_next v u ps))
        ≡ map (λ p. p.text) (cond b' (p ∷ filter (is_between v' u') ps) (filter (is_between v' u') ps))
    go true q true q' e = absurd (clash q q')
    go true q false q' e = refl
    go false q true q' e = rw q' (ap (λ t. p.text ∷ t) e)
    go false q false q' e = rw q' e

-- A list from a place on is the element there and the list behind that place.
pub drop_at : {X : Type 0} (xs : List X) (k : ℕ) (x : X) → slice_get xs k ≡ Some x → drop k xs ≡ x ∷ drop (suc k) xs
drop_at [] k x e = cc
drop_at (y ∷ ys) zero x e = let q = same_Some y x e in rw q refl
drop_at (y ∷ ys) (suc k) x e = drop_at ys k x e

count_append : {X : Type 0} (p : X → Bool) (xs ys : List X) → count_by p (xs ++ ys) ≡ count_by p xs + count_by p ys
count_append p xs ys = sum_by-append (λ x. cond (p x) 1 0) xs ys

-- each unit's receipts, with one more of one unit
abbrev pub one_more : (ℕ → List ℕ) → ℕ → ℕ → ℕ → List ℕ
one_more done u x v = cond (v == u) (done v ++ x ∷ []) (done v)

-- the unit has one more
pub more_here : (done : ℕ → List ℕ) (u x : ℕ) → one_more done u x u ≡ done u ++ x ∷ []
more_here done u x = rw (eq_same u) refl

-- the others have as many as before
pub more_other : (done : ℕ → List ℕ) (u x v : ℕ) → v ≢ u → one_more done u x v ≡ done v
more_other done u x v h = rw (ne_eqb v u h) refl

-- The seats of some units; and of each receipt who sent it, its text, its turn, and its sends to units that were there.
pub record Receipts (S : Type 0) : Type 0 where
  pub seat : ℕ → Seat
  pub source : ℕ → Option Source
  pub text : ℕ → List ℕ
  pub turn : ℕ → Turn S
  pub sends_of : ℕ → List (ℕ × List ℕ)

module _ {S : Type 0} (M : Meaning S) (all : Receipts S) where
  open all use {seat, source, text, turn, sends_of}

  -- the texts that one receipt sent to a unit
  abbrev pub texts_sent : ℕ → ℕ → List (List ℕ)
  texts_sent u x = map (λ s. s.1) (filter (λ s. s.0 == u) (sends_of x))

  -- the texts that the receipts of a path sent to a unit
  abbrev pub texts_to : ℕ → List ℕ → List (List ℕ)
  texts_to u path = flat_map (texts_sent u) path

  -- how many receipts of a path are from a unit
  abbrev pub taken_from : ℕ → List ℕ → ℕ
  taken_from v path = count_by (λ x. is_from (FromUnit v) (source x)) path

  -- whom a node received from, and the text
  abbrev pub receipt : ℕ → List (Source × List ℕ)
  receipt x = map (λ s. (s, text x)) (option_to_list (source x))

  -- the state of a unit after a path
  abbrev pub state_after : ℕ → List ℕ → S
  state_after u path = fold (λ _ x. (turn x).state) (M.begin (seat u)) path

  -- the unit at work after a path
  abbrev pub worker : ℕ → List ℕ → Worker S
  worker u path = record {
    seat = seat u;
    state = state_after u path;
    received = flat_map receipt path;
    outputs = flat_map (λ x. (turn x).outputs) path;
  }

  -- the network after the receipts of these paths
  pub record Matches (units : ℕ) (done : ℕ → List ℕ) (net : Network S) : Type 0 where
    pub count : length net.workers ≡ units
    pub work : (u : ℕ) → u < units → slice_get net.workers u ≡ Some (worker u (done u))
    pub queue : (v u : ℕ) → texts_between v u net.packets ≡ drop (taken_from v (done u)) (texts_to u (done v))
    pub enough : (v u : ℕ) → taken_from v (done u) ≤ length (texts_to u (done v))

  abbrev packets_to : ℕ → List (ℕ × List ℕ) → List Packet
  packets_to u sends = map (λ s. record { source = u; target = s.0; text = s.1 }) sends

  abbrev texts_for : ℕ → List (ℕ × List ℕ) → List (List ℕ)
  texts_for u sends = map (λ s. s.1) (filter (λ s. s.0 == u) sends)

  -- what a unit sends is on its way from it
  between_own : (u u' : ℕ) (sends : List (ℕ × List ℕ)) → texts_between u u' (packets_to u sends) ≡ texts_for u' sends
  between_own u u' [] = refl
  between_own u u' (s ∷ sends) = rw (eq_same u) (go (s.0 == u') (between_own u u' sends))
    where
      go : (b : Bool) → texts_between u u' (packets_to u sends) ≡ texts_for u' sends
          → map (λ p. p.text) (cond b (record { source = u; target = s.0; text = s.1 }
          ∷ filter (is_between u u') (packets_to u sends)) (filter (is_between u u') (packets_to u sends)))
          ≡ map (λ s. s.1) (cond b (s ∷ filter (λ s. s.0 == u') sends) (filter (λ s. s.0 == u') sends))
      go true e = ap (λ t. s.1 ∷ t) e
      go false e = e

  between_none : (u v' u' : ℕ) → u ≢ v' → (sends : List (ℕ × List ℕ)) → texts_between v' u' (packets_to u sends) ≡ []
  between_none u v' u' h [] = refl
  between_none u v' u' h (s ∷ sends) = rw (ne_eqb u v' h) (between_none u v' u' h sends)

  texts_more : (u' : ℕ) (path : List ℕ) (x : ℕ) → texts_to u' (path ++ x ∷ []) ≡ texts_to u' path ++ texts_sent u' x
  texts_more u' path x = flat_map-append (texts_sent u') path (x ∷ [])
      ∙ ap (λ t. texts_to u' path ++ t) (append-nil (texts_sent u' x))

  -- the network after the unit at u works on one more receipt, where these packets are left of those before
  abbrev with_work : Network S → List Packet → ℕ → List ℕ → ℕ → Network S
  with_work net packets u path x = record {
    workers = slice_set net.workers u (worker u (path ++ x ∷ []));
    packets = packets ++ packets_to u (sends_of x);
  }

  worked : (units : ℕ) (net : Network S) (packets : List Packet) (u x : ℕ) (path : List ℕ) (s : Source)
      → (seat u).unit ≡ u → length net.workers ≡ units → source x ≡ Some s
      → sends_of x ≡ filter (λ s. nat_lt s.0 units) (turn x).sends
      → turn x ≡ M.handle (seat u) (state_after u path) s (text x)
      → works_on M (record net { packets = packets }) (worker u path) s (text x) ≡ with_work net packets u path x
  worked units net packets u x path s seated count from sent works =
      let e1 : state_after u (path ++ x ∷ []) ≡ (turn x).state = fold-append _ (M.begin (seat u)) path (x ∷ []) in
      let e2 : flat_map receipt (path ++ x ∷ []) ≡ flat_map receipt path ++ (s, text x) ∷ [] =
      flat_map-append receipt path (x ∷ []) ∙ rw from refl in
      let e3 : flat_map (λ x. (turn x).outputs) (path ++ x ∷ []) ≡ flat_map (λ x. (turn x).outputs) path
      ++ (turn x).outputs =
      flat_map-append (λ x. (turn x).outputs) path (x ∷ [])
      ∙ ap (λ t. flat_map (λ x. (turn x).outputs) path ++ t) (append-nil (turn x).outputs) in
      rw (e1, e2, e3, sent, works) (rw (seated, count) refl)

  queue_own : (packets : List Packet) (path : List ℕ) (u u' x t : ℕ)
      → texts_between u u' packets ≡ drop t (texts_to u' path) → t ≤ length (texts_to u' path)
      → texts_between u u' (packets ++ packets_to u (sends_of x)) ≡ drop t (texts_to u' (path ++ x ∷ []))
  queue_own packets path u u' x t e le =
      between_append u u' packets (packets_to u (sends_of x))
      ∙ ap (λ q. q ++ texts_between u u' (packets_to u (sends_of x))) e
      ∙ ap (λ q. drop t (texts_to u' path) ++ q) (between_own u u' (sends_of x))
      ∙ sym (drop-append-le t (texts_to u' path) (texts_sent u' x) le)
      ∙ ap (drop t) (sym (texts_more u' path x))

  matches_more : (units : ℕ) (done : ℕ → List ℕ) (net : Network S) (packets : List Packet) (u x : ℕ)
      → u < units → Matches units done net
      → ((v u' : ℕ) → texts_between v u' packets ≡ drop (taken_from v (one_more done u x u')) (texts_to u' (done v)))
      → ((v u' : ℕ) → taken_from v (one_more done u x u') ≤ length (texts_to u' (done v)))
      → Matches units (one_more done u x) (with_work net packets u (done u) x)
  matches_more units done net packets u x here m queue enough = record {
    count = rw length-set m.count;
    work = λ v h. elim (ℕ_discrete v u) [
      | yes q ↦ rw (q, more_here done u x)
          (set_get_same net.workers u (worker u (done u ++ x ∷ [])) (worker u (done u)) (m.work u here))
      | no q ↦ rw (more_other done u x v q) (set_get_other net.workers u v (worker u (done u ++ x ∷ [])) q ∙ m.work v h)
    ];
    queue = λ v u'. elim (ℕ_discrete v u) [
      | yes q ↦ let e = rw q at (queue v u') in let le = rw q at (enough v u') in
          rw (q, more_here done u x) (queue_own packets (done u) u u' x (taken_from u (one_more done u x u')) e le)
      | no q ↦ rw (
        more_other done u x v q,
        between_append v u' packets (packets_to u (sends_of x)),
        between_none u v u' (λ e. q (sym e)) (sends_of x),
        append-nil (texts_between v u' packets),
      ) (queue v u')
    ];
    enough = λ v u'. elim (ℕ_discrete v u) [
      | yes q ↦ let le = rw q at (enough v u') in rw (
        q,
        more_here done u x,
        texts_more u' (done u) x,
        length-append (texts_to u' (done u)) (texts_sent u' x),
      ) (omega arith)
      | no q ↦ rw (more_other done u x v q) (enough v u')
    ];
  }

  taken_more : (v : ℕ) (path : List ℕ) (x : ℕ) (s : Source)
      → source x ≡ Some s → taken_from v (path ++ x ∷ []) ≡ taken_from v path + cond (same_source s (FromUnit v)) 1 0
  taken_more v path x s from =
      count_append (λ y. is_from (FromUnit v) (source y)) path (x ∷ []) ∙ rw from (go (same_source s (FromUnit v)))
    where
      go : (b : Bool) → taken_from v path + (0 + cond b 1 0) ≡ taken_from v path + cond b 1 0
      go b = omega arith

  -- a receipt from outside
  pub outside_step : (units : ℕ) (done : ℕ → List ℕ) (net : Network S) (u x : ℕ)
      → u < units → (seat u).unit ≡ u → Matches units done net → source x ≡ Some Outside
      → sends_of x ≡ filter (λ s. nat_lt s.0 units) (turn x).sends
      → turn x ≡ M.handle (seat u) (state_after u (done u)) Outside (text x)
      → (next : Network S) × (moved M net (Takes u (text x)) ≡ Ok next) × Matches units (one_more done u x) next
  outside_step units done net u x here seated m from sent works = (
    with_work net net.packets u (done u) x,
    rw (m.work u here) (ap Ok (worked units net net.packets u x (done u) Outside seated m.count from sent works)),
    matches_more units done net net.packets
        u x here m (λ v u'. rw (same_taken v u') (m.queue v u')) (λ v u'. rw (same_taken v u') (m.enough v u')),
  )
    where
      same_taken : (v u' : ℕ) → taken_from v (one_more done u x u') ≡ taken_from v (done u')
      same_taken v u' = elim (ℕ_discrete u' u) [
        | yes q ↦ rw (q, more_here done u x) (taken_more v (done u) x Outside from ∙ omega arith)
        | no q ↦ rw (more_other done u x u' q) refl
      ]

  -- a receipt of the next letter
  pub letter_step : (units : ℕ) (done : ℕ → List ℕ) (net : Network S) (u v x : ℕ)
      → u < units → v < units → (seat u).unit ≡ u → Matches units done net → source x ≡ Some (FromUnit v)
      → slice_get (texts_to u (done v)) (taken_from v (done u)) ≡ Some (text x)
      → sends_of x ≡ filter (λ s. nat_lt s.0 units) (turn x).sends
      → turn x ≡ M.handle (seat u) (state_after u (done u)) (FromUnit v) (text x)
      → (next : Network S) × (moved M net (TakesLetter u v) ≡ Ok next) × Matches units (one_more done u x) next
  letter_step units done net u v x here there seated m from first sent works =
      let first_is : texts_between v u net.packets ≡ text x ∷ drop (suc (taken_from v (done u))) (texts_to u (done v)) =
      m.queue v u ∙ drop_at (texts_to u (done v)) (taken_from v (done u)) (text x) first in
      let packets = without_next v u net.packets in (
        with_work net packets u (done u) x,
        rw (
          m.work u here,
          m.count,
          true_lt v units there,
          next_first v u net.packets (text x) (drop (suc (taken_from v (done u))) (texts_to u (done v))) first_is,
        )
            (ap Ok (worked units net packets u x (done u) (FromUnit v) seated m.count from sent works)),
        matches_more units done net packets u x here m
            (λ v' u'. elim (ℕ_discrete u' u) [
              | no q ↦ rw (more_other done u x u' q)
                  (without_other v u v' u' (inr (λ e. q (sym e))) net.packets ∙ m.queue v' u')
              | yes q ↦ elim (ℕ_discrete v' v) [
                | yes k ↦ rw (k, q, more_here done u x, taken_one) (without_rest
                    v u net.packets (text x) (drop (suc (taken_from v (done u))) (texts_to u (done v))) first_is)
                | no k ↦ rw (
                  q,
                  more_here done u x,
                  taken_none v' k,
                ) (without_other v u v' u (inl (λ e. k (sym e))) net.packets ∙ m.queue v' u)
              ]
            ])
            (λ v' u'. elim (ℕ_discrete u' u) [
              | no q ↦ rw (more_other done u x u' q) (m.enough v' u')
              | yes q ↦ elim (ℕ_discrete v' v) [
                | yes k ↦ rw (
                  k,
                  q,
                  more_here done u x,
                  taken_one,
                ) (slice_get_within (texts_to u (done v)) (taken_from v (done u)) (text x) first)
                | no k ↦ rw (q, more_here done u x, taken_none v' k) (m.enough v' u)
              ]
            ]),
      )
    where
      taken_one : taken_from v (done u ++ x ∷ []) ≡ suc (taken_from v (done u))
      taken_one = taken_more v (done u) x (FromUnit v) from ∙ rw (eq_same v) (omega arith)

      taken_none : (v' : ℕ) → v' ≢ v → taken_from v' (done u ++ x ∷ []) ≡ taken_from v' (done u)
      taken_none v' k = taken_more v' (done u) x (FromUnit v) from ∙ rw (ne_eqb v v' (λ e. k (sym e))) (omega arith)

  -- a beginning, upon which a unit has done nothing before, changes nothing of the network
  pub begin_step : (units : ℕ) (done : ℕ → List ℕ) (net : Network S) (u x : ℕ)
      → done u ≡ [] → Matches units done net → source x ≡ None → turn x ≡ begun M (seat u) → sends_of x ≡ []
      → Matches units (one_more done u x) net
  begin_step units done net u x none m from began quiet = record {
    count = m.count;
    work = λ v h. elim (ℕ_discrete v u) [
      | yes q ↦ rw (q, more_here done u x, none, from, began) (let k = m.work u (omega (arith, q, h)) in rw none at k)
      | no q ↦ rw (more_other done u x v q) (m.work v h)
    ];
    queue = λ v u'. m.queue v u' ∙ ap (λ t. drop t (texts_to u' (done v))) (sym (same_taken v u'))
        ∙ ap (drop (taken_from v (one_more done u x u'))) (sym (same_texts v u'));
    enough = λ v u'. rw (same_taken v u', same_texts v u') (m.enough v u');
  }
    where
      same_taken : (v u' : ℕ) → taken_from v (one_more done u x u') ≡ taken_from v (done u')
      same_taken v u' = elim (ℕ_discrete u' u) [
        | yes q ↦ rw (q, more_here done u x, none, from) refl
        | no q ↦ rw (more_other done u x u' q) refl
      ]

      same_texts : (v u' : ℕ) → texts_to u' (one_more done u x v) ≡ texts_to u' (done v)
      same_texts v u' = elim (ℕ_discrete v u) [
        | yes q ↦ rw (q, more_here done u x, none, quiet) refl
        | no q ↦ rw (more_other done u x v q) refl
      ]

  -- a join
  pub join_step : (units kind : ℕ) (done : ℕ → List ℕ) (net : Network S) → nat_le 16 units ≡ false
      → done units ≡ [] → seat units ≡ record { unit = units; kind = kind; home = units + 1 } → Matches units done net
      → (next : Network S) × (moved M net (Joins kind) ≡ Ok next) × Matches (suc units) done next
  join_step units kind done net room none seated m =
      let new : Worker S = new_worker M (record { unit = units; kind = kind; home = units + 1 }) in (
        record { workers = net.workers ++ new ∷ []; packets = net.packets },
        rw (m.count, room) refl,
        record {
          count = length-append net.workers (new ∷ []) ∙ rw m.count (omega arith);
          work = λ v h. elim (ℕ_discrete v units) [
            | yes q ↦ rw (q, none, seated) (let k = append_get_last net.workers new in rw m.count at k)
            | no q ↦ append_get net.workers (new ∷ []) v (worker v (done v)) (m.work v (omega arith))
          ];
          queue = m.queue;
          enough = m.enough;
        },
      )

  -- only what each unit has done counts
  pub matches_same : (units more : ℕ) (done done' : ℕ → List ℕ) (net : Network S)
      → units ≡ more → ((v : ℕ) → done v ≡ done' v) → Matches units done net → Matches more done' net
  matches_same units more done done' net e h m = record {
    count = m.count ∙ e;
    work = λ v k. rw (← h v) (m.work v (omega arith));
    queue = λ v u'. rw (← h v, ← h u') (m.queue v u');
    enough = λ v u'. rw (← h v, ← h u') (m.enough v u');
  }
