-- A shard's round is one of all shards, since the driver's steps are all for the line's tenant.
use Rattle.std.proofs.Common.{◌≡◌, ℕ, zero, suc, List, [], ◌∷◌, ◌++◌, length, set, refl, sym, ap, subst, ◌∙◌}
use Rattle.std.proofs.Common.{append-nil, true}
use Rattle.std.specs.Prelude.{Option, Some, None, Result, Ok, Err, IfOk, OnErr, flat_map, slice_get}
use Rattle.std.specs.Io.KnownBytes.{Appends}
use Rattle.std.proofs.lemmas.List.Concat.{flat_map-cons}
use Rattle.std.proofs.lemmas.Option.{none-some, same_Some, slice_get_within}
use Rattle.model.specs.Addresses.{addressed}
use Rattle.model.specs.Handler.{Meaning}
use Rattle.model.specs.declared.replies.Reply.{Reply}
use Rattle.model.specs.declared.steps.Step.{Step}
use Rattle.book.specs.Standing.{HostState}
use Rattle.forms.specs.declared.fault.LineFault.{LineFault}
use Rattle.lines.specs.Feeds.{AreReadings, ReadingOf}
use Rattle.lines.specs.Serving.{HostDoes, line_step, reply_line, reply_upon}
use Rattle.lines.specs.declared.fault.ServeFault.{ServeFault}
use Rattle.written.specs.Beginnings.{AppendsBeginning}
use Rattle.dealing.specs.Dealing.{AreHostsOf, HostsDo, OneDoes, dealt, tenant_of}
use Rattle.dealing.proofs.Lists.{get-set_same}
use Rattle.dealing.proofs.Standing.{hosts_do, legal_of, new_book, stand_new}
use Rattle.shards.specs.Blocks.{AnswersBy, AnswersEachBy, Tells, whole}
use Rattle.shards.specs.Underway.{AnsweredAll, AnsweredSome}
use Rattle.shards.proofs.Hosts.{fault_answered, step_answered}
use Rattle.driver.specs.Driving.{AreRounds, CarriesOn, Drives, DroveAllBy, DroveSomeBy, IsRound, IsStepRound, Round}
use Rattle.driver.specs.Driving.{round_text}
use Rattle.flows.specs.Chores.{chore_step}
use Rattle.flows.specs.declared.chore.Chore.{Chore}
use Rattle.flows.specs.declared.chore.Chore.TheVariants.{Deliver, Flush, Notice, Release}
use Rattle.driver.proofs.Rounds.{drives_each}
use Rattle.driver.proofs.Told.{book_released_is_told}
use Rattle.shards.specs.Driven.{DrivenRun, ShardsDrive}

-- ---- lists of which one element changes

module _ {X : Type 0} where
  set-as_is : (xs : List X) (i : ℕ) (x : X) → slice_get xs i ≡ Some x → set xs i x ≡ xs
  set-as_is [] i x is = absurd (none-some x is)
  set-as_is (y ∷ xs) zero x is = ap (λ z. z ∷ xs) (sym (same_Some y x is))
  set-as_is (y ∷ xs) (suc i) x is = ap (λ l. y ∷ l) (set-as_is xs i x is)

  set-twice : (xs : List X) (i : ℕ) (a b : X) → set (set xs i a) i b ≡ set xs i b
  set-twice [] i a b = refl
  set-twice (x ∷ xs) zero a b = refl
  set-twice (x ∷ xs) (suc i) a b = ap (λ l. x ∷ l) (set-twice xs i a b)

-- ---- one round

-- a step of the driver is for its tenant
chore_tenant : (tenant : List ℕ) (chore : Chore) → tenant_of (chore_step tenant chore) ≡ tenant
chore_tenant tenant (Deliver letter unit) = refl
chore_tenant tenant (Flush unit) = refl
chore_tenant tenant (Notice unit) = refl
chore_tenant tenant (Release unit) = refl

-- where nothing is done behind a line, none was carried on
none_carried : {B : Type 0} (Does : B → Step → Reply → B → Type 0) (read : Option Step) (x : B)
    → CarriesOn Does read x [] x
none_carried Does None x = (refl, refl)
none_carried Does (Some step) x = refl

module _ {S : Type 0} (M : Meaning S) (deal : List ℕ → ℕ) where
  -- The driver's steps that a tenant's host does are done by it among all, and the others stay.
  drives_among : (tenant : List ℕ) (hosts : List (HostState S)) (h : HostState S) (steps : List (Step × Reply))
      (v : HostState S) → slice_get hosts (deal tenant) ≡ Some h → Drives (HostDoes M) tenant h steps v
      → Drives (HostsDo M deal) tenant hosts steps (set hosts (deal tenant) v)
  drives_among tenant hosts h [] v is p =
      ap (set hosts (deal tenant)) p ∙ set-as_is hosts (deal tenant) h is
  drives_among tenant hosts h (s ∷ steps) v is p =
      let same : tenant_of s.0 ≡ tenant = ap tenant_of p.0.1 ∙ chore_tenant tenant p.0.0 in
      let mid : List (HostState S) = set hosts (deal tenant) p.1 in
      let there : slice_get mid (deal tenant) ≡ Some p.1 =
      get-set_same hosts (deal tenant) p.1 (slice_get_within hosts (deal tenant) h is) in (
        p.0,
        mid,
        record {
          before = h;
          after = p.1;
          at = subst (λ t. slice_get hosts (deal t) ≡ Some h) (sym same) is;
          does = p.2;
          others = ap (λ t. set hosts (deal t) p.1) (sym same);
        },
        subst (λ (l : List (HostState S)). Drives (HostsDo M deal) tenant mid steps l)
            (set-twice hosts (deal tenant) p.1 v) (drives_among tenant mid p.1 steps v there p.3),
      )

  -- So is the whole round of a step.
  round_among : (step : Step) (hosts : List (HostState S)) (h : HostState S) (round : Round) (v : HostState S)
      → slice_get hosts (deal (tenant_of step)) ≡ Some h → IsStepRound (HostDoes M) step h round v
      → IsStepRound (HostsDo M deal) step hosts round (set hosts (deal (tenant_of step)) v)
  round_among step hosts h round v is p =
      let i : ℕ = deal (tenant_of step) in
      let mid : List (HostState S) = set hosts i p.mid in
      let there : slice_get mid i ≡ Some p.mid = get-set_same hosts i p.mid (slice_get_within hosts i h is) in
      record {
        mid = mid;
        done = record { before = h; after = p.mid; at = is; does = p.done; others = refl };
        driven = subst (λ (l : List (HostState S)). Drives (HostsDo M deal) (addressed step).0 mid round.steps l)
            (set-twice hosts i p.mid v) (drives_among (addressed step).0 mid p.mid round.steps v there p.driven);
      }

  -- ---- lines

  line_driven : (line : List ℕ) (read : Result Step LineFault) (old : List (HostState S)) (answer : List ℕ)
      (new : List (HostState S)) → ReadingOf line read → AnswersBy (OneDoes (Tells M true) deal) read old answer new
      → (round : Round) × IsRound (HostsDo M deal) line old round new × (answer ≡ round_text round)
  line_driven line (Ok step) old answer new is p =
      let round : Round = p.does.0 in
      let among : IsStepRound (HostsDo M deal) step old round new =
      subst (λ (l : List (HostState S)). IsStepRound (HostsDo M deal) step old round l) (sym p.others)
      (round_among step old p.before round p.after p.at p.does.1) in (
        round,
        (
          among.mid,
          step_answered (HostsDo M deal) line step old round.reply among.mid is among.done,
          subst (λ s. CarriesOn (HostsDo M deal) s among.mid round.steps new) (sym is.0) among.driven,
        ),
        p.does.2,
      )
  line_driven line (Err fault) old answer new is p = (
    record { reply = reply_upon fault; steps = [] },
    (
      new,
      fault_answered (HostsDo M deal) line fault old new is p.1,
      none_carried (HostsDo M deal) (line_step line) new,
    ),
    p.0 ∙ sym (append-nil (reply_line (reply_upon fault))),
  )

  -- what the hosts answered are the rounds of the lines
  abbrev Driven : List (List ℕ) → List (HostState S) → List (List ℕ) → List (HostState S) → Type 0
  Driven lines old answers new = (rounds : List Round) × AreRounds (HostsDo M deal) lines old rounds new
      × (flat_map whole answers ≡ flat_map round_text rounds)

  lines_driven : (lines : List (List ℕ)) (readings : List (Result Step LineFault)) (old : List (HostState S))
      (answers : List (List ℕ)) (new : List (HostState S)) → AreReadings lines readings
      → AnswersEachBy (OneDoes (Tells M true) deal) readings old answers new → Driven lines old answers new
  lines_driven [] [] old answers new are p = ([], (refl, p.1), ap (flat_map whole) p.0)
  lines_driven [] (r ∷ readings) old answers new are p = absurd cc
  lines_driven (l ∷ lines) [] old answers new are p = absurd are
  lines_driven (l ∷ lines) (r ∷ readings) old answers new are p =
      let one = line_driven l r old p.0 p.2 are.0 p.4 in
      let rest = lines_driven lines readings p.2 p.1 new are.1 p.5 in (
        one.0 ∷ rest.0,
        (one.0, rest.0, p.2, refl, one.1, rest.1),
        ap (flat_map whole) p.3
            ∙ flat_map-cons whole p.0 p.1
            ∙ ap (λ l. l ++ flat_map whole p.1) one.2
            ∙ ap (λ l. round_text one.0 ++ l) rest.2
            ∙ sym (flat_map-cons round_text one.0 rest.0),
      )

-- ---- of the book that is stood for

module _ {S : Type 0} (M : Meaning S) (old new : List (HostState S)) (same : length new ≡ length old) where
  abbrev deal : List ℕ → ℕ
  deal = dealt (length old)

  shards_drive : (lines : List (List ℕ)) (rounds : List Round)
      → AreRounds (HostsDo M deal) lines old rounds new → ShardsDrive M lines old rounds new
  shards_drive lines rounds p before is =
      let ran = drives_each (HostsDo M deal) (AreHostsOf M deal) (hosts_do M deal) lines old rounds new p before is in
      (ran.0, subst (λ n. AreHostsOf M (dealt n) new ran.0) (sym same) ran.1, ran.2)

  -- Where answering ended well, all lines were driven for each book that the hosts stood for.
  pub all_of : (r : Result ℕ ServeFault) (input out out' : Option (List ℕ))
      → IfOk r (λ count. AnsweredAll (OneDoes (Tells M true) deal) input out out' old new count)
      → IfOk r (λ count. DroveAllBy (ShardsDrive M) input out out' old new count)
  all_of (Ok count) input out out' p =
      let s = lines_driven M deal p.0 p.3.0 old p.1 new p.3.1 p.3.2 in
      (p.0, s.0, p.2, shards_drive p.0 s.0 s.1, subst (Appends out out') s.2 p.4, p.5)
  all_of (Err fault) input out out' p = tt

  -- Where it failed, the lines so far were.
  pub some_of : (r : Result ℕ ServeFault) (input input' out out' : Option (List ℕ))
      → OnErr r (AnsweredSome (OneDoes (Tells M true) deal) input input' out out' old new)
      → OnErr r (DroveSomeBy (ShardsDrive M) input input' out out' old new)
  some_of (Ok count) input input' out out' p = tt
  some_of (Err fault) input input' out out' p =
      let s = lines_driven M deal p.0 p.5.0 old p.1 new p.5.1 p.5.2 in
      (p.0, s.0, p.2, p.3, p.4, shards_drive p.0 s.0 s.1, subst (AppendsBeginning out out') s.2 p.6)

-- ---- a run

-- New hosts that were driven together run as some book, in which each unit released what was told.
pub driven_run : {S : Type 0} (M : Meaning S) → DrivenRun M
driven_run M lines rounds old new some fresh drives =
    let ran = drives (new_book old) (stand_new M old some fresh) in
    let legal = legal_of M (dealt (length new)) new ran.0 ran.1 in (
      ran.0,
      record {
        start = new_book old;
        empty = refl;
        driven = ran.2;
        legal = legal;
        recorded = ran.1.recorded;
        stand = ran.1;
        outputs = book_released_is_told M lines rounds (new_book old) ran.0 refl ran.2 legal;
      },
    )
