-- What a unit's turn is asked for.
use Rattle.std.proofs.Common.{◌≡◌, refl, sym, ◌∙◌, ap, ℕ, ◌-◌, ◌<◌, ◌^◌, Bool, true, List, ◌++◌, length, arith}
use Rattle.std.specs.Prelude.{Option, Some, None, Result, Ok, Err, IfOk, slice_get, option_map}
use Rattle.std.specs.Option.{is_some}
use Rattle.std.proofs.lemmas.Option.{same_Some, slice_get_past, slice_get_within}
use native.Mathlib.Decide.{dec_lt}
use Rattle.model.specs.declared.names.Source.{Source}
use Rattle.model.specs.declared.records.Record.{Record}
use Rattle.model.specs.declared.refusals.Refusal.{Refusal}
use Rattle.model.specs.declared.refusals.Refusal.TheVariants.{NoUnit}
use Rattle.model.specs.declared.replies.Reply.{Reply}
use Rattle.model.specs.declared.replies.Reply.TheVariants.{Refused}
use Rattle.model.specs.Handler.{Meaning, Turn}
use Rattle.model.specs.World.{World, Member as WorldMember}
use Rattle.model.specs.Steps.{Outcome, at_unit, first_refusal, if_unit, outcome_or}
use Rattle.model.proofs.Places.{get_below}
use Rattle.handler.specs.Inputs.{Input, turn_upon_input}
use Rattle.compact.specs.Compact.{CompactLetter, CompactUnit, Content, IsUnit, Progress, progress_after}
use Rattle.compact.specs.Steps.{or_next}
use Rattle.compact.proofs.Receipts.{refusal_append}
use Rattle.rollback.specs.Units.{Recovering, asking, places}
use Rattle.tenant.specs.Kept.{IsAsking, IsAskingBy, IsTurnBy, TenantState, Member}
use Rattle.tenant.specs.Needs.{input_upon}
use Rattle.tenant.specs.Outcomes.{done}
use Rattle.tenant.specs.Represents.{Leaves, StandsFor}
use Rattle.tenant.proofs.Follow.{KeepsUnit, none_kept}

-- what gives the value of a map is there
pub mapped_from : {X Y : Type 0} (f : X → Y) (o : Option X) (y : Y)
    → option_map f o ≡ Some y → (x : X) × (o ≡ Some x) × (f x ≡ y)
mapped_from f None y e = absurd (cc e)
mapped_from f (Some x) y e = (x, refl, same_Some (f x) y e)

-- a unit that is asked is up
pub asked_up : {S : Type 0} (r : Recovering S) (source : Source) (text : List ℕ) (input : Input S)
    → asking r source text ≡ Some input → (p : Progress S)
    × (r.progress ≡ Some p) × (record { seat = r.seat; state = p.state; source = source; text = text } ≡ input)
asked_up r source text input e =
    mapped_from (λ p. record { seat = r.seat; state = p.state; source = source; text = text }) r.progress input e

-- so its progress is there
pub asked_is_up : {S : Type 0} (r : Recovering S) (source : Source) (text : List ℕ) (input : Input S)
    → asking r source text ≡ Some input → is_some r.progress ≡ true
asked_is_up r source text input e = ap is_some (asked_up r source text input e).1

-- A turn of the input that is asked for is the one that the letter's receiver has.
pub turn_by : {S : Type 0} (M : Meaning S) (t : TenantState S) (m : Member S) (c : CompactLetter) (o : Option Content)
    (input : Input S) (turn : Turn S) → IsAskingBy t m c o input → turn ≡ turn_upon_input M input
    → IsTurnBy M t m c o turn
turn_by M t m c None input turn asking own = asking
turn_by M t m c (Some content) input turn asking own = record { input = input; asking = asking; own = own }

-- what is asked for passed the tests before the turn
pub asking_at : {S : Type 0} (t : TenantState S)
    (u : ℕ) (m n : Member S) (refusal : Member S → Option Refusal) (source : Source) (text : List ℕ)
    → slice_get t.members u ≡ Some m → slice_get t.members u ≡ Some n → refusal m ≡ None → places m.unit_state < 2 ^ 32
    → (r : Result (Input S) Refusal) → IfOk r (λ input. asking m.unit_state source text ≡ Some input)
    → IfOk r (λ input. IsAsking (refusal n) n.unit_state source text input)
asking_at {S} t u m n refusal source text at there passes room (Ok input) a =
    let same : m ≡ n = same_Some m n (sym at ∙ there) in
    rw (← same) (record { passes = passes; room = room; asked = a })
asking_at t u m n refusal source text at there passes room (Err r) a = tt

-- the unit of the world
pub record Shown {S : Type 0} (M : Meaning S)
    (name : List ℕ) (w : World) (log : List Record) (u : ℕ) (x : CompactUnit S) : Type 0 where
  pub member : WorldMember
  pub at : slice_get w.members u ≡ Some member
  pub is : IsUnit M name w log member x

module _ {S : Type 0} (M : Meaning S) (name : List ℕ) (live : ℕ → List ℕ)
    (t : TenantState S) (w : World) (log : List Record) (s : StandsFor M name live t w log) (u : ℕ) where
  -- A compact unit that a member keeps stands for a unit of the world.
  pub shown : (m : Member S) (x : KeepsUnit t live s.0 u m) → Shown M name w log u x.unit
  shown m x =
      let within = slice_get_within s.0.units u x.unit x.at in
      let width = s.2.represents.width in
      let f = get_below w.members u (omega (arith, within, width)) in
      record { member = f.0; at = f.1; is = s.2.represents.units u f.0 x.unit f.1 x.at }

  -- a unit that is not there is not in the world
  pub none_shown : slice_get t.members u ≡ None → slice_get w.members u ≡ None
  none_shown e = elim (dec_lt u (length w.members)) [
    | yes q ↦
        let width = s.2.represents.width in
        let x = get_below s.0.units u (omega (arith, q, width)) in
        absurd (different x.0 (sym x.1 ∙ none_kept t live s.0 s.1 u e))
    | no q ↦ slice_get_past w.members u (omega (arith, q))
  ]
    where
      different : (x : CompactUnit S) → Some x ≡ None → ⊥
      different x e = cc e

  -- the input that is asked for is that of the world
  pub input_is : (m : Member S) (x : KeepsUnit t live s.0 u m)
      (f : Shown M name w log u x.unit) (source : Source) (text : List ℕ) (input : Input S)
      → asking m.unit_state source text ≡ Some input → input_upon M w f.member source text ≡ input
  input_is m x f source text input asked =
      let a = asked_up m.unit_state source text input asked in
      let up : f.member.up ≡ true = sym f.is.up ∙ x.is.seen.up ∙ ap is_some a.1 in
      let seat = sym f.is.seat ∙ x.is.seen.seat in
      let now : progress_after M w f.member (length f.member.path - 1) ≡ a.0 =
      sym (f.is.now up) ∙ x.is.seen.now a.0 a.1 in
      (λ i. record { seat = seat i; state = (now i).state; source = source; text = text }) ∙ a.2

-- ---- refusals in the world

-- after one all stays
pub refused_stays : {S : Type 0} (M : Meaning S) (name : List ℕ)
    (live : ℕ → List ℕ) (t : TenantState S) (w : World) (log : List Record) → StandsFor M name live t w log
    → (outcome : Outcome) (r : Refusal) (reply : Reply) → outcome ≡ done (Refused r) w → reply ≡ Refused r
    → Leaves M name live outcome reply t log
refused_stays M name live t w log s outcome r reply e told = (w, e ∙ ap (λ r. done r w) (sym told), s)

-- one that the first tests have
pub refused_first : (w : World) (out : Outcome) (tests rest : List (Bool × Refusal)) (r : Refusal)
    → first_refusal tests ≡ Some r → outcome_or w out (first_refusal (tests ++ rest)) ≡ done (Refused r) w
refused_first w out tests rest r e =
    ap (outcome_or w out) (refusal_append tests rest ∙ ap (λ o. or_next o (first_refusal rest)) e)

-- a unit that is not there
pub refused_none : (w : World) (u : ℕ) (f : WorldMember → Outcome)
    → slice_get w.members u ≡ None → at_unit w u f ≡ done (Refused NoUnit) w
unfolding at_unit
refused_none w u f e = ap (if_unit w f) e
