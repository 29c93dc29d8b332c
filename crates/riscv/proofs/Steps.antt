-- Steps, one behind the other.
use Rattle.std.proofs.Common.{◌≡◌, ◌≢◌, ◌∙◌, ◌<◌, ◌≤◌, ◌==◌, ℕ, zero, suc, ◌+◌, ◌-◌, ◌/◌, ◌%◌, true, false, List, []}
use Rattle.std.proofs.Common.{length, get_or, Option, Some, None, Result, Ok, Err, refl, sym, ap, subst, arith}
use Rattle.std.specs.Prelude.{nat_lt, slice_index_or}
use Rattle.std.proofs.lemmas.Bool.Decides.{Decides-eqb, Decides-ltb}
use Rattle.riscv.specs.declared.machine.Machine.{Machine}
use Rattle.riscv.specs.declared.fault.Exception.{Exception}
use Rattle.riscv.specs.declared.apart.Apart.{Apart}
use Rattle.riscv.specs.declared.apart.Apart.TheVariants as aparts
use Rattle.riscv.specs.declared.predecoded.Predecoded.TheVariants.{Unread}
use Rattle.riscv.specs.declared.predecoded.Predecoded.{Predecoded}
use Rattle.riscv.specs.Decoding.{instruction_of}
use Rattle.riscv.specs.Predecoding.{meaning, Reads, KeepsCode}
use Rattle.riscv.specs.Memories.{Words, page_of, word_at}
use Rattle.riscv.specs.declared.fault.Stop.{Stop}
use Rattle.riscv.specs.declared.fault.Stop.TheVariants.{NoMemory, Raised}
use Rattle.riscv.specs.Machines.{decoded, stepped, steps, upon_steps, Makes, Runs}
use Rattle.riscv.specs.Harts.{Does, Says, Rests, Rounds, left_by}
use Rattle.riscv.proofs.KeptCode.{read_at}

-- one step more
pub step_more : (n k : ℕ) (before between after : Machine) → k ≡ n + 1 → steps n before ≡ Ok between
    → stepped between ≡ Ok after → steps k before ≡ Ok after
unfolding steps
step_more n k before between after e made step =
    let next : k ≡ suc n = omega arith in
    ap (λ j. steps j before) next ∙ (ap upon_steps made ∙ step)

steps_behind : (a b : ℕ) (before between : Machine) → steps a before ≡ Ok between
    → steps (a + b) before ≡ steps b between
unfolding steps
steps_behind a zero before between h = let e : a + 0 ≡ a = omega arith in ap (λ j. steps j before) e ∙ h
steps_behind a (suc b) before between h =
    let e : a + suc b ≡ suc (a + b) = omega arith in
    ap (λ j. steps j before) e ∙ ap upon_steps (steps_behind a b before between h)

-- so many, and so many behind them
pub steps_add : (a b k : ℕ) (before between after : Machine) → k ≡ a + b → steps a before ≡ Ok between
    → steps b between ≡ Ok after → steps k before ≡ Ok after
steps_add a b k before between after e first second =
    ap (λ j. steps j before) e ∙ (steps_behind a b before between first ∙ second)

-- none
pub steps_none : (k : ℕ) (before : Machine) → k ≡ 0 → steps k before ≡ Ok before
unfolding steps
steps_none k before e = rw e refl

-- the step that comes
pub step_is : (m : Machine) (p : Predecoded) → m.counter % 4 ≡ 0 → m.counter < 262144
    → meaning p ≡ instruction_of (word_at m.memory m.counter) → stepped m ≡ decoded m (meaning p)
unfolding stepped
step_is m p even inside said =
    let aligned : (m.counter % 4 == 0) ≡ true = (Decides-eqb (m.counter % 4) 0).1 even in
    let within : nat_lt m.counter 262144 ≡ true = (Decides-ltb m.counter 262144).1 inside in
    rw (aligned, within) (sym (ap (decoded m) said))

-- what is kept of an instruction of the page is what its word says, where it was read
pub reads_at : (code : List Predecoded) (memory : Words) (counter : ℕ) (p : Predecoded) → Says code memory counter
    → p ≡ get_or code (counter / 4 % 1024) p → Reads p (word_at memory counter)
reads_at code memory counter p says p_is =
    let place : counter / 4 % 1024 < 1024 = omega arith in
    read_at code (page_of memory counter) (counter / 4 % 1024) p says.keeps says.size place p_is

-- another instruction of the page
pub says_too : (code : List Predecoded) (memory : Words) (one other : ℕ) → Says code memory one → other % 4 ≡ 0
    → other / 4096 ≡ one / 4096 → Says code memory other
says_too code memory one other says aligned same =
    let page : page_of memory other ≡ page_of memory one = ap (λ i. slice_index_or memory i []) same in
    record {
      aligned = aligned;
      within = omega (arith, says.within, same);
      size = ap length page ∙ says.size;
      keeps = subst (KeepsCode code) (sym page) says.keeps;
    }

-- a round whose last step was made
pub round_made : (left most : ℕ) (before between after : Machine) → 0 < left
    → left ≤ most → steps (most - left) before ≡ Ok between → stepped between ≡ Ok after
    → Rounds (Ok tt) most (left - 1) before after
round_made left most before between after some fewer made step = record {
  fewer = omega arith;
  made = step_more (most - left) _ _ _ _ (omega arith) made step;
  ends = omega arith;
}

-- a round whose last step was not made
pub round_stopped : (stop : Stop) (left most : ℕ) (before between after : Machine) → 0 < left → left ≤ most
    → steps (most - left) before ≡ Ok between → Makes (Err stop) (stepped between) between after
    → Rounds (Err stop) most left before after
round_stopped NoMemory left most before between after some fewer made h = record {
  fewer = fewer;
  made = made ∙ ap Ok (sym h);
  ends = (some, tt);
}
round_stopped (Raised e) left most before between after some fewer made h = record {
  fewer = fewer;
  made = made ∙ ap Ok (sym h.1);
  ends = (some, ap stepped h.1 ∙ h.0);
}

-- a round that ended with what a call in it ended with
pub round_ended : (r : Result (Unit {0}) Stop) (x stop : Stop) (left most : ℕ) (before after : Machine) → r ≡ Err x
    → x ≡ stop → Rounds (Err stop) most left before after → Rounds r most left before after
round_ended r x stop left most before after e f h = rw (e, f) h

same_after : (before after : Machine) → steps 0 before ≡ Ok after → after ≡ before
unfolding steps
same_after before after h = cc

-- what a step says that stopped for this reason
abbrev StepOf : Option Stop → Result Machine Exception → Machine → Machine → Type 0
StepOf None meant before after = meant ≡ Ok after
StepOf (Some stop) meant before after = Makes (Err stop) meant before after

-- a run of one step
pub one_step : (stop : Option Stop) (done : ℕ) (before after : Machine) → Runs done 1 stop before after
    → StepOf stop (stepped before) before after
unfolding steps
one_step None done before after h =
    ap (λ k. steps k before) (sym h.why) ∙ h.made
one_step (Some NoMemory) done before after h =
    let none : done ≡ 0 = omega (arith, h.why.0) in
    same_after before after (ap (λ k. steps k before) (sym none) ∙ h.made)
one_step (Some (Raised e)) done before after h =
    let none : done ≡ 0 = omega (arith, h.why.0) in
    let same : after ≡ before = same_after before after (ap (λ k. steps k before) (sym none) ∙ h.made) in
    (ap stepped (sym same) ∙ h.why.1, same)

abbrev is_err : Apart → Result (Unit {0}) Apart
is_err apart = Err apart

-- what a hart left of an instruction of the page
pub pauses : (p : Predecoded) (apart : Apart) (meant : Result Machine Exception) (before : Machine)
    (registers : List ℕ) (counter left most : ℕ) → (p ≢ Unread → Does (Err apart) meant before registers counter)
    → (p ≡ Unread → is_err apart ≡ is_err aparts.Unread)
    → (is_err apart ≡ is_err aparts.Unread → (registers ≡ before.registers) × (counter ≡ before.counter))
    → (p ≡ Unread → left < most) → 0 < left → (p ≢ Unread → stepped before ≡ meant)
    → ((registers ≡ before.registers) × (counter ≡ before.counter)) × Rests (Some apart) left most before
pauses p aparts.Unread meant before registers counter left most does unread kept first some comes = (
  kept refl,
  elim (nat_lt left most) as (λ b. nat_lt left most ≡ b → left < most) [
    | true ↦ λ e. (Decides-ltb left most).0 e
    | false ↦ λ e. absurd (does (λ u. let t = (Decides-ltb left most).1 (first u) in cc))
  ] refl,
)
pauses p (aparts.Raised e) meant before registers counter left most does unread kept first some comes =
    let read : p ≢ Unread = λ u. let t = unread u in cc in
    (((does read).1, (does read).2), (some, comes read ∙ (does read).0))
pauses p (aparts.Store w rs1 rs2 n) meant before registers counter left most does unread kept first some comes =
    let read : p ≢ Unread = λ u. let t = unread u in cc in
    (((does read).1, (does read).2), (some, comes read ∙ (does read).0))

-- what rests where the instruction was read
pub rests_left : (apart : Apart) (left most : ℕ) (after : Machine) → apart ≢ aparts.Unread
    → Rests (Some apart) left most after → (0 < left) × (stepped after ≡ left_by after apart)
rests_left aparts.Unread left most after read h = absurd (read refl)
rests_left (aparts.Raised e) left most after read h = h
rests_left (aparts.Store w rs1 rs2 n) left most after read h = h
