-- The steps of a run.
use Rattle.std.proofs.Common.{◌≡◌, ◌∙◌, ◌≢◌, ◌<◌, ◌≤◌, ◌==◌, ℕ, zero, suc, ◌+◌, ◌-◌, List, Bool, true, false}
use Rattle.std.proofs.Common.{if◌then◌else◌, Result, Ok, Err, refl, sym, ap, arith}
use Rattle.std.proofs.lemmas.Bool.Decides.{Decides-eqb}
use Rattle.std.specs.Str.{IsUtf8, is_utf8}
use Rattle.std.proofs.lemmas.Str.{is_utf8-from_IsUtf8, IsUtf8-from_is_utf8}
use Rattle.riscv.proofs.Quotients.{apart}
use Rattle.riscv.specs.declared.fault.Exception.{Exception}
use Rattle.riscv.specs.declared.machine.Machine.{Machine}
use Rattle.riscv.specs.Machines.{stepped, steps, upon_steps}
use Rattle.riscv.specs.declared.fault.Exception.TheVariants.{InstructionAddressMisaligned, InstructionAccessFault}
use Rattle.riscv.specs.declared.fault.Exception.TheVariants.{IllegalInstruction, Breakpoint, LoadAddressMisaligned}
use Rattle.riscv.specs.declared.fault.Exception.TheVariants.{LoadAccessFault, StoreAddressMisaligned, StoreAccessFault}
use Rattle.riscv.specs.declared.fault.Exception.TheVariants.{EnvironmentCall}
use Rattle.programs.specs.declared.trap.Reason.TheVariants.{Raised, Spent}
use Rattle.programs.specs.declared.trap.Cut.{Cut}
use Rattle.programs.specs.declared.trap.Ending.{Ending}
use Rattle.programs.specs.declared.trap.Cut.TheVariants.{Trapped}
use Rattle.programs.specs.declared.trap.Ending.TheVariants as endings
use Rattle.programs.specs.Courses.{Course, run, gone_on, upon_step, served, then_on, ended}

-- a run of at least one instruction
run-pos : (k : ℕ) (c : Course) → 0 < k → run k c
    ≡ (if c.machine.counter == 0xfffffff0 then Ok c else then_on (run (k - 1)) c.machine.counter (gone_on c))
unfolding run
run-pos zero c h = absurd (omega arith)
run-pos (suc k) c h = let e : suc k - 1 ≡ k = omega arith in rw e refl

-- it ends where the address to return to comes
pub run_ends : (k : ℕ) (c : Course) → 0 < k → c.machine.counter ≡ 0xfffffff0 → run k c ≡ Ok c
run_ends k c h e =
    let test : (c.machine.counter == 0xfffffff0) ≡ true = (Decides-eqb c.machine.counter 0xfffffff0).1 e in
    run-pos k c h ∙ rw test refl

on_step : (test : Bool) (c : Course) (rest : Result Course Ending) → test ≡ false → (if test then Ok c else rest) ≡ rest
on_step true c rest e = cc
on_step false c rest e = refl

-- it goes on
pub run_goes : (k j : ℕ) (c d : Course) → k ≡ j + 1 → c.machine.counter ≢ 0xfffffff0 → gone_on c ≡ Ok d
    → run k c ≡ run j d
run_goes k j c d h ne e =
    let pos : 0 < k = omega arith in
    let less : k - 1 ≡ j = omega arith in
    run-pos k c pos ∙ on_step _ c _ (apart c.machine.counter 0xfffffff0 ne)
    ∙ ap (then_on (run (k - 1)) c.machine.counter) e ∙ ap (λ i. run i d) less

-- it is cut
pub run_is_cut : (k : ℕ) (c : Course) (cut : Cut) (at : ℕ) → 0 < k → c.machine.counter ≢ 0xfffffff0
    → at ≡ c.machine.counter → gone_on c ≡ Err cut → run k c ≡ Err (ended cut at)
run_is_cut k c cut at h ne at_is e =
    run-pos k c h ∙ on_step _ c _ (apart c.machine.counter 0xfffffff0 ne)
    ∙ ap (then_on (run (k - 1)) c.machine.counter) e ∙ ap (λ a. Err (ended cut a)) (sym at_is)

-- no instruction is left
pub run_spent : (k : ℕ) (c : Course) (at : ℕ) → k ≡ 0 → at ≡ c.machine.counter
    → run k c ≡ Err (endings.Trapped (record { reason = Spent; at = at }))
unfolding run
run_spent k c at e at_is = rw (e, at_is) refl

-- a step is made of an instruction that there is
counter_within : (m after : Machine) → stepped m ≡ Ok after → m.counter ≢ 0xfffffff0
unfolding stepped
counter_within m after h = λ e. cc (rw e at h)

on_steps : (n : ℕ) (c : Course) (between : Result Machine Exception) (after : Machine) → upon_steps between ≡ Ok after
    → between ≡ steps n c.machine → (m : Machine) × steps n c.machine ≡ Ok m × stepped m ≡ Ok after
on_steps n c (Ok m) after h e = (m, sym e, h)
on_steps n c (Err x) after h e = cc

-- steps of its machine are made
pub run_steps : (n k j : ℕ) (c : Course) (after : Machine) → k ≡ n + j → steps n c.machine ≡ Ok after
    → run k c ≡ run j (record c { machine = after })
unfolding steps gone_on
run_steps zero k j c after e made =
    let same : k ≡ j = omega arith in
    let there : c.machine ≡ after = cc in
    ap (λ i. run i c) same ∙ ap (λ m. run j (record c { machine = m })) there
run_steps (suc n) k j c after e made =
    let found = on_steps n c (steps n c.machine) after made refl in
    let m = found.0 in
    let upto : run k c ≡ run (suc j) (record c { machine = m }) = run_steps n k (suc j) c m (omega arith) found.1 in
    let gone : gone_on (record c { machine = m }) ≡ Ok (record c { machine = after }) = rw found.2 refl in
    upto ∙ run_goes (suc j) j (record c { machine = m }) (record c { machine = after }) (omega arith)
    (counter_within m after found.2) gone

-- the machine of a course ran
pub run_proceeds : (n k : ℕ) (c after : Course) → n ≤ k → steps n c.machine ≡ Ok after.machine
    → after ≡ record c { machine = after.machine } → run k c ≡ run (k - n) after
run_proceeds n k c after within made same =
    run_steps n k (k - n) c after.machine (omega (arith, within)) made ∙ ap (run (k - n)) (sym same)

-- what comes where a step was not made
pub gone_on_call : (c : Course) → stepped c.machine ≡ Err EnvironmentCall → gone_on c ≡ served c
unfolding gone_on
gone_on_call c h = rw h refl

trapped : (c : Course) (e : Exception) → e ≢ EnvironmentCall → upon_step c (Err e) ≡ Err (Trapped (Raised e))
trapped c EnvironmentCall ne = absurd (ne refl)
trapped c InstructionAddressMisaligned ne = refl
trapped c InstructionAccessFault ne = refl
trapped c IllegalInstruction ne = refl
trapped c Breakpoint ne = refl
trapped c LoadAddressMisaligned ne = refl
trapped c LoadAccessFault ne = refl
trapped c StoreAddressMisaligned ne = refl
trapped c StoreAccessFault ne = refl

-- An exception that is no environment call cuts a course with a trap.
pub gone_on_trap : (c : Course) (e : Exception) → e ≢ EnvironmentCall → stepped c.machine ≡ Err e
    → gone_on c ≡ Err (Trapped (Raised e))
unfolding gone_on
gone_on_trap c e ne h = ap (upon_step c) h ∙ trapped c e ne

-- the test of UTF-8
pub utf8_test : (bytes : List ℕ) → IsUtf8 bytes → is_utf8 bytes ≡ true
utf8_test = is_utf8-from_IsUtf8

-- The test of UTF-8 fails for bytes that are no UTF-8.
pub not_utf8_test : (bytes : List ℕ) → ¬ (IsUtf8 bytes) → is_utf8 bytes ≡ false
not_utf8_test bytes never =
    elim (is_utf8 bytes) as (λ v. is_utf8 bytes ≡ v
    → v ≡ false) [ true ↦ λ e. absurd (never (IsUtf8-from_is_utf8 bytes e)) | false ↦ λ e. refl ] refl
