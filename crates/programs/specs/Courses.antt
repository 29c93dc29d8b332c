-- A turn on its way: the machine, and what was sent and put out so far.
use Rattle.std.specs.Prelude.{◌≡◌, ℕ, zero, suc, ◌+◌, ◌==◌, nat_lt, Bool, if◌then◌else◌, List, [], ◌∷◌, ◌++◌, length}
use Rattle.std.specs.Prelude.{Result, Ok, Err}
use Rattle.std.specs.Str.{is_utf8}
use Rattle.riscv.specs.declared.fault.Exception.{Exception}
use Rattle.riscv.specs.declared.fault.Exception.TheVariants.{EnvironmentCall}
use Rattle.riscv.specs.declared.machine.Machine.{Machine}
use Rattle.riscv.specs.Memories.{Words, bytes_from}
use Rattle.riscv.specs.Machines.{advanced, content, stepped}
use Rattle.programs.specs.declared.trap.Reason.TheVariants.{Raised, Spent, UnknownCall, TooMany, TooLong, OutOfRange}
use Rattle.programs.specs.declared.trap.Reason.TheVariants.{NotUtf8, NoUnit}
use Rattle.programs.specs.declared.trap.Cut.{Cut}
use Rattle.programs.specs.declared.trap.Cut.TheVariants.{Trapped, Refused}
use Rattle.programs.specs.declared.trap.Ending.{Ending}
use Rattle.programs.specs.declared.trap.Ending.TheVariants as endings
use Rattle.programs.specs.declared.trap.Fault.{Fault}
use Rattle.programs.specs.declared.trap.Fault.TheVariants as faults
use Rattle.programs.specs.declared.trap.Halt.{Halt}
use Rattle.programs.specs.declared.trap.Halt.TheVariants as halts

pub record Course : Type 0 where
  pub machine : Machine
  pub sends : List (ℕ × List ℕ)
  pub outputs : List (List ℕ)

-- a text in memory: at most 4,096 bytes, UTF-8
unfoldable pub told : Words → ℕ → ℕ → Result (List ℕ) Cut
told memory at len =
    if nat_lt 4096 len then Err (Trapped TooLong) else
    if nat_lt 262144 (at + len) then Err (Trapped OutOfRange) else
    if is_utf8 (bytes_from memory at len) then Ok (bytes_from memory at len) else Err (Trapped NotUtf8)

-- a turn sends and puts out 64 texts at most
abbrev pub full : Course → Bool
full c = nat_lt 63 (length c.sends + length c.outputs)

abbrev pub with_output : Course → Result (List ℕ) Cut → Result Course Cut
with_output c (Err cut) = Err cut
with_output c (Ok text) = Ok (record c { machine = advanced c.machine; outputs = c.outputs ++ text ∷ [] })

abbrev pub put_out : Course → Result (List ℕ) Cut → Result Course Cut
put_out c text = if full c then Err (Trapped TooMany) else with_output c text

abbrev pub with_send : Course → ℕ → Result (List ℕ) Cut → Result Course Cut
with_send c unit (Err cut) = Err cut
with_send c unit (Ok text) = Ok (record c { machine = advanced c.machine; sends = c.sends ++ (unit, text) ∷ [] })

abbrev pub sent : Course → ℕ → Result (List ℕ) Cut → Result Course Cut
sent c unit text =
    if full c then Err (Trapped TooMany) else if nat_lt 255 unit then Err (Trapped NoUnit) else with_send c unit text

abbrev pub refused : Course → Result (List ℕ) Cut → Result Course Cut
refused c (Err cut) = Err cut
refused c (Ok text) = Err (Refused text)

-- what an `ecall` does: a0 to a2 are x10 to x12, and a7 is x17
unfoldable pub served : Course → Result Course Cut
served c =
    let a0 = content c.machine 10 in
    let a1 = content c.machine 11 in
    let a2 = content c.machine 12 in
    let a7 = content c.machine 17 in
    if a7 == 1 then put_out c (told c.machine.memory a0 a1) else
    if a7 == 2 then sent c a0 (told c.machine.memory a1 a2) else
    if a7 == 3 then refused c (told c.machine.memory a0 a1) else
    Err (Trapped UnknownCall)

abbrev pub upon_step : Course → Result Machine Exception → Result Course Cut
upon_step c (Ok m) = Ok (record c { machine = m })
upon_step c (Err EnvironmentCall) = served c
upon_step c (Err e) = Err (Trapped (Raised e))

-- one instruction of a turn
unfoldable pub gone_on : Course → Result Course Cut
gone_on c = upon_step c (stepped c.machine)

-- how a turn ended that was cut at an address
abbrev pub ended : Cut → ℕ → Ending
ended (Trapped reason) at = endings.Trapped (record { reason = reason; at = at })
ended (Refused text) at = endings.Refused text

abbrev pub then_on : (Course → Result Course Ending) → ℕ → Result Course Cut → Result Course Ending
then_on rest at (Ok c) = rest c
then_on rest at (Err cut) = Err (ended cut at)

-- a turn of so many instructions at most, which ends where the address to return to comes
unfoldable pub run : ℕ → Course → Result Course Ending
run zero c = Err (endings.Trapped (record { reason = Spent; at = c.machine.counter }))
run (suc n) c =
    if c.machine.counter == 0xfffffff0 then Ok c else then_on (run n) c.machine.counter (gone_on c)

-- A call gave what the definition gives, or found no memory.
abbrev pub Gives : {X Y : Type 0} → (X → Y) → Result X Fault → Result Y Cut → Type 0
Gives view (Ok x) meant = meant ≡ Ok (view x)
Gives view (Err faults.NoMemory) meant = Unit {0}
Gives view (Err (faults.For cut)) meant = meant ≡ Err cut

abbrev pub Ends : {X Y : Type 0} → (X → Y) → Result X Halt → Result Y Ending → Type 0
Ends view (Ok x) meant = meant ≡ Ok (view x)
Ends view (Err halts.NoMemory) meant = Unit {0}
Ends view (Err (halts.Ended ending)) meant = meant ≡ Err ending
