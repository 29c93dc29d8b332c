-- What a hart does by its registers and reads of the memory, and how far it runs.
use Rattle.std.specs.Prelude.{◌≡◌, ◌<◌, ◌≤◌, ◌%◌, ℕ, ◌-◌, List, length, Option, Some, None, Result, Ok, Err}
use Rattle.riscv.specs.declared.instruction.Instruction.TheVariants as instruction
use Rattle.riscv.specs.declared.fault.Exception.{Exception}
use Rattle.riscv.specs.declared.fault.Stop.{Stop}
use Rattle.riscv.specs.declared.apart.Apart.{Apart}
use Rattle.riscv.specs.declared.apart.Apart.TheVariants.{Raised, Store, Unread}
use Rattle.riscv.specs.declared.hart.Pause.{Pause}
use Rattle.riscv.specs.declared.predecoded.Predecoded.{Predecoded}
use Rattle.riscv.specs.declared.machine.Machine.{Machine}
use Rattle.riscv.specs.Predecoding.{KeepsCode}
use Rattle.riscv.specs.Memories.{Words, page_of}
use Rattle.riscv.specs.Machines.{executed, stepped, steps, Makes, Stopped}

-- a machine of registers, a program counter and a memory
abbrev pub machine_of : List ℕ → ℕ → Words → Machine
machine_of registers counter memory = record { registers = registers; counter = counter; memory = memory }

-- A hart did what is meant, and these are its registers and its program counter; or it left it to others, as it was.
abbrev pub Does : Result (Unit {0}) Apart → Result Machine Exception → Machine → List ℕ → ℕ → Type 0
Does (Ok done) meant before registers counter = meant ≡ Ok (record before { registers = registers; counter = counter })
Does (Err (Raised e)) meant before registers counter = (meant ≡ Err e) × (registers ≡ before.registers)
    × (counter ≡ before.counter)
Does (Err (Store writing rs1 rs2 offset)) meant before registers counter =
    (meant ≡ executed before (instruction.Store writing rs1 rs2 offset)) × (registers ≡ before.registers)
    × (counter ≡ before.counter)
Does (Err Unread) meant before registers counter = ⊥

-- what an instruction leaves that was left to others
abbrev pub left_by : Machine → Apart → Result Machine Exception
left_by m (Raised e) = Err e
left_by m (Store writing rs1 rs2 offset) = executed m (instruction.Store writing rs1 rs2 offset)
left_by m Unread = stepped m

-- what is kept of the words of the page that an address lies in, at which a word begins
pub record Says (code : List Predecoded) (memory : Words) (address : ℕ) : Type 0 where
  pub aligned : address % 4 ≡ 0
  pub within : address < 262144
  pub size : length (page_of memory address) ≡ 1024
  pub keeps : KeepsCode code (page_of memory address)

-- why no step is made behind those that were made: at least one, unless it is the next instruction's
abbrev pub Rests : Option Apart → ℕ → ℕ → Machine → Type 0
Rests None left most after = left < most
Rests (Some Unread) left most after = left < most
Rests (Some (Raised e)) left most after = (0 < left) × (stepped after ≡ Err e)
Rests (Some (Store writing rs1 rs2 offset)) left most after =
    (0 < left) × (stepped after ≡ executed after (instruction.Store writing rs1 rs2 offset))

-- A hart made all but so many of its steps; behind them is left what is left to others.
pub record Pauses (left most : ℕ) (apart : Option Apart) (before after : Machine) : Type 0 where
  pub fewer : left ≤ most
  pub made : steps (most - left) before ≡ Ok after
  pub rests : Rests apart left most after

-- It made some of its steps; or none, for this reason.
abbrev pub Passes : Result Pause Stop → ℕ → Machine → Machine → Type 0
Passes (Ok pause) most before after = Pauses pause.left most pause.apart before after
Passes (Err stop) most before after = Makes (Err stop) (stepped before) before after

-- A round of a run: some steps were made; or none behind those that were, for this reason.
abbrev pub Ends : Result (Unit {0}) Stop → ℕ → ℕ → Machine → Type 0
Ends (Ok done) left most after = left < most
Ends (Err stop) left most after = (0 < left) × Stopped stop after

pub record Rounds (result : Result (Unit {0}) Stop) (most left : ℕ) (before after : Machine) : Type 0 where
  pub fewer : left ≤ most
  pub made : steps (most - left) before ≡ Ok after
  pub ends : Ends result left most after
