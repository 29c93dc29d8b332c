-- What a unit that runs a program does upon a text.
use Rattle.std.specs.Prelude.{ℕ, nat_lt, not, if◌then◌else◌, List, [], ◌∷◌, length, Result, Ok, Err, codes}
use Rattle.model.specs.declared.names.Seat.{Seat}
use Rattle.model.specs.declared.names.Source.{Source}
use Rattle.model.specs.declared.names.Source.TheVariants.{Outside, Unit as FromUnit}
use Rattle.model.specs.Handler.{Turn}
use Rattle.riscv.specs.declared.machine.Machine.{Machine}
use Rattle.riscv.specs.Memories.{put_bytes}
use Rattle.programs.specs.declared.process.Process.{Process}
use Rattle.programs.specs.declared.trap.Ending.{Ending}
use Rattle.programs.specs.declared.trap.Ending.TheVariants.{Trapped, Refused}
use Rattle.programs.specs.Traps.{trap_text}
use Rattle.programs.specs.Loading.{saying, is_part, loading}
use Rattle.programs.specs.Courses.{Course, run}

-- the number of who sent a text
abbrev pub source_number : Source → ℕ
source_number Outside = 0xffffffff
source_number (FromUnit unit) = unit

-- ra, sp, and a0 to a4
abbrev pub first_registers : Seat → Source → ℕ → List ℕ
first_registers seat source len =
    0 ∷ 0xfffffff0 ∷ 0x3f000 ∷ 0 ∷ 0 ∷ 0 ∷ 0 ∷ 0 ∷ 0 ∷ 0 ∷ 0x3f000 ∷ len ∷ source_number source ∷ seat.unit
    ∷ seat.home ∷ 0
    ∷ 0 ∷ 0 ∷ 0 ∷ 0 ∷ 0 ∷ 0 ∷ 0 ∷ 0 ∷ 0 ∷ 0 ∷ 0 ∷ 0 ∷ 0 ∷ 0 ∷ 0 ∷ 0 ∷ []

-- the machine at the beginning of a turn: the text lies behind the stack, and the instruction behind the header comes
abbrev pub started : Seat → Process → Source → List ℕ → Machine
started seat process source text = record {
  registers = first_registers seat source (length text);
  counter = 4;
  memory = put_bytes process.memory 0x3f000 text;
}

-- what is put out where a turn is cut
abbrev pub ending_text : Ending → List ℕ
ending_text (Trapped trap) = trap_text trap
ending_text (Refused text) = text

-- the turn that a run makes: one that is cut leaves the state, and sends nothing
abbrev pub turn_of : Process → Result Course Ending → Turn Process
turn_of process (Ok c) =
    record { state = record process { memory = c.machine.memory }; sends = c.sends; outputs = c.outputs }
turn_of process (Err ending) = saying process (ending_text ending)

-- a text for the program
unfoldable pub worked : Seat → Process → Source → List ℕ → Turn Process
worked seat process source text =
    if not process.has_program then saying process (codes "no program") else
    if nat_lt 4096 (length text) then saying process (codes "text too long") else
    turn_of process (run 1000000 (record { machine = started seat process source text; sends = []; outputs = [] }))

abbrev pub process_turn : Seat → Process → Source → List ℕ → Turn Process
process_turn seat process source text =
    if is_part process source text then loading process text else worked seat process source text
