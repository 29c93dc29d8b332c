-- What the handler of programs means.
use Rattle.std.specs.Prelude.{◌≡◌, ℕ, ◌==◌, Bool, true, false, if◌then◌else◌, List, Option, Some, None, codes, bytes_eq}
use Rattle.std.specs.Option.{option_eq}
use Rattle.std.specs.Bool.{Decides}
use Rattle.std.specs.Cmp.{unsigned_Decides}
use Rattle.std.proofs.Common.{ap, refl, subst}
use Rattle.model.specs.declared.names.Seat.{Seat}
use Rattle.model.specs.declared.names.Source.{Source}
use Rattle.model.specs.Handler.{Turn, Meaning}
use Rattle.model.specs.Sample.{sample}
use Rattle.handler.specs.States.{states_equal as numbers_equal}
use Rattle.programs.specs.declared.state.State.{State}
use Rattle.programs.specs.declared.state.State.TheVariants.{Sample, Process as Running}
use Rattle.programs.specs.Processes.{beginning, same_process, processes_equal, process_is_same}
use Rattle.programs.specs.Turns.{process_turn}

-- a turn whose state is told otherwise
abbrev pub mapped : {S T : Type 0} → (S → T) → Turn S → Turn T
mapped f turn = record { state = f turn.state; sends = turn.sends; outputs = turn.outputs }

abbrev pub kind_named : List ℕ → Option ℕ
kind_named name = if bytes_eq name (codes "rv32-1") then Some 5 else sample.kind name

abbrev pub begin : Seat → State
begin seat = if seat.kind == 5 then Running beginning else Sample (sample.begin seat)

abbrev pub handle : Seat → State → Source → List ℕ → Turn State
handle seat (Sample number) source text = mapped Sample (sample.handle seat number source text)
handle seat (Running process) source text = mapped Running (process_turn seat process source text)

-- a unit of the kind `rv32-1` runs a program, and each other is one of the sample handler's
abbrev pub programs : Meaning State
programs = record { kind = kind_named; begin = begin; handle = handle }

-- what `==` says of two states
abbrev pub same_state : State → State → Bool
same_state (Sample a) (Sample b) = option_eq ◌==◌ a b
same_state (Running a) (Running b) = same_process a b
same_state (Sample a) (Running b) = false
same_state (Running a) (Sample b) = false

-- states that compare equal are equal
pub states_equal : (a b : State) → same_state a b ≡ true → a ≡ b
states_equal (Sample a) (Sample b) e = ap Sample (numbers_equal a b e)
states_equal (Running a) (Running b) e = ap Running (processes_equal a b e)
states_equal (Sample a) (Running b) e = cc
states_equal (Running a) (Sample b) e = cc

numbers_same : (a : Option ℕ) → option_eq ◌==◌ a a ≡ true
numbers_same None = refl
numbers_same (Some n) = (unsigned_Decides n n).1 refl

is_same : (a : State) → same_state a a ≡ true
is_same (Sample a) = numbers_same a
is_same (Running a) = process_is_same a

-- and states that are equal compare so
pub states_Decides : (a b : State) → Decides (same_state a b) (a ≡ b)
states_Decides a b = (states_equal a b, λ e. subst (λ c. same_state a c ≡ true) e (is_same a))
