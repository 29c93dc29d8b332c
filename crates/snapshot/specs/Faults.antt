-- How the faults of a snapshot follow from those of its parts.
use Rattle.std.specs.Prelude.{◌≡◌, ◌≢◌, ◌⊎◌, ℕ, List}
use Rattle.codec.specs.declared.fault.DecodeFault.{DecodeFault}
use Rattle.codec.specs.declared.fault.DecodeFault.TheVariants.{Cut, Damaged, NoMemory}
use Rattle.snapshot.specs.declared.load_fault.LoadFault.{LoadFault}
use Rattle.snapshot.specs.declared.load_fault.LoadFault.TheVariants.{Cut as LoadCut, Damaged as LoadDamaged}
use Rattle.snapshot.specs.declared.load_fault.LoadFault.TheVariants.{AnotherHandler, NoMemory as LoadNoMemory}

-- the fault of a snapshot where one of its parts has this fault
abbrev pub of_part : DecodeFault → LoadFault
of_part Cut = LoadCut
of_part Damaged = LoadDamaged
of_part NoMemory = LoadNoMemory

-- a snapshot about the handler of the second name is refused where one about that of the first is asked for: there was
-- no memory, or the names differ
abbrev pub RefusesName : List ℕ → List ℕ → LoadFault → Type 0
RefusesName about named fault = (fault ≡ LoadNoMemory) ⊎ ((fault ≡ AnotherHandler) × (named ≢ about))
