-- What is put out where a program did what it may not.
use Rattle.std.specs.Prelude.{ℕ, List, ◌++◌, codes, false}
use Rattle.std.specs.Fmt.{digits}
use Rattle.riscv.specs.declared.fault.Exception.{Exception}
use Rattle.riscv.specs.declared.fault.Exception.TheVariants.{InstructionAddressMisaligned, InstructionAccessFault}
use Rattle.riscv.specs.declared.fault.Exception.TheVariants.{IllegalInstruction, Breakpoint, LoadAddressMisaligned}
use Rattle.riscv.specs.declared.fault.Exception.TheVariants.{LoadAccessFault, StoreAddressMisaligned, StoreAccessFault}
use Rattle.riscv.specs.declared.fault.Exception.TheVariants.{EnvironmentCall}
use Rattle.programs.specs.declared.trap.Reason.{Reason}
use Rattle.programs.specs.declared.trap.Reason.TheVariants.{Raised, Spent, UnknownCall, TooMany, TooLong, OutOfRange}
use Rattle.programs.specs.declared.trap.Reason.TheVariants.{NotUtf8, NoUnit}
use Rattle.programs.specs.declared.trap.Trap.{Trap}

abbrev pub exception_text : Exception → List ℕ
exception_text InstructionAddressMisaligned = codes "instruction address misaligned"
exception_text InstructionAccessFault = codes "instruction access fault"
exception_text IllegalInstruction = codes "illegal instruction"
exception_text Breakpoint = codes "breakpoint"
exception_text LoadAddressMisaligned = codes "load address misaligned"
exception_text LoadAccessFault = codes "load access fault"
exception_text StoreAddressMisaligned = codes "store address misaligned"
exception_text StoreAccessFault = codes "store access fault"
exception_text EnvironmentCall = codes "environment call"

abbrev pub reason_text : Reason → List ℕ
reason_text (Raised e) = exception_text e
reason_text Spent = codes "budget spent"
reason_text UnknownCall = codes "unknown call"
reason_text TooMany = codes "too many texts"
reason_text TooLong = codes "text too long"
reason_text OutOfRange = codes "text out of range"
reason_text NotUtf8 = codes "text not utf-8"
reason_text NoUnit = codes "no such unit"

-- the reason, and the address of the instruction in hexadecimal digits
unfoldable pub trap_text : Trap → List ℕ
trap_text t = codes "trap: " ++ reason_text t.reason ++ codes " at " ++ digits 16 false t.at
