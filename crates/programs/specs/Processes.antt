-- The state of a unit that runs a program.
use Rattle.std.specs.Prelude.{◌≡◌, Bool, nat_eq, true, false}
use Rattle.std.specs.Bool.{beq}
use Rattle.std.specs.Ordering.{on, eq_of_both}
use Rattle.std.specs.Cmp.{booleans_Decides, unsigned_Decides}
use Rattle.std.proofs.Common.{refl, rules}
use Rattle.std.proofs.lemmas.Slice.Eq.{slice_eq-Decides, bytes_eq-Decides}
use Rattle.std.proofs.lemmas.Bool.Decides.{nat_tests}
use Rattle.riscv.specs.Memories.{pages_equal, zeros}
use Rattle.programs.specs.declared.process.Process.{Process}

-- zeros, no program, and nothing of an image
abbrev pub beginning : Process
beginning = record { memory = zeros; has_program = false; image = zeros; loaded = 0 }

-- the same, with nothing of an image
abbrev pub without_image : Process → Process
without_image p = record p { image = zeros; loaded = 0 }

-- what `==` says of two processes
abbrev pub same_process : Process → Process → Bool
same_process =
    eq_of_both (on (λ p. p.memory) pages_equal)
    (eq_of_both (on (λ p. p.has_program) beq) (eq_of_both (on (λ p. p.image) pages_equal) (on (λ p. p.loaded) nat_eq)))

-- processes that compare equal are equal
pub processes_equal : (a b : Process) → same_process a b ≡ true → a ≡ b
processes_equal a b e =
    let memories = slice_eq-Decides bytes_eq-Decides a.memory b.memory _ refl in
    let images = slice_eq-Decides bytes_eq-Decides a.image b.image _ refl in
    let flags = booleans_Decides a.has_program b.has_program in
    search (rules, nat_tests, memories, images, flags)

-- and a process compares so to itself
pub process_is_same : (p : Process) → same_process p p ≡ true
process_is_same p =
    let memories = (slice_eq-Decides bytes_eq-Decides p.memory p.memory _ refl).1 refl in
    let images = (slice_eq-Decides bytes_eq-Decides p.image p.image _ refl).1 refl in
    let flags = (booleans_Decides p.has_program p.has_program).1 refl in
    let counts = (unsigned_Decides p.loaded p.loaded).1 refl in
    rw (memories, images, flags, counts) refl
