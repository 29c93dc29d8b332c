-- How states are written as bytes, and read again.
use Rattle.std.specs.Prelude.{◌≡◌, ℕ, ◌<◌, ◌^◌, cond, List, ◌∷◌, ◌++◌, length, slice_index_or, slice_set, []}
use Rattle.std.specs.Int.{to_le_bytes, w32}
use Rattle.std.specs.Str.{bytes_eq}
use Rattle.codec.specs.Codes.{Code, AllFit, FitsSome, each_code, bool_code, number_code, option_code}
use Rattle.riscv.specs.Memories.{Words, zero_page}
use Rattle.programs.specs.declared.process.Process.{Process}
use Rattle.programs.specs.declared.state.State.{State}
use Rattle.programs.specs.declared.state.State.TheVariants.{Sample, Process as Running}

-- ---- memories

-- four bytes, the low one first
abbrev pub word_code : Code ℕ
word_code word rest = to_le_bytes w32 word ++ rest

abbrev pub FitsWord : ℕ → Type 0
FitsWord word = word < 2 ^ 32

-- 0 where all words are zeros, else 1 and each word
abbrev pub page_code : Code (List ℕ)
page_code page rest = cond (bytes_eq page zero_page) (0 ∷ rest) (1 ∷ each_code word_code page rest)

abbrev pub FitsPage : List ℕ → Type 0
FitsPage page = (length page ≡ 1024) × AllFit FitsWord page

-- each page
abbrev pub memory_code : Code Words
memory_code memory rest = each_code page_code memory rest

abbrev pub FitsMemory : Words → Type 0
FitsMemory memory = (length memory ≡ 64) × AllFit FitsPage memory

-- Where what was left began with the bytes of a page, and there were zeros at this place, it is there now, and what
-- followed is left.
abbrev pub DecodesPage : ℕ → List ℕ → Words → Words → List ℕ → Type 0
DecodesPage index old before after new = (page : List ℕ) (rest : List ℕ)
    → FitsPage page → old ≡ page_code page rest → slice_index_or before index [] ≡ zero_page
    → (after ≡ slice_set before index page) × (rest ≡ new)

-- ---- states

abbrev pub process_code : Code Process
process_code p rest =
    memory_code p.memory (bool_code p.has_program (memory_code p.image (number_code p.loaded rest)))

pub record FitsProcess (p : Process) : Type 0 where
  pub memory : FitsMemory p.memory
  pub image : FitsMemory p.image
  pub loaded : p.loaded < 2 ^ 32

-- 0 and the state of a unit of the sample handler, or 1 and a process
abbrev pub state_code : Code State
state_code (Sample number) rest = 0 ∷ option_code number_code number rest
state_code (Running process) rest = 1 ∷ process_code process rest

abbrev pub FitsState : State → Type 0
FitsState (Sample number) = FitsSome (λ n. n < 2 ^ 64) number
FitsState (Running process) = FitsProcess process
