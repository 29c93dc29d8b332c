-- Memory: 64 pages of 1,024 words of 32 bits, from address 0 on. The word at an address is in page address / 4096, at
-- place address / 4 % 1024. The byte at an address is at place address % 4 of that word, where place 0 is the lowest
-- byte.
use Rattle.std.specs.Prelude.{◌≡◌, ℕ, Bool, zero, suc, ◌+◌, ◌/◌, ◌%◌, List, [], ◌∷◌, replicate, slice_index}
use Rattle.std.specs.Prelude.{slice_index_or, slice_set, length, All}
use Rattle.std.specs.Str.{bytes_eq}
use Rattle.std.specs.Cmp.Lexicographic.{pointwise}
use Rattle.riscv.specs.Bytes.{byte_in, half_in, with_byte, with_half}

abbrev pub Words : Type 0
Words = List (List ℕ)

-- what a memory is: 64 pages of 1,024 words
pub record IsMemory (memory : Words) : Type 0 where
  pub pages : length memory ≡ 64
  pub words : All (λ page. length page ≡ 1024) memory

-- what `==` says of two memories
abbrev pub pages_equal : Words → Words → Bool
pages_equal = pointwise bytes_eq

-- so many pages of so many zeros
unfoldable pub zero_pages : ℕ → ℕ → Words
zero_pages pages size = replicate pages (replicate size 0)

-- so many zeros, and a page of zeros
unfoldable pub zero_words : ℕ → List ℕ
zero_words size = replicate size 0

abbrev pub zero_page : List ℕ
zero_page = zero_words 1024

-- a memory of zeros
unfoldable pub zeros : Words
zeros = zero_pages 64 1024

abbrev pub page_of : Words → ℕ → List ℕ
page_of memory address = slice_index_or memory (address / 4096) []

abbrev pub word_at : Words → ℕ → ℕ
word_at memory address = slice_index (page_of memory address) (address / 4 % 1024)

abbrev pub byte_at : Words → ℕ → ℕ
byte_at memory address = byte_in (word_at memory address) (address % 4)

abbrev pub half_at : Words → ℕ → ℕ
half_at memory address = half_in (word_at memory address) (address % 4)

-- the memory with another word, byte and half at an address
abbrev pub put_word : Words → ℕ → ℕ → Words
put_word memory address n =
    slice_set memory (address / 4096) (slice_set (page_of memory address) (address / 4 % 1024) n)

abbrev pub put_byte : Words → ℕ → ℕ → Words
put_byte memory address n = put_word memory address (with_byte (word_at memory address) (address % 4) n)

abbrev pub put_half : Words → ℕ → ℕ → Words
put_half memory address n = put_word memory address (with_half (word_at memory address) (address % 4) n)

-- so many bytes from an address on
abbrev pub bytes_from : Words → ℕ → ℕ → List ℕ
bytes_from memory address zero = []
bytes_from memory address (suc n) = byte_at memory address ∷ bytes_from memory (address + 1) n

-- the memory with these bytes from an address on
abbrev pub put_bytes : Words → ℕ → List ℕ → Words
put_bytes memory address [] = memory
put_bytes memory address (b ∷ bytes) = put_bytes (put_byte memory address b) (address + 1) bytes
