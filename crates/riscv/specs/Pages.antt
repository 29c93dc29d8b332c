-- The pages of a memory.
use Rattle.std.specs.Prelude.{ℕ, List, Box, Option, None, Some, unwrap_or}
use Rattle.std.specs.declared.alloc.Global.{Global}
use Rattle.riscv.specs.declared.storage.Storage.{Storage}
use Rattle.riscv.specs.Storages.{items_of}
use Rattle.riscv.specs.Memories.{Words, zero_page, zeros}

-- the pages of a memory, which are zeros where they lie nowhere
abbrev pub pages_of : Storage (List ℕ) → Words
pages_of pages = unwrap_or (items_of pages) zeros

-- the words of a page, which are zeros where it has no body
abbrev pub body_words : Option (Box (List ℕ) Global) → List ℕ
body_words None = zero_page
body_words (Some body) = body.value
