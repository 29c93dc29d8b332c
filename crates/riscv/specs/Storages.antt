-- Where items lie that copies can share.
use Rattle.std.specs.Prelude.{ℕ, Bool, true, false, List, Option, Some, None, unwrap_or}
use Rattle.std.specs.Arc.{arc_value}
use Rattle.riscv.specs.Memories.{zero_page}
use Rattle.riscv.specs.declared.storage.Storage.{Storage}
use Rattle.riscv.specs.declared.storage.Storage.TheVariants.{Nowhere, Own, Shared}

-- the items, where there are any
abbrev pub items_of : {X : Type 0} → Storage X → Option (List X)
items_of Nowhere = None
items_of (Own items) = Some items.items
items_of (Shared items) = Some (arc_value items).items

-- whether copies share them
abbrev pub is_shared : {X : Type 0} → Storage X → Bool
is_shared Nowhere = false
is_shared (Own items) = false
is_shared (Shared items) = true

-- the words of a page, which are zeros where they lie nowhere
abbrev pub words_of : Storage ℕ → List ℕ
words_of words = unwrap_or (items_of words) zero_page
