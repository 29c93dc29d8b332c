-- Where the bytes of a text lie, and the items of a list.
use Rattle.std.specs.Prelude.{List, ℕ, [], take}
use Rattle.std.specs.Arc.{arc_slice_items, arc_str_bytes}
use Rattle.model.specs.declared.short_list.ListStorage.{ListStorage}
use Rattle.model.specs.declared.short_list.ListStorage.TheVariants as lists
use Rattle.model.specs.declared.text.Storage.{Storage}
use Rattle.model.specs.declared.text.Storage.TheVariants.{Inline, Shared}

abbrev pub stored_bytes : Storage → List ℕ
stored_bytes (Inline string) = string.bytes
stored_bytes (Shared string) = arc_str_bytes string

abbrev pub stored_items : {T : Type 0} → ListStorage T → List T
stored_items lists.Zero = []
stored_items (lists.One items) = take 1 items
stored_items (lists.Two items) = take 2 items
stored_items (lists.Three items) = items
stored_items (lists.Shared items) = arc_slice_items items
