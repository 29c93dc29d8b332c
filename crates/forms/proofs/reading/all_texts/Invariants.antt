use Rattle.std.proofs.Common.{◌≡◌, ◌++◌, drop}
use Rattle.std.specs.Prelude.{option_map}
use Rattle.serde_json.specs.View.{items_view}
use Rattle.forms.specs.Reading.{texts_of}
use Rattle.forms.proofs.reading.all_texts.Given as goal

-- the texts so far, before those of the items to come, are those of all items
abbrev pub invariant-loop-item : goal.invariant-loop-item
invariant-loop-item l = option_map (λ rest. l.texts.items ++ rest) (texts_of (items_view (drop l.item-index l.items)))
    ≡ texts_of (items_view l.items)
