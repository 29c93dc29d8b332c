use Rattle.std.proofs.Common.{◌≡◌, take, map}
use Rattle.serde_json.specs.View.{view}
use Rattle.forms.specs.Writing.{mark_data}
use Rattle.forms.proofs.records.vector.Given as goal

-- the values so far are those of the marks so far
abbrev pub invariant-loop-at : goal.invariant-loop-at
invariant-loop-at l = map view l.list.items ≡ map mark_data (take l.at-index l.vector)
