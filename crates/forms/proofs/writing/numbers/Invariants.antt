use Rattle.std.proofs.Common.{◌≡◌, take, map}
use Rattle.serde_json.specs.View.{view}
use Rattle.forms.specs.Writing.{whole}
use Rattle.forms.proofs.writing.numbers.Given as goal

-- the values so far are those of the letters so far
abbrev pub invariant-loop-letter : goal.invariant-loop-letter
invariant-loop-letter l = map view l.list.items ≡ map whole (take l.letter-index l.letters)
