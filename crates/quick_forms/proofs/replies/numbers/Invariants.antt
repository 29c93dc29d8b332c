use Rattle.std.proofs.Common.{◌≡◌, ◌++◌, drop, false}
use Rattle.serde_json.specs.Written.{items_text}
use Rattle.forms.specs.Writing.{wholes}
use Rattle.quick_forms.proofs.replies.numbers.Given as goal

-- what was written, and the numbers that are left, are all
abbrev pub invariant-loop-letter : goal.invariant-loop-letter
invariant-loop-letter l =
    l.out.items ++ items_text l.later (wholes (drop l.letter-index l.letters)) ≡ l.initial.out.items
    ++ items_text false (wholes l.letters)
