use Rattle.std.proofs.Common.{◌≡◌, ◌++◌, drop, false}
use Rattle.serde_json.specs.Written.{items_text}
use Rattle.forms.specs.Writing.{texts}
use Rattle.quick_forms.proofs.replies.texts.Given as goal

-- what was written, and the texts that are left, are all
abbrev pub invariant-loop-text : goal.invariant-loop-text
invariant-loop-text l =
    l.out.items ++ items_text l.later (texts (drop l.text-index l.texts)) ≡ l.initial.out.items
    ++ items_text false (texts l.texts)
