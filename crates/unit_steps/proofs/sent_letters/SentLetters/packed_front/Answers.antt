use Rattle.std.proofs.Common.{◌∙◌, ap}
use Rattle.unit_steps.specs.SentLetters.{front, SentLetters}
use Rattle.unit_steps.proofs.Spent.{front_is}
use Rattle.unit_steps.proofs.sent_letters.SentLetters.packed_front.Goals as goal

pub returns-then-begins_whole : goal.returns-then-begins_whole
returns-then-begins_whole c =
    front_is c.self.inside.spent c.self.inside.rest.items (c.begins_whole.ensures c.if-begins_whole.true)
    ∙ ap (λ (s : SentLetters). front s.items) c.self.view_is
