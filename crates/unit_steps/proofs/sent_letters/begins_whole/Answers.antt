use Rattle.std.proofs.Common.{◌∙◌, sym, ap, subst, ◌<◌}
use Rattle.std.specs.Prelude.{is_some}
use Rattle.std.proofs.lemmas.Option.{get_or_from_slice_get}
use Rattle.compact.specs.Compact.{CompactLetter}
use Rattle.unit_steps.proofs.Spent.{front_none, none_left}
use Rattle.unit_steps.proofs.sent_letters.begins_whole.Goals as goal

pub returns-in-Some : goal.returns-in-Some
returns-in-Some c = λ is. front_none c.args.letters.now.items (λ d at.
    ap (λ (l : CompactLetter). is_some l.content)
    (sym (c.in-Some.ensures.lookup ∙ get_or_from_slice_get c.args.letters.now.items 0 d c.in-Some.letter.now at)
    ∙ sym c.letter.view_is)
    ∙ sym c.is_some.ensures ∙ is)

pub returns-in-None : goal.returns-in-None
returns-in-None c = λ is. none_left c.args.letters.now.items (λ some.
    c.in-None.ensures.variant.1 (subst (λ n. 0 < n) (sym c.args.letters.now.ok.0) some))
