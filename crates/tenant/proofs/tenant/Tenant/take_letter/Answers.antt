use Rattle.std.proofs.Common.{◌≡◌, refl, sym, ◌∙◌, ap, subst}
use Rattle.std.specs.Option.{option_copied}
use Rattle.std.specs.Prelude.{Option, Some, slice_get}
use Rattle.compact.specs.Compact.{Content, CompactLetter}
use Rattle.std.proofs.lemmas.Option.{slice_get_within}
use Rattle.model.specs.declared.names.Source.TheVariants.{Unit as FromUnit}
use Rattle.compact.specs.Steps.{delivered}
use Rattle.rollback.specs.Units.{recorded}
use Rattle.tenant.specs.Answers.{Answer}
use Rattle.tenant.specs.Kept.{IsTurnBy}
use Rattle.tenant.proofs.Asking.{asked_is_up, refused_stays}
use Rattle.tenant.proofs.Delivering.{content_parts, letter_none, letter_no_unit, letter_planned, letter_refused_then}
use Rattle.tenant.proofs.Planning.{planned_next, planned_plain, planned_whole}
use Rattle.tenant.proofs.PastKept.{received_same}
use Rattle.tenant.proofs.tenant.Tenant.take_letter.Goals as goal

pub returns-in-None-clause-done : goal.returns-in-None-clause-done
returns-in-None-clause-done g c = λ live w log s.
    refused_stays g.H.Handler.meaning c.args.name.now live c.args.self.now w log s _ _ _
    (letter_none g.H.Handler.meaning c.args.name.now live c.args.self.now w log s c.args.letter c.in-None.ensures).1
    c.refused.ensures.reply

pub returns-in-None-member-clause-done : goal.returns-in-None-member-clause-done
returns-in-None-member-clause-done g c = λ live w log s.
    let sent : CompactLetter = record {
      source = c.sent.inside.source;
      receiver = c.sent.inside.receiver;
      content = option_copied c.sent.inside.content;
    } in
    let there : slice_get c.args.self.now.letters c.args.letter ≡ Some sent =
    (c.in-Some.ensures ∙ ap (λ (l : CompactLetter). Some l) (sym c.sent.view_is)) in
    refused_stays g.H.Handler.meaning c.args.name.now
    live c.args.self.now w log s _ _ _ (letter_no_unit g.H.Handler.meaning c.args.name.now live c.args.self.now
    w log s c.args.letter sent there c.in-None-member.ensures).1 c.refused-in-None-member.ensures.reply

pub returns-in-None-content-clause-done : goal.returns-in-None-content-clause-done
returns-in-None-content-clause-done g c = λ live w log s.
    let sent : CompactLetter = record {
      source = c.sent.inside.source;
      receiver = c.sent.inside.receiver;
      content = option_copied c.sent.inside.content;
    } in
    let there : slice_get c.args.self.now.letters c.args.letter ≡ Some sent =
    (c.in-Some.ensures ∙ ap (λ (l : CompactLetter). Some l) (sym c.sent.view_is)) in
    let none = subst (λ (o : Option Content).
    IsTurnBy g.H.Handler.meaning c.args.self.now c.in-Some-member.member.now sent o c.args.turn)
    (ap option_copied c.in-None-content.is)
    (c.requires.own sent c.in-Some-member.member.now there c.in-Some-member.ensures) in
    absurd none

pub plan-requires-clause-room : goal.plan-requires-clause-room
plan-requires-clause-room g c κs within =
    let sent : CompactLetter = record {
      source = c.sent.inside.source;
      receiver = c.sent.inside.receiver;
      content = option_copied c.sent.inside.content;
    } in
    let there : slice_get c.args.self.now.letters c.args.letter ≡ Some sent =
    (c.in-Some.ensures ∙ ap (λ (l : CompactLetter). Some l) (sym c.sent.view_is)) in
    let content : Content = record {
      number = c.number.result;
      text = c.in_ok-text.text;
      vector = c.as_slice.result.now;
    } in
    let whole : sent.content ≡ Some content =
    content_parts sent.content c.in-Some-content.content.now c.number.result c.in_ok-text.text c.as_slice.result.now
    (ap option_copied c.in-Some-content.is) c.number.ensures (c.in_ok-text.ensures ∙ c.text.ensures)
    (c.as_slice.ensures.marks ∙ c.vector.ensures) in
    let is = subst (λ (o : Option Content).
    IsTurnBy g.H.Handler.meaning c.args.self.now c.in-Some-member.member.now sent o c.args.turn) whole
    (c.requires.own sent c.in-Some-member.member.now there c.in-Some-member.ensures) in
    is.asking.room

pub plan-requires-clause-up : goal.plan-requires-clause-up
plan-requires-clause-up g c κs within =
    let sent : CompactLetter = record {
      source = c.sent.inside.source;
      receiver = c.sent.inside.receiver;
      content = option_copied c.sent.inside.content;
    } in
    let there : slice_get c.args.self.now.letters c.args.letter ≡ Some sent =
    (c.in-Some.ensures ∙ ap (λ (l : CompactLetter). Some l) (sym c.sent.view_is)) in
    let content : Content = record {
      number = c.number.result;
      text = c.in_ok-text.text;
      vector = c.as_slice.result.now;
    } in
    let whole : sent.content ≡ Some content =
    content_parts sent.content c.in-Some-content.content.now c.number.result c.in_ok-text.text c.as_slice.result.now
    (ap option_copied c.in-Some-content.is) c.number.ensures (c.in_ok-text.ensures ∙ c.text.ensures)
    (c.as_slice.ensures.marks ∙ c.vector.ensures) in
    let is = subst (λ (o : Option Content).
    IsTurnBy g.H.Handler.meaning c.args.self.now c.in-Some-member.member.now sent o c.args.turn) whole
    (c.requires.own sent c.in-Some-member.member.now there c.in-Some-member.ensures) in
    asked_is_up c.in-Some-member.member.now.unit_state (FromUnit sent.source) content.text is.input is.asking.asked

pub plan-requires-clause-there : goal.plan-requires-clause-there
plan-requires-clause-there g c κs within =
    slice_get_within c.args.self.now.members c.sent.inside.receiver _ c.in-Some-member.ensures

pub apply-requires-clause-within : goal.apply-requires-clause-within
apply-requires-clause-within g c κs within =
    slice_get_within c.args.self.now.members c.sent.inside.receiver _ c.in-Some-member.ensures

pub apply-requires-clause-next : goal.apply-requires-clause-next
apply-requires-clause-next g c κs within = λ m at.
    let sent : CompactLetter = record {
      source = c.sent.inside.source;
      receiver = c.sent.inside.receiver;
      content = option_copied c.sent.inside.content;
    } in
    let there : slice_get c.args.self.now.letters c.args.letter ≡ Some sent =
    (c.in-Some.ensures ∙ ap (λ (l : CompactLetter). Some l) (sym c.sent.view_is)) in
    let content : Content = record {
      number = c.number.result;
      text = c.in_ok-text.text;
      vector = c.as_slice.result.now;
    } in
    let whole : sent.content ≡ Some content =
    content_parts sent.content c.in-Some-content.content.now c.number.result c.in_ok-text.text c.as_slice.result.now
    (ap option_copied c.in-Some-content.is) c.number.ensures (c.in_ok-text.ensures ∙ c.text.ensures)
    (c.as_slice.ensures.marks ∙ c.vector.ensures) in
    let is = subst (λ (o : Option Content).
    IsTurnBy g.H.Handler.meaning c.args.self.now c.in-Some-member.member.now sent o c.args.turn) whole
    (c.requires.own sent c.in-Some-member.member.now there c.in-Some-member.ensures) in
    let planned = rw (c.in-Ok.is) at c.in_ok-refusal.ensures in
    planned_next c.args.name.now c.args.self.now c.sent.inside.receiver
    c.in-Some-member.member.now (delivered c.args.letter sent content) c.args.turn c.in-Ok.plan
    planned _ (FromUnit sent.source) content.text is.input is.asking g.H.Handler.meaning is.own refl refl
    c.in-Some-member.ensures m at

pub returns-in-Err-clause-done : goal.returns-in-Err-clause-done
returns-in-Err-clause-done g c = λ live w log s.
    let sent : CompactLetter = record {
      source = c.sent.inside.source;
      receiver = c.sent.inside.receiver;
      content = option_copied c.sent.inside.content;
    } in
    let there : slice_get c.args.self.now.letters c.args.letter ≡ Some sent =
    (c.in-Some.ensures ∙ ap (λ (l : CompactLetter). Some l) (sym c.sent.view_is)) in
    let content : Content = record {
      number = c.number.result;
      text = c.in_ok-text.text;
      vector = c.as_slice.result.now;
    } in
    let whole : sent.content ≡ Some content =
    content_parts sent.content c.in-Some-content.content.now c.number.result c.in_ok-text.text c.as_slice.result.now
    (ap option_copied c.in-Some-content.is) c.number.ensures (c.in_ok-text.ensures ∙ c.text.ensures)
    (c.as_slice.ensures.marks ∙ c.vector.ensures) in
    let is = subst (λ (o : Option Content).
    IsTurnBy g.H.Handler.meaning c.args.self.now c.in-Some-member.member.now sent o c.args.turn) whole
    (c.requires.own sent c.in-Some-member.member.now there c.in-Some-member.ensures) in
    let planned = rw (c.in-Err.is, is.own) at c.in_ok-refusal.ensures in
    rw (c.refused-in-Err.ensures.reply) (letter_refused_then g.H.Handler.meaning
    c.args.name.now live c.args.self.now w log s c.args.letter sent there c.in-Some-member.member.now
    c.in-Some-member.ensures content whole is.input is.asking c.in-Err.refusal planned)

pub returns-in_ok-answer-in-Ok-clause-plain : goal.returns-in_ok-answer-in-Ok-clause-plain
returns-in_ok-answer-in-Ok-clause-plain g c =
    let sent : CompactLetter = record {
      source = c.sent.inside.source;
      receiver = c.sent.inside.receiver;
      content = option_copied c.sent.inside.content;
    } in
    let there : slice_get c.args.self.now.letters c.args.letter ≡ Some sent =
    (c.in-Some.ensures ∙ ap (λ (l : CompactLetter). Some l) (sym c.sent.view_is)) in
    let content : Content = record {
      number = c.number.result;
      text = c.in_ok-text.text;
      vector = c.as_slice.result.now;
    } in
    let whole : sent.content ≡ Some content =
    content_parts sent.content c.in-Some-content.content.now c.number.result c.in_ok-text.text c.as_slice.result.now
    (ap option_copied c.in-Some-content.is) c.number.ensures (c.in_ok-text.ensures ∙ c.text.ensures)
    (c.as_slice.ensures.marks ∙ c.vector.ensures) in
    let is = subst (λ (o : Option Content).
    IsTurnBy g.H.Handler.meaning c.args.self.now c.in-Some-member.member.now sent o c.args.turn) whole
    (c.requires.own sent c.in-Some-member.member.now there c.in-Some-member.ensures) in
    let planned = rw (c.in-Ok.is) at c.in_ok-refusal.ensures in
    rw (c.in_ok-answer-in-Ok.ensures.answer) (planned_plain c.args.name.now
    c.args.self.now c.sent.inside.receiver c.in-Some-member.member.now (delivered c.args.letter sent content)
    c.args.turn c.in-Ok.plan planned _ (FromUnit sent.source) content.text is.input is.asking)

pub returns-in_ok-answer-in-Ok-clause-done : goal.returns-in_ok-answer-in-Ok-clause-done
returns-in_ok-answer-in-Ok-clause-done g c = λ live w log s.
    let sent : CompactLetter = record {
      source = c.sent.inside.source;
      receiver = c.sent.inside.receiver;
      content = option_copied c.sent.inside.content;
    } in
    let there : slice_get c.args.self.now.letters c.args.letter ≡ Some sent =
    (c.in-Some.ensures ∙ ap (λ (l : CompactLetter). Some l) (sym c.sent.view_is)) in
    let content : Content = record {
      number = c.number.result;
      text = c.in_ok-text.text;
      vector = c.as_slice.result.now;
    } in
    let whole : sent.content ≡ Some content =
    content_parts sent.content c.in-Some-content.content.now c.number.result c.in_ok-text.text c.as_slice.result.now
    (ap option_copied c.in-Some-content.is) c.number.ensures (c.in_ok-text.ensures ∙ c.text.ensures)
    (c.as_slice.ensures.marks ∙ c.vector.ensures) in
    let is = subst (λ (o : Option Content).
    IsTurnBy g.H.Handler.meaning c.args.self.now c.in-Some-member.member.now sent o c.args.turn) whole
    (c.requires.own sent c.in-Some-member.member.now there c.in-Some-member.ensures) in
    let planned = rw (c.in-Ok.is) at c.in_ok-refusal.ensures in
    letter_planned g.H.Handler.meaning c.args.name.now
    live c.args.self.now w log s c.args.letter sent there c.in-Some-member.member.now c.in-Some-member.ensures
    content whole is.input is.asking c.args.turn is.own c.in-Ok.plan planned
    c.in_ok-answer-in-Ok.answer.reply (ap (λ (a : Answer). a.reply) c.in_ok-answer-in-Ok.ensures.answer)
    c.apply.new.self (c.in_ok-answer-in-Ok.ensures.ok c.in-Some-member.member.now c.in-Some-member.ensures)

pub returns-in_ok-answer-in-Ok-clause-shelves : goal.returns-in_ok-answer-in-Ok-clause-shelves
returns-in_ok-answer-in-Ok-clause-shelves g c =
    let sent : CompactLetter = record {
      source = c.sent.inside.source;
      receiver = c.sent.inside.receiver;
      content = option_copied c.sent.inside.content;
    } in
    let there : slice_get c.args.self.now.letters c.args.letter ≡ Some sent =
    (c.in-Some.ensures ∙ ap (λ (l : CompactLetter). Some l) (sym c.sent.view_is)) in
    let content : Content = record {
      number = c.number.result;
      text = c.in_ok-text.text;
      vector = c.as_slice.result.now;
    } in
    let whole : sent.content ≡ Some content =
    content_parts sent.content c.in-Some-content.content.now c.number.result c.in_ok-text.text c.as_slice.result.now
    (ap option_copied c.in-Some-content.is) c.number.ensures (c.in_ok-text.ensures ∙ c.text.ensures)
    (c.as_slice.ensures.marks ∙ c.vector.ensures) in
    let is = subst (λ (o : Option Content).
    IsTurnBy g.H.Handler.meaning c.args.self.now c.in-Some-member.member.now sent o c.args.turn) whole
    (c.requires.own sent c.in-Some-member.member.now there c.in-Some-member.ensures) in
    let planned = rw (c.in-Ok.is) at c.in_ok-refusal.ensures in
    received_same g.H.Handler.meaning
    c.args.self.now c.sent.inside.receiver c.in-Some-member.member.now c.in-Some-member.ensures
    c.apply.new.self (recorded c.args.name.now c.in-Ok.plan.logged) c.args.turn.outputs
    c.in-Ok.plan.made.items (c.in_ok-answer-in-Ok.ensures.ok c.in-Some-member.member.now c.in-Some-member.ensures)
    (planned_whole c.args.name.now
    c.args.self.now c.sent.inside.receiver c.in-Some-member.member.now (delivered c.args.letter sent content)
    c.args.turn c.in-Ok.plan planned _ (FromUnit sent.source) content.text is.input is.asking)
