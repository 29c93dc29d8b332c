use Rattle.std.proofs.Common.{◌≡◌, refl, sym, ◌∙◌, ap}
use Rattle.std.specs.Option.{option_copied}
use Rattle.std.specs.Prelude.{Some, slice_get}
use Rattle.compact.specs.Compact.{Content, CompactLetter}
use Rattle.tenant.specs.Kept.{letter_refusal_of}
use Rattle.tenant.proofs.Delivering.{content_parts, letter_asked, letter_none, letter_no_unit, letter_refused_first}
use Rattle.tenant.proofs.Delivering.{letter_within}
use Rattle.tenant.proofs.tenant.Tenant.ask_letter.Goals as goal

pub returns-in-None-clause-asked : goal.returns-in-None-clause-asked
returns-in-None-clause-asked g c = λ name live w log s.
    letter_none g.H.Handler.meaning name live c.args.self.now w log s c.args.letter c.in-None.ensures

pub returns-in-None-member-clause-asked : goal.returns-in-None-member-clause-asked
returns-in-None-member-clause-asked g c = λ name live w log s.
    let sent : CompactLetter = record {
      source = c.sent.inside.source;
      receiver = c.sent.inside.receiver;
      content = option_copied c.sent.inside.content;
    } in
    let there : slice_get c.args.self.now.letters c.args.letter ≡ Some sent =
    (c.in-Some.ensures ∙ ap (λ (l : CompactLetter). Some l) (sym c.sent.view_is)) in
    letter_no_unit g.H.Handler.meaning
    name live c.args.self.now w log s c.args.letter sent there c.in-None-member.ensures

pub returns-in-Some-letter_refusal-clause-asked : goal.returns-in-Some-letter_refusal-clause-asked
returns-in-Some-letter_refusal-clause-asked g c = λ name live w log s.
    let sent : CompactLetter = record {
      source = c.sent.inside.source;
      receiver = c.sent.inside.receiver;
      content = option_copied c.sent.inside.content;
    } in
    let there : slice_get c.args.self.now.letters c.args.letter ≡ Some sent =
    (c.in-Some.ensures ∙ ap (λ (l : CompactLetter). Some l) (sym c.sent.view_is)) in
    let told = c.letter_refusal.ensures.refusal (letter_within
    g.H.Handler.meaning name live c.args.self.now w log s c.args.letter c.in-Some.sent c.in-Some.ensures) in
    let same : letter_refusal_of c.args.self.now c.in-Some-member.member.now sent ≡ c.letter_refusal.result =
    (ap (letter_refusal_of c.args.self.now c.in-Some-member.member.now) c.sent.view_is ∙ sym told) in
    letter_refused_first g.H.Handler.meaning name live c.args.self.now w log s c.args.letter
    sent there c.in-Some-member.member.now c.in-Some-member.ensures c.in-Some-letter_refusal.refusal (same
    ∙ c.in-Some-letter_refusal.is)

pub returns-clause-asked : goal.returns-clause-asked
returns-clause-asked g c = λ name live w log s.
    let sent : CompactLetter = record {
      source = c.sent.inside.source;
      receiver = c.sent.inside.receiver;
      content = option_copied c.sent.inside.content;
    } in
    let there : slice_get c.args.self.now.letters c.args.letter ≡ Some sent =
    (c.in-Some.ensures ∙ ap (λ (l : CompactLetter). Some l) (sym c.sent.view_is)) in
    let given = c.in-Some-content.content.now in
    let content : Content = record { number = given.number; text = c.text.result.now; vector = given.vector } in
    let whole : sent.content ≡ Some content =
    content_parts sent.content given given.number c.text.result.now given.vector
    (ap option_copied c.in-Some-content.is) refl c.text.ensures refl in
    let told = c.letter_refusal.ensures.refusal (letter_within
    g.H.Handler.meaning name live c.args.self.now w log s c.args.letter c.in-Some.sent c.in-Some.ensures) in
    let same : letter_refusal_of c.args.self.now c.in-Some-member.member.now sent ≡ c.letter_refusal.result =
    (ap (letter_refusal_of c.args.self.now c.in-Some-member.member.now) c.sent.view_is ∙ sym told) in
    letter_asked g.H.Handler.meaning name live c.args.self.now w log s c.args.letter sent
    there c.in-Some-member.member.now c.in-Some-member.ensures content whole (same ∙ c.in-None-letter_refusal.is)
    c.ask.result c.ask.ensures.asked c.ask.ensures.down
