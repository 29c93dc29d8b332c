use Rattle.std.proofs.Common.{◌∙◌, ap, sym}
use Rattle.std.specs.Prelude.{option_map}
use Rattle.compact.specs.Compact.{CompactLetter}
use Rattle.tenant.specs.Stands.{live_in}
use Rattle.tenant.proofs.Reading.{receiver_same}
use Rattle.tenant.proofs.Standing.{opened}
use Rattle.tenant.proofs.tenant.Tenant.receiver.Goals as goal

pub returns-in-Some : goal.returns-in-Some
returns-in-Some g c = λ name w records s.
    let is = sym (ap (option_map (λ (l : CompactLetter). l.receiver)) c.in-Some.ensures)
    ∙ receiver_same g.H.Handler.meaning
    name (live_in name records) c.args.self.now w (opened s).whole (opened s).stands c.args.letter in
    rw (← c.sent.view_is) at is

pub returns-in-None : goal.returns-in-None
returns-in-None g c = λ name w records s.
    sym (ap (option_map (λ (l : CompactLetter). l.receiver)) c.in-None.ensures)
    ∙ receiver_same g.H.Handler.meaning
    name (live_in name records) c.args.self.now w (opened s).whole (opened s).stands c.args.letter
