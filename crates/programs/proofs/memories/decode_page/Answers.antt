use Rattle.std.proofs.Common.{◌≡◌, ◌∙◌, sym, ap, [], ◌∷◌}
use Rattle.programs.specs.Coding.{page_code}
use Rattle.programs.proofs.Coded.{set_same, zeros_read}
use Rattle.programs.proofs.memories.decode_page.Goals as goal

pub returns-in-0-clause-ok : goal.returns-in-0-clause-ok
returns-in-0-clause-ok c = λ page rest fits is zeros_here.
    let left = c.byte.new.self in
    let begins : 0 ∷ left ≡ page_code page rest =
    sym (c.in_ok-byte.ensures.ok ∙ ap (λ b. b ∷ left) c.in-0.is) ∙ is in
    let read = zeros_read page rest left begins in
    (sym (set_same c.args.memory.now c.args.index [] page (zeros_here ∙ sym read.0)), read.1)
