use Rattle.std.proofs.Common.{sym}
use Rattle.snapshot.proofs.sealing.unsealed.Goals as goal

pub returns-clause-ok : goal.returns-clause-ok
returns-clause-ok c = λ digest named rest small short is.
    let head = c.in_ok-check_head.ensures.ok _ is in
    let sum = c.in_ok-check_digest.ensures.ok digest _ small (sym head) in
    c.in_ok-check_about.ensures.ok named rest short (sym sum)

pub returns-clause-named : goal.returns-clause-named
returns-clause-named c = λ digest named rest small short is.
    let head = c.in_ok-check_head.ensures.ok _ is in
    let sum = c.in_ok-check_digest.ensures.ok digest _ small (sym head) in
    c.in_ok-check_about.ensures.named named rest short (sym sum)
