use Rattle.std.proofs.Common.{◌∙◌, sym, arith}
use Rattle.tenant.proofs.Joining.{join_done, join_full, join_unknown}
use Rattle.tenant.proofs.PastKept.{one_joined}
use Rattle.tenant.proofs.tenant.Tenant.join.Goals as goal

pub returns-in-None-clause-done : goal.returns-in-None-clause-done
returns-in-None-clause-done g c = λ name live w log s.
    rw (c.refused.ensures.reply) (join_unknown
    g.H.Handler.meaning name live c.args.self.now w log s c.args.name.now (sym c.kind.ensures ∙ c.in-None.is))

pub returns-then-count-ge-MAX_UNITS-clause-done : goal.returns-then-count-ge-MAX_UNITS-clause-done
returns-then-count-ge-MAX_UNITS-clause-done g c = λ name live w log s.
    let many = c.if-count-ge-MAX_UNITS.true in
    let count = c.member_count-count.ensures in
    rw (c.refused-then-count-ge-MAX_UNITS.ensures.reply) (join_full g.H.Handler.meaning name live c.args.self.now
    w log s c.args.name.now c.in-Some.kind (sym c.kind.ensures ∙ c.in-Some.is) (omega (arith, many, count)))

pub returns-clause-done : goal.returns-clause-done
returns-clause-done g c = λ name live w log s.
    let few = c.if-count-ge-MAX_UNITS.false in
    let count = c.member_count-count.ensures in
    rw (c.quiet-answer.ensures.reply) (join_done g.H.Handler.meaning name live c.args.self.now
    w log s c.args.name.now c.in-Some.kind (sym c.kind.ensures ∙ c.in-Some.is) (omega (arith, few, count))
    c.new-unit.result (c.new-unit.ensures ∙ count) c.enter_unit.new.self c.in_ok-enter_unit.ensures.ok)

pub returns-clause-shelves : goal.returns-clause-shelves
returns-clause-shelves g c = λ wide.
    rw (c.quiet-answer.ensures.reply) (one_joined
    g.H.Handler.meaning c.args.self.now c.enter_unit.new.self c.in-Some.kind (c.in_ok-enter_unit.ensures.ok wide))
