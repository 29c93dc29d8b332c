use Rattle.std.proofs.Common.{◌∙◌, sym, ap, ◌++◌, arith}
use Rattle.std.proofs.lemmas.List.{append-nil, drop_all}
use Rattle.tenant.specs.Reads.{seats_of}
use Rattle.tenant.proofs.Reading.{more_seats}
use Rattle.tenant.proofs.reads.seats.Goals as goal

pub loop-member-preserved : goal.loop-member-preserved
loop-member-preserved g c = more_seats c.args.members.now
    c.loop-member.member-index c.member-item.result c.loop-member.seats.items c.push.new.self.items c.seat.result
    c.loop-member-test.true c.member-item.is c.loop-member.invariant c.seat.ensures c.in_ok-push.ensures.items

pub returns : goal.returns
returns g c =
    let end = c.loop-member-test.false in
    let done = drop_all c.loop-member.member-index c.args.members.now (omega (arith, end)) in
    sym (append-nil c.loop-member.seats.items)
    ∙ ap (λ ms. c.loop-member.seats.items ++ seats_of ms) (sym done) ∙ c.loop-member.invariant
