use Rattle.std.proofs.Common.{refl, ◌∙◌, ap, [], length, arith}
use Rattle.std.specs.List.{fold}
use Rattle.std.proofs.lemmas.List.{take_all}
use Rattle.model.specs.Steps.{kind_or_0}
use Rattle.tenant.specs.Kept.{with_begun}
use Rattle.tenant.proofs.Beginning.{more_begun}
use Rattle.tenant.proofs.open.begin_all.Goals as goal

pub loop-name-preserved : goal.loop-name-preserved
loop-name-preserved g c =
    more_begun g.H.Handler.meaning (length c.args.names.now) c.args.names.now
    c.loop-name.name-index c.loop-name.members.items c.begin_one.new.members.items c.name-item.result _ _
    c.loop-name-test.true c.name-item.is
    c.loop-name.invariant.0 c.loop-name.invariant.1 refl c.kind_of.ensures c.in_ok-begin_one.ensures

pub returns : goal.returns
returns g c =
    let end = c.loop-name-test.false in
    c.loop-name.invariant.1
    ∙ ap (fold (λ ms n. with_begun g.H.Handler.meaning (length c.args.names.now) ms (kind_or_0
    (g.H.Handler.meaning.kind n))) []) (take_all c.loop-name.name-index c.args.names.now (omega (arith, end)))
