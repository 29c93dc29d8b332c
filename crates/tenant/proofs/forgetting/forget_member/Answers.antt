use Rattle.std.proofs.Common.{◌<◌, sym, subst}
use Rattle.rollback.specs.Units.{Recovering, places}
use Rattle.tenant.proofs.Moving.{next_is}
use Rattle.tenant.proofs.forgetting.forget_member.Goals as goal

pub empty_passed-requires-after_bounds : goal.empty_passed-requires-after_bounds
empty_passed-requires-after_bounds g c κs within =
    subst (λ (r : Recovering _). c.in-Some.base < places r) (sym c.unit_state.ensures) c.in-Some.ensures.within

pub move_base-requires-after_bounds : goal.move_base-requires-after_bounds
move_base-requires-after_bounds g c κs within =
    (next_is c.args.member.now.unit_state c.args.frontier c.in-Some.base (sym c.in-Some.ensures.base)).0
