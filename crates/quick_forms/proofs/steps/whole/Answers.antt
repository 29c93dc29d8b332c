use Rattle.std.proofs.Common.{arith, ◌≡◌, ◌==◌, false}
use Rattle.std.specs.Prelude.{slice_index}
use Rattle.quick_forms.proofs.Turns.{number_of-unsigned}
use Rattle.quick_forms.proofs.steps.whole.Goals as goal

pub returns-in-Some : goal.returns-in-Some
returns-in-Some c =
    let plain : (slice_index c.args.text.now 0 == 45) ≡ false = grind arith in
    grind (arith, number_of-unsigned c.args.text.now plain)
