use Rattle.std.proofs.lemmas.Result.{err_from_is_err_and}
use Rattle.driver.specs.Driving.{output_line}
use Rattle.driver.proofs.Rounds.{wrote_part}
use Rattle.driver.proofs.outputs.put_outputs.Goals as goal

pub returns-in_err-put_output : goal.returns-in_err-put_output
returns-in_err-put_output g c =
    let p = err_from_is_err_and c.from_residual.result c.from_residual.ensures.1 in
    wrote_part c.from_residual.result p.0 c.in_err-put_output.field-0.0 (output_line c.args.tenant.now c.args.unit)
    c.args.outputs.now c.loop-output.output-index c.output-item.result _ _ _ _ _ _
    p.1 p.2 c.loop-output-test.true
    c.output-item.is c.loop-output.invariant.written c.loop-output.invariant.same c.in_err-put_output.ensures
