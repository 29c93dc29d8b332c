use Rattle.std.proofs.Common.{◌∙◌}
use Rattle.lines.specs.Doing.{DoesBy}
use Rattle.lines.proofs.Runs.{line_step-held}
use Rattle.driver.proofs.Rounds.{answered_round, line_answered, line_round, wrote_by}
use Rattle.driver.proofs.driving.drive_line.Goals as goal

pub returns-in-Ok : goal.returns-in-Ok
returns-in-Ok g c =
    let p = c.drive_step.ensures in
    let is = line_step-held c.args.line.now c.requires.short ∙ c.in-Ok.ensures in
    (p.0, line_round (DoesBy g.F.Fn c.args.step.now) c.args.line.now c.in-Ok.read _ _ p.0 c.requires.short is p.1, p.2)

pub returns-in-Err : goal.returns-in-Err
returns-in-Err g c =
    let Does = DoesBy g.F.Fn c.args.step.now in
    let x = c.put_reply.ensures in
    answered_round Does c.put_reply.result c.args.line.now c.fault_reply.result _ _ _ _ _
    (line_answered Does c.args.line.now
    c.in-Err.fault c.fault_reply.result _ c.requires.short c.in-Err.ensures c.fault_reply.ensures)
    (wrote_by c.put_reply.result _ _ _ _ _ x.ok x.err x.write x.read x.same)
