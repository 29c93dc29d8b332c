use Rattle.std.proofs.Common.{◌∙◌, sym, true≢false}
use Rattle.forms.proofs.Lines.{step_of_line-read, step_of_line-none}
use Rattle.forms.proofs.reading.read_addressed.Goals as goal

pub returns-in-Ok : goal.returns-in-Ok
returns-in-Ok c = rw (step_of_line-read c.args.line.now _ c.in-Ok.ensures.ok.0 c.in-Ok.ensures.ok.1) c.step.ensures

pub returns-else-is_memory : goal.returns-else-is_memory
returns-else-is_memory c = step_of_line-none c.args.line.now
    (c.in-Err.ensures.err (λ m. true≢false (sym (c.is_memory.ensures.1 m) ∙ c.if-is_memory.false)))
