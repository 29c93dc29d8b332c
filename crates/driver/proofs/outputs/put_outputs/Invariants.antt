use Rattle.std.proofs.Common.{◌≡◌, take}
use Rattle.std.specs.Io.KnownBytes.{Appends}
use Rattle.driver.specs.Driving.{output_lines}
use Rattle.driver.proofs.outputs.put_outputs.Given as goal

-- the lines of the texts so far were written
abbrev pub invariant-loop-output : goal.invariant-loop-output
invariant-loop-output g l = record {
  written : Appends (g.W.Write.contents l.fn.writer.inner) (g.W.Write.contents l.writer.inner)
      (output_lines l.fn.tenant l.fn.unit (take l.output-index l.outputs));
  same : l.writer.failed ≡ l.fn.writer.failed;
}
