use Rattle.std.proofs.Common.{◌≤◌, ◌∙◌, arith}
use Rattle.shards.proofs.Telling.{wrote_beginning, wrote_piece}
use Rattle.shards.proofs.writing.put_lines.Goals as goal

pub returns-in-Err-clause-err : goal.returns-in-Err-clause-err
returns-in-Err-clause-err g c =
    let order : c.loop-at.at ≤ c.line_end-end.result = omega (arith, c.line_end-end.ensures.above) in
    wrote_beginning _ _ _ c.args.bytes.now c.loop-at.at c.line_end-end.result order
    c.loop-at.invariant.written c.in-Err.ensures.err

pub loop-at-preserved : goal.loop-at-preserved
loop-at-preserved g c =
    let order : c.loop-at.at ≤ c.line_end-end.result = omega (arith, c.line_end-end.ensures.above) in
    record {
      within = c.line_end-end.ensures.within;
      written = wrote_piece _ _ _ c.args.bytes.now c.loop-at.at c.line_end-end.result order
          c.loop-at.invariant.written c.in-Ok.ensures.ok;
      same = c.in-Ok.ensures.same ∙ c.loop-at.invariant.same;
    }
