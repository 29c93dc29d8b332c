use Rattle.std.proofs.Common.{◌++◌, take, sym, ap, subst, ◌∙◌, append_assoc, arith, take_all}
use Rattle.std.proofs.lemmas.List.{take_more}
use Rattle.durable.specs.Measuring.{IsMeasured}
use Rattle.durable.proofs.measuring.measure_bytes.Goals as goal

pub loop-byte-preserved : goal.loop-byte-preserved
loop-byte-preserved c =
    let i = c.loop-byte.byte-index in
    let xs = c.args.bytes.now in
    record {
      measured = λ all is.
          subst (λ l. IsMeasured l c.args.from c.measure_byte.new.measured)
          (append_assoc all (take i xs) _ ∙ ap (λ l. all ++ l) (sym (take_more xs i 0 c.loop-byte-test.true)))
          (c.measure_byte.ensures.measured (all ++ take i xs) (c.loop-byte.invariant.measured all is));
      bytes = omega (arith, c.measure_byte.ensures.bytes, c.loop-byte.invariant.bytes);
    }

pub returns : goal.returns
returns c = λ all is.
    subst (λ l. IsMeasured (all ++ l) c.args.from c.loop-byte.measured)
    (take_all c.loop-byte.byte-index c.args.bytes.now c.loop-byte-test.false)
    (c.loop-byte.invariant.measured all is)
