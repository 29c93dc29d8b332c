use Rattle.std.proofs.Common.{◌++◌, ◌∙◌, ap, sym, subst, drop, ◌+◌}
use Rattle.codec.specs.Codes.{AllFit, each_code}
use Rattle.codec.specs.Layers.{FitsLetter, letter_code}
use Rattle.codec.proofs.Each.{found_drop}
use Rattle.codec.proofs.letters.encode_each.Goals as goal

pub loop-number-preserved : goal.loop-number-preserved
loop-number-preserved c =
    let all = c.args.letters.now.items in
    let n = c.loop-number.number in
    let left = found_drop all n c.at-letter.result c.at-letter.ensures in
    record {
      code = λ rest. c.in_ok-encode_letter.ensures.code (each_code letter_code (drop (n + 1) all) rest)
          ∙ ap (λ xs. c.loop-number.out.items ++ each_code letter_code xs rest) (sym left)
          ∙ c.loop-number.invariant.code rest;
      fits = λ others. c.loop-number.invariant.fits (subst (AllFit FitsLetter) (sym left)
          (c.in_ok-encode_letter.ensures.fits, others));
    }
