use Rattle.std.proofs.Common.{ℕ, suc, List, drop, get_or, drop-cons}
use Rattle.model.specs.Sample.{greatest}
use Rattle.handler.proofs.Digits.{above-front}
use Rattle.handler.proofs.sample.value.Goals as goal

pub returns-in-None : goal.returns-in-None
returns-in-None c =
    let digits : List ℕ = c.args.digits.now in
    let i : ℕ = c.loop-byte.byte-index in
    above-front greatest c.loop-byte.n (get_or digits i 0) _ (drop i digits) (drop (suc i) digits)
    (drop-cons digits i 0 c.loop-byte-test.true) c.loop-byte.invariant c.in-None.ensures
