use Rattle.std.proofs.Common.{arith, refl}
use Rattle.spent_letters.specs.Stretches.{letters_in}
use Rattle.spent_letters.proofs.Packing.{nothing_packed}
use Rattle.spent_letters.proofs.spent_letters.SpentLetters.new.Goals as goal

pub invariant_of-result : goal.invariant_of-result
unfolding letters_in
invariant_of-result c = rw c.new.ensures.items (rw c.new-2.ensures.items (nothing_packed, refl, omega (arith)))

pub returns : goal.returns
unfolding letters_in
returns c = rw c.new.ensures.items (rw c.new-2.ensures.items refl)
