use Rattle.std.proofs.Common.{◌≡◌, ◌==◌, false}
use Rattle.std.proofs.lemmas.Nat.{div-add-mod'}
use Rattle.riscv.proofs.Quotients.{apart}
use Rattle.riscv.proofs.laws.unsigned_divides.Goals as goal

pub returns : goal.returns
returns c = λ a b ne. let test : (b == 0) ≡ false = apart b 0 ne in rw test (div-add-mod' a b)
