-- States of the sample handler.
use Rattle.std.specs.Prelude.{◌≡◌, ◌==◌, ℕ, Option, Some, None, true}
use Rattle.std.specs.Option.{option_eq}
use Rattle.std.specs.Cmp.{unsigned_Decides}
use Rattle.std.proofs.Common.{ap, refl}

-- states that compare equal are equal
pub states_equal : (a b : Option ℕ) → option_eq ◌==◌ a b ≡ true → a ≡ b
states_equal None None e = refl
states_equal None (Some y) e = cc
states_equal (Some x) None e = cc
states_equal (Some x) (Some y) e = ap Some ((unsigned_Decides x y).0 e)
