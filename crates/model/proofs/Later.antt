-- Which of two marks is the later, told by one number.
use Rattle.std.proofs.Common.{◌≡◌, ◌+◌, ◌*◌, ◌<◌, nat_le, arith}
use Rattle.model.specs.declared.names.Mark.{Mark}
use Rattle.model.specs.World.{mark_le}

-- a mark is not later than another where its number is not the greater
pub order_tells : (x y : Mark) → x.index < 4294967296 → y.index < 4294967296
    → nat_le (x.incarnation * 4294967296 + x.index) (y.incarnation * 4294967296 + y.index) ≡ mark_le x y
order_tells x y h k = grind (arith, h, k)
