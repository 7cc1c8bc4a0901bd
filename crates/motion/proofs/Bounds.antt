-- How far the motions of the definitions can be.
-- Assumes nothing.
use Prim.Native.Nat.{ℕ, ◌+◌, ◌≤◌, ◌<◌}
use native.Mathlib.Omega.{arith}
use native.Mathlib.Nat.{mod-lt, mod-le, div-le_self}
use mathlib.Core.Path.{◌≡◌}
use mathlib.Core.Bool.{false}
use borrow.Author.Tests.{leb-false}
use lib.IntN.{ℤ, pos, negsuc, nat_abs}
use Rattle.motion.specs.declared.Motion.{Motion}
use Rattle.motion.specs.Motion.{OneSided, size, of_signed, sum, reaches, quotient, remainder, packets_needed}

pub sum_size : (a b : Motion) → size (sum a b) ≤ size a + size b
sum_size a b = omega arith

pub signed_size : (z : ℤ) → size (of_signed z) ≡ nat_abs z
signed_size (pos n) = omega arith
signed_size (negsuc n) = omega arith

-- a motion below its threshold is shorter than it
pub below : (m : Motion) (threshold : ℕ) → reaches m threshold ≡ false → size m < threshold
unfolding reaches
below m threshold h = leb-false threshold (size m) h

-- what division leaves is less than the divisor
pub remainder_size : (m : Motion) (scale : ℕ) → 1 ≤ scale → OneSided m → size (remainder m scale) < scale
unfolding remainder
remainder_size m scale h one =
    omega (
      arith,
      mod-lt m.plus h,
      mod-lt m.minus h,
      mod-le m.plus scale,
      mod-le m.minus scale,
    )

pub quotient_size : (m : Motion) (scale : ℕ) → size (quotient m scale) ≤ size m
unfolding quotient
quotient_size m scale = omega (arith, div-le_self m.plus scale, div-le_self m.minus scale)

-- no more packets than steps
pub needed_size : (m : Motion) → packets_needed m ≤ size m
unfolding packets_needed
needed_size m = omega arith
