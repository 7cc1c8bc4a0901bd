-- What the definitions of motion mean as integers: sum, negation, absolute value, division toward zero and its remainder, thresholds, coordinates.
-- Assumes nothing.
use Prim.Native.Nat.{ℕ, suc, ◌+◌, ◌/◌, ◌%◌, ◌≤◌, ◌<◌}
use native.Mathlib.Omega.{arith}
use native.Mathlib.Nat.{zero-div, zero-mod, mod-le, div-le_self}
use mathlib.Core.Path.{◌≡◌, ap}
use mathlib.Core.Bool.{true, false}
use borrow.Author.Tests.{le-leb, lt-leb}
use lib.IntN.{ℤ, pos, negsuc, neg_ℤ, nat_abs, ◌+ℤ◌}
use lib.Signed.{◌≤ℤ◌, quot_z, rem_z}
use Rattle.motion.specs.declared.Motion.{Motion}
use Rattle.motion.specs.Motion.{value, OneSided, size, of_signed, sum, opposite, reaches, quotient, remainder, coordinate_after}
use Rattle.motion.proofs.Difference.{Differs, above, below, itself, plain, negated, less, also, ◌⊕◌, equal, at_most_back, one_part, absolute}

-- a motion stands for its one side less the other
pub stands : (m : Motion) → Differs (value m) m.plus m.minus
stands m = less m.plus m.minus

-- the motion of a signed number stands for that number
pub value_of_signed : (z : ℤ) → value (of_signed z) ≡ z
value_of_signed (pos n) = equal (stands (of_signed (pos n))) (plain n) (omega arith)
value_of_signed (negsuc n) = equal (stands (of_signed (negsuc n))) (itself (negsuc n)) (omega arith)

-- a sum of motions stands for the sum
pub value_sum : (a b : Motion) → value (sum a b) ≡ value a +ℤ value b
value_sum a b = equal (stands (sum a b)) (stands a ⊕ stands b) (omega arith)

-- the opposite motion stands for the negation
pub value_opposite : (m : Motion) → value (opposite m) ≡ neg_ℤ (value m)
value_opposite m = equal (stands (opposite m)) (negated (stands m)) (omega arith)

-- the sides of a motion are the parts of its integer
pub sides : (m : Motion) → OneSided m → (above (value m) ≡ m.plus) × (below (value m) ≡ m.minus)
sides m o = omega (arith, (stands m).by, one_part (value m))

-- the size of a motion is the absolute value
pub value_size : (m : Motion) → OneSided m → size m ≡ nat_abs (value m)
value_size m o = omega (arith, sides m o, absolute (value m))

-- division of an integer toward zero divides both its parts
quotient_parts : (z : ℤ) (d : ℕ) → Differs (quot_z z (pos d)) (above z / d) (below z / d)
quotient_parts (pos n) d = also (plain (n / d)) (omega (arith, zero-div d))
quotient_parts (negsuc n) d = also (negated (plain (suc n / d))) (omega (arith, zero-div d))

remainder_parts : (z : ℤ) (d : ℕ) → Differs (rem_z z (pos d)) (above z % d) (below z % d)
remainder_parts (pos n) d = also (plain (n % d)) (omega (arith, zero-mod d))
remainder_parts (negsuc n) d = also (negated (plain (suc n % d))) (omega (arith, zero-mod d))

-- the quotient is the integer's, toward zero
pub value_quotient : (m : Motion) (scale : ℕ) → OneSided m → value (quotient m scale) ≡ quot_z (value m) (pos scale)
unfolding quotient
value_quotient m scale o =
    let p = sides m o in
    let e = ap (λ (n : ℕ). n / scale) p.0 in
    let f = ap (λ (n : ℕ). n / scale) p.1 in
    equal (stands (quotient m scale)) (quotient_parts (value m) scale) (omega arith)

-- the remainder is the integer's, with its sign
pub value_remainder : (m : Motion) (scale : ℕ) → OneSided m → value (remainder m scale) ≡ rem_z (value m) (pos scale)
unfolding remainder
value_remainder m scale o =
    let p = sides m o in
    let e = ap (λ (n : ℕ). n % scale) p.0 in
    let f = ap (λ (n : ℕ). n % scale) p.1 in
    equal (stands (remainder m scale)) (remainder_parts (value m) scale) (omega arith)

-- One side is 0 in everything that is made of motion: in the motion of a signed number,
pub one_sided_of_signed : (z : ℤ) → OneSided (of_signed z)
one_sided_of_signed (pos n) = omega arith
one_sided_of_signed (negsuc n) = omega arith

-- in a sum, whatever is added,
pub one_sided_sum : (a b : Motion) → OneSided (sum a b)
one_sided_sum a b = omega arith

-- in an opposite,
pub one_sided_opposite : (m : Motion) → OneSided m → OneSided (opposite m)
one_sided_opposite m o = omega arith

-- in a quotient,
pub one_sided_quotient : (m : Motion) (scale : ℕ) → OneSided m → OneSided (quotient m scale)
unfolding quotient
one_sided_quotient m scale o = omega (arith, div-le_self m.plus scale, div-le_self m.minus scale)

-- and in a remainder.
pub one_sided_remainder : (m : Motion) (scale : ℕ) → OneSided m → OneSided (remainder m scale)
unfolding remainder
one_sided_remainder m scale o = omega (arith, mod-le m.plus scale, mod-le m.minus scale)

-- a motion as far as the threshold reaches it
pub reaches_true : (m : Motion) (threshold : ℕ) → threshold ≤ size m → reaches m threshold ≡ true
unfolding reaches
reaches_true m threshold h = le-leb _ (size m) (omega arith)

-- and a shorter one does not
pub reaches_false : (m : Motion) (threshold : ℕ) → size m < threshold → reaches m threshold ≡ false
unfolding reaches
reaches_false m threshold h = lt-leb _ (size m) (omega arith)

-- a coordinate never passes the maximum
pub coordinate_within : (maximum c : ℕ) (q : Motion) → coordinate_after maximum c q ≤ maximum
unfolding coordinate_after
coordinate_within maximum c q = omega arith

module _ (maximum c : ℕ) (q : Motion) where
  -- the coordinate and its motion, as an integer
  goal : Differs (pos c +ℤ value q) (c + q.plus) (0 + q.minus)
  goal = plain c ⊕ stands q

  -- between 0 and the maximum a coordinate moves by the motion
  pub coordinate_sum : pos 0 ≤ℤ (pos c +ℤ value q) → (pos c +ℤ value q) ≤ℤ pos maximum → pos (coordinate_after maximum c q) ≡ pos c +ℤ value q
  unfolding coordinate_after
  coordinate_sum low high =
      let a = at_most_back (plain 0) goal low in
      let b = at_most_back goal (plain maximum) high in
      equal (plain (coordinate_after maximum c q)) goal (omega arith)

  -- below 0 it stops at 0
  pub coordinate_low : (pos c +ℤ value q) ≤ℤ pos 0 → coordinate_after maximum c q ≡ 0
  unfolding coordinate_after
  coordinate_low low = let a = at_most_back goal (plain 0) low in omega arith

  -- beyond the maximum it stops there
  pub coordinate_high : pos maximum ≤ℤ (pos c +ℤ value q) → coordinate_after maximum c q ≡ maximum
  unfolding coordinate_after
  coordinate_high high = let a = at_most_back (plain maximum) goal high in omega arith
