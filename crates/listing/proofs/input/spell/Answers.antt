use native.Mathlib.Omega.{arith}
use Rattle.listing.proofs.Reading.{pair_digits, spelt_end}
use Rattle.listing.proofs.input.spell.Goals as goal

pub overflow_mul-out : goal.overflow_mul-out
overflow_mul-out c = omega (arith, c.unwrap_or-high.ensures, c.hex_digit.ensures.value, (pair_digits c.loop-i.invariant (omega arith)).0)

pub overflow_add-out : goal.overflow_add-out
overflow_add-out c =
    let digits = pair_digits c.loop-i.invariant (omega arith) in
    omega (arith, c.unwrap_or-high.ensures, c.unwrap_or-low.ensures, c.hex_digit.ensures.value, c.hex_digit-in-loop-i.ensures.value, digits.0, digits.1)

pub returns : goal.returns
returns c = let l = c.loop-i in spelt_end l.invariant (omega (arith, l.invariant.within, c.loop-i-test.false)) (omega (arith, c.loop-i-test.false))
