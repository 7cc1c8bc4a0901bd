-- Long moves (document 02, A6), computed.
-- Assumes nothing.
use mathlib.Core.Path.{◌≡◌, refl}
use mathlib.Core.List.{[], ◌∷◌}
use lib.IntN.{pos, neg_ℤ}
use Rattle.motion.specs.Motion.{of_signed, part, packets_needed}
use Rattle.motion.specs.LongMoves.{parts_from}

-- "rounded down" is toward minus infinity
pub minus_3_in_two : parts_from 2 2 0 (neg_ℤ (pos 3)) ≡ neg_ℤ (pos 2) ∷ neg_ℤ (pos 1) ∷ []
unfolding part
minus_3_in_two = refl

pub three_in_five : parts_from 5 5 0 (pos 3) ≡ pos 0 ∷ pos 1 ∷ pos 0 ∷ pos 1 ∷ pos 1 ∷ []
unfolding part
three_in_five = refl

pub minus_3_in_five : parts_from 5 5 0 (neg_ℤ (pos 3)) ≡ neg_ℤ (pos 1) ∷ neg_ℤ (pos 1) ∷ pos 0 ∷ neg_ℤ (pos 1) ∷ pos 0 ∷ []
unfolding part
minus_3_in_five = refl

-- the fewest packets: 256 takes three, and -256 two
pub packets_of_256 : (packets_needed (of_signed (pos 256)) ≡ 3) × (packets_needed (of_signed (neg_ℤ (pos 256))) ≡ 2)
unfolding packets_needed
packets_of_256 = (refl, refl)

pub evenly_in_three : parts_from 3 3 0 (pos 256) ≡ pos 85 ∷ pos 85 ∷ pos 86 ∷ []
unfolding part
evenly_in_three = refl
