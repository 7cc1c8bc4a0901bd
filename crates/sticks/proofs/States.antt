-- What makes a value a state of the joysticks, and what keeps it one: a stored stick, new counts, cleared and left modes.
-- Assumes nothing.
use Prim.Native.Nat.{ℕ, ◌+◌, ◌*◌, ◌^◌, ◌≤◌}
use native.Mathlib.Omega.{arith}
use native.Mathlib.Numerals.{add-one}
use native.Mathlib.Nat.{two-pow-succ, pow-le-pow_right}
use mathlib.Core.Path.{◌≡◌}
use mathlib.Core.Bool.{Bool, true, false}
use Rattle.protocol.specs.declared.StickMode.{StickMode}
use Rattle.protocol.specs.declared.StickMode.TheVariants.{Event, Interrogation, Monitoring, Fire, StickKeycode}
use Rattle.protocol.specs.Commands.{leave_monitoring}
use Rattle.sticks.specs.declared.Stick.{Stick}
use Rattle.sticks.specs.declared.Count.{Count}
use Rattle.sticks.specs.declared.Sticks.{Sticks}
use Rattle.sticks.specs.Sticks.{IsCount, IsSticks, OneSticks, most_position, at_power_up, stick_at}
use Rattle.sticks.specs.Events.{stored, with_counts}
use Rattle.sticks.specs.Commands.{cleared, monitoring_left}

-- the ranges, and the one way to write a state down
pub record GoodSticks (mode : StickMode) (s : Sticks) : Type 0 where
  pub ranges : IsSticks mode s
  pub spelling : OneSticks s

-- power-up is in range
pub power_is : IsSticks Event at_power_up
power_is = omega arith

-- power-up is written in the one way
pub power_one : OneSticks at_power_up
power_one = omega arith

-- a stored stick
pub stored_is : (mode : StickMode) (one : Bool) (new : Stick) (s : Sticks) → new.position ≤ most_position → GoodSticks mode s → GoodSticks mode (stored one new s)
stored_is mode true new s p h = omega arith
stored_is mode false new s p h = omega arith

-- each stick's position leaves bit 7 to the trigger
pub position_low : (mode : StickMode) (one : Bool) (s : Sticks) → IsSticks mode s → (stick_at one s).position ≤ 0x7F
position_low mode true s h = omega arith
position_low mode false s h = omega arith

-- new counts
pub counts_are : (mode : StickMode) (x y : Count) (s : Sticks) → IsCount x → IsCount y → GoodSticks mode s → GoodSticks mode (with_counts x y s)
counts_are mode x y s p q h = omega arith

-- cleared counts, ticks and samples fit every mode
pub cleared_is : (before after : StickMode) (s : Sticks) → GoodSticks before s → GoodSticks after (cleared s)
cleared_is before after s h = omega arith

-- after a monitoring mode is left, ticks and samples are 0, as the other modes have them
pub left_is : (mode : StickMode) (s : Sticks) → GoodSticks mode s → GoodSticks (leave_monitoring mode) (monitoring_left mode s)
unfolding monitoring_left
left_is Event s h = h
left_is Interrogation s h = h
left_is (Monitoring rate) s h = omega arith
left_is Fire s h = omega arith
left_is (StickKeycode x y) s h = h

-- one more binary digit
pub one_digit_more : (n : ℕ) → 2 ^ (n + 1) ≡ 2 * 2 ^ n
one_digit_more n = rw add-one (omega (arith, two-pow-succ n))

-- there are at most 7 samples, in every mode
pub samples_most : (mode : StickMode) (s : Sticks) → GoodSticks mode s → s.samples ≤ 7
samples_most Event s h = omega arith
samples_most Interrogation s h = omega arith
samples_most (Monitoring rate) s h = omega arith
samples_most Fire s h = omega arith
samples_most (StickKeycode x y) s h = omega arith

-- the samples so far and one more fit in a byte
pub sample_byte : (mode : StickMode) (b : ℕ) (s : Sticks) → b ≤ 1 → GoodSticks mode s → 2 * s.bits + b ≤ 255
sample_byte mode b s p h =
    let most : 2 ^ s.samples ≤ 2 ^ 7 = pow-le-pow_right (omega arith) (samples_most mode s h) in
    omega (arith, h.spelling)
