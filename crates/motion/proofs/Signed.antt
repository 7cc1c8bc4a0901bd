-- A signed number of 16 bits as a motion: what the machine reads back of its bits is the number, and -1 less a negative one fits.
-- Assumes nothing.
use Prim.Native.Nat.{ℕ, ◌+◌, ◌≤◌, ◌<◌}
use native.Mathlib.Omega.{arith}
use native.Mathlib.Numerals.{add-one}
use mathlib.Core.Path.{◌≡◌, refl}
use mathlib.Core.Bool.{true, false, true≢false}
use lib.Dec.{T}
use lib.IntN.{ℤ, pos, negsuc, nat_abs, ◌-ℤ◌}
use lib.Signed.{lt_z, non_neg}
use borrow.Author.Tests.{ltb-true}
use mir.Syntax.{w16}
use mir.Val.{SFits, Fits, to_z, of_z}
use mir.ValLaws.{to_z-of_z}
use Rattle.motion.specs.Motion.{of_signed}
use Rattle.motion.proofs.Difference.{itself, plain, negated, ◌⊕◌, equal}

-- how far a signed number of 16 bits is, at most
pub far : (z : ℤ) → SFits w16 z → nat_abs z ≤ 32768
far (pos k) h = omega (arith, h.sfits)
far (negsuc k) h = omega (arith, h.sfits)

-- what the machine reads back of a number's bits
abbrev pub read : ℤ → ℤ
read z = to_z w16 (of_z w16 z)

-- d, which is -1 less z, is a natural number below 2^15, and one more than it is how far z is below zero
pub record Below (z d : ℤ) : Type 0 where
  pub n : ℕ
  pub small : n < 32768
  pub is : d ≡ pos n
  pub back : read d ≡ pos n
  pub sides : of_signed z ≡ record { plus = 0; minus = n + 1 }

-- y, which is read back of z, is a natural number, and the motion of z
pub record Above (z y : ℤ) : Type 0 where
  pub natural : T (non_neg y)
  pub small : Fits w16 (nat_abs y)
  pub sides : of_signed z ≡ record { plus = nat_abs y; minus = 0 }

below_as : (z y : ℤ) → y ≡ z → SFits w16 z → lt_z y (pos 0) ≡ true → Below z (negsuc 0 -ℤ y)
below_as (pos k) y e h t = absurd (omega (arith, ltb-true k 0 (rw e at t)))
below_as (negsuc k) y e h t =
    let i : negsuc 0 -ℤ y ≡ pos k = rw e (equal (itself (negsuc 0) ⊕ negated (itself (negsuc k))) (plain k) (omega arith)) in
    record {
      n = k;
      small = h.sfits;
      is = i;
      back = rw i (to_z-of_z w16 (pos k) (record { sfits = h.sfits }));
      sides = rw (add-one k) refl;
    }

above_as : (z y : ℤ) → y ≡ z → SFits w16 z → lt_z y (pos 0) ≡ false → Above z y
above_as (pos k) y e h t = let f = h.sfits in rw e (record { natural = tt; small = record { fits = omega arith }; sides = refl })
above_as (negsuc k) y e h t = absurd (true≢false (rw e at t))

-- a negative number, and any other
pub below : (z : ℤ) → SFits w16 z → lt_z (read z) (pos 0) ≡ true → Below z (negsuc 0 -ℤ read z)
below z h = below_as z (read z) (to_z-of_z w16 z h) h

pub above : (z : ℤ) → SFits w16 z → lt_z (read z) (pos 0) ≡ false → Above z (read z)
above z h = above_as z (read z) (to_z-of_z w16 z h) h
