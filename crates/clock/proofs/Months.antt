-- The length of a month by the code's rule, and of what is no month.
-- Assumes nothing.
use Prim.Native.Nat.{ℕ, ◌+◌, ◌/◌, ◌%◌, ◌≤◌, ◌<◌}
use native.Mathlib.Omega.{arith}
use mathlib.Core.Path.{◌≡◌, refl}
use mathlib.Core.Bool.{Bool, ◌||◌}
use lib.Dec.{eqb}
use borrow.Author.Tests.{ne_eqb, eqb-true}
use Rattle.output.proofs.Computed.{passes, passes_at}
use Rattle.clock.specs.Clock.{month_length}

-- the rule, for every month but February: there the year does not matter
abbrev pub rule : ℕ → ℕ
rule month = 30 + (month + month / 8) % 2

right : ℕ → Bool
right month = eqb month 2 || eqb (month_length 1 month) (rule month)

-- each month computed
pub by_rule : (year month : ℕ) → 1 ≤ month → month ≤ 12 → (month ≡ 2 → ⊥) → month_length year month ≡ rule month
unfolding passes right month_length
by_rule year month first last other =
    let february = ne_eqb month 2 other in
    simp february (eqb-true _ _ (simp february at (passes_at right 1 12 refl month first (omega arith))))

-- what is no month has 31 days
pub before_january : (year month : ℕ) → month < 1 → month_length year month ≡ 31
unfolding month_length
before_january year month low = let e : month ≡ 0 = omega arith in simp e

pub after_december : (year month : ℕ) → 12 < month → month_length year month ≡ 31
unfolding month_length
after_december year month high =
    simp (
      ne_eqb month 2 (omega arith),
      ne_eqb month 4 (omega arith),
      ne_eqb month 6 (omega arith),
      ne_eqb month 9 (omega arith),
      ne_eqb month 11 (omega arith),
    )
