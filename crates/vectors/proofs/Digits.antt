-- A number of up to five decimal digits.
-- Assumes nothing.
use Rattle.std.proofs.Common.{ℕ, zero, suc, ◌+◌, ◌*◌, ◌^◌, ◌<◌, arith}

-- one digit more
pub one_more : (i v d : ℕ) → i < 5 → v < 10 ^ i → d < 10 → (10 * v + d < 10 ^ (i + 1)) × (10 * v + d < 100000)
one_more zero v d few below small = (omega arith, omega arith)
one_more (suc zero) v d few below small = (omega arith, omega arith)
one_more (suc (suc zero)) v d few below small = (omega arith, omega arith)
one_more (suc (suc (suc zero))) v d few below small = (omega arith, omega arith)
one_more (suc (suc (suc (suc zero)))) v d few below small = (omega arith, omega arith)
one_more (suc (suc (suc (suc (suc i))))) v d few below small = absurd (omega arith)
