-- The table of parameter counts gives the count of every code that it reaches, and past it only 0x80 has a parameter: a test that is computed
-- over the codes that are left.
-- Assumes nothing.
use Prim.Native.Nat.{ℕ, zero, suc, ◌+◌, ◌<◌}
use native.Mathlib.Omega.{arith}
use native.Mathlib.Nat.{add-zero, zero-add, add-suc, suc-add}
use mathlib.Core.Path.{◌≡◌, refl, sym, ap, ◌∙◌}
use mathlib.Core.Bool.{Bool, cond}
use mathlib.Core.List.{List, [], ◌∷◌}
use lib.Dec.{eqb}
use lib.ListN.{get_or}
use borrow.Author.Tests.{eqb-true}
use Rattle.output.proofs.Computed.{passes, passes_at}
use Rattle.protocol.specs.Codes.{table, find, line, parameters_of}

-- the counts of n codes from i on, as the definition has them
unfoldable pub counts_from : ℕ → ℕ → List ℕ
counts_from i zero = []
counts_from i (suc n) = parameters_of i ∷ counts_from (suc i) n

counts_at : (i n k : ℕ) → k < n → get_or (counts_from i n) k 0 ≡ parameters_of (i + k)
unfolding counts_from
counts_at i zero k h = absurd (omega arith)
counts_at i (suc n) zero h = ap parameters_of (sym (add-zero i))
counts_at i (suc n) (suc k) h = counts_at (suc i) n k (omega arith) ∙ ap parameters_of (suc-add i k ∙ sym (add-suc i k))

-- The rule of the table: where it is what these counts compute to, it has the count of each code.
pub in_table : (n code : ℕ) → code < n → get_or (counts_from 0 n) code 0 ≡ parameters_of code
in_table n code h = counts_at 0 n code h ∙ ap parameters_of (zero-add code)

-- past the table only 0x80 has a parameter
abbrev pub past_count : ℕ → ℕ
past_count code = cond (eqb code 0x80) 1 0

past_right : ℕ → Bool
past_right code = eqb (past_count code) (parameters_of code)

pub past_table : (code : ℕ) → 0x22 < code → code < 256 → past_count code ≡ parameters_of code
unfolding passes past_right table find line
past_table code low high = eqb-true (past_count code) (parameters_of code) (passes_at past_right 0x23 221 refl code low (omega arith))

-- the table of codes, opened, and the counts that it gives
unfoldable pub by_table : Unit {0}
unfolding table find line counts_from
by_table = tt
