-- A rule of every number of a range by one computed test: `refl` finds that the test passes at each of them, and a law gives it
-- at any one. For every crate's proofs.
-- Assumes nothing.
use Prim.Native.Nat.{ℕ, zero, suc, ◌+◌, ◌≤◌, ◌<◌}
use native.Mathlib.Omega.{arith}
use mathlib.Core.Path.{◌≡◌, refl, sym, subst}
use mathlib.Core.Bool.{Bool, true, false, ◌&&◌}
use lib.Dec.{eqb}
use borrow.Author.Tests.{eqb-true, eqb-false}
use Rattle.output.proofs.Cases.{and_true}

-- A number from i on is i, or is from i + 1 on: the step of each induction over a range that starts at i.
pub first_or_later : (P : ℕ → Type 0) (i k : ℕ) → i ≤ k → P i → (suc i ≤ k → P k) → P k
first_or_later P i k low p later = go (eqb k i) refl
  where
    go : (t : Bool) → eqb k i ≡ t → P k
    go true e = subst P (sym (eqb-true k i e)) p
    go false e = let other = eqb-false k i e in later (omega arith)

-- The test passes at each of n numbers from i on: it computes where i and n are known, under `unfolding passes` and what the test needs.
unfoldable pub passes : (ℕ → Bool) → ℕ → ℕ → Bool
passes test i zero = true
passes test i (suc n) = test i && passes test (suc i) n

-- Then it passes at any of them, for a number of which only the range is known: `passes_at test i n refl k low high`.
pub passes_at : (test : ℕ → Bool) (i n : ℕ) → passes test i n ≡ true → (k : ℕ) → i ≤ k → k < i + n → test k ≡ true
unfolding passes
passes_at test i zero h k low high = absurd (omega arith)
passes_at test i (suc n) h k low high =
    first_or_later (λ (j : ℕ). test j ≡ true) i k low (and_true (test i) (passes test (suc i) n) h).0
    (λ l. passes_at test (suc i) n (and_true (test i) (passes test (suc i) n) h).1 k l (omega arith))

-- n numbers from i on come to one value: each `refl`, where the function computes
abbrev pub Alike : {A : Type 0} → (ℕ → A) → A → ℕ → ℕ → Type 0
Alike f x i zero = Unit {0}
Alike f x i (suc n) = (x ≡ f i) × Alike f x (suc i) n

-- Then so does any one of them: for a function whose values cannot be tested by a Bool.
pub all_alike : {A : Type 0} (f : ℕ → A) (x : A) (i n : ℕ) → Alike f x i n → (k : ℕ) → i ≤ k → k < i + n → x ≡ f k
all_alike f x i zero h k low high = absurd (omega arith)
all_alike f x i (suc n) h k low high =
    first_or_later (λ (j : ℕ). x ≡ f j) i k low h.0 (λ l. all_alike f x (suc i) n h.1 k l (omega arith))
