-- What it means that all fields fit: an inequality or two for each field. And a list of 55 numbers is the list of its fields.
-- Assumes nothing.
use Prim.Native.Nat.{ℕ, zero, suc, ◌+◌, ◌≤◌, ◌<◌}
use native.Mathlib.Omega.{arith}
use mathlib.Core.Path.{◌≡◌, refl, sym, ap, ◌∙◌, subst}
use mathlib.Core.Bool.{Bool, true, false, ◌&&◌}
use mathlib.Core.List.{List, [], ◌∷◌}
use lib.Dec.{eqb, leb}
use lib.ListN.{get_or, length, drop, drop_of_length-le}
use lib.Seq.{drop-cons}
use borrow.Author.Tests.{leb-true, le-leb, eqb-true, eqb-false}
use Rattle.output.proofs.Cases.{and_true}
use Rattle.fields.specs.Ranges.{low, high, gap_free, fits, fit_from, all_fit}

-- field i + 1 is in its range
pub record Fits (i : ℕ) (a : List ℕ) (x : ℕ) : Type 0 where
  pub from_low : low i a ≤ x
  pub to_high : x ≤ high i a
  pub free : gap_free i x ≡ true

pub told : (i : ℕ) (a : List ℕ) (x : ℕ) → fits i a x ≡ true → Fits i a x
unfolding fits
told i a x f =
    let g = and_true (leb (low i a) x) (leb x (high i a) && gap_free i x) f in
    let u = and_true (leb x (high i a)) (gap_free i x) g.1 in
    record { from_low = leb-true (low i a) x g.0; to_high = leb-true x (high i a) u.0; free = u.1 }

pub tells : (i : ℕ) (a : List ℕ) (x : ℕ) → Fits i a x → fits i a x ≡ true
unfolding fits
tells i a x f = rw (le-leb (low i a) x f.from_low, le-leb x (high i a) f.to_high, f.free)

-- the next n fields from i + 1 on
abbrev pub AllFits : ℕ → ℕ → List ℕ → Type 0
AllFits zero i a = Unit {0}
AllFits (suc n) i a = Fits i a (get_or a i 0) × AllFits n (suc i) a

pub gathered : (n i : ℕ) (a : List ℕ) → AllFits n i a → fit_from n i a ≡ true
unfolding fit_from
gathered zero i a f = refl
gathered (suc n) i a f = rw (tells i a (get_or a i 0) f.0, gathered n (suc i) a f.1)

-- a number from i on is i, or is from i + 1 on
pub first_or_later : (P : ℕ → Type 0) (i k : ℕ) → i ≤ k → P i → (suc i ≤ k → P k) → P k
first_or_later P i k low p later = go (eqb k i) refl
  where
    go : (t : Bool) → eqb k i ≡ t → P k
    go true e = subst P (sym (eqb-true k i e)) p
    go false e = let other = eqb-false k i e in later (omega arith)

fit_at : (n i : ℕ) (a : List ℕ) → fit_from n i a ≡ true → (k : ℕ) → i ≤ k → k < i + n → Fits k a (get_or a k 0)
unfolding fit_from
fit_at zero i a h k low high = absurd (omega arith)
fit_at (suc n) i a h k low high =
    let both = and_true (fits i a (get_or a i 0)) (fit_from n (suc i) a) h in
    first_or_later (λ (j : ℕ). Fits j a (get_or a j 0)) i k low (told i a (get_or a i 0) both.0) (λ l. fit_at n (suc i) a both.1 k l (omega arith))

-- where all fit, each does
pub fit : (a : List ℕ) → all_fit a ≡ true → (k : ℕ) → k < 55 → Fits k a (get_or a k 0)
fit a h k l = fit_at 55 0 a h k (omega arith) (omega arith)

-- the n numbers of a list from i on, one by one
abbrev pub listed : ℕ → ℕ → List ℕ → List ℕ
listed zero i a = []
listed (suc n) i a = get_or a i 0 ∷ listed n (suc i) a

listed_rest : (n i : ℕ) (a : List ℕ) → length a ≡ i + n → listed n i a ≡ drop i a
listed_rest zero i a h = sym (drop_of_length-le a {i = i} (omega arith))
listed_rest (suc n) i a h = ap (λ (l : List ℕ). get_or a i 0 ∷ l) (listed_rest n (suc i) a (omega arith)) ∙ sym (drop-cons a i 0 (omega arith))

pub listed_all : (n : ℕ) (a : List ℕ) → length a ≡ n → listed n 0 a ≡ a
listed_all n a h = listed_rest n 0 a (omega arith)
