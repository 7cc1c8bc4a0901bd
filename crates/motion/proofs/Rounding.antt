-- Division rounded down, for totals made natural: t is T less c times n. What the first k of n packets carry of T is T·k/n.
-- Assumes nothing.
use Prim.Native.Nat.{ℕ, suc, ◌+◌, ◌-◌, ◌*◌, ◌/◌, ◌%◌, ◌≤◌, ◌<◌}
use native.Mathlib.Omega.{arith}
use native.Mathlib.Nat.{mod-lt, mod-add-div', div-eq_of_lt-le, add-mul-div_right, lt_of_mul-lt-mul_left, div-mul-le_self, lt-div-mul-add, le-div_iff_mul-le, div-lt_iff_lt-mul, mul-le-mul_left}
use mathlib.Core.Path.{◌≡◌, ap, ◌∙◌}
use lib.IntN.{ℤ, pos, negsuc, ◌*ℤ◌}
use Rattle.motion.specs.Motion.{down, part}
use Rattle.motion.proofs.Difference.{Differs, above, below, itself, negated, also, times, ◌⊕◌}

-- s, which is a and b, divided: quotients and remainders add up, and where these reach n it is carried
pub record Divided (s a b n : ℕ) : Type 0 where
  pub no_more : a % n + b % n < n → (s / n ≡ a / n + b / n) × (s % n ≡ a % n + b % n)
  pub one_more : n ≤ a % n + b % n → (s / n ≡ a / n + b / n + 1) × (s % n ≡ (a % n + b % n) - n)

remainder_of : (a n q : ℕ) → a / n ≡ q → a % n ≡ a - q * n
remainder_of a n q e = let d = ap (λ (x : ℕ). x * n) e in omega (arith, mod-add-div' a n)

pub divided : (s a b n : ℕ) → s ≡ a + b → 0 < n → Divided s a b n
divided s a b n e p =
    let d = mod-add-div' a n in
    let f = mod-add-div' b n in
    let ra = mod-lt a p in
    let rb = mod-lt b p in
    record {
      no_more = λ h.
          let q : s / n ≡ a / n + b / n = div-eq_of_lt-le n (omega arith) (omega arith) in
          (q, omega (arith, remainder_of s n _ q));
      one_more = λ h.
          let q : s / n ≡ a / n + b / n + 1 = div-eq_of_lt-le n (omega arith) (omega arith) in
          (q, omega (arith, remainder_of s n _ q));
    }

-- each packet carries at least what n packets of that many do not pass,
pub at_least : (l T n k : ℕ) → 0 < n → l * n ≤ T → T * k / n + l ≤ T * (k + 1) / n
at_least l T n k p h = (le-div_iff_mul-le p).1 (omega (arith, div-mul-le_self (T * k) n))

-- and at most what n packets of that many reach
pub no_more_than : (u T n k : ℕ) → 0 < n → T ≤ u * n → T * (k + 1) / n ≤ T * k / n + u
no_more_than u T n k p h =
    let a : T * k < T * k / n * n + n = lt-div-mul-add p in
    let b : T * (k + 1) / n < T * k / n + u + 1 = (div-lt_iff_lt-mul p).1 (omega arith) in
    omega arith

-- a total that is c times n too large gives a quotient that is c too large
pub down_of : (c n : ℕ) {z : ℤ} {p : ℕ} → 0 < n → Differs z p (c * n) → Differs (down z n) (p / n) c
down_of c n {z = pos a} {p} h d =
    let e : p ≡ a + c * n = omega (arith, d.by) in
    let q = ap (λ (x : ℕ). x / n) e ∙ add-mul-div_right a c h in
    also (itself (down (pos a) n)) (omega arith)
down_of c n {z = negsuc a} {p} h d =
    let f = mod-add-div' a n in
    let r = mod-lt a h in
    let g = d.by in
    let more : a / n < c = lt_of_mul-lt-mul_left n (omega arith) in
    let j = c - suc (a / n) in
    let s : c ≡ j + suc (a / n) = omega arith in
    let t = ap (λ (x : ℕ). x * n) s in
    let q : p / n ≡ j = div-eq_of_lt-le n (omega arith) (omega arith) in
    also (itself (down (negsuc a) n)) (omega arith)

-- what the first k packets carry
pub carried : (c n k : ℕ) {t : ℤ} {T : ℕ} → 0 < n → Differs t T (c * n) → Differs (down (t *ℤ pos k) n) (T * k / n) (c * k)
carried c n k p h = down_of (c * k) n p (also (times k h) (omega arith))

-- and so the k-th
pub part_of : (c n k : ℕ) {t : ℤ} {T : ℕ} → 0 < n → Differs t T (c * n) → Differs (part n k t) (T * (k + 1) / n) (T * k / n + c)
unfolding part
part_of c n k p h = also (carried c n (k + 1) p h ⊕ negated (carried c n k p h)) (omega arith)

-- every total can be made natural
pub record Raised (n : ℕ) (t : ℤ) : Type 0 where
  pub c : ℕ
  pub T : ℕ
  pub is : Differs t T (c * n)

pub raise : (n : ℕ) (t : ℤ) → 0 < n → Raised n t
raise n t p =
    let h : below t * 1 ≤ below t * n = mul-le-mul_left (below t) p in
    record { c = below t; T = (above t + below t * n) - below t; is = also (itself t) (omega arith) }
