-- Laws of numbers in decimal: how many digits there are.
-- Assumes nothing.
use Prim.Native.Char.{code}
use Prim.Native.Nat.{ℕ, zero, suc, ◌+◌, ◌-◌, ◌*◌, ◌/◌, ◌%◌, ◌^◌, ◌≤◌, ◌<◌}
use native.Mathlib.Nat.{pow-succ', one-le-pow, pow-le-pow_right}
use native.Mathlib.Decide.{dec_lt}
use native.Mathlib.Omega.{arith}
use mathlib.Core.Path.{◌≡◌, refl, sym, ap, ◌∙◌}
use mathlib.Core.List.{List, [], ◌∷◌, ◌++◌}
use lib.ListN.{length, length-append}
use borrow.Author.Tests.{lt-ltb, le-ltb}
use Rattle.text.specs.Line.{value}
use Rattle.text.specs.Output.{figure, decimal_in, decimal}

-- ---- one digit, or the digits of the tenth and one more

pub one_figure : (k n : ℕ) → n < 10 → decimal_in (suc k) n ≡ figure n ∷ []
unfolding decimal_in
one_figure k n h = rw (lt-ltb n 10 h) refl

more_figures : (k n : ℕ) → 10 ≤ n → decimal_in (suc k) n ≡ decimal_in k (n / 10) ++ (figure (n % 10) ∷ [])
unfolding decimal_in
more_figures k n h = rw (le-ltb n 10 h) refl

-- ---- what bounds the digits does not matter, where it is enough

tenth : (k n : ℕ) → n < 10 ^ suc k → n / 10 < 10 ^ k
tenth k n h = let p = pow-succ' 10 k in omega arith

agree : (j k n : ℕ) → n < 10 ^ suc j → n < 10 ^ suc k → decimal_in (suc j) n ≡ decimal_in (suc k) n
agree zero k n g h = one_figure zero n (omega arith) ∙ sym (one_figure k n (omega arith))
agree (suc j) zero n g h = one_figure (suc j) n (omega arith) ∙ sym (one_figure zero n (omega arith))
agree (suc j) (suc k) n g h =
    elim (dec_lt n 10) [
      | yes l ↦ one_figure (suc j) n l ∙ sym (one_figure (suc k) n l)
      | no l ↦
          more_figures (suc j) n (omega arith)
          ∙ ap (λ (d : List ℕ). d ++ (figure (n % 10) ∷ [])) (agree j k (n / 10) (tenth (suc j) n g) (tenth (suc k) n h))
          ∙ sym (more_figures (suc k) n (omega arith))
    ]

below_power : (n : ℕ) → n < 10 ^ suc n
below_power zero = omega arith
below_power (suc n) =
    let h = below_power n in
    let p = pow-succ' 10 (suc n) in
    omega arith

pub decimal_is : (k n : ℕ) → n < 10 ^ suc k → decimal n ≡ decimal_in (suc k) n
decimal_is k n h = agree n k n (below_power n) h

-- the digits of the tenth, and one more
pub decimal_ten : (n : ℕ) → 10 ≤ n → decimal n ≡ decimal (n / 10) ++ (figure (n % 10) ∷ [])
decimal_ten zero h = absurd (omega arith)
decimal_ten (suc m) h =
    let t = suc m / 10 in
    let p : 10 ^ suc t ≤ 10 ^ suc m = pow-le-pow_right {n = 10} (omega arith) {i = suc t} {j = suc m} (omega arith) in
    let b = below_power t in
    more_figures (suc m) (suc m) h ∙ ap (λ (d : List ℕ). d ++ (figure (suc m % 10) ∷ [])) (agree m t t (omega arith) b)

-- ---- how many digits

in_length : (k n : ℕ) → 10 ^ k ≤ n → n < 10 ^ suc k → length (decimal_in (suc k) n) ≡ suc k
in_length zero n g h = ap length (one_figure zero n (omega arith))
in_length (suc k) n g h =
    let p = pow-succ' 10 k in
    let o = one-le-pow k 10 (omega arith) in
    let e = in_length k (n / 10) (omega arith) (tenth (suc k) n h) in
    ap length (more_figures (suc k) n (omega arith)) ∙ length-append (decimal_in (suc k) (n / 10)) (figure (n % 10) ∷ []) ∙ omega arith

in_most : (k n : ℕ) → length (decimal_in k n) ≤ k
unfolding decimal_in
in_most zero n = omega arith
in_most (suc k) n =
    elim (dec_lt n 10) [
      | yes l ↦ rw (one_figure k n l) (omega arith)
      | no l ↦ let h = in_most k (n / 10) in rw (more_figures k n (omega arith), length-append) (omega arith)
    ]

pub one_digit : (n : ℕ) → n < 10 → 1 ≡ length (decimal n)
one_digit n h = sym (ap length (one_figure n n h))

pub digits_are : (k n : ℕ) → 10 ^ k ≤ n → n < 10 ^ suc k → suc k ≡ length (decimal n)
digits_are k n g h = sym (ap length (decimal_is k n h) ∙ in_length k n g h)

-- a number of 64 bits has at most 20
pub decimal_most : (n : ℕ) → n < 2 ^ 64 → length (decimal n) ≤ 20
decimal_most n h = at 19 n (omega arith)
  where
    at : (k n : ℕ) → n < 10 ^ suc k → length (decimal n) ≤ suc k
    at k n h = rw (decimal_is k n h) (in_most (suc k) n)

-- ---- read as a number again, they are the number

value_more : (l : List ℕ) (v d : ℕ) → value v (l ++ (d ∷ [])) ≡ value v l * 10 + (d - code "0")
value_more [] v d = refl
value_more (b ∷ l) v d = value_more l (v * 10 + (b - code "0")) d

in_value : (k n : ℕ) → n < 10 ^ suc k → value 0 (decimal_in (suc k) n) ≡ n
in_value zero n h = ap (value 0) (one_figure zero n (omega arith)) ∙ omega arith
in_value (suc k) n h =
    elim (dec_lt n 10) [
      | yes l ↦ ap (value 0) (one_figure (suc k) n l) ∙ omega arith
      | no l ↦
          let e = in_value k (n / 10) (tenth (suc k) n h) in
          ap (value 0) (more_figures (suc k) n (omega arith))
          ∙ value_more (decimal_in (suc k) (n / 10)) 0 (figure (n % 10))
          ∙ omega arith
    ]

pub decimal_value : (n : ℕ) → value 0 (decimal n) ≡ n
decimal_value n = in_value n n (below_power n)
