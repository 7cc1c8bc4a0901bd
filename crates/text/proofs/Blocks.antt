-- Laws of numbers in decimal that are written a few digits at once.
-- Assumes nothing.
use Prim.Native.Nat.{ℕ, ◌+◌, ◌-◌, ◌*◌, ◌/◌, ◌%◌, ◌≤◌, ◌<◌}
use native.Mathlib.Nat.{div-div-eq-div-mul}
use native.Mathlib.Omega.{arith}
use mathlib.Core.Path.{◌≡◌, refl, sym, ap, ◌∙◌}
use mathlib.Core.List.{List, [], ◌∷◌, ◌++◌, append_assoc}
use lib.ListN.{length, take, drop, set, length-append}
use lib.Seq.{sets}
use Rattle.output.specs.Writing.{over, Wrote}
use Rattle.output.proofs.Writing.{over_more, both}
use Rattle.text.specs.Output.{figure, decimal, four_figures}
use Rattle.text.proofs.Counting.{one_figure, decimal_ten}

-- ---- the digits

one_is : (n : ℕ) → n < 10 → decimal n ≡ figure n ∷ []
one_is n h = one_figure n n h

two_is : (n : ℕ) → 10 ≤ n → n < 100 → decimal n ≡ figure (n / 10) ∷ figure (n % 10) ∷ []
two_is n g h = decimal_ten n g ∙ ap (λ (d : List ℕ). d ++ (figure (n % 10) ∷ [])) (one_is (n / 10) (omega arith))

three_is : (n : ℕ) → 100 ≤ n → n < 1000 → decimal n ≡ figure (n / 100) ∷ figure (n / 10 % 10) ∷ figure (n % 10) ∷ []
three_is n g h =
    decimal_ten n (omega arith)
    ∙ ap (λ (d : List ℕ). d ++ (figure (n % 10) ∷ [])) (two_is (n / 10) (omega arith) (omega arith))
    ∙ ap (λ (q : ℕ). figure q ∷ figure (n / 10 % 10) ∷ figure (n % 10) ∷ []) (div-div-eq-div-mul n 10 10)

four_is : (n : ℕ) → 1000 ≤ n → n < 10000 → decimal n ≡ four_figures n
four_is n g h =
    decimal_ten n (omega arith)
    ∙ ap (λ (d : List ℕ). d ++ (figure (n % 10) ∷ [])) (three_is (n / 10) (omega arith) (omega arith))
    ∙ (λ i. figure (div-div-eq-div-mul n 10 100 i) ∷ figure (div-div-eq-div-mul n 10 10 i % 10) ∷ figure (n / 10 % 10) ∷ figure (n % 10) ∷ [])

joined : (l : List ℕ) (x y z w : ℕ) → (((l ++ (x ∷ [])) ++ (y ∷ [])) ++ (z ∷ [])) ++ (w ∷ []) ≡ l ++ (x ∷ y ∷ z ∷ w ∷ [])
joined l x y z w = simp append_assoc

-- a number of five digits or more ends in four
pub block_is : (n m : ℕ) → 10000 ≤ n → m ≡ n % 10000 → decimal n ≡ decimal (n / 10000) ++ four_figures m
block_is n m h e =
    let a = n / 10 in
    let b = a / 10 in
    let c = b / 10 in
    let q : c / 10 ≡ n / 10000 = omega arith in
    let d1 : c % 10 ≡ m / 1000 = omega arith in
    let d2 : b % 10 ≡ m / 100 % 10 = omega arith in
    let d3 : a % 10 ≡ m / 10 % 10 = omega arith in
    let d4 : n % 10 ≡ m % 10 = omega arith in
    decimal_ten n (omega arith)
    ∙ ap (λ (l : List ℕ). l ++ (figure (n % 10) ∷ [])) (decimal_ten a (omega arith))
    ∙ ap (λ (l : List ℕ). (l ++ (figure (a % 10) ∷ [])) ++ (figure (n % 10) ∷ [])) (decimal_ten b (omega arith))
    ∙ ap (λ (l : List ℕ). ((l ++ (figure (b % 10) ∷ [])) ++ (figure (a % 10) ∷ [])) ++ (figure (n % 10) ∷ [])) (decimal_ten c (omega arith))
    ∙ joined (decimal (c / 10)) (figure (c % 10)) (figure (b % 10)) (figure (a % 10)) (figure (n % 10))
    ∙ (λ i. decimal (q i) ++ (figure (d1 i) ∷ figure (d2 i) ∷ figure (d3 i) ∷ figure (d4 i) ∷ []))

-- ---- stored from the front of a buffer

stored : (vs l : List ℕ) → length vs ≤ length l → sets l 0 vs ≡ over vs l
unfolding over
stored vs l h = over_more vs [] l (omega arith)

pub four_wrote : (n : ℕ) (l : List ℕ) → n < 10000 → 4 ≤ length l
    → Wrote (four_figures n) 4 l (set (set (set (set l 0 (figure (n / 1000))) 1 (figure (n / 100 - n / 1000 * 10))) 2 (figure (n / 10 - n / 100 * 10))) 3 (figure (n - n / 10 * 10)))
four_wrote n l g h =
    let d2 : n / 100 - n / 1000 * 10 ≡ n / 100 % 10 = omega arith in
    let d3 : n / 10 - n / 100 * 10 ≡ n / 10 % 10 = omega arith in
    let d4 : n - n / 10 * 10 ≡ n % 10 = omega arith in
    record { count = refl; buffer = rw (d2, d3, d4) (stored (four_figures n) l h) }

pub one_wrote : (n : ℕ) (l : List ℕ) → n < 10 → 1 ≤ length l → Wrote (decimal n) 1 l (set l 0 (figure n))
one_wrote n l g h = rw (one_is n g) (record { count = refl; buffer = stored (figure n ∷ []) l h })

pub two_wrote : (n : ℕ) (l : List ℕ) → 10 ≤ n → n < 100 → 2 ≤ length l → Wrote (decimal n) 2 l (set (set l 0 (figure (n / 10))) 1 (figure (n - n / 10 * 10)))
two_wrote n l f g h =
    let d2 : n - n / 10 * 10 ≡ n % 10 = omega arith in
    rw (two_is n f g, d2) (record { count = refl; buffer = stored (figure (n / 10) ∷ figure (n % 10) ∷ []) l h })

pub three_wrote : (n r : ℕ) (l X : List ℕ) → 100 ≤ n → n < 1000 → Wrote (figure (n / 100) ∷ figure (n / 10 - n / 100 * 10) ∷ figure (n - n / 10 * 10) ∷ []) r l X → Wrote (decimal n) r l X
three_wrote n r l X f g w =
    let d2 : n / 10 - n / 100 * 10 ≡ n / 10 % 10 = omega arith in
    let d3 : n - n / 10 * 10 ≡ n % 10 = omega arith in
    rw (three_is n f g, ← d2, ← d3) w

pub four_more : (n r : ℕ) (l X : List ℕ) → 1000 ≤ n → n < 10000 → Wrote (four_figures n) r l X → Wrote (decimal n) r l X
four_more n r l X f g w = rw (four_is n f g) w

pub block_length : (n : ℕ) → 10000 ≤ n → length (decimal n) ≡ length (decimal (n / 10000)) + 4
block_length n h = ap length (block_is n (n % 10000) h refl) ∙ length-append (decimal (n / 10000)) (four_figures (n % 10000))

-- what two stages leave in a buffer
pub block_over : (n : ℕ) (l : List ℕ) → 10000 ≤ n →
    let a = decimal (n / 10000) in
    let b = four_figures (n - n / 10000 * 10000) in
    let x = over a l in
    over (decimal n) l ≡ take (length a) x ++ (over b (take (length x - length a) (drop (length a) x)) ++ drop (length x - length a) (drop (length a) x))
block_over n l h =
    let a = decimal (n / 10000) in
    let b = four_figures (n - n / 10000 * 10000) in
    let x = over a l in
    let y = take (length x - length a) (drop (length a) x) in
    let first : Wrote a (length a) l x = record { count = refl; buffer = refl } in
    let second : Wrote b (length b) y (over b y) = record { count = refl; buffer = refl } in
    ap (λ (d : List ℕ). over d l) (block_is n (n - n / 10000 * 10000) h (omega arith)) ∙ sym (both first second).buffer

-- ---- a number of nine digits or more ends in eight

long_is : (n : ℕ) → 100000000 ≤ n → decimal n ≡ (decimal (n / 100000000) ++ four_figures (n % 100000000 / 10000)) ++ four_figures (n % 100000000 % 10000)
long_is n h =
    let low : n % 100000000 % 10000 ≡ n % 10000 = omega arith in
    let middle : n % 100000000 / 10000 ≡ n / 10000 % 10000 = omega arith in
    let high : n / 10000 / 10000 ≡ n / 100000000 = omega arith in
    block_is n (n % 100000000 % 10000) (omega arith) low
    ∙ ap (λ (l : List ℕ). l ++ four_figures (n % 100000000 % 10000)) (block_is (n / 10000) (n % 100000000 / 10000) (omega arith) middle)
    ∙ ap (λ (q : ℕ). (decimal q ++ four_figures (n % 100000000 / 10000)) ++ four_figures (n % 100000000 % 10000)) high

pub long_length : (n : ℕ) → 100000000 ≤ n → length (decimal n) ≡ length (decimal (n / 100000000)) + 8
long_length n h =
    let a = decimal (n / 100000000) ++ four_figures (n % 100000000 / 10000) in
    ap length (long_is n h)
    ∙ length-append a (four_figures (n % 100000000 % 10000))
    ∙ omega (arith, length-append (decimal (n / 100000000)) (four_figures (n % 100000000 / 10000)))
