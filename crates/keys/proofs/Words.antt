-- Laws of the bits of a word: what a bit is once one is set or cleared, the machine's `|` and `&`, and the lowest bit that is set.
-- Assumes nothing.
use Prim.Native.Nat.{ℕ, zero, suc, ◌+◌, ◌-◌, ◌*◌, ◌/◌, ◌%◌, ◌^◌, ◌≤◌, ◌<◌, min, max}
use native.Mathlib.Omega.{arith}
use native.Mathlib.Nat.{pow-suc, one-mul, mod-eq_of_lt, eq-zero-or-pos}
use mathlib.Core.Path.{◌≡◌, refl, ap, ap₂, ◌∙◌}
use mathlib.Core.Bool.{Bool, true, false}
use mathlib.Core.List.{[], ◌∷◌}
use mathlib.Core.Logic.{◌⊎◌, inl, inr, ⊎_elim}
use lib.Dec.{eqb, lit<}
use lib.ListN.{length}
use lib.Pow.{pow_pos, pow-lt, shl_exact}
use lib.Bits.{bit_or, bit_and, or_step, or_zero_r, and_step, and_mask}
use lib.Count.{ones, ones_step, count_trailing_zeros}
use borrow.Author.Tests.{eqb-true, eqb-false, eq-eqb, ne_eqb}
use Rattle.output.specs.Packets.{bit}
use Rattle.keys.specs.Words.{has_bit, put, keys_in}

-- a word is its lowest bit and the half above it
half : (x w : ℕ) → (x * 2 + w % 2) / 2 ≡ x
half x w = omega arith

parity : (w : ℕ) → (w % 2 ≡ 0) ⊎ (w % 2 ≡ 1)
parity w = ⊎_elim (λ (e : w % 2 ≡ 0). inl e) (λ (p : 0 < w % 2). inr (let o : w % 2 ≡ 1 = omega arith in o)) (eq-zero-or-pos (w % 2))

odd_is : (w : ℕ) (on : Bool) → eqb (w % 2) 1 ≡ on → w % 2 ≡ bit on
odd_is w true e = eqb-true (w % 2) 1 e
odd_is w false e = let n = eqb-false (w % 2) 1 e in omega arith

is_odd : (x : ℕ) (on : Bool) → eqb ((x * 2 + bit on) % 2) 1 ≡ on
is_odd x true = eq-eqb ((x * 2 + 1) % 2) 1 (omega arith)
is_odd x false = ne_eqb ((x * 2 + 0) % 2) 1 (λ (e : (x * 2 + 0) % 2 ≡ 1). omega arith)

half_bit : (x : ℕ) (on : Bool) → (x * 2 + bit on) / 2 ≡ x
half_bit x true = omega arith
half_bit x false = omega arith

-- ---- one bit set or cleared

-- it is as it was put
pub has_put : (b : ℕ) (on : Bool) (w : ℕ) → has_bit b (put b on w) ≡ on
unfolding has_bit put
has_put zero on w = is_odd (w / 2) on
has_put (suc b) on w = ap (has_bit b) (half (put b on (w / 2)) w) ∙ has_put b on (w / 2)

-- the others stay
pub has_other : (j b : ℕ) (on : Bool) (w : ℕ) → (j ≡ b → ⊥) → has_bit j (put b on w) ≡ has_bit j w
unfolding has_bit put
has_other zero zero on w n = absurd (n refl)
has_other zero (suc b) on w n = ap (λ (x : ℕ). eqb x 1) (let e : (put b on (w / 2) * 2 + w % 2) % 2 ≡ w % 2 = omega arith in e)
has_other (suc j) zero on w n = ap (has_bit j) (half_bit (w / 2) on)
has_other (suc j) (suc b) on w n = ap (has_bit j) (half (put b on (w / 2)) w) ∙ has_other j b on (w / 2) (λ e. n (ap suc e))

-- put as it is, nothing changes
pub put_same : (b : ℕ) (on : Bool) (w : ℕ) → has_bit b w ≡ on → put b on w ≡ w
unfolding has_bit put
put_same zero on w e = let o = odd_is w on e in omega arith
put_same (suc b) on w e = let h = put_same b on (w / 2) e in omega arith

bit_small : (on : Bool) → bit on ≤ 1
bit_small true = omega arith
bit_small false = omega arith

-- no bit is set past it
pub put_lt : (d b : ℕ) (on : Bool) (w : ℕ) → b < d → w < 2 ^ d → put b on w < 2 ^ d
unfolding put
put_lt zero b on w h l = absurd (omega arith)
put_lt (suc d) zero on w h l = let p = pow-suc 2 d in let s = bit_small on in omega arith
put_lt (suc d) (suc b) on w h l = let p = pow-suc 2 d in let e = put_lt d b on (w / 2) (omega arith) (omega arith) in omega arith

-- ---- by the machine's `|` and `&`

-- one bit, as a word
pub power_is : (b : ℕ) → b < 64 → (1 * 2 ^ b) % 2 ^ 64 ≡ 2 ^ b
power_is b h = shl_exact 1 b 64 (lit< tt) (omega arith) ∙ one-mul (2 ^ b)

power_half : (b : ℕ) → 2 ^ suc b / 2 ≡ 2 ^ b
power_half b = let t = pow-suc 2 b in omega arith

pub or_put : (b w : ℕ) → bit_or w (2 ^ b) ≡ put b true w
unfolding put
or_put zero w = or_step w 1 ∙ ap₂ (λ (x y : ℕ). x * 2 + y) (or_zero_r (w / 2)) (let e : max (w % 2) 1 ≡ 1 = omega arith in e)
or_put (suc b) w =
    let t = pow-suc 2 b in
    let low : max (w % 2) (2 ^ suc b % 2) ≡ w % 2 = omega arith in
    or_step w (2 ^ suc b) ∙ ap₂ (λ (x y : ℕ). x * 2 + y) (ap (bit_or (w / 2)) (power_half b) ∙ or_put b (w / 2)) low

pub and_put : (d b w : ℕ) → b < d → w < 2 ^ d → bit_and w (2 ^ d - 1 - 2 ^ b) ≡ put b false w
unfolding put
and_put zero b w h l = absurd (omega arith)
and_put (suc d) zero w h l =
    let t = pow-suc 2 d in
    let p : 1 ≤ 2 ^ d = pow_pos d in
    let others : (2 ^ suc d - 1 - 1) / 2 ≡ 2 ^ d - 1 = omega arith in
    let low : min (w % 2) ((2 ^ suc d - 1 - 1) % 2) ≡ 0 = omega arith in
    let all : w / 2 % 2 ^ d ≡ w / 2 = mod-eq_of_lt (omega arith) in
    and_step w (2 ^ suc d - 1 - 1) ∙ ap₂ (λ (x y : ℕ). x * 2 + y) (ap (bit_and (w / 2)) others ∙ and_mask (w / 2) d ∙ all) low
and_put (suc d) (suc b) w h l =
    let t = pow-suc 2 d in
    let u = pow-suc 2 b in
    let k : 2 ^ b < 2 ^ d = pow-lt (omega arith) in
    let others : (2 ^ suc d - 1 - 2 ^ suc b) / 2 ≡ 2 ^ d - 1 - 2 ^ b = omega arith in
    let low : min (w % 2) ((2 ^ suc d - 1 - 2 ^ suc b) % 2) ≡ w % 2 = omega arith in
    and_step w (2 ^ suc d - 1 - 2 ^ suc b)
    ∙ ap₂ (λ (x y : ℕ). x * 2 + y) (ap (bit_and (w / 2)) others ∙ and_put d b (w / 2) (omega arith) (omega arith)) low

-- ---- the keys of a word, in order

keys_even : (d k w : ℕ) → w % 2 ≡ 0 → keys_in (suc d) k w ≡ keys_in d (suc k) (w / 2)
unfolding keys_in has_bit
keys_even d k w e = rw e refl

keys_odd : (d k w : ℕ) → w % 2 ≡ 1 → keys_in (suc d) k w ≡ k ∷ keys_in d (suc k) (w / 2)
unfolding keys_in has_bit
keys_odd d k w e = rw e refl

-- an empty word has none
pub keys_none : (d k : ℕ) → keys_in d k 0 ≡ []
unfolding keys_in has_bit
keys_none zero k = refl
keys_none (suc d) k = keys_none d (suc k)

-- as many as it has ones
pub keys_count : (d k w : ℕ) → w < 2 ^ d → length (keys_in d k w) ≡ ones w
unfolding keys_in ones
keys_count zero k w h = let z : w ≡ 0 = omega arith in rw z refl
keys_count (suc d) k w h =
    let t = pow-suc 2 d in
    let rest = keys_count d (suc k) (w / 2) (omega arith) in
    let step = ones_step w in
    ⊎_elim (λ (e : w % 2 ≡ 0). ap length (keys_even d k w e) ∙ omega arith)
    (λ (o : w % 2 ≡ 1). ap length (keys_odd d k w o) ∙ omega arith)
    (parity w)

-- ---- the lowest bit that is set

zeros_even : (d w : ℕ) → w % 2 ≡ 0 → count_trailing_zeros (suc d) w ≡ suc (count_trailing_zeros d (w / 2))
unfolding count_trailing_zeros
zeros_even d w e = rw e refl

zeros_odd : (d w : ℕ) → w % 2 ≡ 1 → count_trailing_zeros (suc d) w ≡ 0
unfolding count_trailing_zeros
zeros_odd d w e = rw e refl

-- it is below any bound of the word
pub lowest_under : (d t w : ℕ) → 0 < w → w < 2 ^ t → count_trailing_zeros d w < t
unfolding count_trailing_zeros
lowest_under d zero w p h = absurd (omega arith)
lowest_under zero (suc t) w p h = omega arith
lowest_under (suc d) (suc t) w p h =
    let rest = lowest_under d t (w / 2) in
    let q = pow-suc 2 t in
    ⊎_elim (λ (e : w % 2 ≡ 0). let r = rest (omega arith) (omega arith) in let x = zeros_even d w e in omega arith)
    (λ (o : w % 2 ≡ 1). let x = zeros_odd d w o in omega arith)
    (parity w)

-- cleared, the word is less
pub cleared_less : (d w : ℕ) → count_trailing_zeros d w < d → put (count_trailing_zeros d w) false w < w
unfolding put
cleared_less zero w h = absurd (omega arith)
cleared_less (suc d) w h =
    let rest = cleared_less d (w / 2) in
    ⊎_elim (λ (e : w % 2 ≡ 0). let x = zeros_even d w e in rw x (let r = rest (omega arith) in omega arith))
    (λ (o : w % 2 ≡ 1). rw (zeros_odd d w o) (omega arith))
    (parity w)

-- it is the first key, and those of the word without it are the others
pub keys_next : (d k w : ℕ) → count_trailing_zeros d w < d → keys_in d k w ≡ (k + count_trailing_zeros d w) ∷ keys_in d k (put (count_trailing_zeros d w) false w)
unfolding put
keys_next zero k w h = absurd (omega arith)
keys_next (suc d) k w h =
    let rest = keys_next d (suc k) (w / 2) in
    ⊎_elim (λ (e : w % 2 ≡ 0).
    let x = zeros_even d w e in
    let t = count_trailing_zeros d (w / 2) in
    let even : put (suc t) false w % 2 ≡ 0 = (let b : (put t false (w / 2) * 2 + w % 2) % 2 ≡ 0 = omega arith in b) in
    let f : (put t false (w / 2) * 2 + w % 2) / 2 ≡ put t false (w / 2) = half (put t false (w / 2)) w in
    let n : suc k + t ≡ k + suc t = omega arith in
    keys_even d k w e ∙ rest (omega arith) ∙ rw (x, keys_even d k (put (suc t) false w) even, f, n) refl)
    (λ (o : w % 2 ≡ 1).
    let x = zeros_odd d w o in
    let even : put 0 false w % 2 ≡ 0 = (let b : (w / 2 * 2 + 0) % 2 ≡ 0 = omega arith in b) in
    let f : (w / 2 * 2 + 0) / 2 ≡ w / 2 = omega arith in
    let n : k ≡ k + 0 = omega arith in
    keys_odd d k w o ∙ rw (x, keys_even d k (put 0 false w) even, f, ← n) refl)
    (parity w)
