-- The promises of long moves (document 02, A6): parts fit and their bytes say them, they sum to the total and are even, and no fewer packets would do; as many are needed as before.
-- Assumes nothing.
use Prim.Native.Nat.{ℕ, zero, suc, ◌+◌, ◌-◌, ◌*◌, ◌/◌, ◌≤◌, ◌<◌}
use native.Mathlib.Omega.{arith}
use native.Mathlib.Nat.{div-mul-le_self, lt-div-mul-add, mul-div_cancel, zero-div}
use mathlib.Core.Path.{◌≡◌, ap, ◌∙◌}
use mathlib.Core.List.{List}
use lib.Dec.{ltb, ltb→lt, nltb→le}
use lib.ListN.{length}
use lib.IntN.{ℤ, pos, negsuc, neg_ℤ, sub_ℕ, ◌+ℤ◌}
use Rattle.motion.specs.declared.Motion.{Motion}
use Rattle.motion.specs.Motion.{value, down, part, byte, signed_byte, packets_needed}
use Rattle.motion.specs.LongMoves.{RoundsDown, Fits, PartsFit, BytesSay, parts_from, total, PartsSoFar, PartsSum, PartsEven, AllFit, none, first, NoFewer, after_full, left_after, SameNumber}
use Rattle.motion.proofs.Difference.{Differs, above, below, itself, plain, negated, less, also, chosen, times, ◌⊕◌, equal, equal_back, at_most, at_most_back, less_than, one_part}
use Rattle.motion.proofs.Integers.{stands, sides}
use Rattle.motion.proofs.Rounding.{at_least, no_more_than, carried, part_of, raise}

pub rounds_down : RoundsDown
rounds_down (pos a) n p =
    let l = div-mul-le_self a n in
    let u = lt-div-mul-add {a = a} p in
    let q = itself (down (pos a) n) in
    (at_most (times n q) (plain a) (omega arith), less_than (plain a) (times n (q ⊕ plain 1)) (omega arith))
rounds_down (negsuc a) n p =
    let l = div-mul-le_self a n in
    let u = lt-div-mul-add {a = a} p in
    let q = itself (down (negsuc a) n) in
    (at_most (times n q) (itself (negsuc a)) (omega arith), less_than (itself (negsuc a)) (times n (q ⊕ plain 1)) (omega arith))

-- n packets carry no more than so far either way
reach : (n : ℕ) (m : Motion) → packets_needed m ≤ n → (m.plus ≤ 127 * n) × (m.minus ≤ 128 * n)
unfolding packets_needed
reach n m h = (omega arith, omega arith)

pub parts_fit : PartsFit
parts_fit n k m h e =
    let r = reach n m e in
    let p : 0 < n = omega arith in
    let T = (m.plus + 128 * n) - m.minus in
    let d = part_of 128 n k p (also {q = T} (stands m) (omega arith)) in
    let l = at_least 0 T n k p (omega arith) in
    let u = no_more_than 255 T n k p (omega arith) in
    record { low = at_most (itself (neg_ℤ (pos 128))) d (omega arith); high = at_most d (plain 127) (omega arith) }

fits_says : (z : ℤ) → Fits z → signed_byte (byte z) ≡ z
unfolding byte
fits_says (pos a) f =
    let h = at_most_back (plain a) (plain 127) f.high in
    let b = byte (pos a) in
    equal (chosen (ltb b 128) (pos b) (sub_ℕ b 256) {p = a} {n = 0}
    (λ t. also (plain b) (omega arith))
    (λ t. let g = nltb→le b 128 t in absurd (omega arith))) (plain a) (omega arith)
fits_says (negsuc a) f =
    let h = at_most_back (itself (neg_ℤ (pos 128))) (itself (negsuc a)) f.low in
    let b = byte (negsuc a) in
    equal (chosen (ltb b 128) (pos b) (sub_ℕ b 256) {p = 0} {n = suc a}
    (λ t. let g = ltb→lt b 128 t in absurd (omega arith))
    (λ t. also (less b 256) (omega arith))) (itself (negsuc a)) (omega arith)

pub bytes_say : BytesSay
bytes_say n k m h e = fits_says (part n k (value m)) (parts_fit n k m h e)

-- parts one after the other carry what the packets up to the last of them carry, less what those before the first carry
sum_of : (c n : ℕ) {t : ℤ} {T : ℕ} → 0 < n → Differs t T (c * n) → (rest k : ℕ) → Differs (total (parts_from rest n k t)) (T * (k + rest) / n) (T * k / n + c * rest)
sum_of c n {t} {T} p h zero k =
    let same : k + 0 ≡ k = omega arith in
    let e = ap (λ (j : ℕ). T * j / n) same in
    also (plain 0) (omega arith)
sum_of c n {t} {T} p h (suc rest) k =
    let same : k + 1 + rest ≡ k + suc rest = omega arith in
    let e = ap (λ (j : ℕ). T * j / n) same in
    also (part_of c n k p h ⊕ sum_of c n p h rest (k + 1)) (omega arith)

pub parts_so_far : PartsSoFar
parts_so_far n k t p =
    let r = raise n t p in
    let same : 0 + k ≡ k = omega arith in
    let e = ap (λ (j : ℕ). r.T * j / n) same in
    let nought : r.T * 0 ≡ 0 = omega arith in
    let f = ap (λ (x : ℕ). x / n) nought in
    equal (sum_of r.c n p r.is k 0) (carried r.c n k p r.is) (omega (arith, zero-div n))

pub parts_sum : PartsSum
parts_sum n t p =
    let r = raise n t p in
    let all : r.T * n / n ≡ r.T = mul-div_cancel r.T p in
    parts_so_far n n t p ∙ equal (carried r.c n n p r.is) r.is (omega arith)

pub parts_even : PartsEven
parts_even n j k t p =
    let r = raise n t p in
    let T = r.T in
    let a = part_of r.c n j p r.is in
    let b = part_of r.c n k p r.is in
    let q = T / n in
    let l = at_least q T n k p (div-mul-le_self T n) in
    let u = no_more_than (q + 1) T n j p (omega (arith, lt-div-mul-add {a = T} p)) in
    at_most a (b ⊕ plain 1) (omega arith)

total_within : {zs : List ℤ} → AllFit zs → (above (total zs) ≤ 127 * length zs) × (below (total zs) ≤ 128 * length zs)
total_within none = omega arith
total_within (first {z} {zs} f r) =
    let h = total_within r in
    let a = at_most_back (itself z) (plain 127) f.high in
    let b = at_most_back (itself (neg_ℤ (pos 128))) (itself z) f.low in
    let c = (itself z ⊕ itself (total zs)).by in
    omega (arith, one_part z, one_part (total zs), one_part (z +ℤ total zs))

pub no_fewer : NoFewer
unfolding packets_needed
no_fewer m zs o f e =
    let h = total_within f in
    let d = equal_back (itself (total zs)) (stands m) e in
    omega (arith, one_part (total zs))

after_sides : (t : ℤ) → (above (after_full t) ≡ above t - 127) × (below (after_full t) ≡ below t - 128)
after_sides (pos a) = omega arith
after_sides (negsuc a) = let d = (negated (plain (suc a - 128))).by in omega (arith, one_part (after_full (negsuc a)))

left_sides : (n : ℕ) (t : ℤ) → (above (left_after n t) ≡ above t - 127 * n) × (below (left_after n t) ≡ below t - 128 * n)
left_sides zero t = omega arith
left_sides (suc n) t = omega (arith, left_sides n (after_full t), after_sides t)

pub same_number : SameNumber
unfolding packets_needed
same_number n m o =
    let s = sides m o in
    let l = left_sides n (value m) in (
      λ h. equal (itself (left_after n (value m))) (plain 0) (omega arith),
      λ e. let d = equal_back (itself (left_after n (value m))) (plain 0) e in omega (arith, one_part (left_after n (value m))),
    )
