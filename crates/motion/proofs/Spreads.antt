-- What the code keeps between two packets gives each packet its part: by the quotient alone, or by one more where the remainders have added up.
-- Assumes nothing.
use Prim.Native.Nat.{ℕ, ◌+◌, ◌-◌, ◌*◌, ◌/◌, ◌%◌, ◌≤◌, ◌<◌}
use native.Mathlib.Omega.{arith}
use native.Mathlib.Nat.{mod-lt, zero-mod}
use mathlib.Core.Path.{◌≡◌, refl, ap, sym, ◌∙◌}
use borrow.Author.Tests.{leb-true, leb-false, le-leb, lt-leb}
use lib.IntN.{ℤ, pos, negsuc}
use Rattle.output.proofs.Cases.{both_ways}
use Rattle.motion.specs.declared.Motion.{Motion}
use Rattle.motion.specs.declared.Spread.{Spread}
use Rattle.motion.specs.Motion.{value, part, byte}
use Rattle.motion.specs.Spread.{raised, spread_at, IsSpread, adds_up, next_byte, further, SaysPart, MovesOn}
use Rattle.motion.proofs.Difference.{Differs, also}
use Rattle.motion.proofs.Integers.{stands}
use Rattle.motion.proofs.Rounding.{Divided, divided, part_of}

-- a byte does not see 65,536
byte_raised : (z : ℤ) (x : ℕ) → Differs z x 65536 → x % 256 ≡ byte z
unfolding byte
byte_raised (pos a) x d = let e = d.by in omega arith
byte_raised (negsuc a) x d = let e = d.by in omega arith

-- what the packets up to the k-th carry, and what has added up then, by those before it
next : (n k T : ℕ) → 0 < n → Divided (T * (k + 1)) (T * k) T n
next n k T p = divided (T * (k + 1)) (T * k) T n (omega arith) p

part_raised : (n k : ℕ) (m : Motion) → 0 < n → m.minus ≤ 65535 → Differs (part n k (value m)) (raised n m * (k + 1) / n) (raised n m * k / n + 65536)
part_raised n k m p h = part_of 65536 n k p (also (stands m) (omega arith))

-- the code's test tells which byte is next, and what is one packet further
pub no_carry : (s : Spread) → s.error + s.rest < s.packets → (s.each ≡ next_byte s) × (record { packets = s.packets; each = s.each; rest = s.rest; error = s.error + s.rest } ≡ further s)
no_carry s h = rw (lt-leb s.packets (s.error + s.rest) h) (refl, refl)

pub carry : (s : Spread) → s.packets ≤ s.error + s.rest → ((s.each + 1) % 256 ≡ next_byte s) × (record { packets = s.packets; each = s.each; rest = s.rest; error = (s.error + s.rest) - s.packets } ≡ further s)
carry s h = rw (le-leb s.packets (s.error + s.rest) h) (refl, refl)

-- at the start nothing has added up
pub starts : (n : ℕ) (m : Motion) → record { packets = n; each = raised n m / n % 256; rest = raised n m % n; error = 0 } ≡ spread_at n 0 m
starts n m =
    let nought : raised n m * 0 ≡ 0 = omega arith in
    ap (λ (e : ℕ). record { packets = n; each = raised n m / n % 256; rest = raised n m % n; error = e }) (sym (ap (λ (x : ℕ). x % n) nought ∙ zero-mod n))

-- the next packet carries the quotient, or 1 more
pub says_part : SaysPart
says_part n k m p u =
    let T = raised n m in
    let d = next n k T p in
    both_ways (λ (b : ℕ). b ≡ byte (part n k (value m))) (adds_up (spread_at n k m))
    (λ t.
    let q = d.one_more (leb-true n _ t) in
    let b = byte_raised (part n k (value m)) (T / n + 1) (also (part_raised n k m p u) (omega arith)) in
    omega arith)
    (λ t.
    let q = d.no_more (leb-false n _ t) in
    byte_raised (part n k (value m)) (T / n) (also (part_raised n k m p u) (omega arith)))

-- and then what has added up is the sum, without n where that was carried
pub moves_on : MovesOn
moves_on n k m p =
    let T = raised n m in
    let d = next n k T p in
    ap (λ (e : ℕ). record { packets = n; each = T / n % 256; rest = T % n; error = e })
    (both_ways (λ (e : ℕ). e ≡ (T * (k + 1)) % n) (adds_up (spread_at n k m))
    (λ t. let q = d.one_more (leb-true n _ t) in omega arith)
    (λ t. let q = d.no_more (leb-false n _ t) in omega arith))

-- what is kept is in its bounds
pub is_spread : (n k : ℕ) (m : Motion) → 0 < n → IsSpread (spread_at n k m)
is_spread n k m p = (mod-lt (raised n m) p, mod-lt (raised n m * k) p)
