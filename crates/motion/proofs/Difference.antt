-- An integer as a difference of two naturals, so that equations and orders of integers follow from arithmetic on naturals.
-- Assumes nothing.
use Prim.Native.Nat.{ℕ, zero, suc, ◌+◌, ◌-◌, ◌*◌, ◌≤◌, ◌<◌, min}
use native.Mathlib.Omega.{arith}
use mathlib.Core.Path.{◌≡◌, refl, ap}
use mathlib.Core.Bool.{Bool, true, false, not, cond}
use lib.Dec.{T, ltb, ltb→lt, lt→ltb, nltb→le, leb→le, le→leb}
use lib.IntN.{ℤ, pos, negsuc, neg_ℤ, nat_abs, sub_ℕ, ◌+ℤ◌, ◌*ℤ◌}
use lib.Signed.{◌≤ℤ◌, ◌<ℤ◌, le_z, lt_z}

-- the part of an integer above zero, and the part below: one of them is 0
abbrev pub above : ℤ → ℕ
above (pos n) = n
above (negsuc n) = 0

abbrev pub below : ℤ → ℕ
below (pos n) = 0
below (negsuc n) = suc n

-- z is p - n
pub record Differs (z : ℤ) (p n : ℕ) : Type 0 where
  pub by : above z + n ≡ p + below z

-- an integer is the difference of its own parts
pub itself : (z : ℤ) → Differs z (above z) (below z)
itself z = record { by = refl }

-- a natural number less nothing
pub plain : (n : ℕ) → Differs (pos n) n 0
plain n = record { by = refl }

-- a negation exchanges the two naturals
pub negated : {z : ℤ} {p n : ℕ} → Differs z p n → Differs (neg_ℤ z) n p
negated {z = pos zero} {p} {n} h = let e = h.by in record { by = omega arith }
negated {z = pos (suc k)} {p} {n} h = let e = h.by in record { by = omega arith }
negated {z = negsuc k} {p} {n} h = let e = h.by in record { by = omega arith }

-- what holds of both integers that a test chooses from holds of the one that it chooses
pub chosen : (t : Bool) (x y : ℤ) {p n : ℕ} → (T t → Differs x p n) → (T (not t) → Differs y p n) → Differs (cond t x y) p n
chosen true x y f g = f tt
chosen false x y f g = g tt

-- the difference itself
pub less : (a b : ℕ) → Differs (sub_ℕ a b) a b
less a b =
    chosen (ltb a b) (negsuc (b - suc a)) (pos (a - b))
    (λ t. let h = ltb→lt a b t in record { by = omega arith })
    (λ t. let h = nltb→le a b t in record { by = omega arith })

-- the same difference, written in another way
pub also : {z : ℤ} {p n q m : ℕ} → Differs z p n → p + m ≡ q + n → Differs z q m
also {z} h e = let f = h.by in record { by = omega arith }

-- a sum
infixl 6 ◌⊕◌
pub ◌⊕◌ : {a b : ℤ} {p n q m : ℕ} → Differs a p n → Differs b q m → Differs (a +ℤ b) (p + q) (n + m)
◌⊕◌ {a = pos a} {b = pos b} {p} {n} {q} {m} h k = let e = h.by in let f = k.by in record { by = omega arith }
◌⊕◌ {a = pos a} {b = negsuc b} {p} {n} {q} {m} h k = let e = h.by in let f = k.by in also (less a (suc b)) (omega arith)
◌⊕◌ {a = negsuc a} {b = pos b} {p} {n} {q} {m} h k = let e = h.by in let f = k.by in also (less b (suc a)) (omega arith)
◌⊕◌ {a = negsuc a} {b = negsuc b} {p} {n} {q} {m} h k = let e = h.by in let f = k.by in record { by = omega arith }

-- so many times an integer
pub times : (k : ℕ) {z : ℤ} {p n : ℕ} → Differs z p n → Differs (z *ℤ pos k) (p * k) (n * k)
times k {z = pos a} {p} {n} h = let e = ap (λ (x : ℕ). x * k) h.by in record { by = omega arith }
times k {z = negsuc a} {p} {n} h = let e = ap (λ (x : ℕ). x * k) h.by in also (negated (plain (suc a * k))) (omega arith)

-- equal integers, from their parts
same_parts : (a b : ℤ) → above a + below b ≡ above b + below a → a ≡ b
same_parts (pos a) (pos b) e = ap pos (omega arith)
same_parts (pos a) (negsuc b) e = absurd (omega arith)
same_parts (negsuc a) (pos b) e = absurd (omega arith)
same_parts (negsuc a) (negsuc b) e = ap negsuc (omega arith)

-- equal differences are equal integers
pub equal : {a b : ℤ} {p n q m : ℕ} → Differs a p n → Differs b q m → p + m ≡ q + n → a ≡ b
equal {a} {b} {p} {n} {q} {m} h k e = let f = h.by in let g = k.by in same_parts a b (omega arith)

-- and equal integers are equal differences
pub equal_back : {a b : ℤ} {p n q m : ℕ} → Differs a p n → Differs b q m → a ≡ b → p + m ≡ q + n
equal_back {a} {b} {p} {n} {q} {m} h k e =
    let f = h.by in
    let g = k.by in
    let u = ap above e in
    let d = ap below e in
    omega arith

parts_order : (a b : ℤ) → above a + below b ≤ above b + below a → T (le_z a b)
parts_order (pos a) (pos b) e = le→leb a b (omega arith)
parts_order (pos a) (negsuc b) e = absurd (omega arith)
parts_order (negsuc a) (pos b) e = tt
parts_order (negsuc a) (negsuc b) e = le→leb b a (omega arith)

order_parts : (a b : ℤ) → T (le_z a b) → above a + below b ≤ above b + below a
order_parts (pos a) (pos b) t = let h = leb→le a b t in omega arith
order_parts (pos a) (negsuc b) t = absurd t
order_parts (negsuc a) (pos b) t = omega arith
order_parts (negsuc a) (negsuc b) t = let h = leb→le b a t in omega arith

-- the order of differences is the order of integers
pub at_most : {a b : ℤ} {p n q m : ℕ} → Differs a p n → Differs b q m → p + m ≤ q + n → a ≤ℤ b
at_most {a} {b} {p} {n} {q} {m} h k e = let f = h.by in let g = k.by in record { le = parts_order a b (omega arith) }

-- and back
pub at_most_back : {a b : ℤ} {p n q m : ℕ} → Differs a p n → Differs b q m → a ≤ℤ b → p + m ≤ q + n
at_most_back {a} {b} {p} {n} {q} {m} h k e = let f = h.by in let g = k.by in let t = order_parts a b e.le in omega arith

parts_strict : (a b : ℤ) → above a + below b < above b + below a → T (lt_z a b)
parts_strict (pos a) (pos b) e = lt→ltb a b (omega arith)
parts_strict (pos a) (negsuc b) e = absurd (omega arith)
parts_strict (negsuc a) (pos b) e = tt
parts_strict (negsuc a) (negsuc b) e = lt→ltb b a (omega arith)

-- and so is their strict order
pub less_than : {a b : ℤ} {p n q m : ℕ} → Differs a p n → Differs b q m → p + m < q + n → a <ℤ b
less_than {a} {b} {p} {n} {q} {m} h k e = let f = h.by in let g = k.by in record { lt = parts_strict a b (omega arith) }

-- one of the parts is 0
pub one_part : (z : ℤ) → min (above z) (below z) ≡ 0
one_part (pos n) = omega arith
one_part (negsuc n) = omega arith

-- and the other is the absolute value
pub absolute : (z : ℤ) → nat_abs z ≡ above z + below z
absolute (pos n) = omega arith
absolute (negsuc n) = omega arith
