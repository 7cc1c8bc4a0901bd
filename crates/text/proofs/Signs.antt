-- Laws of numbers with an optional minus: from the digits to the number.
-- Assumes nothing.
use Prim.Native.Char.{code}
use Prim.Native.Nat.{ℕ, zero, suc, ◌+◌, ◌-◌, ◌*◌, ◌^◌, ◌≤◌, ◌<◌}
use native.Mathlib.Nat.{add-zero, pow-succ', pow-le-pow_right}
use mir.Syntax.{w16}
use mir.Val.{SFits, to_z, of_z}
use mir.ValLaws.{to_z-of_z}
use Rattle.output.proofs.Cases.{and_true}
use Rattle.text.proofs.Lengths.{natural_read, mapped}
use native.Mathlib.Omega.{arith}
use mathlib.Core.Path.{◌≡◌, refl, sym, ap, ◌∙◌, subst}
use mathlib.Core.Bool.{Bool, true, false, cond, ◌&&◌}
use mathlib.Core.List.{List, [], ◌∷◌}
use Rattle.std.specs.Prelude.{Option, None, Some, option_map}
use lib.Dec.{eqb, leb, ltb, leb-suc-suc}
use lib.ListN.{length, take, drop, get_or}
use lib.IntN.{ℤ, pos, neg_ℤ}
use borrow.Author.Tests.{leb-true, eq-eqb, ne_eqb}
use Rattle.text.specs.Line.{digits, value, natural, minus, number}
use Rattle.text.specs.Fronts.{until, followed, upto}
use Rattle.text.proofs.Fields.{rest_of}

abbrev pub negated : Option (ℕ × List ℕ) → Option (ℤ × List ℕ)
negated r = option_map (λ p. (neg_ℤ (pos p.0), p.1)) r

abbrev pub plain : Option (ℕ × List ℕ) → Option (ℤ × List ℕ)
plain r = option_map (λ p. (pos p.0, p.1)) r

minus_is : (stop b : ℕ) (l : List ℕ) → stop < minus → b ≡ minus → upto number stop (b ∷ l) ≡ negated (upto natural stop l)
unfolding upto number until
minus_is stop b l m e =
    let n = length (until stop l) in
    rw (ne_eqb b stop (λ f. omega arith), eq-eqb b minus e, leb-suc-suc (suc n) (length l)) (at (ltb n (length l)) (natural (until stop l)))
  where
    at : (t : Bool) (o : Option ℕ) → cond t (followed (drop (suc (length (until stop l))) l) (option_map (λ n. neg_ℤ (pos n)) o)) None ≡ negated (cond t (followed (drop (suc (length (until stop l))) l) o) None)
    at true None = refl
    at true (Some v) = refl
    at false o = refl

plain_is : (stop b : ℕ) (l : List ℕ) → (b ≡ minus → ⊥) → upto number stop (b ∷ l) ≡ plain (upto natural stop (b ∷ l))
unfolding upto number until natural
plain_is stop b l e = tested (eqb b stop)
  where
    at : (t : Bool) (r : List ℕ) (o : Option ℕ) → cond t (followed r (option_map pos o)) None ≡ plain (cond t (followed r o) None)
    at true r None = refl
    at true r (Some v) = refl
    at false r o = refl

    tested : (t : Bool) → cond (ltb (length (cond t [] (b ∷ until stop l))) (suc (length l))) (followed (drop (length (cond t [] (b ∷ until stop l))) l) (number (cond t [] (b ∷ until stop l)))) None
        ≡ plain (cond (ltb (length (cond t [] (b ∷ until stop l))) (suc (length l))) (followed (drop (length (cond t [] (b ∷ until stop l))) l) (natural (cond t [] (b ∷ until stop l)))) None)
    tested true = at (ltb 0 (suc (length l))) l None
    tested false = rw (ne_eqb b minus e) (at (ltb (suc (length (until stop l))) (suc (length l))) (drop (suc (length (until stop l))) l) (natural (b ∷ until stop l)))

-- a text by its first byte, and the digits as a call is lent them
pub negative : (stop : ℕ) (s : List ℕ) → stop < minus → 1 ≤ length s → get_or s 0 0 ≡ minus → upto number stop s ≡ negated (upto natural stop (take (length s - 1) (drop 1 s)))
negative stop [] m h e = absurd (omega arith)
negative stop (b ∷ l) m h e = minus_is stop b l m e ∙ ap (λ (r : List ℕ). negated (upto natural stop r)) (sym (rest_of 1 (b ∷ l)))

pub positive : (stop : ℕ) (s : List ℕ) → (1 ≤ length s → get_or s 0 0 ≡ minus → ⊥) → upto number stop s ≡ plain (upto natural stop s)
unfolding upto until
positive stop [] n = refl
positive stop (b ∷ l) n = plain_is stop b l (λ e. n (omega arith) e)

-- ---- four digits make at most 9999

value_small : (l : List ℕ) (v k : ℕ) → v < 10 ^ k → digits l ≡ true → value v l < 10 ^ (k + length l)
value_small [] v k h e = rw (add-zero k) h
value_small (b ∷ l) v k h e =
    let p = and_true (leb (code "0") b && leb b (code "9")) (digits l) e in
    let q = and_true (leb (code "0") b) (leb b (code "9")) p.0 in
    let lo = leb-true (code "0") b q.0 in
    let hi = leb-true b (code "9") q.1 in
    let w : v * 10 + (b - code "0") < 10 ^ suc k = (let e = pow-succ' 10 k in omega arith) in
    subst (λ (n : ℕ). value (v * 10 + (b - code "0")) l < 10 ^ n) (omega arith) (value_small l (v * 10 + (b - code "0")) (suc k) w p.1)

natural_small : (f : List ℕ) (v : ℕ) → natural f ≡ Some v → v ≤ 9999
natural_small f v e =
    let r = natural_read f v e in
    let w = value_small f 0 0 (omega arith) r.all in
    let m : 10 ^ (0 + length f) ≤ 10 ^ 4 = pow-le-pow_right {n = 10} (omega arith) {i = 0 + length f} {j = 4} (omega (arith, r.few)) in
    omega (arith, r.worth)

-- ---- and so every number that is read fits the machine's 16 bits

above_fits : (v : ℕ) → v ≤ 9999 → SFits w16 (pos v)
above_fits v h = record { sfits = omega arith }

below_fits : (v : ℕ) → v ≤ 9999 → SFits w16 (neg_ℤ (pos v))
below_fits zero h = record { sfits = omega arith }
below_fits (suc v) h = record { sfits = omega arith }

-- every number that is read fits
pub number_fits : (f : List ℕ) (z : ℤ) → number f ≡ Some z → SFits w16 z
unfolding number
number_fits = at
  where
    tested : (b : ℕ) (f : List ℕ) (z : ℤ) (t : Bool) → cond t (option_map (λ n. neg_ℤ (pos n)) (natural f)) (option_map pos (natural (b ∷ f))) ≡ Some z → SFits w16 z
    tested b f z true e = mapped (λ n. neg_ℤ (pos n)) (natural f) z e (λ v e g. rw (← g) (below_fits v (natural_small f v e)))
    tested b f z false e = mapped pos (natural (b ∷ f)) z e (λ v e g. rw (← g) (above_fits v (natural_small (b ∷ f) v e)))

    at : (f : List ℕ) (z : ℤ) → number f ≡ Some z → SFits w16 z
    at [] z e = absurd cc
    at (b ∷ f) z e = tested b f z (eqb b minus) e

pub back : (stop : ℕ) (s : List ℕ) (z : ℤ) (r : List ℕ) → Some (z, r) ≡ upto number stop s → to_z w16 (of_z w16 z) ≡ z
unfolding upto
back stop s z r = at (ltb (length (until stop s)) (length s)) (number (until stop s)) (number_fits (until stop s))
  where
    at : (t : Bool) (o : Option ℤ) → ((y : ℤ) → o ≡ Some y → SFits w16 y) → Some (z, r) ≡ cond t (followed (drop (suc (length (until stop s))) s) o) None → to_z w16 (of_z w16 z) ≡ z
    at true None f e = absurd cc
    at true (Some y) f e =
        let p : ◌≡◌ {A = ℤ × List ℕ} (z, r) (y, drop (suc (length (until stop s))) s) = cc in
        to_z-of_z w16 z (f z (ap (λ (q : ℤ × List ℕ). Some q.0) (sym p)))
    at false o f e = absurd cc
