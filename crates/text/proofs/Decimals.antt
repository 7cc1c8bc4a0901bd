-- Laws of digits that are read on from the front of a text, up to a byte that is no digit and ends their field.
-- Assumes nothing.
use Prim.Native.Char.{code}
use Prim.Native.Nat.{ℕ, ◌+◌, ◌-◌, ◌*◌, ◌^◌, ◌≤◌, ◌<◌}
use native.Mathlib.Numerals.{add-one}
use native.Mathlib.Nat.{pow-le-pow_right, pow-succ', zero-add}
use native.Mathlib.Omega.{arith}
use mathlib.Core.Path.{◌≡◌, refl, sym, ap, ◌∙◌}
use mathlib.Core.Bool.{Bool, true, false, cond, ◌&&◌}
use mathlib.Core.List.{List, [], ◌∷◌}
use Rattle.std.specs.Prelude.{Option, None, Some}
use lib.Dec.{leb, ltb}
use lib.ListN.{length, take, drop, get_or}
use lib.Seq.{drop-cons}
use borrow.Author.Tests.{le-leb, lt-leb, lt-ltb, le-ltb, eq-eqb, ne_eqb}
use Rattle.text.specs.Line.{digits, value, natural, minus}
use Rattle.text.specs.Fronts.{until, upto}
use Rattle.text.proofs.Fields.{rest_of}

-- the first i bytes of s are digits, and make v
pub record Reading (stop : ℕ) (s : List ℕ) (v i : ℕ) : Type 0 where
  pub within : i ≤ length s
  pub few : i ≤ 4
  pub small : v < 10 ^ i
  pub counted : length (until stop s) ≡ i + length (until stop (drop i s))
  pub worth : value 0 (until stop s) ≡ value v (until stop (drop i s))
  pub all : digits (until stop s) ≡ digits (until stop (drop i s))

module _ (stop : ℕ) (s : List ℕ) where
  pub begun : Reading stop s 0 0
  begun = record { within = omega arith; few = omega arith; small = omega arith; counted = sym (zero-add _); worth = refl; all = refl }

  -- what is no field of digits, if it ends at all
  no_digits : natural (until stop s) ≡ None → None ≡ upto natural stop s
  unfolding upto
  no_digits e = rw e (at (ltb (length (until stop s)) (length s)))
    where
      at : (t : Bool) → ◌≡◌ {A = Option (ℕ × List ℕ)} None (cond t None None)
      at true = refl
      at false = refl

  pub empty : length s ≡ 0 → None ≡ upto natural stop s
  unfolding upto
  empty e = rw (le-ltb (length (until stop s)) (length s) (omega arith)) refl

  -- what is no digit makes a field no number
  unread : digits (until stop s) ≡ false → None ≡ upto natural stop s
  unfolding natural
  unread e = no_digits (rw e (at (leb 1 (length (until stop s))) (leb (length (until stop s)) 4)))
    where
      at : (p q : Bool) → cond (p && q && false) (Some (value 0 (until stop s))) None ≡ None
      at true true = refl
      at true false = refl
      at false q = refl

module _ (stop : ℕ) (s : List ℕ) (v i : ℕ) (r : Reading stop s v i) where
  -- at most four digits were read
  pub at_most : v ≤ 9999
  at_most = let f = r.few in let p : 10 ^ i ≤ 10 ^ 4 = pow-le-pow_right {n = 10} (omega arith) {i = i} {j = 4} (omega arith) in omega (arith, r.small)

  -- the text ends before the field does
  pub ended : length s ≤ i → None ≡ upto natural stop s
  unfolding upto
  ended l = rw (le-ltb (length (until stop s)) (length s) (omega (arith, r.counted))) refl

  module _ (l : i < length s) where
    at_next : drop i s ≡ get_or s i 0 ∷ drop (i + 1) s
    at_next = rw (add-one i) (drop-cons s i 0 l)

    ends : get_or s i 0 ≡ stop → until stop (drop i s) ≡ []
    unfolding until
    ends e = ap (until stop) at_next ∙ rw (eq-eqb (get_or s i 0) stop e) refl

    -- the field ends, and was read whole
    pub stopped : 1 ≤ i → get_or s i 0 ≡ stop → Some (v, take (length s - (i + 1)) (drop (i + 1) s)) ≡ upto natural stop s
    unfolding upto natural
    stopped h e =
        let n : length (until stop s) ≡ i = r.counted ∙ ap (λ (f : List ℕ). i + length f) (ends e) ∙ omega arith in
        let d : digits (until stop s) ≡ true = r.all ∙ ap digits (ends e) in
        let w : value 0 (until stop s) ≡ v = r.worth ∙ ap (value v) (ends e) in
        rw (rest_of (i + 1) s, add-one i, n, lt-ltb i (length s) l, le-leb 1 i h, le-leb i 4 r.few, d, w) refl

    -- it has no byte
    pub at_once : i ≡ 0 → get_or s i 0 ≡ stop → None ≡ upto natural stop s
    unfolding natural
    at_once z e = no_digits stop s (rw (ap (λ (k : ℕ). until stop (drop k s)) (sym z) ∙ ends e) refl)

    module _ (n : get_or s i 0 ≡ stop → ⊥) where
      goes_on : until stop (drop i s) ≡ get_or s i 0 ∷ until stop (drop (i + 1) s)
      unfolding until
      goes_on = ap (until stop) at_next ∙ rw (ne_eqb (get_or s i 0) stop n) refl

      pub low : get_or s i 0 < code "0" → None ≡ upto natural stop s
      low h = unread stop s (r.all ∙ ap digits goes_on ∙ rw (lt-leb (code "0") (get_or s i 0) h) refl)

      pub high : code "9" < get_or s i 0 → None ≡ upto natural stop s
      high h = unread stop s (r.all ∙ ap digits goes_on ∙ rw (le-leb (code "0") (get_or s i 0) (omega arith), lt-leb (get_or s i 0) (code "9") h) refl)

      -- four digits, and something more
      pub fifth : i ≡ 4 → None ≡ upto natural stop s
      unfolding natural
      fifth e =
          let k : 4 < length (until stop s) = (let p = r.counted in let q = ap length goes_on in omega arith) in
          no_digits stop s (rw (le-leb 1 (length (until stop s)) (omega arith), lt-leb (length (until stop s)) 4 k) refl)

    pub turn : stop < minus → code "0" ≤ get_or s i 0 → get_or s i 0 ≤ code "9" → (i ≡ 4 → ⊥) → Reading stop s (v * 10 + (get_or s i 0 - code "0")) (i + 1)
    turn m lo hi n =
        let d = get_or s i 0 in
        let f = r.few in
        let t : d ≡ stop → ⊥ = λ e. omega arith in
        let p : 10 ^ (i + 1) ≡ 10 * 10 ^ i = ap (λ (k : ℕ). 10 ^ k) (add-one i) ∙ pow-succ' 10 i in
        record {
          within = omega arith;
          few = omega arith;
          small = omega (arith, r.small);
          counted = r.counted ∙ ap (λ (g : List ℕ). i + length g) (goes_on t) ∙ omega arith;
          worth = r.worth ∙ ap (λ (g : List ℕ). value v g) (goes_on t);
          all = r.all ∙ ap digits (goes_on t) ∙ rw (le-leb (code "0") d lo, le-leb d (code "9") hi) refl;
        }
