-- Laws for reading a line from its front: decimal digits, hexadecimal ones by pairs, and what the first tab parts.
-- Assumes nothing.
use Prim.Native.Char.{code}
use Prim.Native.Nat.{ℕ, suc, ◌+◌, ◌-◌, ◌*◌, ◌%◌, ◌≤◌, ◌<◌}
use native.Mathlib.Numerals.{add-one}
use native.Mathlib.Omega.{arith}
use mathlib.Core.Path.{◌≡◌, refl, sym, ap, ap₂, ◌∙◌}
use mathlib.Core.Bool.{Bool, true, false, cond, not, ◌&&◌}
use mathlib.Core.List.{List, [], ◌∷◌, ◌++◌, append_assoc, append-nil}
use Rattle.std.specs.Prelude.{Option, Some, None, is_some, IfSome}
use Rattle.std.specs.Option.{unwrap_or}
use Rattle.std.specs.List.{list_all, position_or_len}
use lib.Dec.{eqb, leb, ltb}
use lib.ListN.{length, take, drop, get_or, set, length-set, length-drop}
use lib.Seq.{drop-cons, take_all}
use borrow.Author.Tests.{lt-ltb, le-ltb, ltb-true, le-leb, eq-eqb, ne_eqb}
use Rattle.output.specs.Writing.{over, Wrote}
use Rattle.output.proofs.Cases.{and_true}
use Rattle.output.proofs.Writing.{none, stored_after}
use Rattle.text.specs.Line.{tab, hex_digit, digits}
use Rattle.text.specs.Fronts.{until, first}
use Rattle.listing.specs.Input.{is_number, is_hex, spelt, has_tab, behind}

-- ---- decimal digits

abbrev pub is_digit : ℕ → Bool
is_digit b = leb (code "0") b && leb b (code "9")

pub all_digits : (l : List ℕ) → list_all is_digit l ≡ digits l
all_digits [] = refl
all_digits (b ∷ l) = ap (λ (t : Bool). is_digit b && t) (all_digits l)

pub some_digits : (l : List ℕ) {r : Bool} → (length l ≡ 0 → ⊥) → r ≡ list_all is_digit l → r ≡ is_number l
unfolding is_number
some_digits [] n e = absurd (n refl)
some_digits (b ∷ l) n e = e ∙ all_digits (b ∷ l) ∙ sym (ap (λ (t : Bool). t && digits (b ∷ l)) (le-leb 1 (length (b ∷ l)) (omega arith)))

pub no_digits : (l : List ℕ) → length l ≡ 0 → false ≡ is_number l
unfolding is_number
no_digits [] e = refl
no_digits (b ∷ l) e = absurd (omega arith)

-- ---- hexadecimal digits

abbrev pub is_hex_digit : ℕ → Bool
is_hex_digit b = ltb (hex_digit b) 16

pub digit_is_some : (b : ℕ) (r : Option ℕ) → unwrap_or r 16 ≡ hex_digit b → IfSome r (λ d. d ≤ 15) → is_some r ≡ is_hex_digit b
digit_is_some b None e h = sym (le-ltb (hex_digit b) 16 (omega arith))
digit_is_some b (Some d) e h = sym (lt-ltb (hex_digit b) 16 (omega arith))

-- they are even in number, and each is a digit
pub hex_by_digits : (l : List ℕ) → (eqb (length l % 2) 0 && list_all is_hex_digit l) ≡ is_hex l
unfolding is_hex
hex_by_digits [] = refl
hex_by_digits (a ∷ []) = refl
hex_by_digits (a ∷ b ∷ l) =
    let even : suc (suc (length l)) % 2 ≡ length l % 2 = omega arith in
    ap (λ (n : ℕ). eqb n 0 && (is_hex_digit a && (is_hex_digit b && list_all is_hex_digit l))) even
    ∙ at (eqb (length l % 2) 0) (is_hex_digit a) (is_hex_digit b) (list_all is_hex_digit l)
    ∙ ap (λ (t : Bool). (is_hex_digit a && is_hex_digit b) && t) (hex_by_digits l)
  where
    at : (t x y r : Bool) → (t && (x && (y && r))) ≡ ((x && y) && (t && r))
    at true true true r = refl
    at true true false r = refl
    at true false y r = refl
    at false true true r = refl
    at false true false r = refl
    at false false y r = refl

module _ (l : List ℕ) where
  pub even_digits : {r : Bool} → length l % 2 ≡ 0 → r ≡ list_all is_hex_digit l → r ≡ is_hex l
  even_digits h e = e ∙ sym (ap (λ (t : Bool). t && list_all is_hex_digit l) (eq-eqb (length l % 2) 0 h)) ∙ hex_by_digits l

  pub odd_digits : (length l % 2 ≡ 0 → ⊥) → eqb (length l % 2) 0 ≡ is_hex l
  odd_digits h =
      let odd = ne_eqb (length l % 2) 0 h in
      odd ∙ sym (ap (λ (t : Bool). t && list_all is_hex_digit l) odd) ∙ hex_by_digits l

-- ---- the bytes that they spell

-- the next pair
pair_at : (l : List ℕ) (i : ℕ) → i + 2 ≤ length l → drop i l ≡ get_or l i 0 ∷ get_or l (i + 1) 0 ∷ drop (i + 2) l
pair_at l i h =
    let two : suc (suc i) ≡ i + 2 = omega arith in
    drop-cons l i 0 (omega arith)
    ∙ ap (λ (k : List ℕ). get_or l i 0 ∷ k) (drop-cons l (suc i) 0 (omega arith))
    ∙ ap₂ (λ (j k : ℕ). get_or l i 0 ∷ get_or l j 0 ∷ drop k l) (sym (add-one i)) two

-- the first i bytes are spelt, and what follows are digits too
pub record SpeltSoFar (l : List ℕ) (i : ℕ) (before after : List ℕ) : Type 0 where
  pub within : 2 * i ≤ length l
  pub front : List ℕ
  pub wrote : Wrote front i before after
  pub all : front ++ spelt (drop (2 * i) l) ≡ spelt l
  pub hex : is_hex (drop (2 * i) l) ≡ true
  pub long : length after ≡ length before

pub spelt_start : (l before : List ℕ) → is_hex l ≡ true → SpeltSoFar l 0 before before
spelt_start l before h = record { within = omega arith; front = []; wrote = none before; all = refl; hex = h; long = refl }

-- less than a pair spells nothing
short : (r : List ℕ) → length r < 2 → spelt r ≡ []
unfolding spelt
short [] h = refl
short (a ∷ []) h = refl
short (a ∷ b ∷ r) h = absurd (omega arith)

module _ {l before X : List ℕ} {i : ℕ} (s : SpeltSoFar l i before X) where
  module _ (h : 2 * i + 2 ≤ length l) where
    -- both are digits
    pub pair_digits : (hex_digit (get_or l (2 * i) 0) < 16) × (hex_digit (get_or l (2 * i + 1) 0) < 16)
    unfolding is_hex
    pair_digits =
        let a = hex_digit (get_or l (2 * i) 0) in
        let b = hex_digit (get_or l (2 * i + 1) 0) in
        let both = (and_true (ltb a 16 && ltb b 16) (is_hex (drop (2 * i + 2) l)) (sym (ap is_hex (pair_at l (2 * i) h)) ∙ s.hex)).0 in
        let each = and_true (ltb a 16) (ltb b 16) both in
        (ltb-true a 16 each.0, ltb-true b 16 each.1)

    pub spelt_on : {a b : ℕ} → i + 1 ≤ length before → a ≡ hex_digit (get_or l (2 * i) 0) → b ≡ hex_digit (get_or l (2 * i + 1) 0) →
        SpeltSoFar l (i + 1) before (set X i (16 * a + b))
    unfolding is_hex spelt
    spelt_on {a} {b} room e f =
        let x = 16 * a + b in
        let more = drop (2 * i + 2) l in
        let two : 2 * (i + 1) ≡ 2 * i + 2 = omega arith in
        let behind : drop (2 * (i + 1)) l ≡ more = ap (λ (k : ℕ). drop k l) two in
        let here = pair_at l (2 * i) h in
        let spells : spelt (drop (2 * i) l) ≡ x ∷ spelt more = ap spelt here ∙ (λ j. (16 * sym e j + sym f j) ∷ spelt more) in
        record {
          within = omega arith;
          front = s.front ++ (x ∷ []);
          wrote = stored_after x s.wrote room;
          all =
              append_assoc s.front (x ∷ []) (spelt (drop (2 * (i + 1)) l))
              ∙ ap (λ (r : List ℕ). s.front ++ (x ∷ spelt r)) behind
              ∙ ap (λ (r : List ℕ). s.front ++ r) (sym spells)
              ∙ s.all;
          hex =
              ap is_hex behind
              ∙ (and_true (ltb (hex_digit (get_or l (2 * i) 0)) 16 && ltb (hex_digit (get_or l (2 * i + 1) 0)) 16) (is_hex more) (sym (ap is_hex here) ∙ s.hex)).1;
          long = length-set X i x ∙ s.long;
        }

  -- less than a pair is left, so nothing is
  pub spelt_end : {n : ℕ} → i ≡ n → length l < 2 * i + 2 → Wrote (spelt l) n before X
  spelt_end e h =
      let rest = drop (2 * i) l in
      let none : spelt rest ≡ [] = short rest (omega (arith, length-drop (2 * i) l)) in
      let whole : s.front ≡ spelt l = sym (append-nil s.front) ∙ ap (λ (t : List ℕ). s.front ++ t) (sym none) ∙ s.all in
      record { count = sym e ∙ s.wrote.count ∙ ap length whole; buffer = s.wrote.buffer ∙ ap (λ (t : List ℕ). over t before) whole }

-- ---- what the first tab parts

pub tab_place : (l : List ℕ) → position_or_len (λ b. eqb b tab) l ≡ length (first l)
unfolding until
tab_place [] = refl
tab_place (b ∷ l) = at (eqb b tab) (tab_place l)
  where
    at : (t : Bool) → position_or_len (λ b. eqb b tab) l ≡ length (first l) → cond (not t) (1 + position_or_len (λ b. eqb b tab) l) 0 ≡ length (cond t [] (b ∷ first l))
    at true e = refl
    at false e = omega arith

pub first_taken : (l : List ℕ) → take (length (first l)) l ≡ first l
unfolding until
first_taken [] = refl
first_taken (b ∷ l) = at (eqb b tab) (first_taken l)
  where
    at : (t : Bool) → take (length (first l)) l ≡ first l → take (length (cond t [] (b ∷ first l))) (b ∷ l) ≡ cond t [] (b ∷ first l)
    at true e = refl
    at false e = ap (λ (k : List ℕ). b ∷ k) e

-- where the first tab stands, as a search for it answers
module _ (l : List ℕ) {r : Option ℕ} (e : r ≡ cond (ltb (position_or_len (λ b. eqb b tab) l) (length l)) (Some (position_or_len (λ b. eqb b tab) l)) None) where
  place : r ≡ cond (has_tab l) (Some (length (first l))) None
  place = e ∙ ap (λ (n : ℕ). cond (ltb n (length l)) (Some n) None) (tab_place l)

  pub no_tab : r ≡ None → has_tab l ≡ false
  no_tab n = at (has_tab l) (sym n ∙ place)
    where
      at : (t : Bool) → None ≡ cond t (Some (length (first l))) None → t ≡ false
      at true n = absurd cc
      at false n = refl

  pub is_tab : {i : ℕ} → r ≡ Some i → (has_tab l ≡ true) × (i ≡ length (first l))
  is_tab {i} n = at (has_tab l) (sym n ∙ place)
    where
      at : (t : Bool) → Some i ≡ cond t (Some (length (first l))) None → (t ≡ true) × (i ≡ length (first l))
      at true n = (refl, cc)
      at false n = absurd cc

  pub parted : {i : ℕ} → r ≡ Some i → (has_tab l ≡ true) × (take i l ≡ first l) × (take (length l - (i + 1)) (drop (i + 1) l) ≡ behind l)
  parted {i} n =
      let t = is_tab n in
      let within = ltb-true (length (first l)) (length l) t.0 in
      let next : i + 1 ≡ suc (length (first l)) = omega arith in
      (t.0, ap (λ (k : ℕ). take k l) t.1 ∙ first_taken l, take_all (length l - (i + 1)) (drop (i + 1) l) (omega (arith, length-drop (i + 1) l)) ∙ ap (λ (k : ℕ). drop k l) next)
