-- Laws of lines of numbers: what the number at the front of a text says of the line.
-- Assumes nothing.
use Prim.Native.Char.{code}
use Prim.Native.Nat.{ℕ, suc, ◌<◌}
use native.Mathlib.Decide.{ℕ_discrete, dec_lt}
use native.Mathlib.Omega.{arith}
use mathlib.Core.Path.{◌≡◌, refl, sym, ap, ◌∙◌}
use mathlib.Core.Bool.{Bool, true, false, cond, ◌&&◌}
use mathlib.Core.List.{List, [], ◌∷◌}
use Rattle.std.specs.Prelude.{Option, None, Some, option_map, option_and_then}
use lib.Dec.{leb, ltb}
use lib.ListN.{length, drop}
use lib.IntN.{ℤ, pos, neg_ℤ}
use borrow.Author.Tests.{leb-true, ltb-true, lt-ltb, eq-eqb, ne_eqb}
use Rattle.output.proofs.Cases.{and_true}
use Rattle.controller.specs.declared.Input.{Input}
use Rattle.controller.specs.declared.Input.TheVariants.{Move, Joystick, Sample}
use Rattle.text.specs.Line.{Line, Good, Bad, line_feed, tab, fields, digits, natural, minus, number, with, none_more, one_more, two_more, three_more}
use Rattle.text.specs.Fronts.{until, first, followed, upto}
use Rattle.text.specs.Reading.{first_line, input, line_by}
use Rattle.text.proofs.Fields.{only, more, none_after}
use Rattle.text.proofs.Lengths.{natural_read, mapped, with_bad}
use Rattle.text.proofs.FirstLines.{goes_on, until_all, until_drop, same_first, parts, unread, later}

-- ---- a number has no stop in it

digits_free : (stop : ℕ) (f : List ℕ) → stop < minus → digits f ≡ true → until stop f ≡ f
unfolding until
digits_free stop [] h e = refl
digits_free stop (b ∷ f) h e =
    let p = and_true (leb (code "0") b && leb b (code "9")) (digits f) e in
    let low = leb-true (code "0") b (and_true (leb (code "0") b) (leb b (code "9")) p.0).0 in
    goes_on stop b f (λ g. omega arith) ∙ ap (λ (l : List ℕ). b ∷ l) (digits_free stop f h p.1)

number_free : (stop : ℕ) (f : List ℕ) (z : ℤ) → stop < minus → number f ≡ Some z → until stop f ≡ f
unfolding number
number_free stop [] z h e = absurd cc
number_free stop (b ∷ f) z h e =
    elim (ℕ_discrete b minus) [
      | yes g ↦ mapped (λ n. neg_ℤ (pos n)) (natural f) z (rw (eq-eqb b minus g) at e) (λ v r i. goes_on stop b f (λ k. omega arith) ∙ ap (λ (l : List ℕ). b ∷ l) (digits_free stop f h (natural_read f v r).all))
      | no n ↦ mapped pos (natural (b ∷ f)) z (rw (ne_eqb b minus n) at e) (λ v r i. digits_free stop (b ∷ f) h (natural_read (b ∷ f) v r).all)
    ]

-- ---- what was read: z, and the text r after it

record Told (stop : ℕ) (s : List ℕ) (z : ℤ) (r : List ℕ) : Type 0 where
  is : number (until stop s) ≡ Some z
  rest : r ≡ drop (suc (length (until stop s))) s
  ends : length (until stop s) < length s

told : (stop : ℕ) (s : List ℕ) (z : ℤ) (r : List ℕ) → upto number stop s ≡ Some (z, r) → Told stop s z r
unfolding upto
told stop s z r = at (ltb (length (until stop s)) (length s)) (ltb-true (length (until stop s)) (length s)) (number (until stop s)) (λ y e. e)
  where
    at : (t : Bool) → (t ≡ true → length (until stop s) < length s) → (o : Option ℤ) → ((y : ℤ) → o ≡ Some y → number (until stop s) ≡ Some y) → cond t (followed (drop (suc (length (until stop s))) s) o) None ≡ Some (z, r) → Told stop s z r
    at true l None h e = absurd cc
    at true l (Some y) h e =
        let p : ◌≡◌ {A = ℤ × List ℕ} (y, drop (suc (length (until stop s))) s) (z, r) = cc in
        record { is = h z (ap (λ (q : ℤ × List ℕ). Some q.0) p); rest = sym (ap (λ (q : ℤ × List ℕ). q.1) p); ends = l refl }
    at false l o h e = absurd cc

untold : (stop : ℕ) (s : List ℕ) → upto number stop s ≡ None → length (until stop s) < length s → number (until stop s) ≡ None
unfolding upto
untold stop s e h = at (number (until stop s)) (rw (lt-ltb (length (until stop s)) (length s) h) at e)
  where
    at : (o : Option ℤ) → followed (drop (suc (length (until stop s))) s) o ≡ None → o ≡ None
    at None e = refl
    at (Some y) e = absurd cc

-- ---- the last field, up to the line feed

-- a line of one field that is a number is that number, without a tab
one_number : (make : ℤ → Input) (l : List ℕ) → one_more number make (fields l) ≡ with (number l) (λ z. Good (make z))
one_number make l =
    elim (dec_lt (length (first l)) (length l)) [
      | yes h ↦
          rw (more l h)
          (with_bad (number (first l)) (λ x. none_more (make x) (fields (drop (suc (length (first l))) l))) (λ x e. none_after (make x) (drop (suc (length (first l))) l))
          ∙ sym (with_bad (number l) (λ z. Good (make z)) (λ z e. absurd (omega (arith, ap length (number_free tab l z (omega arith) e))))))
      | no h ↦ rw (only l (omega arith), until_all tab l (omega arith)) refl
    ]

pub last : (make : ℤ → Input) (s : List ℕ) → line_by (one_more number make) s ≡ option_map (λ p. (make p.0, p.1)) (upto number line_feed s)
unfolding upto
last make s = rw (one_number make (first_line s)) (at (ltb (length (first_line s)) (length s)) (number (first_line s)))
  where
    at : (t : Bool) (o : Option ℤ) → cond t (followed (drop (suc (length (first_line s))) s) (input (with o (λ z. Good (make z))))) None ≡ option_map (λ p. (make p.0, p.1)) (cond t (followed (drop (suc (length (first_line s))) s) o) None)
    at true None = refl
    at true (Some z) = refl
    at false o = refl

-- ---- a field with more after it, up to the tab: of a line that is read by m, and by k past its first number
module _ (m : List (List ℕ) → Line) (k : ℤ → List (List ℕ) → Line) (is : (f : List ℕ) (fs : List (List ℕ)) → m (f ∷ fs) ≡ with (number f) (λ z. k z fs)) (ends : (z : ℤ) → k z [] ≡ Bad) (s : List ℕ) where
  next_none : upto number tab s ≡ None → None ≡ line_by m s
  next_none g =
      let line = first_line s in
      unread (λ l. m (fields l)) s (λ h. elim (dec_lt (length (first line)) (length line)) [
        | yes l ↦
            (let same = same_first tab line_feed s l in
            rw (more line l) (is (first line) (fields (drop (suc (length (first line))) line)) ∙ rw (same, untold tab s g (omega (arith, ap length same))) refl))
        | no l ↦ rw (only line (omega arith)) (is (first line) [] ∙ with_bad (number (first line)) (λ z. k z []) (λ z e. ends z))
      ])

  module _ (z : ℤ) (r : List ℕ) (g : upto number tab s ≡ Some (z, r)) where
    t : Told tab s z r
    t = told tab s z r g

    more_there : length (first (first_line s)) < length (first_line s)
    more_there = parts tab line_feed s (λ e. omega arith) t.ends (number_free line_feed (first s) z (omega arith) t.is)

    same : first (first_line s) ≡ first s
    same = same_first tab line_feed s more_there

    past : k z (fields (first_line (drop (suc (length (first s))) s))) ≡ m (fields (first_line s))
    past =
        let from : suc (length (first (first_line s))) ≡ suc (length (first s)) = omega (arith, ap length same) in
        sym (rw (more (first_line s) more_there, from, ← (until_drop line_feed (suc (length (first s))) s (omega (arith, more_there, ap length same))))
        (is (first (first_line s)) (fields (first_line (drop (suc (length (first s))) s))) ∙ rw (same, t.is) refl))

    next_some : line_by m s ≡ line_by (k z) r
    next_some =
        sym (ap (line_by (k z)) t.rest
        ∙ later (λ l. k z (fields l)) (λ l. m (fields l)) (suc (length (first s))) s (omega (arith, more_there, ap length same)) past)

  pub next : line_by m s ≡ option_and_then (λ p. line_by (k p.0) p.1) (upto number tab s)
  next = at (upto number tab s) refl
    where
      at : (o : Option (ℤ × List ℕ)) → upto number tab s ≡ o → line_by m s ≡ option_and_then (λ p. line_by (k p.0) p.1) o
      at None e = sym (next_none e)
      at (Some p) e = next_some p.0 p.1 e

-- ---- the three kinds

pub sample_is : (s : List ℕ) → line_by (one_more number Sample) s ≡ option_map (λ p. (Sample p.0, p.1)) (upto number line_feed s)
sample_is s = last Sample s

pub motion_is : (s : List ℕ) → line_by (two_more number number Move) s ≡ option_and_then (λ p. line_by (one_more number (Move p.0)) p.1) (upto number tab s)
motion_is s = next (two_more number number Move) (λ z. one_more number (Move z)) (λ f fs. refl) (λ z. refl) s

pub dy_is : (x : ℤ) (s : List ℕ) → line_by (one_more number (Move x)) s ≡ option_map (λ p. (Move x p.0, p.1)) (upto number line_feed s)
dy_is x s = last (Move x) s

pub stick_is : (s : List ℕ) → line_by (three_more number number number Joystick) s ≡ option_and_then (λ p. line_by (two_more number number (Joystick p.0)) p.1) (upto number tab s)
stick_is s = next (three_more number number number Joystick) (λ z. two_more number number (Joystick z)) (λ f fs. refl) (λ z. refl) s

pub position_is : (x : ℤ) (s : List ℕ) → line_by (two_more number number (Joystick x)) s ≡ option_and_then (λ p. line_by (one_more number (Joystick x p.0)) p.1) (upto number tab s)
position_is x s = next (two_more number number (Joystick x)) (λ z. one_more number (Joystick x z)) (λ f fs. refl) (λ z. refl) s

pub trigger_is : (x y : ℤ) (s : List ℕ) → line_by (one_more number (Joystick x y)) s ≡ option_map (λ p. (Joystick x y p.0, p.1)) (upto number line_feed s)
trigger_is x y s = last (Joystick x y) s
