-- How long good lines are: a text whose length fits no good line of its kind is bad, and so is every line past the longest.
-- Assumes nothing.
use Prim.Native.Char.{code}
use Prim.Native.Nat.{ℕ, suc, ◌+◌, ◌≤◌, ◌<◌}
use native.Mathlib.Omega.{arith}
use mathlib.Core.Path.{◌≡◌, refl}
use mathlib.Core.Bool.{Bool, true, false, cond, ◌&&◌}
use mathlib.Core.List.{List, [], ◌∷◌}
use Rattle.std.specs.Prelude.{Option, None, Some, option_map}
use lib.Dec.{eqb, leb}
use lib.ListN.{length}
use lib.IntN.{ℤ, pos, neg_ℤ}
use borrow.Author.Tests.{leb-true}
use Rattle.mouse.specs.declared.Side.TheVariants.{Left, Right}
use Rattle.controller.specs.declared.Input.{Input}
use Rattle.controller.specs.declared.Input.TheVariants.{Byte, Key, Button, Move, Joystick, Sample, Tick}
use Rattle.text.specs.Line.{Line, Bad, tab, lengthened, fields, hex, digits, value, natural, minus, number, level, with, none_more, one_more, two_more, three_more, kind, meaning, line_of, longest}

-- ---- fields and the tabs between them

-- the bytes of some fields, and a tab after each
width : List (List ℕ) → ℕ
width [] = 0
width (f ∷ fs) = suc (length f + width fs)

lengthened_width : (b n : ℕ) (fs : List (List ℕ)) → width fs ≡ suc n → width (lengthened b fs) ≡ suc (suc n)
unfolding width
lengthened_width b n [] e = absurd (omega arith)
lengthened_width b n (f ∷ fs) e = omega arith

fields_width : (l : List ℕ) → width (fields l) ≡ suc (length l)
unfolding fields width
fields_width [] = refl
fields_width (b ∷ l) = at (eqb b tab) (fields_width l)
  where
    at : (t : Bool) → width (fields l) ≡ suc (length l) → width (cond t ([] ∷ fields l) (lengthened b (fields l))) ≡ suc (suc (length l))
    at true e = omega arith
    at false e = lengthened_width b (length l) (fields l) e

-- ---- what can be read is so long

record Sized {A : Type 0} (a : List ℕ → Option A) (least most : ℕ) : Type 0 where
  bounds : (f : List ℕ) (x : A) → a f ≡ Some x → (least ≤ length f) × (length f ≤ most)

never : {A : Type 0} {P : Type 0} (x : A) → ◌≡◌ {A = Option A} None (Some x) → P
never x e = absurd cc

hex_sized : Sized hex 2 2
unfolding hex
hex_sized = record { bounds = at }
  where
    at : (f : List ℕ) (x : ℕ) → hex f ≡ Some x → (2 ≤ length f) × (length f ≤ 2)
    at [] x e = never x e
    at (a ∷ []) x e = never x e
    at (a ∷ b ∷ []) x e = (omega arith, omega arith)
    at (a ∷ b ∷ c ∷ f) x e = never x e

level_sized : Sized level 1 1
unfolding level
level_sized = record { bounds = at }
  where
    at : (f : List ℕ) (x : Bool) → level f ≡ Some x → (1 ≤ length f) × (length f ≤ 1)
    at [] x e = never x e
    at (b ∷ []) x e = (omega arith, omega arith)
    at (b ∷ c ∷ f) x e = never x e

-- digits that are read
pub record DigitsRead (f : List ℕ) (v : ℕ) : Type 0 where
  pub some_bytes : 1 ≤ length f
  pub few : length f ≤ 4
  pub all : digits f ≡ true
  pub worth : value 0 f ≡ v

pub natural_read : (f : List ℕ) (v : ℕ) → natural f ≡ Some v → DigitsRead f v
unfolding natural
natural_read f v = at (leb 1 (length f)) (leb (length f) 4) (digits f) (λ e. e) (λ e. e) (λ e. e)
  where
    at : (s t d : Bool) → (s ≡ true → leb 1 (length f) ≡ true) → (t ≡ true → leb (length f) 4 ≡ true) → (d ≡ true → digits f ≡ true) → cond (s && t && d) (Some (value 0 f)) None ≡ Some v → DigitsRead f v
    at false t d p q r e = never v e
    at true false d p q r e = never v e
    at true true false p q r e = never v e
    at true true true p q r e = record {
      some_bytes = leb-true 1 (length f) (p refl);
      few = leb-true (length f) 4 (q refl);
      all = r refl;
      worth = cc;
    }

-- what was made of something read: that was read, and it is made of it
pub mapped : {A B : Type 0} {P : Type 0} (g : A → B) (o : Option A) (y : B) → option_map g o ≡ Some y → ((x : A) → o ≡ Some x → g x ≡ y → P) → P
mapped g None y e p = never y e
mapped g (Some x) y e p = p x refl (cc)

number_sized : Sized number 1 5
unfolding number
number_sized = record { bounds = at }
  where
    tested : (b : ℕ) (f : List ℕ) (z : ℤ) (t : Bool) → cond t (option_map (λ n. neg_ℤ (pos n)) (natural f)) (option_map pos (natural (b ∷ f))) ≡ Some z → (1 ≤ suc (length f)) × (suc (length f) ≤ 5)
    tested b f z true e = mapped (λ n. neg_ℤ (pos n)) (natural f) z e (λ v r e. let h = natural_read f v r in (omega arith, omega (arith, h.few)))
    tested b f z false e = mapped pos (natural (b ∷ f)) z e (λ v r e. let h = natural_read (b ∷ f) v r in (omega arith, omega (arith, h.few)))

    at : (f : List ℕ) (z : ℤ) → number f ≡ Some z → (1 ≤ length f) × (length f ≤ 5)
    at [] z e = never z e
    at (b ∷ f) z e = tested b f z (eqb b minus) e

-- ---- a length that does not fit makes a line bad

pub with_bad : {A : Type 0} (o : Option A) (make : A → Line) → ((x : A) → o ≡ Some x → make x ≡ Bad) → with o make ≡ Bad
with_bad None make h = refl
with_bad (Some x) make h = h x refl

none_sized : (input : Input) (fs : List (List ℕ)) → (width fs ≡ 0 → ⊥) → none_more input fs ≡ Bad
unfolding width
none_sized input [] h = absurd (h refl)
none_sized input (f ∷ fs) h = refl

module _ {A : Type 0} {a : List ℕ → Option A} {la ma : ℕ} (sa : Sized a la ma) where
  one_sized : (make : A → Input) (fs : List (List ℕ)) → (la + 1 ≤ width fs → width fs ≤ ma + 1 → ⊥) → one_more a make fs ≡ Bad
  unfolding width
  one_sized make [] h = refl
  one_sized make (f ∷ fs) h =
      with_bad (a f) (λ x. none_more (make x) fs) (λ x e. none_sized (make x) fs (λ w. let s = sa.bounds f x e in h (omega arith) (omega arith)))

module _ {A B : Type 0} {a : List ℕ → Option A} {b : List ℕ → Option B} {la ma lb mb : ℕ} (sa : Sized a la ma) (sb : Sized b lb mb) where
  two_sized : (make : A → B → Input) (fs : List (List ℕ)) → (la + lb + 2 ≤ width fs → width fs ≤ ma + mb + 2 → ⊥) → two_more a b make fs ≡ Bad
  unfolding width
  two_sized make [] h = refl
  two_sized make (f ∷ fs) h =
      with_bad (a f) (λ x. one_more b (make x) fs) (λ x e. one_sized sb (make x) fs (λ w v. let s = sa.bounds f x e in h (omega arith) (omega arith)))

module _ {A B C : Type 0} {a : List ℕ → Option A} {b : List ℕ → Option B} {c : List ℕ → Option C} {la ma lb mb lc mc : ℕ} (sa : Sized a la ma) (sb : Sized b lb mb) (sc : Sized c lc mc) where
  three_sized : (make : A → B → C → Input) (fs : List (List ℕ)) → (la + lb + lc + 3 ≤ width fs → width fs ≤ ma + mb + mc + 3 → ⊥) → three_more a b c make fs ≡ Bad
  unfolding width
  three_sized make [] h = refl
  three_sized make (f ∷ fs) h =
      with_bad (a f) (λ x. two_more b c (make x) fs) (λ x e. two_sized sb sc (make x) fs (λ w v. let s = sa.bounds f x e in h (omega arith) (omega arith)))

pub hex_length : (make : ℕ → Input) (l : List ℕ) → (length l ≡ 2 → ⊥) → one_more hex make (fields l) ≡ Bad
hex_length make l h = one_sized hex_sized make (fields l) (λ a b. let w = fields_width l in h (omega arith))

pub level_length : (make : Bool → Input) (l : List ℕ) → (length l ≡ 1 → ⊥) → one_more level make (fields l) ≡ Bad
level_length make l h = one_sized level_sized make (fields l) (λ a b. let w = fields_width l in h (omega arith))

pub hex_level_length : (make : ℕ → Bool → Input) (l : List ℕ) → (length l ≡ 4 → ⊥) → two_more hex level make (fields l) ≡ Bad
hex_level_length make l h = two_sized hex_sized level_sized make (fields l) (λ a b. let w = fields_width l in h (omega arith))

-- ---- no good line is longer than the longest

pub either : (t : Bool) {a b : Line} → a ≡ Bad → b ≡ Bad → cond t a b ≡ Bad
either true p q = p
either false p q = q

kind_long : (b : ℕ) (fs : List (List ℕ)) → 18 < width fs → kind b fs ≡ Bad
unfolding kind
kind_long b fs h =
    either (eqb b (code "B")) (one_sized hex_sized Byte fs (λ v w. omega arith))
    (either (eqb b (code "K")) (two_sized hex_sized level_sized Key fs (λ v w. omega arith))
    (either (eqb b (code "L")) (one_sized level_sized (Button Left) fs (λ v w. omega arith))
    (either (eqb b (code "R")) (one_sized level_sized (Button Right) fs (λ v w. omega arith))
    (either (eqb b (code "M")) (two_sized number_sized number_sized Move fs (λ v w. omega arith))
    (either (eqb b (code "S")) (three_sized number_sized number_sized number_sized Joystick fs (λ v w. omega arith))
    (either (eqb b (code "F")) (one_sized number_sized Sample fs (λ v w. omega arith))
    (either (eqb b (code "T")) (none_sized Tick fs (λ w. omega arith)) refl)))))))

meaning_long : (fs : List (List ℕ)) → suc longest < width fs → meaning fs ≡ Bad
unfolding meaning width
meaning_long [] h = refl
meaning_long ([] ∷ fs) h = refl
meaning_long ((b ∷ []) ∷ fs) h = kind_long b fs (omega arith)
meaning_long ((b ∷ c ∷ f) ∷ fs) h = refl

pub longer : (l : List ℕ) → longest < length l → line_of l ≡ Bad
unfolding line_of
longer l h = meaning_long (fields l) (let w = fields_width l in omega arith)
