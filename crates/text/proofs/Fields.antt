-- Laws of fields: the first one, and those after it.
-- Assumes nothing.
use Prim.Native.Nat.{ℕ, suc, ◌-◌, ◌≤◌, ◌<◌}
use native.Mathlib.Decide.{dec_lt}
use native.Mathlib.Omega.{arith}
use mathlib.Core.Path.{◌≡◌, refl, sym, ap, ◌∙◌}
use mathlib.Core.Bool.{Bool, true, false, cond}
use mathlib.Core.List.{List, [], ◌∷◌}
use Rattle.std.specs.Prelude.{Option, None, Some}
use lib.Dec.{eqb}
use lib.ListN.{length, take, drop, length-drop}
use lib.Seq.{take-length}
use Rattle.controller.specs.declared.Input.{Input}
use Rattle.text.specs.Line.{Good, Bad, tab, lengthened, fields, none_more, one_more, two_more}
use Rattle.text.specs.Fronts.{until, first}

pub until_most : (stop : ℕ) (l : List ℕ) → length (until stop l) ≤ length l
unfolding until
until_most stop [] = omega arith
until_most stop (b ∷ l) = at (eqb b stop) (until_most stop l)
  where
    at : (t : Bool) → length (until stop l) ≤ length l → length (cond t [] (b ∷ until stop l)) ≤ suc (length l)
    at true h = omega arith
    at false h = omega arith

-- the first field is all there is
pub only : (l : List ℕ) → length l ≤ length (first l) → fields l ≡ first l ∷ []
unfolding until fields
only [] h = refl
only (b ∷ l) h = at (eqb b tab) h (only l)
  where
    at : (t : Bool) → suc (length l) ≤ length (cond t [] (b ∷ first l)) → (length l ≤ length (first l) → fields l ≡ first l ∷ []) → cond t ([] ∷ fields l) (lengthened b (fields l)) ≡ cond t [] (b ∷ first l) ∷ []
    at true h later = absurd (omega arith)
    at false h later = ap (lengthened b) (later (omega arith))

-- the first field ends at a tab, and the others stand after that
pub more : (l : List ℕ) → length (first l) < length l → fields l ≡ first l ∷ fields (drop (suc (length (first l))) l)
unfolding until fields
more [] h = absurd (omega arith)
more (b ∷ l) h = at (eqb b tab) h (more l)
  where
    at : (t : Bool) → length (cond t [] (b ∷ first l)) < suc (length l) → (length (first l) < length l → fields l ≡ first l ∷ fields (drop (suc (length (first l))) l)) → cond t ([] ∷ fields l) (lengthened b (fields l)) ≡ cond t [] (b ∷ first l) ∷ fields (drop (length (cond t [] (b ∷ first l))) l)
    at true h later = refl
    at false h later = ap (lengthened b) (later (omega arith))

-- what holds whatever follows the first field
pub whatever : (l : List ℕ) (P : List (List ℕ) → Type 0) → ((fs : List (List ℕ)) → P (first l ∷ fs)) → P (fields l)
whatever l P p =
    elim (dec_lt (length (first l)) (length l)) [
      | yes h ↦ rw (more l h) (p (fields (drop (suc (length (first l))) l)))
      | no h ↦ rw (only l (omega arith)) (p [])
    ]

-- no field more, where there is one
pub none_after : (input : Input) (l : List ℕ) → none_more input (fields l) ≡ Bad
none_after input l = whatever l (λ (fs : List (List ℕ)). none_more input fs ≡ Bad) (λ fs. refl)

-- a part of a text from k on, as a call is lent it
pub rest_of : (k : ℕ) (l : List ℕ) → take (length l - k) (drop k l) ≡ drop k l
rest_of k l = ap (λ (n : ℕ). take n (drop k l)) (sym (length-drop k l)) ∙ take-length (drop k l)

-- The first field is read: by what is read, and whether there is more.
module _ {A : Type 0} (a : List ℕ → Option A) (l : List ℕ) where
  module _ (e : a (first l) ≡ None) where
    pub one_unread : (make : A → Input) → one_more a make (fields l) ≡ Bad
    one_unread make = whatever l (λ (fs : List (List ℕ)). one_more a make fs ≡ Bad) (λ fs. rw e refl)

    pub two_unread : {B : Type 0} (b : List ℕ → Option B) (make : A → B → Input) → two_more a b make (fields l) ≡ Bad
    two_unread b make = whatever l (λ (fs : List (List ℕ)). two_more a b make fs ≡ Bad) (λ fs. rw e refl)

  module _ (x : A) (e : a (first l) ≡ Some x) where
    pub one_last : length l ≤ length (first l) → (make : A → Input) → one_more a make (fields l) ≡ Good (make x)
    one_last h make = rw (only l h, e) refl

    pub two_next : length (first l) < length l → {B : Type 0} (b : List ℕ → Option B) (make : A → B → Input) → two_more a b make (fields l) ≡ one_more b (make x) (fields (drop (suc (length (first l))) l))
    two_next h b make = rw (more l h, e) refl
