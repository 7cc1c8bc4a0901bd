-- What a line gives, by what the code finds in it.
-- Assumes nothing.
use Prim.Native.Nat.{ℕ, ◌≤◌, ◌<◌}
use native.Mathlib.Omega.{arith}
use mathlib.Core.Path.{◌≡◌, refl, sym, ap, subst}
use mathlib.Core.Bool.{true, false, cond}
use mathlib.Core.List.{List, [], ◌∷◌}
use Rattle.std.specs.Prelude.{Option, Some, None}
use Rattle.std.specs.Str.{bytes_eq}
use lib.ListN.{length}
use borrow.Author.Tests.{lt-ltb, le-ltb}
use Rattle.output.specs.Writing.{Wrote}
use Rattle.output.proofs.Writing.{over_nil}
use Rattle.text.specs.Fronts.{first}
use Rattle.text.specs.Output.{text}
use Rattle.listing.specs.Input.{Given, gives, bad, is_hex, spelt, spelt_bytes, field_bytes, is_number, has_tab, behind, answer_bytes, fields_bytes, longest, line_of, ReadsBytes}

-- what is read where it is known what is given
module _ {g : Given} {l : List ℕ} where
  pub read_none : g ≡ gives [] → ReadsBytes g (Some 0) l l
  read_none e = subst (λ (h : Given). ReadsBytes h (Some 0) l l) (sym e) (record { result = refl; buffer = over_nil l })

  pub read_bad : g ≡ bad → ReadsBytes g None l l
  read_bad e = subst (λ (h : Given). ReadsBytes h None l l) (sym e) (record { result = refl; buffer = over_nil l })

pub read_as : {g h : Given} {r : Option ℕ} {l m : List ℕ} → g ≡ h → ReadsBytes h r l m → ReadsBytes g r l m
read_as {r = r} {l = l} {m = m} e k = subst (λ (x : Given). ReadsBytes x r l m) (sym e) k

-- the bytes that were spelt
pub read_spelt : (f : List ℕ) {g : Given} {n : ℕ} {l m : List ℕ} → g ≡ gives (spelt f) → Wrote (spelt f) n l m → ReadsBytes g (Some n) l m
read_spelt f {n = n} {l = l} {m = m} e w = read_as e (record { result = ap Some w.count; buffer = w.buffer })

-- ---- a field

module _ (f : List ℕ) where
  pub field_minus : bytes_eq f (text "-") ≡ true → field_bytes f ≡ gives []
  unfolding field_bytes
  field_minus e = rw e

  pub field_empty : bytes_eq f (text "-") ≡ false → length f ≡ 0 → field_bytes f ≡ bad
  unfolding field_bytes
  field_empty e z = rw e (at f z)
    where
      at : (f : List ℕ) → length f ≡ 0 → spelt_bytes f ≡ bad
      at [] z = refl
      at (a ∷ l) z = absurd (omega arith)

  by_digits : bytes_eq f (text "-") ≡ false → (length f ≡ 0 → ⊥) → field_bytes f ≡ cond (is_hex f) (gives (spelt f)) bad
  unfolding field_bytes
  by_digits e n = rw e (at f n)
    where
      at : (f : List ℕ) → (length f ≡ 0 → ⊥) → spelt_bytes f ≡ cond (is_hex f) (gives (spelt f)) bad
      at [] n = absurd (n refl)
      at (a ∷ l) n = refl

  pub field_hex : bytes_eq f (text "-") ≡ false → (length f ≡ 0 → ⊥) → is_hex f ≡ true → field_bytes f ≡ gives (spelt f)
  field_hex e n h = rw (by_digits e n, h)

  pub field_bad : bytes_eq f (text "-") ≡ false → (length f ≡ 0 → ⊥) → is_hex f ≡ false → field_bytes f ≡ bad
  field_bad e n h = rw (by_digits e n, h)

-- ---- an answer, and a whole line

module _ (r : List ℕ) where
  pub answer_short : has_tab r ≡ false → answer_bytes r ≡ bad
  unfolding answer_bytes
  answer_short t = rw t

  pub answer_bad : has_tab r ≡ true → is_number (first r) ≡ false → answer_bytes r ≡ bad
  unfolding answer_bytes
  answer_bad t n = rw (t, n)

  pub answer_number : has_tab r ≡ true → is_number (first r) ≡ true → answer_bytes r ≡ field_bytes (behind r)
  unfolding answer_bytes
  answer_number t n = rw (t, n)

module _ (l : List ℕ) where
  pub line_long : longest < length l → line_of l ≡ bad
  unfolding line_of
  line_long h = rw (lt-ltb longest (length l) h)

  module _ (h : length l ≤ longest) where
    pub line_header : bytes_eq l (text "line\tanswer\tbytes") ≡ true → line_of l ≡ gives []
    unfolding line_of
    line_header e = rw (le-ltb longest (length l) h, e)

    module _ (e : bytes_eq l (text "line\tanswer\tbytes") ≡ false) where
      pub line_field : has_tab l ≡ false → line_of l ≡ field_bytes l
      unfolding line_of fields_bytes
      line_field t = rw (le-ltb longest (length l) h, e, t)

      pub line_bad : has_tab l ≡ true → is_number (first l) ≡ false → line_of l ≡ bad
      unfolding line_of fields_bytes
      line_bad t n = rw (le-ltb longest (length l) h, e, t, n)

      pub line_answer : has_tab l ≡ true → is_number (first l) ≡ true → line_of l ≡ answer_bytes (behind l)
      unfolding line_of fields_bytes
      line_answer t n = rw (le-ltb longest (length l) h, e, t, n)
