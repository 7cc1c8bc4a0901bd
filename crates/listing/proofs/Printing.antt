-- How a row is written: its parts, each stage behind the one before.
-- Assumes nothing.
use Prim.Native.Char.{code}
use Prim.Native.Nat.{ℕ, ◌+◌, ◌*◌, ◌≤◌}
use native.Mathlib.Omega.{arith}
use mathlib.Core.Path.{◌≡◌, refl}
use mathlib.Core.List.{List, [], ◌∷◌, ◌++◌}
use lib.ListN.{length, set, length-append}
use Rattle.output.specs.Writing.{Wrote}
use Rattle.output.proofs.Writing.{none, stored, stored_after}
use Rattle.text.specs.Line.{tab}
use Rattle.text.specs.Output.{text, decimal, shown}
use Rattle.text.proofs.Shown.{shown_one, shown_two}
use Rattle.listing.specs.Rows.{behind_name, row, bad_row, left_row}

-- how long the bytes of a row can be: two digits for each, or the minus
pub shown_room : (bytes : List ℕ) → length (shown bytes) ≤ 2 * length bytes + 1
shown_room [] = omega (arith, shown_one [] refl)
shown_room (b ∷ bytes) = omega (arith, shown_two (b ∷ bytes) (λ e. omega arith))

-- what stands behind a name: the tab comes first, the line feed last
pub tab_stored : (l : List ℕ) → 1 ≤ length l → Wrote (tab ∷ []) 1 l (set l 0 tab)
tab_stored l h = stored tab l h

pub behind_end : (bytes : List ℕ) {l X : List ℕ} {n : ℕ} → Wrote ((tab ∷ []) ++ shown bytes) n l X → n + 1 ≤ length l → Wrote (behind_name bytes) (n + 1) l (set X n (code "\n"))
behind_end bytes w h = stored_after (code "\n") w h

pub behind_room : (bytes : List ℕ) → length (behind_name bytes) ≤ 2 * length bytes + 3
behind_room bytes = simp length-append (omega (arith, shown_room bytes))

-- the row of a bad line: behind its number the tab, the minus and the line feed
pub bad_end : (number : ℕ) {l X : List ℕ} {n : ℕ} → Wrote ((text "bad line " ++ decimal number) ++ (tab ∷ code "-" ∷ code "\n" ∷ [])) n l X → Wrote (bad_row number) n l X
unfolding bad_row row shown
bad_end number w = w

-- the row of the bytes that are left, if there are any
pub left_none : (bytes l : List ℕ) → length bytes ≡ 0 → Wrote (left_row bytes) 0 l l
unfolding left_row
left_none [] l e = none l
left_none (b ∷ bytes) l e = absurd (omega arith)

pub left_some : (bytes : List ℕ) {l X : List ℕ} {n : ℕ} → (length bytes ≡ 0 → ⊥) → Wrote (row (text "too few") bytes) n l X → Wrote (left_row bytes) n l X
unfolding left_row
left_some [] e w = absurd (e refl)
left_some (b ∷ bytes) e w = w
