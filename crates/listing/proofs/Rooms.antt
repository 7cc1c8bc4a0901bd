-- How much room the rows of a line need, and the bytes that are left of it.
-- Assumes nothing.
use Prim.Native.Nat.{ℕ, ◌+◌, ◌*◌, ◌≤◌}
use native.Mathlib.Omega.{arith}
use mathlib.Core.Path.{sym}
use mathlib.Core.List.{List, [], ◌∷◌, ◌++◌}
use lib.ListN.{length, length-append}
use Rattle.text.specs.Output.{text, shown}
use Rattle.text.proofs.Shown.{hex_length}
use Rattle.receiver.specs.declared.Kind.{Kind}
use Rattle.receiver.specs.declared.Kind.TheVariants.{Make, Break, VersionOrBreak, Status, MousePosition, MouseMotion, Time, BothSticks, StickEvent}
use Rattle.receiver.specs.declared.Cut.{Cut}
use Rattle.receiver.specs.declared.Cut.TheVariants.{Whole, TooFew, NoPacket}
use Rattle.receiver.specs.Cut.{cut}
use Rattle.receiver.specs.Pieces.{off, waiting, pieces_from, left_from, pieces, left}
use Rattle.receiver.specs.Promises.{Says, empty, few}
use Rattle.receiver.proofs.Firsts.{is_cut, cut_says, starts_short}
use Rattle.receiver.proofs.Pieces.{left_few}
use Rattle.listing.specs.Rows.{name_of, row, rows}
use Rattle.listing.specs.Listing.{most_left, most_row}
use Rattle.listing.proofs.Turns.{rows_append}

-- the longest name has 19 letters
pub name_most : (k : Kind) → length (name_of k) ≤ 19
name_most Make = omega arith
name_most Break = omega arith
name_most VersionOrBreak = omega arith
name_most Status = omega arith
name_most MousePosition = omega arith
name_most MouseMotion = omega arith
name_most Time = omega arith
name_most BothSticks = omega arith
name_most StickEvent = omega arith

-- the row of one byte or more
row_most : (name bytes : List ℕ) → length name ≤ 19 → 1 ≤ length bytes → length (row name bytes) ≤ most_row * length bytes
unfolding row shown
row_most name [] g h = absurd (omega arith)
row_most name (b ∷ bytes) g h = simp length-append (omega (arith, hex_length (b ∷ bytes)))

-- what comes off, with what then waits
off_most : (c : Cut) (bytes : List ℕ) → 1 ≤ length bytes → length (rows (off c bytes)) + most_row * length (waiting c bytes) ≤ most_row * length bytes
unfolding rows
off_most (Whole k n) bytes h = simp length-append (omega (arith, row_most (name_of k) bytes (name_most k) h))
off_most TooFew bytes h = omega arith
off_most NoPacket bytes h = simp length-append (omega (arith, row_most (text "no packet") bytes (omega arith) h))

from_most : (p l : List ℕ) → length (rows (pieces_from p l)) + most_row * length (left_from p l) ≤ most_row * (length p + length l)
unfolding pieces_from left_from rows
from_most p [] = omega arith
from_most p (b ∷ l) =
    let q = p ++ (b ∷ []) in
    let c = cut q in
    let long = length-append p (b ∷ []) in
    let now = off_most c q (omega arith) in
    let more = from_most (waiting c q) l in
    rw (rows_append (off c q) (pieces_from (waiting c q) l), length-append) (omega arith)

pub rows_most : (l : List ℕ) → length (rows (pieces l)) ≤ most_row * length l
rows_most l = omega (arith, from_most [] l)

-- what is left is too few, and no packet has more than eight bytes
pub few_most : {l : List ℕ} → Says l TooFew → length l ≤ most_left
few_most empty = omega arith
few_most (few {b} f h) = omega (arith, (starts_short b f).1, h)

pub left_most : (l : List ℕ) → length (left l) ≤ most_left
left_most l = few_most (cut_says (left_few [] l (sym (is_cut [] TooFew empty))))
