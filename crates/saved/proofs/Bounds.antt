-- What callers of a write or a read need of its result: its count fits the buffer, and its number is one digit.
-- Assumes nothing.
use Prim.Native.Nat.{ℕ, ◌≤◌}
use native.Mathlib.Omega.{arith}
use mathlib.Core.Path.{◌≡◌, refl}
use mathlib.Core.Bool.{Bool, true, false, cond}
use mathlib.Core.List.{List}
use Rattle.std.specs.Prelude.{Result, Ok, Err}
use Rattle.std.specs.Result.{result_unwrap_or}
use lib.Dec.{leb}
use lib.ListN.{length}
use borrow.Author.Tests.{leb-true}
use Rattle.saved.specs.declared.BufferShort.{BufferShort}
use Rattle.saved.specs.declared.NoState.{NoState}
use Rattle.saved.specs.Answers.{too_short, save_number, load_number, SavedAs}

pub count_most : {line before : List ℕ} {r : Result ℕ BufferShort} {after : List ℕ} → SavedAs line before r after → result_unwrap_or r 0 ≤ length before
count_most {line} {before} {r} w = go (leb (length line) (length before)) refl w.result
  where
    go : (t : Bool) → leb (length line) (length before) ≡ t → r ≡ cond t (Ok (length line)) (Err too_short) → result_unwrap_or r 0 ≤ length before
    go true e p = rw p (leb-true (length line) (length before) e)
    go false e p = rw p (omega arith)

pub save_small : (r : Result ℕ BufferShort) → save_number r ≤ 9
save_small (Ok n) = omega arith
save_small (Err e) = omega arith

pub load_small : (r : Result (Unit {0}) NoState) → load_number r ≤ 9
load_small (Ok u) = omega arith
load_small (Err e) = omega arith
