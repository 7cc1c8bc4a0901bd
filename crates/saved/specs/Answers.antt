-- What writing and reading a line hand back, and the numbers of their answers: 0, 4 and 5.
use Rattle.std.specs.Prelude.{ℕ, ◌+◌, ◌*◌, cond, ◌≡◌, List, leb, length, Option, Some, None, Result, Ok, Err}
use Rattle.output.specs.Writing.{over}
use Rattle.controller.specs.declared.State.{State}
use Rattle.controller.specs.State.{power_up, queue_room}
use Rattle.fields.specs.Ranges.{numbered}
use Rattle.saved.specs.declared.BufferShort.{BufferShort}
use Rattle.saved.specs.declared.NoState.{NoState}
use Rattle.saved.specs.declared.Loaded.{Loaded}
use Rattle.saved.specs.Load.{map_width, load, is_minus}

-- a buffer that is too short for the line
abbrev pub too_short : BufferShort
too_short = record {}

-- a line that is no state's
abbrev pub no_state : NoState
no_state = record {}

-- "A buffer that is too short for the line is refused with 4."
abbrev pub save_number : Result ℕ BufferShort → ℕ
save_number (Ok n) = 0
save_number (Err e) = 4

-- "Refusals: 5"
abbrev pub load_number : Result (Unit {0}) NoState → ℕ
load_number (Ok u) = 0
load_number (Err e) = 5

-- the line's length, or 4
abbrev pub saved : List ℕ → List ℕ → Result ℕ BufferShort
saved line before = cond (leb (length line) (length before)) (Ok (length line)) (Err too_short)

-- The promise of a write, over the buffer before and after: the line at its start, the bytes past it stay; or 4, and nothing is written.
pub record SavedAs (line before : List ℕ) (r : Result ℕ BufferShort) (after : List ℕ) : Type 0 where
  pub result : r ≡ saved line before
  pub buffer : after ≡ cond (leb (length line) (length before)) (over line before) before

-- "Refusals: 5, .. and power-up is handed back."
abbrev pub loaded : Option State → Loaded
loaded (Some s) = record { state = s; answer = Ok tt }
loaded None = record { state = power_up; answer = Err no_state }

-- For the program that goes on from a line: a minus stands for power-up, and any other line is read
unfoldable pub begun : List ℕ → Loaded
begun l = cond (is_minus l) (record { state = power_up; answer = Ok tt }) (loaded (load queue_room l))

-- the most bytes of a field and its tab: a number of 16 bits, or a minus and four digits
abbrev pub field_width : ℕ
field_width = 6

-- Room for every line: its numbers, the map, two digits for each byte of a full queue, and the line feed.
abbrev pub line_room : ℕ
line_room = field_width * numbered + map_width + 2 * queue_room + 1
