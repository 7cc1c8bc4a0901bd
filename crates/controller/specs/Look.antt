-- A7: "Split the interrogation into a look, which writes the report's six bytes into a lent buffer and changes no state, and a clearing, which only empties
-- the latches." Both are of any value of the state: paused or not, the mouse on or off, whatever port 0 is, monitoring or not. That 0x0D is one after the
-- other is `commanded` of `mouse`, Commands; the laws of all three are in `demands`, Look.
use Rattle.std.specs.Prelude.{ℕ, ◌≡◌, Bool, cond, not, List, [], ltb, length, Result, Ok, Err}
use Rattle.output.specs.Packets.{bytes_of}
use Rattle.output.specs.Writing.{over}
use Rattle.protocol.specs.Settings.{is_absolute}
use Rattle.mouse.specs.declared.Mouse.{Mouse}
use Rattle.mouse.specs.Reports.{report}
use Rattle.mouse.specs.Reports as mouse
use Rattle.controller.specs.declared.State.{State}
use Rattle.controller.specs.declared.look.LookRefusal.{LookRefusal}
use Rattle.controller.specs.declared.look.LookRefusal.TheVariants.{NotAbsolute, BufferShort}

-- "the report's six bytes", of the mouse as it is
abbrev pub report_bytes : State → List ℕ
report_bytes s = bytes_of (report s.mouse)

-- 7: "exactly when the panel looks outside absolute mode"
unfoldable pub not_absolute : State → Bool
not_absolute s = not (is_absolute s.settings.mouse)

-- 4: the report has more bytes than the lent buffer
unfoldable pub too_short : State → ℕ → Bool
too_short s lent = ltb lent (length (report_bytes s))

-- "7, ... tested before 4"; a look that meets neither is shown, and the report's bytes are counted
unfoldable pub look_verdict : State → ℕ → Result ℕ LookRefusal
look_verdict s lent = cond (not_absolute s) (Err NotAbsolute) (cond (too_short s lent) (Err BufferShort) (Ok (length (report_bytes s))))

-- the request's numbers: of a look that shows so many bytes, and of each refusal
abbrev pub look_number : Result ℕ LookRefusal → ℕ
look_number (Ok count) = 0
look_number (Err NotAbsolute) = 7
look_number (Err BufferShort) = 4

-- What a look came to: the answer's number and the bytes written. There is no state in it: a look "changes no state".
pub record Sight : Type 0 where
  pub answer : ℕ
  pub written : List ℕ

-- For each case of the answer, its number and bytes. "Every number but 0, later ones too, reports 0 bytes written and leaves state and buffer the same."
unfoldable pub sight : Result ℕ LookRefusal → State → Sight
sight (Ok count) s = record { answer = look_number (Ok count); written = report_bytes s }
sight (Err NotAbsolute) s = record { answer = look_number (Err NotAbsolute); written = [] }
sight (Err BufferShort) s = record { answer = look_number (Err BufferShort); written = [] }

-- The look: a state, and the length of the lent buffer.
unfoldable pub look : State → ℕ → Sight
look s lent = sight (look_verdict s lent) s

-- The promise of the look in code: the answer with its count and the whole buffer are those of the definition.
pub record LookedAs (s : State) (before : List ℕ) (r : Result ℕ LookRefusal) (after : List ℕ) : Type 0 where
  pub answer : r ≡ look_verdict s (length before)
  pub buffer : after ≡ over (look s (length before)).written before

-- a state with another mouse; nothing else of it changes
abbrev pub mouse_changed : Mouse → State → State
mouse_changed m s = record {
  settings = s.settings;
  command = s.command;
  paused = s.paused;
  queue = s.queue;
  mouse = m;
  sticks = s.sticks;
  clock = s.clock;
  keys = s.keys;
}

-- "a clearing, which only empties the latches"
unfoldable pub cleared : State → State
cleared s = mouse_changed (mouse.cleared s.mouse) s
