-- What is promised of saved lines. Each is proved in proofs/Promises.
use Rattle.std.specs.Prelude.{ℕ, ◌≤◌, ◌≡◌, List, length, take, Some, Ok, Err}
use Rattle.controller.specs.declared.State.{State}
use Rattle.controller.specs.State.{IsState, power_up, queue_room}
use Rattle.saved.specs.Line.{line_of, InTypes}
use Rattle.saved.specs.Load.{load}
use Rattle.saved.specs.Answers.{no_state, SavedAs, load_number, loaded, line_room}

-- "such state": one whose fields are in their ranges, with at most `room` bytes in its queue
pub record Such (room : ℕ) (s : State) : Type 0 where
  pub state : IsState s
  pub types : InTypes s
  pub queue : s.queue.len ≤ room

-- "Writing and reading undo each other": what is written is read as the state
abbrev pub ReadsBack : Type 0
ReadsBack = (room : ℕ) (s : State) → Such room s → load room (line_of s) ≡ Some s

-- and what is read is such a state, whose line is the one that was read
abbrev pub WritesBack : Type 0
WritesBack = (room : ℕ) (l : List ℕ) (s : State) → load room l ≡ Some s → Such room s × (line_of s ≡ l)

-- no such state writes the line
abbrev pub NoneWrites : ℕ → List ℕ → Type 0
NoneWrites room l = (s : State) → Such room s → line_of s ≡ l → ⊥

-- "Refusals: 5, given exactly when the line is one that no such state writes, and power-up is handed back."
pub record RefusedExactly (room : ℕ) (l : List ℕ) : Type 0 where
  pub only_then : load_number (loaded (load room l)).answer ≡ 5 → NoneWrites room l
  pub always_then : NoneWrites room l → loaded (load room l) ≡ record { state = power_up; answer = Err no_state }

-- of every string of bytes
abbrev pub Refused : Type 0
Refused = (room : ℕ) (l : List ℕ) → RefusedExactly room l

-- each state within the ranges has one line: `line_of` is a function, so that it has no second; and no two states have the same
abbrev pub OneState : Type 0
OneState = (s t : State) → Such queue_room s → Such queue_room t → line_of s ≡ line_of t → s ≡ t

-- a buffer of `line_room` bytes has room for every line
abbrev pub RoomForAll : Type 0
RoomForAll = (s : State) → IsState s → length (line_of s) ≤ line_room

-- the same over a call: what a write that was taken left in the buffer is read as the state
abbrev pub CallsUndo : Type 0
CallsUndo =
    (s : State) (before after : List ℕ) (n : ℕ) →
    Such queue_room s → SavedAs (line_of s) before (Ok n) after →
    load queue_room (take n after) ≡ Some s
