-- Document 02, A7, "Look without clearing": "every glance at it cleared the latches that the program was waiting for". Its sentences, each as a statement,
-- with a buffer of any length: of the look, the clearing and a button's report of any value of the state, of 0x0D of any state.
-- A look hands no state back: "changes no state" is how it is made.
use Rattle.std.specs.Prelude.{ℕ, ◌/◌, ◌%◌, ◌≤◌, ◌<◌, ◌≡◌, ◌↔◌, Bool, true, false, cond, ◌||◌, List, [], ◌∷◌, ◌++◌, leb, length}
use Rattle.output.specs.Packets.{Packet, scan, motion, position, time, sticks, stick, monitor, samples, status, version}
use Rattle.output.specs.Writing.{over}
use Rattle.protocol.specs.declared.Role.TheVariants.{ForMouse}
use Rattle.protocol.specs.declared.MouseCommand.TheVariants.{ReportPosition}
use Rattle.protocol.specs.declared.Meaning.TheVariants.{OfMouse}
use Rattle.protocol.specs.Settings.{is_absolute}
use Rattle.protocol.specs.Reading.{no_command, Between}
use Rattle.protocol.specs.Commands.{with_role}
use Rattle.mouse.specs.declared.Mouse.{Mouse}
use Rattle.mouse.specs.declared.Side.{Side}
use Rattle.mouse.specs.Mouse.{no_latches}
use Rattle.mouse.specs.Reports.{latch_byte, report}
use Rattle.mouse.specs.Buttons.{with_level, with_latch}
use Rattle.controller.specs.declared.State.{State}
use Rattle.controller.specs.declared.Input.TheVariants.{Byte, Button}
use Rattle.controller.specs.declared.Refusal.TheVariants.{BufferShort}
use Rattle.controller.specs.State.{IsState, contents, queue_of, empty_queue}
use Rattle.controller.specs.Step.{Out, refused, step}
use Rattle.controller.specs.Sequences.{executed_by}
use Rattle.controller.specs.Look.{Sight, look, mouse_changed, cleared}

-- "the report's six bytes", of the mouse m, spelt out here once more: "0xF7, latches ..., X, Y high byte first"
abbrev pub six_bytes : Mouse → List ℕ
six_bytes m = 0xF7 ∷ latch_byte m.latches ∷ m.place.x / 256 ∷ m.place.x % 256 ∷ m.place.y / 256 ∷ m.place.y % 256 ∷ []

-- The look's refusals, as demand 1 has the step's: which number is given, for a value s and a lent buffer of this length.
pub record ByLook (s : State) (lent answer : ℕ) : Type 0 where
  -- "Refusals: 7, exactly when the panel looks outside absolute mode"
  pub seven : (answer ≡ 7) ↔ (is_absolute s.settings.mouse ≡ false)
  -- "tested before 4", which is given exactly when fewer than six bytes are lent in absolute mode
  pub four : (answer ≡ 4) ↔ ((is_absolute s.settings.mouse ≡ true) × (lent < 6))
  -- and the report is shown where neither is given
  pub shown : (answer ≡ 0) ↔ ((is_absolute s.settings.mouse ≡ true) × (6 ≤ lent))
  -- there are no other answers
  pub one_of_three : (answer ≡ 0 → ⊥) → (answer ≡ 4 → ⊥) → answer ≡ 7

-- what a look at the value s says, with a lent buffer of this length
pub record Sees (s : State) (lent : ℕ) (v : Sight) : Type 0 where
  pub by_table : ByLook s lent v.answer
  -- "writes the report's six bytes into a lent buffer"
  pub six : v.answer ≡ 0 → v.written ≡ six_bytes s.mouse
  -- "A refusal writes nothing and changes nothing, neither state nor buffer"
  pub refused : (v.answer ≡ 0 → ⊥) → (v.written ≡ []) × ((buffer : List ℕ) → over v.written buffer ≡ buffer)

-- the look whole: of any value, paused, with the mouse off, port 0 a joystick or a monitoring mode on, and with a buffer of every length, empty too
abbrev pub LookAnswers : Type 0
LookAnswers = (s : State) (lent : ℕ) → Sees s lent (look s lent)

-- what a look shows where six bytes are lent
abbrev pub look_bytes : State → List ℕ
look_bytes s = (look s 6).written

-- what the clearing makes of a value s
pub record Clears (s t : State) : Type 0 where
  -- "a clearing, which only empties the latches": in any mode; nothing else of the mouse changes
  pub latches : t.mouse.latches ≡ no_latches
  pub place : t.mouse.place ≡ s.mouse.place
  pub held : t.mouse.held ≡ s.mouse.held
  pub left : t.mouse.left ≡ s.mouse.left
  pub right : t.mouse.right ≡ s.mouse.right
  -- and nothing else of the state
  pub settings : t.settings ≡ s.settings
  pub command : t.command ≡ s.command
  pub paused : t.paused ≡ s.paused
  pub queue : t.queue ≡ s.queue
  pub sticks : t.sticks ≡ s.sticks
  pub clock : t.clock ≡ s.clock
  pub keys : t.keys ≡ s.keys
  -- a state stays one
  pub is_state : IsState s → IsState t

-- the clearing whole. (The contract of `State::cleared` is that it hands back `cleared s`.)
abbrev pub Clearing : Type 0
Clearing = (s : State) → Clears s (cleared s)

-- "resumes and makes port 0 a mouse as before": the state then. (In absolute mode no held motion is due, so that a resume writes what waits and no more.)
abbrev pub resumed_for_mouse : State → State
resumed_for_mouse s = record {
  settings = with_role ForMouse s.settings;
  command = no_command;
  paused = false;
  queue = empty_queue;
  mouse = s.mouse;
  sticks = s.sticks;
  clock = s.clock;
  keys = s.keys;
}

-- "and then is one after the other": behind what waited come the bytes of a look at that state, and then it is cleared
abbrev pub interrogated : State → Out
interrogated s = record {
  answer = 0;
  written = contents s.queue ++ look_bytes (resumed_for_mouse s);
  packets = report s.mouse ∷ [];
  dropped = [];
  state = cleared (resumed_for_mouse s);
}

-- "Command 0x0D, where executed": so it goes where these bytes fit, and else it is refused with 4, and nothing changes
abbrev pub Interrogation : Type 0
Interrogation = (s : State) (b lent : ℕ) → IsState s → executed_by s (Byte b) ≡ OfMouse ReportPosition →
    step s (Byte b) lent ≡ cond (leb (length (interrogated s).written) lent) (interrogated s) (refused BufferShort s)

-- taken, and nothing falls due or changes
abbrev pub ignored : State → Out
ignored s = record { answer = 0; written = []; packets = []; dropped = []; state = s }

-- "0x0D there stays ignored": outside absolute mode, paused or not, where it is no parameter of another command
abbrev pub InterrogationIgnored : Type 0
InterrogationIgnored = (s : State) (lent : ℕ) → IsState s → Between s.command → is_absolute s.settings.mouse ≡ false →
    step s (Byte 0x0D) lent ≡ ignored s

-- a packet is a report of the absolute mode
abbrev pub is_report : Packet → Bool
is_report (scan code) = false
is_report (motion buttons x y) = false
is_report (position latches x y) = true
is_report (time year month day hour minute second) = false
is_report (sticks b0 b1) = false
is_report (stick which byte) = false
is_report (monitor triggers positions) = false
is_report (samples byte) = false
is_report (status a b c d e f g) = false
is_report version = false

-- there is a report among these packets
abbrev pub has_report : List Packet → Bool
has_report [] = false
has_report (p ∷ ps) = is_report p || has_report ps

-- the state with the button's level and latch, and else as it was
abbrev pub with_button : Side → Bool → State → State
with_button side down s = mouse_changed (with_latch side down (with_level side down s.mouse)) s

-- that state with another queue: the bytes shown, behind what waits while output is paused
abbrev pub reported_state : Side → Bool → State → List ℕ → State
reported_state side down s shown = record {
  settings = s.settings;
  command = s.command;
  paused = s.paused;
  queue = cond s.paused (queue_of (contents s.queue ++ shown)) s.queue;
  mouse = (with_button side down s).mouse;
  sticks = s.sticks;
  clock = s.clock;
  keys = s.keys;
}

-- "a button's report, written or queued, is the look's bytes alone": those of a look at the state with its level and latch; no latch is cleared
abbrev pub button_reported : Side → Bool → State → Out
button_reported side down s = record {
  answer = 0;
  written = cond s.paused [] (look_bytes (with_button side down s));
  packets = report (with_button side down s).mouse ∷ [];
  dropped = [];
  state = reported_state side down s (look_bytes (with_button side down s));
}

-- wherever a report falls due by a button, in whatever state
abbrev pub ButtonReports : Type 0
ButtonReports = (s : State) (side : Side) (down : Bool) (lent : ℕ) →
    has_report (step s (Button side down) lent).packets ≡ true → step s (Button side down) lent ≡ button_reported side down s
