-- Document 02, A4, "Right button with the mouse off": "a game that switches the mouse off lost its fire button". Its sentences about the
-- buttons and about 0x12, each as a statement about one step from any state, with a buffer of any length. The amended live rule is `button` of
-- `controller`, Events; the restore order, `in_order` of `protocol`, Replies, is as it was.
use Rattle.std.specs.Prelude.{ℕ, ◌≡◌, Bool, true, false, cond, not, [], ◌++◌, eqb, pos}
use Rattle.output.specs.Packets.{bit, bytes}
use Rattle.protocol.specs.declared.Role.TheVariants.{ForMouse, ForJoystick}
use Rattle.protocol.specs.declared.OtherCommand.TheVariants.{MouseOff}
use Rattle.protocol.specs.declared.Meaning.TheVariants.{OfOther}
use Rattle.protocol.specs.Settings.{monitors}
use Rattle.mouse.specs.declared.Side.{Side}
use Rattle.mouse.specs.declared.Side.TheVariants.{Left, Right}
use Rattle.mouse.specs.Mouse.{live}
use Rattle.mouse.specs.Buttons.{with_level}
use Rattle.controller.specs.declared.State.{State}
use Rattle.controller.specs.declared.Input.{Input}
use Rattle.controller.specs.declared.Input.TheVariants.{Byte, Button, Joystick}
use Rattle.controller.specs.State.{IsState, contents}
use Rattle.controller.specs.Host.{resumed_packets}
use Rattle.controller.specs.Step.{Out, step}
use Rattle.controller.specs.Sequences.{executed_by}

-- the case of the request
pub record GivesFire (s : State) (down : Bool) : Type 0 where
  -- "With the mouse off,"
  pub off : s.settings.mouseon ≡ false
  -- "port 0 a mouse"
  pub port_0 : s.settings.port0 ≡ ForMouse
  -- "and no monitoring mode,"
  pub no_monitoring : monitors s.settings.stick ≡ false
  -- "a changed right button"
  pub changed : s.mouse.right ≡ not down

-- "a stick 1 event with the position held and that trigger"
abbrev pub stick_1 : State → Bool → Input
stick_1 s down = Joystick (pos 1) (pos s.sticks.one.position) (pos (bit down))

-- "changes its level": nothing else of the state
abbrev pub level_changed : Side → Bool → State → State
level_changed side down s = record {
  settings = s.settings;
  command = s.command;
  paused = s.paused;
  queue = s.queue;
  mouse = with_level side down s.mouse;
  sticks = s.sticks;
  clock = s.clock;
  keys = s.keys;
}

-- the level changes where the answer is 0: "Every number but 0 ... leaves state and buffer the same."
abbrev pub level_after : Bool → ℕ → State → State
level_after down answer s = cond (eqb answer 0) (level_changed Right down s) s

-- what a step came to, with the level changed besides
abbrev pub and_level : Bool → Out → Out
and_level down o = record { answer = o.answer; written = o.written; packets = o.packets; dropped = o.dropped; state = level_after down o.answer o.state }

-- In that case, the button "changes its level and else is handled exactly as" that stick event; "Refusals: 2 and 4 as for a stick event."
abbrev pub RightButtonFires : Type 0
RightButtonFires = (s : State) (down : Bool) (lent : ℕ) → IsState s → GivesFire s down →
    step s (Button Right down) lent ≡ and_level down (step s (stick_1 s down) lent)

-- taken: the level changes, and that is all
abbrev pub level_alone : Side → Bool → State → Out
level_alone side down s = record { answer = 0; written = []; packets = []; dropped = []; state = level_changed side down s }

-- where no fire is given
pub data NoFire (s : State) (down : Bool) : Side → Type 0 where
  -- "The left button stays silent."
  left : NoFire s down Left
  -- and so does the right one where a part of the case is missing
  on : s.settings.mouseon ≡ true → NoFire s down Right
  joystick : s.settings.port0 ≡ ForJoystick → NoFire s down Right
  monitoring : monitors s.settings.stick ≡ true → NoFire s down Right
  same : s.mouse.right ≡ down → NoFire s down Right

-- There document 01's rule stays: not live, "buttons only change their level".
abbrev pub OthersStaySilent : Type 0
OthersStaySilent = (s : State) (side : Side) (down : Bool) (lent : ℕ) → IsState s → live s.settings ≡ false → NoFire s down side →
    step s (Button side down) lent ≡ level_alone side down s

-- what switching the mouse off leaves as it was
pub record SwitchLeaves (s t : State) : Type 0 where
  pub sticks : t.sticks ≡ s.sticks
  pub right : t.mouse.right ≡ s.mouse.right
  pub left : t.mouse.left ≡ s.mouse.left

-- what the step that executes 0x12 comes to, from the state s
pub record SwitchedOff (s : State) (o : Out) : Type 0 where
  -- not paused it is taken, and writes nothing
  pub silent : s.paused ≡ false → (o.answer ≡ 0) × (o.written ≡ [])
  -- paused, "a command that is executed ... first resumes": nothing but that falls due
  pub resumes : o.answer ≡ 0 → o.packets ≡ resumed_packets s
  -- and nothing is written but what waits and then what the resume sends
  pub writes : o.answer ≡ 0 → o.written ≡ contents s.queue ++ bytes (resumed_packets s)
  -- taken or not, no level and no trigger changes
  pub leaves : SwitchLeaves s o.state

-- "Switching the mouse off sends nothing.": whichever buttons are down
abbrev pub SwitchingOffSendsNothing : Type 0
SwitchingOffSendsNothing = (s : State) (b lent : ℕ) → IsState s → executed_by s (Byte b) ≡ OfOther MouseOff → SwitchedOff s (step s (Byte b) lent)
