-- The settings: their ranges, power-up, and what their numbers tell (document 01, "What the state holds").
use Rattle.std.specs.Prelude.{ℕ, ◌≤◌, max, Bool, true, false}
use Rattle.motion.specs.declared.Axes.{Axes}
use Rattle.protocol.specs.declared.Repeat.{Repeat}
use Rattle.protocol.specs.declared.MouseMode.{MouseMode}
use Rattle.protocol.specs.declared.MouseMode.TheVariants.{Relative, Absolute, Keycode}
use Rattle.protocol.specs.declared.StickMode.{StickMode}
use Rattle.protocol.specs.declared.StickMode.TheVariants.{Event, Interrogation, Monitoring, Fire, StickKeycode}
use Rattle.protocol.specs.declared.Role.{Role}
use Rattle.protocol.specs.declared.Role.TheVariants.{ForMouse, ForJoystick}
use Rattle.protocol.specs.declared.Settings.{Settings}

-- "a setting's numbers are those that its command's bytes can carry": a byte each for thresholds, scales and deltas
pub record IsAxes (a : Axes ℕ) : Type 0 where
  pub x : a.x ≤ 255
  pub y : a.y ≤ 255

-- the same for "maximum X, Y", of two bytes each
pub record IsPoint (p : Axes ℕ) : Type 0 where
  pub x : p.x ≤ 65535
  pub y : p.y ≤ 65535

-- the same for one axis of "RX RY TX TY VX VY": R, T and V, a byte each
pub record IsRepeat (k : Repeat) : Type 0 where
  pub breakpoint : k.breakpoint ≤ 255
  pub before : k.before ≤ 255
  pub after : k.after ≤ 255

-- "mouse mode (relative; absolute with maximum X, Y; keycode with deltas)": its numbers are in range
abbrev pub IsMouseMode : MouseMode → Type 0
IsMouseMode Relative = Unit {0}
IsMouseMode (Absolute maximum) = IsPoint maximum
IsMouseMode (Keycode delta) = IsAxes delta

-- "joystick mode (event, interrogation, monitoring with rate, fire monitoring, keycode with RX RY TX TY VX VY)": its numbers are in range
abbrev pub IsStickMode : StickMode → Type 0
IsStickMode Event = Unit {0}
IsStickMode Interrogation = Unit {0}
IsStickMode (Monitoring rate) = rate ≤ 255
IsStickMode Fire = Unit {0}
IsStickMode (StickKeycode x y) = IsRepeat x × IsRepeat y

-- "button action 0 to 4"
abbrev pub most_action : ℕ
most_action = 4

-- the ranges of all settings; origin, mouse off or on, joysticks off or on and port 0's role have two values and no number
pub record IsSettings (σ : Settings) : Type 0 where
  pub mouse : IsMouseMode σ.mouse
  pub action : σ.action ≤ most_action
  pub threshold : IsAxes σ.threshold
  pub scale : IsAxes σ.scale
  pub stick : IsStickMode σ.stick

-- "Power-up: relative, action 0, thresholds 1, scales 1, origin top, mouse on, event mode, joysticks on, port 0 mouse"
abbrev pub power_up : Settings
power_up = record {
  mouse = Relative;
  action = 0;
  threshold = record { x = 1; y = 1 };
  scale = record { x = 1; y = 1 };
  bottom = false;
  mouseon = true;
  stick = Event;
  stickson = true;
  port0 = ForMouse;
}

-- "A threshold, scale, delta or rate of 0 is kept as 0 and acts as 1."
abbrev pub acts_as : ℕ → ℕ
acts_as n = max n 1

-- "the monitoring modes are those of 0x17 and 0x18"
abbrev pub monitors : StickMode → Bool
monitors Event = false
monitors Interrogation = false
monitors (Monitoring rate) = true
monitors Fire = true
monitors (StickKeycode x y) = false

-- absolute mode, of "0x0D and 0x0E outside absolute mode"; the other two are "relative or keycode mode"
abbrev pub is_absolute : MouseMode → Bool
is_absolute Relative = false
is_absolute (Absolute maximum) = true
is_absolute (Keycode delta) = false

-- port 0's role is mouse, as "Live: on, port 0 mouse, not monitoring." asks
abbrev pub is_mouse : Role → Bool
is_mouse ForMouse = true
is_mouse ForJoystick = false

-- port 0's role is joystick, as "stick 1 or port 0 a joystick" asks
abbrev pub is_joystick : Role → Bool
is_joystick ForMouse = false
is_joystick ForJoystick = true
