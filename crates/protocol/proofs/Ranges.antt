-- Executed commands keep the ranges of the settings.
-- Assumes nothing.
use Prim.Native.Nat.{ℕ, ◌≤◌, ◌<◌}
use native.Mathlib.Omega.{arith}
use mathlib.Core.Path.{◌≡◌}
use mathlib.Core.Bool.{Bool, true, false}
use mathlib.Core.List.{List}
use lib.ListN.{get_or}
use borrow.Author.Tests.{leb-true, lt-leb, le-leb}
use Rattle.output.proofs.Cases.{both_ways}
use Rattle.motion.specs.declared.Axes.{Axes}
use Rattle.protocol.specs.declared.MouseMode.{MouseMode}
use Rattle.protocol.specs.declared.MouseMode.TheVariants.{Relative, Absolute, Keycode}
use Rattle.protocol.specs.declared.StickMode.{StickMode}
use Rattle.protocol.specs.declared.StickMode.TheVariants.{Event, Interrogation, Monitoring, Fire}
use Rattle.protocol.specs.declared.Role.{Role}
use Rattle.protocol.specs.declared.Role.TheVariants.{ForMouse, ForJoystick}
use Rattle.protocol.specs.declared.Settings.{Settings}
use Rattle.protocol.specs.declared.MouseCommand.{MouseCommand}
use Rattle.protocol.specs.declared.MouseCommand.TheVariants.{SetAction, SetRelative, SetAbsolute, SetKeycode, SetThreshold, SetScale, ReportPosition, LoadPosition, OriginBottom, OriginTop}
use Rattle.protocol.specs.declared.StickCommand.{StickCommand}
use Rattle.protocol.specs.declared.StickCommand.TheVariants.{SetEvent, SetInterrogation, ReportSticks, SetMonitoring, SetFire, SetStickKeycode, SticksOff}
use Rattle.protocol.specs.declared.OtherCommand.{OtherCommand}
use Rattle.protocol.specs.declared.OtherCommand.TheVariants.{Resume, MouseOff, SetClock, ReportClock}
use Rattle.protocol.specs.declared.Meaning.{Meaning}
use Rattle.protocol.specs.declared.Meaning.TheVariants.{Nothing, Memory, Pause, Reset, OfMouse, OfStick, OfOther, Inquire}
use Rattle.protocol.specs.Reading.{AllBytes}
use Rattle.protocol.specs.Settings.{IsAxes, IsPoint, IsMouseMode, IsStickMode, IsSettings, most_action, power_up, monitors}
use Rattle.protocol.specs.Commands.{mouse_executed, executed, leave_monitoring, axes_at, point_at, settings_of, with_mouse, with_stick, with_role, mouse_sets, stick_keycode_of, stick_sets, other_sets, sets}
use Rattle.protocol.proofs.Reading.{getD_byte}

-- power-up's settings are within their ranges
pub power_up_is : IsSettings power_up
power_up_is = record {
  mouse = tt;
  action = omega arith;
  threshold = omega arith;
  scale = omega arith;
  stick = tt;
}

-- and so are settings of values that each are within theirs
settings_of_is : {m : MouseMode} {a : ℕ} {t s : Axes ℕ} {b mo ko : Bool} {k : StickMode} {r : Role} →
    IsMouseMode m → a ≤ most_action → IsAxes t → IsAxes s → IsStickMode k → IsSettings (settings_of m a t s b mo k ko r)
settings_of_is m a t s k = record { mouse = m; action = a; threshold = t; scale = s; stick = k }

left_is : (k : StickMode) → IsStickMode k → IsStickMode (leave_monitoring k)
left_is k i = both_ways IsStickMode (monitors k) (λ _. tt) (λ _. i)

with_mouse_is : (m : MouseMode) (σ : Settings) → IsMouseMode m → IsSettings σ → IsSettings (with_mouse m σ)
with_mouse_is m σ h i = settings_of_is h i.action i.threshold i.scale (left_is σ.stick i.stick)

with_stick_is : (k : StickMode) (σ : Settings) → IsStickMode k → IsSettings σ → IsSettings (with_stick k σ)
with_stick_is k σ h i = settings_of_is i.mouse i.action i.threshold i.scale h

with_role_is : (r : Role) (σ : Settings) → IsSettings σ → IsSettings (with_role r σ)
with_role_is r σ i = settings_of_is i.mouse i.action i.threshold i.scale i.stick

-- numbers read from parameter bytes are within their ranges
axes_is : (ps : List ℕ) → AllBytes ps → IsAxes (axes_at 0 ps)
axes_is ps h = record { x = getD_byte ps 0 h; y = getD_byte ps 1 h }

point_is : (ps : List ℕ) → AllBytes ps → IsPoint (point_at 0 ps)
point_is ps h =
    let a = getD_byte ps 0 h in let b = getD_byte ps 1 h in let c = getD_byte ps 2 h in let d = getD_byte ps 3 h in
    omega arith

stick_keycode_is : (ps : List ℕ) → AllBytes ps → IsStickMode (stick_keycode_of ps)
stick_keycode_is ps h = (
  record { breakpoint = getD_byte ps 0 h; before = getD_byte ps 2 h; after = getD_byte ps 4 h },
  record { breakpoint = getD_byte ps 1 h; before = getD_byte ps 3 h; after = getD_byte ps 5 h },
)

-- "0x07 above 4" is ignored
pub action_above_4 : (ps : List ℕ) (σ : Settings) → 4 < get_or ps 0 0 → executed (OfMouse SetAction) ps σ ≡ false
unfolding mouse_executed executed
action_above_4 ps σ h = lt-leb (get_or ps 0 0) most_action (omega arith)

-- and up to 4 it is executed
pub action_to_4 : (ps : List ℕ) (σ : Settings) → get_or ps 0 0 ≤ 4 → executed (OfMouse SetAction) ps σ ≡ true
unfolding mouse_executed executed
action_to_4 ps σ h = le-leb (get_or ps 0 0) most_action (omega arith)

mouse_is : (m : MouseCommand) (ps : List ℕ) (σ : Settings) → AllBytes ps → mouse_executed m ps σ ≡ true → IsSettings σ → IsSettings (mouse_sets m ps σ)
unfolding mouse_executed mouse_sets
mouse_is SetAction ps σ h e i = settings_of_is i.mouse (leb-true (get_or ps 0 0) most_action e) i.threshold i.scale i.stick
mouse_is SetRelative ps σ h e i = with_mouse_is Relative σ tt i
mouse_is SetAbsolute ps σ h e i = with_mouse_is (Absolute (point_at 0 ps)) σ (point_is ps h) i
mouse_is SetKeycode ps σ h e i = with_mouse_is (Keycode (axes_at 0 ps)) σ (axes_is ps h) i
mouse_is SetThreshold ps σ h e i = settings_of_is i.mouse i.action (axes_is ps h) i.scale i.stick
mouse_is SetScale ps σ h e i = settings_of_is i.mouse i.action i.threshold (axes_is ps h) i.stick
mouse_is ReportPosition ps σ h e i = i
mouse_is LoadPosition ps σ h e i = i
mouse_is OriginBottom ps σ h e i = settings_of_is i.mouse i.action i.threshold i.scale i.stick
mouse_is OriginTop ps σ h e i = settings_of_is i.mouse i.action i.threshold i.scale i.stick

stick_is : (k : StickCommand) (ps : List ℕ) (σ : Settings) → AllBytes ps → IsSettings σ → IsSettings (stick_sets k ps σ)
unfolding stick_sets
stick_is SetEvent ps σ h i = with_stick_is Event σ tt i
stick_is SetInterrogation ps σ h i = with_stick_is Interrogation σ tt i
stick_is ReportSticks ps σ h i = i
stick_is SetMonitoring ps σ h i = with_stick_is (Monitoring (get_or ps 0 0)) σ (getD_byte ps 0 h) i
stick_is SetFire ps σ h i = with_stick_is Fire σ tt i
stick_is SetStickKeycode ps σ h i = with_stick_is (stick_keycode_of ps) σ (stick_keycode_is ps h) i
stick_is SticksOff ps σ h i = settings_of_is i.mouse i.action i.threshold i.scale (left_is σ.stick i.stick)

other_is : (o : OtherCommand) (σ : Settings) → IsSettings σ → IsSettings (other_sets o σ)
unfolding other_sets
other_is Resume σ i = i
other_is MouseOff σ i = settings_of_is i.mouse i.action i.threshold i.scale i.stick
other_is SetClock σ i = i
other_is ReportClock σ i = i

-- an executed command of bytes keeps the ranges of the settings
pub settings_is : (m : Meaning) (ps : List ℕ) (σ : Settings) → AllBytes ps → executed m ps σ ≡ true → IsSettings σ → IsSettings (sets m ps σ)
unfolding executed sets
settings_is Nothing ps σ h e i = i
settings_is Memory ps σ h e i = i
settings_is Pause ps σ h e i = i
settings_is Reset ps σ h e i = power_up_is
settings_is (OfMouse m) ps σ h e i = with_role_is ForMouse (mouse_sets m ps σ) (mouse_is m ps σ h e i)
settings_is (OfStick k) ps σ h e i = with_role_is ForJoystick (stick_sets k ps σ) (stick_is k ps σ h i)
settings_is (OfOther o) ps σ h e i = other_is o σ i
settings_is (Inquire q) ps σ h e i = i
