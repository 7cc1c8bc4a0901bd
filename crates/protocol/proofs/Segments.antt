-- The seven kept bytes of each of the eight replies, taken between commands: which settings they put back.
-- Assumes nothing.
use Prim.Native.Nat.{ℕ, ◌+◌, ◌*◌, ◌/◌, ◌%◌, ◌≤◌}
use native.Mathlib.Omega.{arith}
use mathlib.Core.Path.{◌≡◌, refl, ap, ap₂}
use mathlib.Core.Bool.{Bool, true, false, cond}
use lib.ListN.{drop}
use borrow.Author.Tests.{le-leb, eq-eqb}
use Rattle.output.specs.Packets.{status, bytes_of}
use Rattle.protocol.specs.declared.MouseMode.{MouseMode}
use Rattle.protocol.specs.declared.MouseMode.TheVariants.{Relative, Absolute, Keycode}
use Rattle.protocol.specs.declared.StickMode.{StickMode}
use Rattle.protocol.specs.declared.StickMode.TheVariants.{Event, Interrogation, Monitoring, Fire, StickKeycode}
use Rattle.protocol.specs.declared.Role.TheVariants.{ForMouse, ForJoystick}
use Rattle.protocol.specs.declared.Settings.{Settings}
use Rattle.protocol.specs.declared.Command.{Command}
use Rattle.protocol.specs.declared.Inquiry.{Inquiry}
use Rattle.protocol.specs.declared.Inquiry.TheVariants.{AskAction, AskMouse, AskThreshold, AskScale, AskOrigin, AskMouseOff, AskStick, AskSticksOff}
use Rattle.protocol.specs.Codes.{table, find, line}
use Rattle.protocol.specs.Reading.{no_command, Between, begin, take_parameter, take_data, feed, command_after}
use Rattle.protocol.specs.Settings.{most_action}
use Rattle.protocol.specs.Commands.{mouse_executed, stick_executed, executed, with_action, with_threshold, with_scale, with_origin, with_mouse, without_mouse, with_stick, without_sticks, with_role, mouse_sets, stick_sets, other_sets, sets, settings_then, settings_after}
use Rattle.protocol.specs.Replies.{mouse_reply, stick_reply, reply, kept_bytes}
use Rattle.protocol.proofs.Core.{Core, eat, eats}

-- these settings, and no command half received
abbrev pub at_rest : Settings → Core
at_rest σ = record { settings = σ; command = no_command }

-- between commands the rest of the half-received command does not matter
pub feed_between : (c : Command) (b : ℕ) → Between c → feed c b ≡ feed no_command b
unfolding feed
feed_between c b h = rw (eq-eqb c.code 0 h, feed)

pub eat_between : (c : Core) (b : ℕ) → Between c.command → eat c b ≡ eat (at_rest c.settings) b
eat_between c b h = ap (λ f. record { settings = settings_after c.settings f; command = command_after f }) (feed_between c.command b h)

-- what the kept bytes of τ do to settings σ
unfoldable pub restored : Inquiry → Settings → Settings → Settings
restored AskAction τ σ = with_role ForMouse (with_action τ.action σ)
restored AskMouse τ σ = with_role ForMouse (with_mouse τ.mouse σ)
restored AskThreshold τ σ = with_role ForMouse (with_threshold τ.threshold σ)
restored AskScale τ σ = with_role ForMouse (with_scale τ.scale σ)
restored AskOrigin τ σ = with_role ForMouse (with_origin τ.bottom σ)
restored AskMouseOff τ σ = cond τ.mouseon σ (without_mouse σ)
restored AskStick τ σ = with_role ForJoystick (with_stick τ.stick σ)
restored AskSticksOff τ σ = cond τ.stickson σ (with_role ForJoystick (without_sticks σ))

-- the rules that kept bytes go through
rules : Unit {0}
unfolding table find line begin take_parameter take_data feed command_after mouse_executed stick_executed executed mouse_sets stick_sets other_sets sets settings_then settings_after
rules = tt

-- Each of the eight, by computing: the table at a literal code, the parameters as they come, the zeros that do nothing.
action_segment : (τ σ : Settings) → τ.action ≤ most_action → eats (at_rest σ) (kept_bytes AskAction τ) ≡ at_rest (restored AskAction τ σ)
unfolding rules reply restored
action_segment τ σ h = rw (le-leb τ.action most_action h)

threshold_segment : (τ σ : Settings) → eats (at_rest σ) (kept_bytes AskThreshold τ) ≡ at_rest (restored AskThreshold τ σ)
unfolding rules reply restored
threshold_segment τ σ = refl

scale_segment : (τ σ : Settings) → eats (at_rest σ) (kept_bytes AskScale τ) ≡ at_rest (restored AskScale τ σ)
unfolding rules reply restored
scale_segment τ σ = refl

origin_segment : (b : Bool) (σ : Settings) →
    eats (at_rest σ) (drop 1 (bytes_of (status (cond b 0x0F 0x10) 0 0 0 0 0 0))) ≡ at_rest (with_role ForMouse (with_origin b σ))
unfolding rules
origin_segment true σ = refl
origin_segment false σ = refl

mouse_off_segment : (b : Bool) (σ : Settings) →
    eats (at_rest σ) (drop 1 (bytes_of (status (cond b 0x00 0x12) 0 0 0 0 0 0))) ≡ at_rest (cond b σ (without_mouse σ))
unfolding rules
mouse_off_segment true σ = refl
mouse_off_segment false σ = refl

sticks_off_segment : (b : Bool) (σ : Settings) →
    eats (at_rest σ) (drop 1 (bytes_of (status (cond b 0x00 0x1A) 0 0 0 0 0 0))) ≡ at_rest (cond b σ (with_role ForJoystick (without_sticks σ)))
unfolding rules
sticks_off_segment true σ = refl
sticks_off_segment false σ = refl

-- high and low byte make the number again
halves : (x : ℕ) → 256 * (x / 256) + x % 256 ≡ x
halves x = omega arith

mouse_segment : (m : MouseMode) (σ : Settings) → eats (at_rest σ) (drop 1 (bytes_of (mouse_reply m))) ≡ at_rest (with_role ForMouse (with_mouse m σ))
unfolding rules
mouse_segment Relative σ = refl
mouse_segment (Absolute p) σ = ap₂ (λ (a b : ℕ). at_rest (with_role ForMouse (with_mouse (Absolute (record { x = a; y = b })) σ))) (halves p.x) (halves p.y)
mouse_segment (Keycode d) σ = refl

stick_segment : (m : StickMode) (σ : Settings) → eats (at_rest σ) (drop 1 (bytes_of (stick_reply m))) ≡ at_rest (with_role ForJoystick (with_stick m σ))
unfolding rules
stick_segment Event σ = refl
stick_segment Interrogation σ = refl
stick_segment (Monitoring rate) σ = refl
stick_segment Fire σ = refl
stick_segment (StickKeycode x y) σ = refl

-- all eight in one
pub segment : (q : Inquiry) (τ σ : Settings) → τ.action ≤ most_action → eats (at_rest σ) (kept_bytes q τ) ≡ at_rest (restored q τ σ)
unfolding reply restored
segment AskAction τ σ h = action_segment τ σ h
segment AskMouse τ σ h = mouse_segment τ.mouse σ
segment AskThreshold τ σ h = threshold_segment τ σ
segment AskScale τ σ h = scale_segment τ σ
segment AskOrigin τ σ h = origin_segment τ.bottom σ
segment AskMouseOff τ σ h = mouse_off_segment τ.mouseon σ
segment AskStick τ σ h = stick_segment τ.stick σ
segment AskSticksOff τ σ h = sticks_off_segment τ.stickson σ
