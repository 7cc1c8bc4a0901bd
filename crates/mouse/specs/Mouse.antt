-- The mouse's part of the state: its ranges, power-up, and when the mouse is live (document 01, "What the state holds" and "The mouse").
use Rattle.std.specs.Prelude.{ℕ, ◌≤◌, Bool, false, cond, not, ◌&&◌}
use Rattle.motion.specs.declared.Motion.{Motion}
use Rattle.motion.specs.declared.Axes.{Axes}
use Rattle.motion.specs.Motion.{OneSided, size, at_rest}
use Rattle.protocol.specs.declared.MouseMode.{MouseMode}
use Rattle.protocol.specs.declared.MouseMode.TheVariants.{Relative, Absolute, Keycode}
use Rattle.protocol.specs.declared.Settings.{Settings}
use Rattle.protocol.specs.Settings.{monitors, is_absolute, is_mouse}
use Rattle.mouse.specs.declared.Latches.{Latches}
use Rattle.mouse.specs.declared.Mouse.{Mouse}

-- "Live: on, port 0 mouse, not monitoring."
unfoldable pub live : Settings → Bool
live σ = σ.mouseon && is_mouse σ.port0 && not (monitors σ.stick)

-- "mouse live in relative or keycode mode": there, motion is held without bound of a threshold while paused
unfoldable pub gathers : Settings → Bool
gathers σ = live σ && not (is_absolute σ.mouse)

-- "held motion on an axis would leave -2,032 to 2,032"
abbrev pub held_limit : ℕ
held_limit = 2032

-- "held motion is -254 to 254"
abbrev pub held_usual : ℕ
held_usual = 254

-- "and beyond that, to 2,032 either way, only while paused with the mouse live in relative or keycode mode"
unfoldable pub held_most : Bool → Settings → ℕ
held_most paused σ = cond (paused && gathers σ) held_limit held_usual

-- coordinates of 0: "outside absolute mode", at power-up, and where 0x08, 0x09, 0x0A "zero the coordinates"; not the "Y origin"
abbrev pub origin : Axes ℕ
origin = record { x = 0; y = 0 }

-- "coordinates are 0 outside absolute mode", and never pass the maximum in it: the most that they are
abbrev pub maximum_of : MouseMode → Axes ℕ
maximum_of Relative = origin
maximum_of (Absolute maximum) = maximum
maximum_of (Keycode delta) = origin

-- ranges of the mouse's part: "Coordinates never pass 0 or the maximum", and held motion is within its two ranges above
pub record IsMouse (paused : Bool) (σ : Settings) (m : Mouse) : Type 0 where
  pub x : m.place.x ≤ (maximum_of σ.mouse).x
  pub y : m.place.y ≤ (maximum_of σ.mouse).y
  pub held_x : size m.held.x ≤ held_most paused σ
  pub held_y : size m.held.y ≤ held_most paused σ

-- what the code of a motion event asks: held motion is within its limit, whatever the mode, so that sums with any motion of 16 bits fit
abbrev pub WithinLimit : Mouse → Type 0
WithinLimit m = (size m.held.x ≤ held_limit) × (size m.held.y ≤ held_limit)

-- a representation fact: one side of each held motion is 0
pub record OneMouse (m : Mouse) : Type 0 where
  pub x : OneSided m.held.x
  pub y : OneSided m.held.y

-- no latch is set: at power-up ("all else zero"), and after 0x0D, which "clears the latches", or A7's clearing
abbrev pub no_latches : Latches
no_latches = record { rightdown = false; rightup = false; leftdown = false; leftup = false }

-- "all else zero"
abbrev pub at_power_up : Mouse
at_power_up = record { place = origin; held = at_rest; left = false; right = false; latches = no_latches }

-- coordinates put in place of those before: "zero the coordinates", "0x0E is held to the maximum."; nothing else changes
abbrev pub with_place : Axes ℕ → Mouse → Mouse
with_place p m = record { place = p; held = m.held; left = m.left; right = m.right; latches = m.latches }

-- "held motion" put in place of what was held: with motion added, its remainder, or none; nothing else changes
abbrev pub with_held : Axes Motion → Mouse → Mouse
with_held h m = record { place = m.place; held = h; left = m.left; right = m.right; latches = m.latches }

-- "clear held motion"; and once "all is sent" none is held
abbrev pub without_motion : Mouse → Mouse
without_motion m = with_held at_rest m

-- the "four button latches" put in place of those before; nothing else changes
abbrev pub with_latches : Latches → Mouse → Mouse
with_latches l m = record { place = m.place; held = m.held; left = m.left; right = m.right; latches = l }
