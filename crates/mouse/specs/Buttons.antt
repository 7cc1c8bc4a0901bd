-- The mouse's buttons (document 01, "The mouse"), and which of them gives fire (document 02, A4); what such a button sends is said in `controller`, Events.
use Rattle.std.specs.Prelude.{ℕ, ◌/◌, ◌%◌, Bool, true, false, cond, not, ◌&&◌, eqb}
use Rattle.output.specs.ScanCodes.{code_sent, key_left, key_right}
use Rattle.output.specs.Packets.{scan}
use Rattle.protocol.specs.declared.MouseMode.{MouseMode}
use Rattle.protocol.specs.declared.MouseMode.TheVariants.{Relative, Absolute, Keycode}
use Rattle.protocol.specs.declared.Settings.{Settings}
use Rattle.protocol.specs.Settings.{monitors, is_mouse}
use Rattle.mouse.specs.declared.Latches.{Latches}
use Rattle.mouse.specs.declared.Mouse.{Mouse}
use Rattle.mouse.specs.declared.Side.{Side}
use Rattle.mouse.specs.declared.Side.TheVariants.{Left, Right}
use Rattle.mouse.specs.Mouse.{live, with_latches}
use Rattle.mouse.specs.Reports.{MouseDue, quiet, one_packet, send_all, report}

-- one of the state's "button levels": whether this button is down
abbrev pub level : Side → Mouse → Bool
level Left m = m.left
level Right m = m.right

-- the level that a button event brings: "buttons only change their level"
abbrev pub with_level : Side → Bool → Mouse → Mouse
with_level Left down m = record { place = m.place; held = m.held; left = down; right = m.right; latches = m.latches }
with_level Right down m = record { place = m.place; held = m.held; left = m.left; right = down; latches = m.latches }

-- "An unchanged level does nothing": the button is at the level that its event brings
abbrev pub unchanged : Side → Bool → Mouse → Bool
unchanged side down m = cond down (level side m) (not (level side m))

-- "keys 0x74 left, 0x75 right"
abbrev pub key_of : Side → ℕ
key_of Left = key_left
key_of Right = key_right

-- the latch of a button that goes down (true) or up
abbrev pub latched : Side → Bool → Latches → Latches
latched Left true l = record { rightdown = l.rightdown; rightup = l.rightup; leftdown = true; leftup = l.leftup }
latched Left false l = record { rightdown = l.rightdown; rightup = l.rightup; leftdown = l.leftdown; leftup = true }
latched Right true l = record { rightdown = true; rightup = l.rightup; leftdown = l.leftdown; leftup = l.leftup }
latched Right false l = record { rightdown = l.rightdown; rightup = true; leftdown = l.leftdown; leftup = l.leftup }

-- "action 4": the buttons are keys
abbrev pub as_keys : ℕ
as_keys = 4

-- "with action bit 0 a press, with bit 1 a release, sends the same report"
abbrev pub action_reports : ℕ → Bool → Bool
action_reports action down = eqb (cond down action (action / 2) % 2) 1

-- a button as a key
abbrev pub button_as_key : Side → Bool → Mouse → MouseDue
button_as_key side down m = one_packet (scan (code_sent (key_of side) down)) m

-- "In this mode a live button, with any action, sets its latch"
abbrev pub with_latch : Side → Bool → Mouse → Mouse
with_latch side down m = with_latches (latched side down m.latches) m

-- A live button whose level has changed, in each mode. "A button with action 0 to 3 sends all held motion with the new levels, at least one packet";
-- in absolute mode it may report "without clearing"; "Buttons with action 4 or in this mode are keys".
unfoldable pub live_button : MouseMode → ℕ → Side → Bool → Mouse → MouseDue
live_button Relative action side down m = cond (eqb action as_keys) (button_as_key side down m) (send_all 1 m)
live_button (Absolute maximum) action side down m =
    let l = with_latch side down m in
    cond (eqb action as_keys) (button_as_key side down l)
    (cond (action_reports action down) (one_packet (report l) l) (quiet l))
live_button (Keycode delta) action side down m = button_as_key side down m

-- A button event, as far as it is the mouse's: "An unchanged level does nothing"; not live, "buttons only change their level".
unfoldable pub presses : Settings → Side → Bool → Mouse → MouseDue
presses σ side down m =
    cond (unchanged side down m) (quiet m)
    (cond (live σ) (live_button σ.mouse σ.action side down (with_level side down m)) (quiet (with_level side down m)))

-- A4: "With the mouse off, port 0 a mouse and no monitoring mode, a changed right button" gives fire; "The left button stays silent."
unfoldable pub gives_fire : Settings → Side → Bool → Mouse → Bool
gives_fire σ Left down m = false
gives_fire σ Right down m = not σ.mouseon && is_mouse σ.port0 && not (monitors σ.stick) && not (unchanged Right down m)
