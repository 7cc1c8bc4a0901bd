-- Which whole commands are executed, and what they do to the settings (document 01, "Reading commands").
-- Nothing here sees more than the settings, the command and its parameters. What commands do to the rest of the state is said with the rest.
use Rattle.std.specs.Prelude.{ℕ, ◌+◌, ◌*◌, Bool, true, false, cond, not, ◌&&◌, List, eqb, leb, get_or}
use Rattle.motion.specs.declared.Axes.{Axes}
use Rattle.protocol.specs.declared.MouseMode.{MouseMode}
use Rattle.protocol.specs.declared.MouseMode.TheVariants.{Relative, Absolute, Keycode}
use Rattle.protocol.specs.declared.StickMode.{StickMode}
use Rattle.protocol.specs.declared.StickMode.TheVariants.{Event, Interrogation, Monitoring, Fire, StickKeycode}
use Rattle.protocol.specs.declared.Role.{Role}
use Rattle.protocol.specs.declared.Role.TheVariants.{ForMouse, ForJoystick}
use Rattle.protocol.specs.declared.Settings.{Settings}
use Rattle.protocol.specs.declared.MouseCommand.{MouseCommand}
use Rattle.protocol.specs.declared.MouseCommand.TheVariants.{SetAction, SetRelative, SetAbsolute, SetKeycode, SetThreshold, SetScale, ReportPosition, LoadPosition, OriginBottom, OriginTop}
use Rattle.protocol.specs.declared.StickCommand.{StickCommand}
use Rattle.protocol.specs.declared.StickCommand.TheVariants.{SetEvent, SetInterrogation, ReportSticks, SetMonitoring, SetFire, SetStickKeycode, SticksOff}
use Rattle.protocol.specs.declared.OtherCommand.{OtherCommand}
use Rattle.protocol.specs.declared.OtherCommand.TheVariants.{Resume, MouseOff, SetClock, ReportClock}
use Rattle.protocol.specs.declared.Meaning.{Meaning}
use Rattle.protocol.specs.declared.Meaning.TheVariants.{Nothing, Memory, Pause, Reset, OfMouse, OfStick, OfOther, Inquire}
use Rattle.protocol.specs.Codes.{meaning_of}
use Rattle.protocol.specs.Reading.{Fed, half, whole}
use Rattle.protocol.specs.Settings.{power_up, most_action, monitors, is_absolute}

-- "Ignored commands change nothing: 0x07 above 4; 0x0D and 0x0E outside absolute mode"
unfoldable pub mouse_executed : MouseCommand → List ℕ → Settings → Bool
mouse_executed SetAction ps σ = leb (get_or ps 0 0) most_action
mouse_executed SetRelative ps σ = true
mouse_executed SetAbsolute ps σ = true
mouse_executed SetKeycode ps σ = true
mouse_executed SetThreshold ps σ = true
mouse_executed SetScale ps σ = true
mouse_executed ReportPosition ps σ = is_absolute σ.mouse
mouse_executed LoadPosition ps σ = is_absolute σ.mouse
mouse_executed OriginBottom ps σ = true
mouse_executed OriginTop ps σ = true

-- the modes in which 0x16 is executed: "event and interrogation mode"
abbrev pub answers_interrogation : StickMode → Bool
answers_interrogation Event = true
answers_interrogation Interrogation = true
answers_interrogation (Monitoring rate) = false
answers_interrogation Fire = false
answers_interrogation (StickKeycode x y) = false

-- "0x16 outside event and interrogation mode or with joysticks off"
unfoldable pub stick_executed : StickCommand → Settings → Bool
stick_executed SetEvent σ = true
stick_executed SetInterrogation σ = true
stick_executed ReportSticks σ = answers_interrogation σ.stick && σ.stickson
stick_executed SetMonitoring σ = true
stick_executed SetFire σ = true
stick_executed SetStickKeycode σ = true
stick_executed SticksOff σ = true

-- Executed or ignored: "0x80 then 0x01 resets"; "inquiries in either monitoring mode; 0x20 to 0x22" are ignored, and codes that do nothing do nothing
unfoldable pub executed : Meaning → List ℕ → Settings → Bool
executed Nothing ps σ = false
executed Memory ps σ = false
executed Pause ps σ = true
executed Reset ps σ = eqb (get_or ps 0 0) 1
executed (OfMouse m) ps σ = mouse_executed m ps σ
executed (OfStick k) ps σ = stick_executed k σ
executed (OfOther o) ps σ = true
executed (Inquire q) ps σ = not (monitors σ.stick)

-- "from a monitoring mode, go to event mode"
abbrev pub leave_monitoring : StickMode → StickMode
leave_monitoring k = cond (monitors k) Event k

-- two parameter bytes, X and then Y
abbrev pub axes_at : ℕ → List ℕ → Axes ℕ
axes_at i ps = record { x = get_or ps i 0; y = get_or ps (i + 1) 0 }

-- four parameter bytes: X and then Y, each high byte first
abbrev pub point_at : ℕ → List ℕ → Axes ℕ
point_at i ps = record { x = 256 * get_or ps i 0 + get_or ps (i + 1) 0; y = 256 * get_or ps (i + 2) 0 + get_or ps (i + 3) 0 }

-- all nine settings, in the order of "What the state holds"
abbrev pub settings_of : MouseMode → ℕ → Axes ℕ → Axes ℕ → Bool → Bool → StickMode → Bool → Role → Settings
settings_of m a t s b mo k ko r = record { mouse = m; action = a; threshold = t; scale = s; bottom = b; mouseon = mo; stick = k; stickson = ko; port0 = r }

-- 0x07: the action put in place of the one before
abbrev pub with_action : ℕ → Settings → Settings
with_action a σ = settings_of σ.mouse a σ.threshold σ.scale σ.bottom σ.mouseon σ.stick σ.stickson σ.port0

-- 0x0B, "kept in every mouse mode": the threshold put in place of the one before
abbrev pub with_threshold : Axes ℕ → Settings → Settings
with_threshold t σ = settings_of σ.mouse σ.action t σ.scale σ.bottom σ.mouseon σ.stick σ.stickson σ.port0

-- 0x0C, "kept in every mouse mode": the scale put in place of the one before
abbrev pub with_scale : Axes ℕ → Settings → Settings
with_scale s σ = settings_of σ.mouse σ.action σ.threshold s σ.bottom σ.mouseon σ.stick σ.stickson σ.port0

-- 0x0F and 0x10: the "Y origin" put at the bottom (true) or the top
abbrev pub with_origin : Bool → Settings → Settings
with_origin b σ = settings_of σ.mouse σ.action σ.threshold σ.scale b σ.mouseon σ.stick σ.stickson σ.port0

-- "0x08, 0x09, 0x0A turn the mouse on ... and, from a monitoring mode, go to event mode"
abbrev pub with_mouse : MouseMode → Settings → Settings
with_mouse m σ = settings_of m σ.action σ.threshold σ.scale σ.bottom true (leave_monitoring σ.stick) σ.stickson σ.port0

-- "0x12 turns the mouse off"
abbrev pub without_mouse : Settings → Settings
without_mouse σ = settings_of σ.mouse σ.action σ.threshold σ.scale σ.bottom false σ.stick σ.stickson σ.port0

-- "0x14, 0x15, 0x17, 0x18, 0x19 turn joysticks on"
abbrev pub with_stick : StickMode → Settings → Settings
with_stick k σ = settings_of σ.mouse σ.action σ.threshold σ.scale σ.bottom σ.mouseon k true σ.port0

-- "0x1A turns joysticks off and leaves monitoring for event mode."
abbrev pub without_sticks : Settings → Settings
without_sticks σ = settings_of σ.mouse σ.action σ.threshold σ.scale σ.bottom σ.mouseon (leave_monitoring σ.stick) false σ.port0

-- "port 0's role (mouse or joystick)" put in place of the one before
abbrev pub with_role : Role → Settings → Settings
with_role r σ = settings_of σ.mouse σ.action σ.threshold σ.scale σ.bottom σ.mouseon σ.stick σ.stickson r

-- what an executed command of the mouse does to the settings, but for port 0's role; 0x0D and 0x0E set nothing
unfoldable pub mouse_sets : MouseCommand → List ℕ → Settings → Settings
mouse_sets SetAction ps σ = with_action (get_or ps 0 0) σ
mouse_sets SetRelative ps σ = with_mouse Relative σ
mouse_sets SetAbsolute ps σ = with_mouse (Absolute (point_at 0 ps)) σ
mouse_sets SetKeycode ps σ = with_mouse (Keycode (axes_at 0 ps)) σ
mouse_sets SetThreshold ps σ = with_threshold (axes_at 0 ps) σ
mouse_sets SetScale ps σ = with_scale (axes_at 0 ps) σ
mouse_sets ReportPosition ps σ = σ
mouse_sets LoadPosition ps σ = σ
mouse_sets OriginBottom ps σ = with_origin true σ
mouse_sets OriginTop ps σ = with_origin false σ

-- the numbers of 0x19 come as RX RY TX TY VX VY
abbrev pub stick_keycode_of : List ℕ → StickMode
stick_keycode_of ps =
    StickKeycode (record { breakpoint = get_or ps 0 0; before = get_or ps 2 0; after = get_or ps 4 0 })
    (record { breakpoint = get_or ps 1 0; before = get_or ps 3 0; after = get_or ps 5 0 })

-- what an executed command of the joysticks does to the settings, but for port 0's role; 0x16 sets nothing
unfoldable pub stick_sets : StickCommand → List ℕ → Settings → Settings
stick_sets SetEvent ps σ = with_stick Event σ
stick_sets SetInterrogation ps σ = with_stick Interrogation σ
stick_sets ReportSticks ps σ = σ
stick_sets SetMonitoring ps σ = with_stick (Monitoring (get_or ps 0 0)) σ
stick_sets SetFire ps σ = with_stick Fire σ
stick_sets SetStickKeycode ps σ = with_stick (stick_keycode_of ps) σ
stick_sets SticksOff ps σ = without_sticks σ

-- "0x12 turns the mouse off"; 0x11, 0x1B and 0x1C leave every setting
unfoldable pub other_sets : OtherCommand → Settings → Settings
other_sets Resume σ = σ
other_sets MouseOff σ = without_mouse σ
other_sets SetClock σ = σ
other_sets ReportClock σ = σ

-- "Executed 0x07 to 0x10 make port 0 a mouse; executed 0x14 to 0x1A make it a joystick."; a reset puts every setting back to power-up
unfoldable pub sets : Meaning → List ℕ → Settings → Settings
sets Nothing ps σ = σ
sets Memory ps σ = σ
sets Pause ps σ = σ
sets Reset ps σ = power_up
sets (OfMouse m) ps σ = with_role ForMouse (mouse_sets m ps σ)
sets (OfStick k) ps σ = with_role ForJoystick (stick_sets k ps σ)
sets (OfOther o) ps σ = other_sets o σ
sets (Inquire q) ps σ = σ

-- a whole command: "Ignored commands change nothing"
unfoldable pub settings_then : Meaning → List ℕ → Settings → Settings
settings_then m ps σ = cond (executed m ps σ) (sets m ps σ) σ

-- the settings after a host byte: they depend on nothing but settings, half-received command and the byte
unfoldable pub settings_after : Settings → Fed → Settings
settings_after σ (half c) = σ
settings_after σ (whole code ps) = settings_then (meaning_of code) ps σ
