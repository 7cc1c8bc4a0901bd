-- A state as its 55 numbers (document 02, A2).
use Rattle.std.specs.Prelude.{ℕ, ◌+◌, ◌-◌, max, Bool, List, [], ◌∷◌, ◌++◌, get_or}
use Rattle.output.specs.Packets.{bit}
use Rattle.motion.specs.declared.Motion.{Motion}
use Rattle.clock.specs.declared.Clock.{Clock}
use Rattle.protocol.specs.declared.MouseMode.{MouseMode}
use Rattle.protocol.specs.declared.MouseMode.TheVariants.{Relative, Absolute, Keycode}
use Rattle.protocol.specs.declared.StickMode.{StickMode}
use Rattle.protocol.specs.declared.StickMode.TheVariants.{Event, Interrogation, Monitoring, Fire, StickKeycode}
use Rattle.protocol.specs.declared.Role.{Role}
use Rattle.protocol.specs.declared.Role.TheVariants.{ForMouse, ForJoystick}
use Rattle.protocol.specs.declared.Settings.{Settings}
use Rattle.protocol.specs.declared.Command.{Command}
use Rattle.mouse.specs.declared.Mouse.{Mouse}
use Rattle.mouse.specs.Reports.{latch_byte}
use Rattle.sticks.specs.declared.Sticks.{Sticks}
use Rattle.sticks.specs.Sticks.{byte}
use Rattle.controller.specs.declared.State.{State}
use Rattle.controller.specs.State.{power_up}
use Rattle.fields.specs.Ranges.{held_zero, low}

-- "A choice is its place in that list, from 0"; "each mode's numbers have their own fields, X before Y": fields 1 to 5
abbrev pub mouse_numbers : MouseMode → List ℕ
mouse_numbers Relative = 0 ∷ 0 ∷ 0 ∷ 0 ∷ 0 ∷ []
mouse_numbers (Absolute maximum) = 1 ∷ maximum.x ∷ maximum.y ∷ 0 ∷ 0 ∷ []
mouse_numbers (Keycode delta) = 2 ∷ 0 ∷ 0 ∷ delta.x ∷ delta.y ∷ []

-- the same for the joystick mode, "keycode with RX RY TX TY VX VY": fields 13 to 20
abbrev pub stick_numbers : StickMode → List ℕ
stick_numbers Event = 0 ∷ 0 ∷ 0 ∷ 0 ∷ 0 ∷ 0 ∷ 0 ∷ 0 ∷ []
stick_numbers Interrogation = 1 ∷ 0 ∷ 0 ∷ 0 ∷ 0 ∷ 0 ∷ 0 ∷ 0 ∷ []
stick_numbers (Monitoring rate) = 2 ∷ rate ∷ 0 ∷ 0 ∷ 0 ∷ 0 ∷ 0 ∷ 0 ∷ []
stick_numbers Fire = 3 ∷ 0 ∷ 0 ∷ 0 ∷ 0 ∷ 0 ∷ 0 ∷ 0 ∷ []
stick_numbers (StickKeycode x y) = 4 ∷ 0 ∷ x.breakpoint ∷ y.breakpoint ∷ x.before ∷ y.before ∷ x.after ∷ y.after ∷ []

-- "port 0's role (mouse or joystick)"
abbrev pub role_number : Role → ℕ
role_number ForMouse = 0
role_number ForJoystick = 1

-- fields 1 to 22, given the numbers of the two modes; "off 0, on 1; origin top 0, bottom 1"
abbrev pub settings_with : List ℕ → List ℕ → Settings → List ℕ
settings_with m k σ =
    get_or m 0 0 ∷ get_or m 1 0 ∷ get_or m 2 0 ∷ get_or m 3 0 ∷ get_or m 4 0
    ∷ σ.action ∷ σ.threshold.x ∷ σ.threshold.y ∷ σ.scale.x ∷ σ.scale.y ∷ bit σ.bottom ∷ bit σ.mouseon
    ∷ get_or k 0 0 ∷ get_or k 1 0 ∷ get_or k 2 0 ∷ get_or k 3 0 ∷ get_or k 4 0 ∷ get_or k 5 0 ∷ get_or k 6 0 ∷ get_or k 7 0
    ∷ bit σ.stickson ∷ role_number σ.port0 ∷ []

-- fields 1 to 22
unfoldable pub settings_numbers : Settings → List ℕ
settings_numbers σ = settings_with (mouse_numbers σ.mouse) (stick_numbers σ.stick) σ

-- held motion with its limit added: from 0 for the most negative
abbrev pub held_number : Motion → ℕ
held_number m = held_zero + m.plus - m.minus

-- fields 23 to 30: "paused or down 1"; "X before Y, left before right"; "Latches .. are their reported bytes"
unfoldable pub pointer_numbers : Bool → Mouse → List ℕ
pointer_numbers paused m =
    bit paused ∷ m.place.x ∷ m.place.y ∷ held_number m.held.x ∷ held_number m.held.y
    ∷ bit m.left ∷ bit m.right ∷ latch_byte m.latches ∷ []

-- fields 31 to 39: "sticks are their reported bytes, samples their count and then their bits as one number, last in bit 0"; "X's age and wait
-- before Y's"
unfoldable pub sticks_numbers : Sticks → List ℕ
sticks_numbers k =
    byte k.zero ∷ byte k.one ∷ k.x.age ∷ k.x.wait ∷ k.y.age ∷ k.y.wait ∷ k.ticks ∷ k.samples ∷ k.bits ∷ []

-- fields 40 to 46: "the clock year to hundredths, not BCD"
unfoldable pub clock_numbers : Clock → List ℕ
clock_numbers c = c.year ∷ c.month ∷ c.day ∷ c.hour ∷ c.minute ∷ c.second ∷ c.hundredth ∷ []

-- fields 47 to 55: "A half-received command is its code, how many parameter bytes have come, those bytes in six fields, and the data bytes of 0x20
-- still to come."
unfoldable pub command_numbers : Command → List ℕ
command_numbers c =
    c.code ∷ c.come
    ∷ get_or c.params 0 0 ∷ get_or c.params 1 0 ∷ get_or c.params 2 0 ∷ get_or c.params 3 0 ∷ get_or c.params 4 0 ∷ get_or c.params 5 0
    ∷ c.pending ∷ []

-- "in the order of document 01's state list"
unfoldable pub numbers : State → List ℕ
numbers s =
    settings_numbers s.settings
    ++ (pointer_numbers s.paused s.mouse ++ (sticks_numbers s.sticks ++ (clock_numbers s.clock ++ command_numbers s.command)))

-- what stands in the place of field i + 1 where it is bad (A13 will use it): "its power-up value (once three bytes of a 0x20 have come, the third and
-- the data still to come by 1)", which then are the least that they may be
unfoldable pub instead : ℕ → List ℕ → ℕ
instead i a = max (low i a) (get_or (numbers power_up) i 0)
