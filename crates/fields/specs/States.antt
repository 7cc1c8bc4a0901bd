-- The state that 55 numbers, a map of the keys and a queue make: the way back from Numbers.
use Rattle.std.specs.Prelude.{ℕ, ◌+◌, ◌-◌, ◌/◌, ◌%◌, cond, List, [], ◌∷◌, eqb, leb}
use Rattle.motion.specs.declared.Motion.{Motion}
use Rattle.clock.specs.declared.Clock.{Clock}
use Rattle.protocol.specs.declared.MouseMode.{MouseMode}
use Rattle.protocol.specs.declared.MouseMode.TheVariants.{Relative, Absolute, Keycode}
use Rattle.protocol.specs.declared.StickMode.{StickMode}
use Rattle.protocol.specs.declared.StickMode.TheVariants.{Event, Interrogation, Monitoring, Fire, StickKeycode}
use Rattle.protocol.specs.declared.Role.{Role}
use Rattle.protocol.specs.declared.Role.TheVariants.{ForMouse, ForJoystick}
use Rattle.protocol.specs.declared.Settings.{Settings}
use Rattle.protocol.specs.declared.Command.{Command}
use Rattle.mouse.specs.declared.Latches.{Latches}
use Rattle.mouse.specs.declared.Mouse.{Mouse}
use Rattle.sticks.specs.declared.Stick.{Stick}
use Rattle.sticks.specs.declared.Sticks.{Sticks}
use Rattle.sticks.specs.Sticks.{below_trigger}
use Rattle.keys.specs.declared.Keys.{Keys}
use Rattle.controller.specs.State.{queue_room}
use Rattle.output.specs.declared.Run.{Run}
use Rattle.controller.specs.declared.State.{State}
use Rattle.fields.specs.Ranges.{at, held_zero}

-- a mouse mode: its place in the list, the maximum and the deltas
abbrev pub mouse_from : ℕ → ℕ → ℕ → ℕ → ℕ → MouseMode
mouse_from place x y dx dy =
    cond (eqb place 1) (Absolute (record { x = x; y = y }))
    (cond (eqb place 2) (Keycode (record { x = dx; y = dy })) Relative)

-- a joystick mode: its place in the list, the rate and RX RY TX TY VX VY
abbrev pub stick_from : ℕ → ℕ → ℕ → ℕ → ℕ → ℕ → ℕ → ℕ → StickMode
stick_from place rate rx ry tx ty vx vy =
    cond (eqb place 1) Interrogation
    (cond (eqb place 2) (Monitoring rate)
    (cond (eqb place 3) Fire
    (cond (eqb place 4)
    (StickKeycode (record { breakpoint = rx; before = tx; after = vx }) (record { breakpoint = ry; before = ty; after = vy }))
    Event)))

-- port 0's role
abbrev pub role_from : ℕ → Role
role_from place = cond (eqb place 1) ForJoystick ForMouse

-- fields 1 to 22
unfoldable pub settings_from : List ℕ → Settings
settings_from a = record {
  mouse = mouse_from (at 1 a) (at 2 a) (at 3 a) (at 4 a) (at 5 a);
  action = at 6 a;
  threshold = record { x = at 7 a; y = at 8 a };
  scale = record { x = at 9 a; y = at 10 a };
  bottom = eqb (at 11 a) 1;
  mouseon = eqb (at 12 a) 1;
  stick = stick_from (at 13 a) (at 14 a) (at 15 a) (at 16 a) (at 17 a) (at 18 a) (at 19 a) (at 20 a);
  stickson = eqb (at 21 a) 1;
  port0 = role_from (at 22 a);
}

-- held motion: one side of it is 0
abbrev pub held_from : ℕ → Motion
held_from x = record { plus = x - held_zero; minus = held_zero - x }

-- the four latches of a report's byte
abbrev pub latches_from : ℕ → Latches
latches_from x = record {
  rightdown = eqb (x % 2) 1;
  rightup = eqb (x / 2 % 2) 1;
  leftdown = eqb (x / 4 % 2) 1;
  leftup = eqb (x / 8 % 2) 1;
}

-- fields 24 to 30
unfoldable pub pointer_from : List ℕ → Mouse
pointer_from a = record {
  place = record { x = at 24 a; y = at 25 a };
  held = record { x = held_from (at 26 a); y = held_from (at 27 a) };
  left = eqb (at 28 a) 1;
  right = eqb (at 29 a) 1;
  latches = latches_from (at 30 a);
}

-- a stick from its byte: "128·trigger + position"
abbrev pub stick_of : ℕ → Stick
stick_of x = record { position = x % (below_trigger + 1); trigger = leb (below_trigger + 1) x }

-- fields 31 to 39
unfoldable pub sticks_from : List ℕ → Sticks
sticks_from a = record {
  zero = stick_of (at 31 a);
  one = stick_of (at 32 a);
  x = record { age = at 33 a; wait = at 34 a };
  y = record { age = at 35 a; wait = at 36 a };
  ticks = at 37 a;
  samples = at 38 a;
  bits = at 39 a;
}

-- fields 40 to 46
unfoldable pub clock_from : List ℕ → Clock
clock_from a = record { year = at 40 a; month = at 41 a; day = at 42 a; hour = at 43 a; minute = at 44 a; second = at 45 a; hundredth = at 46 a }

-- fields 47 to 55
unfoldable pub command_from : List ℕ → Command
command_from a = record {
  code = at 47 a;
  come = at 48 a;
  params = at 49 a ∷ at 50 a ∷ at 51 a ∷ at 52 a ∷ at 53 a ∷ at 54 a ∷ [];
  pending = at 55 a;
}

-- all fields, the map and the queue
unfoldable pub state_from : List ℕ → Keys → Run queue_room → State
state_from a m q = record {
  settings = settings_from a;
  command = command_from a;
  paused = eqb (at 23 a) 1;
  queue = q;
  mouse = pointer_from a;
  sticks = sticks_from a;
  clock = clock_from a;
  keys = m;
}
