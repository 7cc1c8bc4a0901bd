-- A state that is written as numbers is read back.
-- Assumes nothing.
use Prim.Native.Nat.{ℕ, ◌+◌, ◌-◌, ◌*◌, ◌%◌, ◌≤◌}
use native.Mathlib.Omega.{arith}
use mathlib.Core.Path.{◌≡◌, refl}
use mathlib.Core.Bool.{Bool, true, false, ◌&&◌}
use lib.Dec.{eqb}
use lib.ListN.{get_or}
use borrow.Author.Tests.{le-leb, lt-leb}
use Rattle.output.specs.Packets.{bit}
use Rattle.output.proofs.Cases.{both_ways}
use Rattle.motion.specs.declared.Motion.{Motion}
use Rattle.motion.specs.Motion.{OneSided, size}
use Rattle.protocol.specs.declared.MouseMode.{MouseMode}
use Rattle.protocol.specs.declared.MouseMode.TheVariants.{Relative, Absolute, Keycode}
use Rattle.protocol.specs.declared.StickMode.{StickMode}
use Rattle.protocol.specs.declared.StickMode.TheVariants.{Event, Interrogation, Monitoring, Fire, StickKeycode}
use Rattle.protocol.specs.declared.Role.{Role}
use Rattle.protocol.specs.declared.Role.TheVariants.{ForMouse, ForJoystick}
use Rattle.protocol.specs.declared.Settings.{Settings}
use Rattle.mouse.specs.declared.Latches.{Latches}
use Rattle.mouse.specs.Mouse.{held_limit, held_most, gathers}
use Rattle.mouse.specs.Reports.{latch_byte}
use Rattle.sticks.specs.declared.Stick.{Stick}
use Rattle.sticks.specs.Sticks.{byte}
use Rattle.controller.specs.declared.State.{State}
use Rattle.controller.specs.State.{IsState}
use Rattle.fields.specs.Numbers.{mouse_numbers, stick_numbers, role_number, settings_numbers, pointer_numbers, sticks_numbers, clock_numbers, command_numbers, numbers, held_number}
use Rattle.fields.specs.States.{mouse_from, stick_from, role_from, settings_from, held_from, latches_from, pointer_from, stick_of, sticks_from, clock_from, command_from, state_from}
use Rattle.fields.proofs.Facts.{listed_all}

pub flag_back : (b : Bool) → eqb (bit b) 1 ≡ b
flag_back true = refl
flag_back false = refl

mouse_back : (m : MouseMode) → let n = mouse_numbers m in mouse_from (get_or n 0 0) (get_or n 1 0) (get_or n 2 0) (get_or n 3 0) (get_or n 4 0) ≡ m
mouse_back Relative = refl
mouse_back (Absolute p) = refl
mouse_back (Keycode d) = refl

stick_back : (m : StickMode) →
    let n = stick_numbers m in
    stick_from (get_or n 0 0) (get_or n 1 0) (get_or n 2 0) (get_or n 3 0) (get_or n 4 0) (get_or n 5 0) (get_or n 6 0) (get_or n 7 0) ≡ m
stick_back Event = refl
stick_back Interrogation = refl
stick_back (Monitoring rate) = refl
stick_back Fire = refl
stick_back (StickKeycode x y) = refl

role_back : (r : Role) → role_from (role_number r) ≡ r
role_back ForMouse = refl
role_back ForJoystick = refl

held_back : (m : Motion) → OneSided m → size m ≤ held_limit → held_from (held_number m) ≡ m
held_back m one h =
    let p : (held_number m - 2032) ≡ m.plus = omega (arith, one) in
    let q : (2032 - held_number m) ≡ m.minus = omega (arith, one) in
    rw (p, q)

latches_back : (l : Latches) → latches_from (latch_byte l) ≡ l
latches_back l = at l.rightdown l.rightup l.leftdown l.leftup
  where
    at : (a b c d : Bool) → latches_from (latch_byte (record { rightdown = a; rightup = b; leftdown = c; leftup = d })) ≡ record { rightdown = a; rightup = b; leftdown = c; leftup = d }
    at true true true true = refl
    at true true true false = refl
    at true true false true = refl
    at true true false false = refl
    at true false true true = refl
    at true false true false = refl
    at true false false true = refl
    at true false false false = refl
    at false true true true = refl
    at false true true false = refl
    at false true false true = refl
    at false true false false = refl
    at false false true true = refl
    at false false true false = refl
    at false false false true = refl
    at false false false false = refl

one_stick_back : (k : Stick) → k.position ≤ 15 → stick_of (byte k) ≡ k
one_stick_back k h = at k.trigger
  where
    at : (t : Bool) → stick_of (byte (record { position = k.position; trigger = t })) ≡ record { position = k.position; trigger = t }
    at true =
        let p : ((128 * 1 + k.position) % 128) ≡ k.position = omega arith in
        rw (p, le-leb 128 (128 * 1 + k.position) (omega arith))
    at false =
        let p : ((128 * 0 + k.position) % 128) ≡ k.position = omega arith in
        rw (p, lt-leb 128 (128 * 0 + k.position) (omega arith))

-- held motion is never beyond its limit
pub most_held : (paused : Bool) (σ : Settings) → held_most paused σ ≤ held_limit
unfolding held_most
most_held paused σ = both_ways (λ (n : ℕ). n ≤ held_limit) (paused && gathers σ) (λ _. omega arith) (λ _. omega arith)

-- each part, with the numbers before and after it
module _ (s : State) (i : IsState s) where
  settings_back : settings_from (numbers s) ≡ s.settings
  unfolding numbers settings_numbers settings_from
  settings_back = simp (mouse_back s.settings.mouse, stick_back s.settings.stick, flag_back, role_back)

  pointer_back : pointer_from (numbers s) ≡ s.mouse
  unfolding numbers settings_numbers pointer_numbers pointer_from
  pointer_back =
      let m = s.mouse.held in
      let limit = most_held s.paused s.settings in
      simp (
        flag_back,
        latches_back,
        held_back m.x i.spelling.mouse.x (omega (arith, i.ranges.mouse.held_x, limit)),
        held_back m.y i.spelling.mouse.y (omega (arith, i.ranges.mouse.held_y, limit)),
      )

  sticks_back : sticks_from (numbers s) ≡ s.sticks
  unfolding numbers settings_numbers pointer_numbers sticks_numbers sticks_from
  sticks_back = simp (one_stick_back s.sticks.zero i.ranges.sticks.zero, one_stick_back s.sticks.one i.ranges.sticks.one)

  clock_back : clock_from (numbers s) ≡ s.clock
  unfolding numbers settings_numbers pointer_numbers sticks_numbers clock_numbers clock_from
  clock_back = refl

  command_back : command_from (numbers s) ≡ s.command
  unfolding numbers settings_numbers pointer_numbers sticks_numbers clock_numbers command_numbers command_from
  command_back = rw (listed_all 6 s.command.params i.ranges.command.places)

  paused_back : eqb (get_or (numbers s) 22 0) 1 ≡ s.paused
  unfolding numbers settings_numbers pointer_numbers
  paused_back = flag_back s.paused

  pub back : state_from (numbers s) s.keys s.queue ≡ s
  unfolding state_from
  back = simp (settings_back, pointer_back, sticks_back, clock_back, command_back, paused_back)
