-- The numbers of a state have 16 bits, and held motion is within its limit: so each is read as it was written.
-- Assumes nothing.
use Prim.Native.Nat.{ℕ, ◌^◌, ◌≤◌, ◌<◌}
use native.Mathlib.Omega.{arith}
use native.Mathlib.Nat.{pow-le-pow_right}
use mathlib.Core.Path.{refl}
use mathlib.Core.Bool.{Bool, true, false, cond, ◌&&◌}
use mathlib.Core.List.{◌++◌}
use lib.Dec.{eqb}
use lib.ListN.{get_or}
use Rattle.clock.proofs.Laws.{month_bounds}
use Rattle.protocol.specs.declared.MouseMode.{MouseMode}
use Rattle.protocol.specs.declared.MouseMode.TheVariants.{Relative, Absolute, Keycode}
use Rattle.protocol.specs.declared.StickMode.{StickMode}
use Rattle.protocol.specs.declared.StickMode.TheVariants.{Event, Interrogation, Monitoring, Fire, StickKeycode}
use Rattle.protocol.specs.Settings.{IsMouseMode, IsStickMode}
use Rattle.protocol.specs.declared.Role.{Role}
use Rattle.protocol.specs.declared.Role.TheVariants.{ForMouse, ForJoystick}
use Rattle.protocol.specs.Codes.{memory_load}
use Rattle.protocol.proofs.Reading.{getD_byte, parameters_small}
use Rattle.mouse.specs.Mouse.{maximum_of}
use Rattle.sticks.specs.Sticks.{most_ticks}
use Rattle.controller.specs.declared.State.{State}
use Rattle.controller.specs.State.{IsState}
use Rattle.fields.specs.Numbers.{mouse_numbers, stick_numbers, role_number, settings_numbers, pointer_numbers, sticks_numbers, clock_numbers, command_numbers, numbers}
use Rattle.fields.proofs.Back.{most_held}
use Rattle.fields.proofs.Bounding.{bit_small}
use Rattle.fields.proofs.Within.{samples_few}
use Rattle.fields.proofs.Commands.{code_most}
use Rattle.fields.proofs.Facts.{listed}
use Rattle.saved.proofs.Reading.{Sized, sized_both}

mouse_top : (m : MouseMode) → IsMouseMode m → Sized 0 (listed 5 0 (mouse_numbers m))
mouse_top Relative h = omega arith
mouse_top (Absolute p) h = omega arith
mouse_top (Keycode d) h = omega arith

stick_top : (k : StickMode) → IsStickMode k → Sized 12 (listed 8 0 (stick_numbers k))
stick_top Event h = omega arith
stick_top Interrogation h = omega arith
stick_top (Monitoring rate) h = omega arith
stick_top Fire h = omega arith
stick_top (StickKeycode x y) h = omega arith

place_top : (m : MouseMode) → IsMouseMode m → ((maximum_of m).x ≤ 65535) × ((maximum_of m).y ≤ 65535)
place_top Relative h = omega arith
place_top (Absolute p) h = omega arith
place_top (Keycode d) h = omega arith

ticks_top : (k : StickMode) → IsStickMode k → most_ticks k ≤ 255
ticks_top Event h = omega arith
ticks_top Interrogation h = omega arith
ticks_top (Monitoring rate) h = omega arith
ticks_top Fire h = omega arith
ticks_top (StickKeycode x y) h = omega arith

role_top : (r : Role) → role_number r ≤ 1
role_top ForMouse = omega arith
role_top ForJoystick = omega arith

bits_top : (n b : ℕ) → n ≤ 7 → b < 2 ^ n → b ≤ 127
bits_top n b h l = let z : 0 < 2 = omega arith in let p : 2 ^ n ≤ 2 ^ 7 = pow-le-pow_right z h in omega arith

cond_top : (t : Bool) (x : ℕ) → cond t x 0 ≤ x
cond_top true x = omega arith
cond_top false x = omega arith

module _ (s : State) (i : IsState s) where
  settings_sized : Sized 0 (settings_numbers s.settings)
  unfolding settings_numbers
  settings_sized =
      let σ = s.settings in
      let r = i.ranges.settings in
      omega (
        arith,
        mouse_top σ.mouse r.mouse,
        r.action,
        r.threshold,
        r.scale,
        bit_small σ.bottom,
        bit_small σ.mouseon,
        stick_top σ.stick r.stick,
        bit_small σ.stickson,
        role_top σ.port0,
      )

  pointer_sized : Sized 22 (pointer_numbers s.paused s.mouse)
  unfolding pointer_numbers
  pointer_sized =
      let r = i.ranges.mouse in
      let m = s.mouse in
      omega (
        arith,
        bit_small s.paused,
        place_top s.settings.mouse i.ranges.settings.mouse,
        most_held s.paused s.settings,
        r.x,
        r.y,
        r.held_x,
        r.held_y,
        bit_small m.left,
        bit_small m.right,
        bit_small m.latches.rightdown,
        bit_small m.latches.rightup,
        bit_small m.latches.leftdown,
        bit_small m.latches.leftup,
      )

  sticks_sized : Sized 30 (sticks_numbers s.sticks)
  unfolding sticks_numbers
  sticks_sized =
      let r = i.ranges.sticks in
      let k = s.sticks in
      let few : k.samples ≤ 7 = omega (arith, r.samples, samples_few s.settings.stick) in
      omega (
        arith,
        few,
        r,
        bit_small k.zero.trigger,
        bit_small k.one.trigger,
        ticks_top s.settings.stick i.ranges.settings.stick,
        bits_top k.samples k.bits few i.spelling.sticks,
      )

  clock_sized : Sized 39 (clock_numbers s.clock)
  unfolding clock_numbers
  clock_sized = omega (arith, i.ranges.clock, month_bounds s.clock.year s.clock.month)

  command_sized : Sized 46 (command_numbers s.command)
  unfolding command_numbers
  command_sized =
      let c = s.command in
      let r = i.ranges.command in
      let b : (k : ℕ) → get_or c.params k 0 ≤ 255 = (λ k. getD_byte c.params k r.known) in
      omega (
        arith,
        code_most c r i.spelling.command,
        r.within,
        parameters_small c.code,
        b 0,
        b 1,
        b 2,
        b 3,
        b 4,
        b 5,
        r.told,
        cond_top (eqb c.code memory_load && eqb c.come 3) (get_or c.params 2 0),
      )

  pub sized : Sized 0 (numbers s)
  unfolding numbers settings_numbers pointer_numbers sticks_numbers clock_numbers
  sized =
      let e = command_numbers s.command in
      let d = clock_numbers s.clock in
      let c = sticks_numbers s.sticks in
      let b = pointer_numbers s.paused s.mouse in
      sized_both 0 22 (settings_numbers s.settings) (b ++ (c ++ (d ++ e))) refl settings_sized
      (sized_both 22 30 b (c ++ (d ++ e)) refl pointer_sized
      (sized_both 30 39 c (d ++ e) refl sticks_sized
      (sized_both 39 46 d e refl clock_sized command_sized)))
