-- The ranges that depend on a mode, as its numbers have them and as the state has them.
-- Assumes nothing.
use Prim.Native.Nat.{ℕ, ◌-◌, ◌≤◌, max}
use native.Mathlib.Omega.{arith}
use mathlib.Core.Path.{◌≡◌, refl, ap}
use mathlib.Core.Bool.{Bool, true, false, cond, not, ◌&&◌}
use mathlib.Core.List.{List}
use lib.Dec.{eqb}
use lib.ListN.{get_or}
use Rattle.protocol.specs.declared.MouseMode.{MouseMode}
use Rattle.protocol.specs.declared.MouseMode.TheVariants.{Relative, Absolute, Keycode}
use Rattle.protocol.specs.declared.StickMode.{StickMode}
use Rattle.protocol.specs.declared.StickMode.TheVariants.{Event, Interrogation, Monitoring, Fire, StickKeycode}
use Rattle.protocol.specs.declared.Role.{Role}
use Rattle.protocol.specs.declared.Role.TheVariants.{ForMouse, ForJoystick}
use Rattle.protocol.specs.Settings.{IsMouseMode, IsStickMode, monitors, is_absolute, is_mouse}
use Rattle.mouse.specs.Mouse.{live, maximum_of}
use Rattle.mouse.specs.Mouse as Mouse
use Rattle.sticks.specs.Sticks.{most_ticks, most_samples}
use Rattle.controller.specs.declared.State.{State}
use Rattle.fields.specs.Ranges.{gathers, held_most}
use Rattle.fields.specs.Numbers.{mouse_numbers, stick_numbers, role_number, settings_numbers, pointer_numbers, numbers}
use Rattle.fields.proofs.Back.{flag_back}

-- the five numbers of a mouse mode are in range
pub record MouseFits (n : List ℕ) : Type 0 where
  pub tag : get_or n 0 0 ≤ 2
  pub max_x : get_or n 1 0 ≤ cond (eqb (get_or n 0 0) 1) 65535 0
  pub max_y : get_or n 2 0 ≤ cond (eqb (get_or n 0 0) 1) 65535 0
  pub delta_x : get_or n 3 0 ≤ cond (eqb (get_or n 0 0) 2) 255 0
  pub delta_y : get_or n 4 0 ≤ cond (eqb (get_or n 0 0) 2) 255 0

pub mouse_fits : (m : MouseMode) → IsMouseMode m → MouseFits (mouse_numbers m)
mouse_fits Relative h = omega arith
mouse_fits (Absolute p) h = omega arith
mouse_fits (Keycode d) h = omega arith

pub mouse_is : (m : MouseMode) → MouseFits (mouse_numbers m) → IsMouseMode m
mouse_is Relative h = tt
mouse_is (Absolute p) h = record { x = h.max_x; y = h.max_y }
mouse_is (Keycode d) h = record { x = h.delta_x; y = h.delta_y }

-- the eight of a stick mode
pub record StickFits (n : List ℕ) : Type 0 where
  pub tag : get_or n 0 0 ≤ 4
  pub rate : get_or n 1 0 ≤ cond (eqb (get_or n 0 0) 2) 255 0
  pub rx : get_or n 2 0 ≤ cond (eqb (get_or n 0 0) 4) 255 0
  pub ry : get_or n 3 0 ≤ cond (eqb (get_or n 0 0) 4) 255 0
  pub tx : get_or n 4 0 ≤ cond (eqb (get_or n 0 0) 4) 255 0
  pub ty : get_or n 5 0 ≤ cond (eqb (get_or n 0 0) 4) 255 0
  pub vx : get_or n 6 0 ≤ cond (eqb (get_or n 0 0) 4) 255 0
  pub vy : get_or n 7 0 ≤ cond (eqb (get_or n 0 0) 4) 255 0

pub stick_fits : (k : StickMode) → IsStickMode k → StickFits (stick_numbers k)
stick_fits Event h = omega arith
stick_fits Interrogation h = omega arith
stick_fits (Monitoring rate) h = omega arith
stick_fits Fire h = omega arith
stick_fits (StickKeycode x y) h = omega arith

pub stick_is : (k : StickMode) → StickFits (stick_numbers k) → IsStickMode k
stick_is Event h = tt
stick_is Interrogation h = tt
stick_is (Monitoring rate) h = h.rate
stick_is Fire h = tt
stick_is (StickKeycode x y) h = (record { breakpoint = h.rx; before = h.tx; after = h.vx }, record { breakpoint = h.ry; before = h.ty; after = h.vy })

-- what bounds the coordinates, the monitoring ticks and the samples
pub maximum_x : (m : MouseMode) → get_or (mouse_numbers m) 1 0 ≡ (maximum_of m).x
maximum_x Relative = refl
maximum_x (Absolute p) = refl
maximum_x (Keycode d) = refl

pub maximum_y : (m : MouseMode) → get_or (mouse_numbers m) 2 0 ≡ (maximum_of m).y
maximum_y Relative = refl
maximum_y (Absolute p) = refl
maximum_y (Keycode d) = refl

pub ticks_same : (k : StickMode) → max (get_or (stick_numbers k) 1 0) 1 - 1 ≡ most_ticks k
ticks_same Event = refl
ticks_same Interrogation = refl
ticks_same (Monitoring rate) = refl
ticks_same Fire = refl
ticks_same (StickKeycode x y) = refl

pub samples_same : (k : StickMode) → cond (eqb (get_or (stick_numbers k) 0 0) 3) 7 0 ≡ most_samples k
samples_same Event = refl
samples_same Interrogation = refl
samples_same (Monitoring rate) = refl
samples_same Fire = refl
samples_same (StickKeycode x y) = refl

-- how far motion is held
absolute_same : (m : MouseMode) → eqb (get_or (mouse_numbers m) 0 0) 1 ≡ is_absolute m
absolute_same Relative = refl
absolute_same (Absolute p) = refl
absolute_same (Keycode d) = refl

role_same : (r : Role) → eqb (role_number r) 0 ≡ is_mouse r
role_same ForMouse = refl
role_same ForJoystick = refl

monitors_same : (k : StickMode) (b : Bool) → (not (eqb (get_or (stick_numbers k) 0 0) 2) && (not (eqb (get_or (stick_numbers k) 0 0) 3) && b)) ≡ (not (monitors k) && b)
monitors_same Event b = refl
monitors_same Interrogation b = refl
monitors_same (Monitoring rate) b = refl
monitors_same Fire b = refl
monitors_same (StickKeycode x y) b = refl

grouped : (a b c d : Bool) → (a && (b && (c && d))) ≡ ((a && b && c) && d)
grouped true true true d = refl
grouped true true false d = refl
grouped true false c d = refl
grouped false b c d = refl

pub gathers_same : (s : State) → gathers (numbers s) ≡ (s.paused && Mouse.gathers s.settings)
unfolding gathers numbers settings_numbers pointer_numbers Mouse.gathers live
gathers_same s =
    let σ = s.settings in
    rw (flag_back s.paused, flag_back σ.mouseon, role_same σ.port0, monitors_same σ.stick, absolute_same σ.mouse)
    (ap (λ (b : Bool). s.paused && b) (grouped σ.mouseon (is_mouse σ.port0) (not (monitors σ.stick)) (not (is_absolute σ.mouse))))

pub held_same : (s : State) → held_most (numbers s) ≡ Mouse.held_most s.paused s.settings
unfolding held_most Mouse.held_most
held_same s = rw (gathers_same s)
