-- Numbers that all fit give a state, with a queue that is one.
-- Assumes nothing.
use Prim.Native.Nat.{ℕ, zero, suc, ◌+◌, ◌-◌, ◌%◌, ◌^◌, ◌≤◌, ◌<◌, max}
use native.Mathlib.Omega.{arith}
use native.Mathlib.Nat.{min-eq_left}
use mathlib.Core.Path.{◌≡◌, sym, ap, ◌∙◌, subst}
use mathlib.Core.Bool.{true, cond}
use mathlib.Core.List.{List}
use lib.Dec.{eqb, leb}
use lib.ListN.{get_or, length}
use borrow.Author.Tests.{leb-true}
use Rattle.motion.specs.Motion.{OneSided, size}
use Rattle.protocol.specs.Settings.{IsSettings}
use Rattle.clock.specs.Clock.{IsClock}
use Rattle.mouse.specs.Mouse.{IsMouse, OneMouse}
use Rattle.mouse.specs.Mouse as Mouse
use Rattle.sticks.specs.Sticks.{IsSticks, OneSticks, most_samples}
use Rattle.keys.specs.declared.Keys.{Keys}
use Rattle.keys.specs.Keys.{IsKeys}
use Rattle.output.specs.declared.Run.{Run}
use Rattle.controller.specs.State.{IsState, IsQueue, OneQueue, queue_room}
use Rattle.fields.specs.Ranges.{at, gap_free, loading, most_bits, third, pending, ranges, held_most, all_fit}
use Rattle.fields.specs.Numbers.{mouse_numbers, stick_numbers}
use Rattle.fields.specs.States.{held_from, settings_from, pointer_from, sticks_from, clock_from, command_from, state_from}
use Rattle.fields.proofs.Facts.{Fits, fit}
use Rattle.fields.proofs.Modes.{MouseFits, StickFits, mouse_is, stick_is, maximum_x, maximum_y, ticks_same, samples_same, held_same}
use Rattle.fields.proofs.Commands.{CommandFits, command_is, command_one}
use Rattle.fields.proofs.Within.{samples_few}
use Rattle.fields.proofs.There.{mouse_same, stick_same, there}

held_one : (x : ℕ) → OneSided (held_from x)
held_one x = omega arith

held_size : (x n : ℕ) → 2032 - n ≤ x → x ≤ 2032 + n → size (held_from x) ≤ n
held_size x n l h = omega arith

power_some : (n : ℕ) → 1 ≤ 2 ^ n
power_some zero = omega arith
power_some (suc n) = let h = power_some n in omega arith

bits_below : (n b : ℕ) → n ≤ 7 → b ≤ most_bits n → b < 2 ^ n
unfolding most_bits
bits_below n b h l = let e : b ≤ 2 ^ n - 1 = rw (min-eq_left h) at l in let p = power_some n in omega arith

module _ (a : List ℕ) (h : all_fit a ≡ true) where
  w : (k : ℕ) → k < 55 → Fits k a (get_or a k 0)
  w k l = fit a h k l

  mouse_mode : MouseFits (mouse_numbers (settings_from a).mouse)
  unfolding ranges settings_from
  mouse_mode = rw (mouse_same a h) (record { tag = (w 0 (omega arith)).to_high; max_x = (w 1 (omega arith)).to_high; max_y = (w 2 (omega arith)).to_high; delta_x = (w 3 (omega arith)).to_high; delta_y = (w 4 (omega arith)).to_high })

  stick_mode : StickFits (stick_numbers (settings_from a).stick)
  unfolding ranges settings_from
  stick_mode = rw (stick_same a h) (record { tag = (w 12 (omega arith)).to_high; rate = (w 13 (omega arith)).to_high; rx = (w 14 (omega arith)).to_high; ry = (w 15 (omega arith)).to_high; tx = (w 16 (omega arith)).to_high; ty = (w 17 (omega arith)).to_high; vx = (w 18 (omega arith)).to_high; vy = (w 19 (omega arith)).to_high })

  settings_is : IsSettings (settings_from a)
  unfolding ranges settings_from
  settings_is = record {
    mouse = mouse_is (settings_from a).mouse mouse_mode;
    action = (w 5 (omega arith)).to_high;
    threshold = record { x = (w 6 (omega arith)).to_high; y = (w 7 (omega arith)).to_high };
    scale = record { x = (w 8 (omega arith)).to_high; y = (w 9 (omega arith)).to_high };
    stick = stick_is (settings_from a).stick stick_mode;
  }

  clock_is : IsClock (clock_from a)
  unfolding ranges clock_from
  clock_is = record {
    year = (w 39 (omega arith)).to_high;
    month_first = (w 40 (omega arith)).from_low;
    month_last = (w 40 (omega arith)).to_high;
    day_first = (w 41 (omega arith)).from_low;
    day_last = (w 41 (omega arith)).to_high;
    hour = (w 42 (omega arith)).to_high;
    minute = (w 43 (omega arith)).to_high;
    second = (w 44 (omega arith)).to_high;
    hundredth = (w 45 (omega arith)).to_high;
  }

  command_fits : CommandFits (at 47 a) (at 48 a) (at 49 a) (at 50 a) (at 51 a) (at 52 a) (at 53 a) (at 54 a) (at 55 a)
  unfolding ranges gap_free third pending loading
  command_fits = record {
    code_known = (w 46 (omega arith)).free;
    come_most = (w 47 (omega arith)).to_high;
    param0 = (w 48 (omega arith)).to_high;
    param1 = (w 49 (omega arith)).to_high;
    param2 = (w 50 (omega arith)).to_high;
    param3 = (w 51 (omega arith)).to_high;
    param4 = (w 52 (omega arith)).to_high;
    param5 = (w 53 (omega arith)).to_high;
    least = (w 54 (omega arith)).from_low;
    most = (w 54 (omega arith)).to_high;
  }

  stick_position : (k : ℕ) → leb (get_or a k 0 % 128) 15 ≡ true → get_or a k 0 % 128 ≤ 15
  stick_position k e = leb-true (get_or a k 0 % 128) 15 e

  samples_as : cond (eqb (at 13 a) 3) 7 0 ≡ most_samples (settings_from a).stick
  unfolding settings_from
  samples_as = ap (λ (n : List ℕ). cond (eqb (get_or n 0 0) 3) 7 0) (sym (stick_same a h)) ∙ samples_same (settings_from a).stick

  few : at 38 a ≤ 7
  unfolding ranges
  few =
      let u : at 38 a ≤ cond (eqb (at 13 a) 3) 7 0 = (w 37 (omega arith)).to_high in
      omega (arith, u, samples_as, samples_few (settings_from a).stick)

  sticks_is : IsSticks (settings_from a).stick (sticks_from a)
  unfolding ranges sticks_from gap_free settings_from
  sticks_is = record {
    zero = stick_position 30 (w 30 (omega arith)).free;
    one = stick_position 31 (w 31 (omega arith)).free;
    x = record { age = (w 32 (omega arith)).to_high; wait = (w 33 (omega arith)).to_high };
    y = record { age = (w 34 (omega arith)).to_high; wait = (w 35 (omega arith)).to_high };
    ticks = subst (λ (n : ℕ). at 37 a ≤ n) (ap (λ (n : List ℕ). max (get_or n 1 0) 1 - 1) (sym (stick_same a h)) ∙ ticks_same (settings_from a).stick) (w 36 (omega arith)).to_high;
    samples = subst (λ (n : ℕ). at 38 a ≤ n) samples_as (w 37 (omega arith)).to_high;
  }

  sticks_one : OneSticks (sticks_from a)
  unfolding ranges sticks_from
  sticks_one = bits_below (at 38 a) (at 39 a) few (w 38 (omega arith)).to_high

  pointer_one : OneMouse (pointer_from a)
  unfolding pointer_from
  pointer_one = record { x = held_one (at 26 a); y = held_one (at 27 a) }

  module _ (l : length a ≡ 55) (m : Keys) (q : Run queue_room) where
    held_as : held_most a ≡ Mouse.held_most (eqb (at 23 a) 1) (settings_from a)
    unfolding state_from
    held_as = ap held_most (sym (there a h l m q)) ∙ held_same (state_from a m q)

    pointer_is : IsMouse (eqb (at 23 a) 1) (settings_from a) (pointer_from a)
    unfolding ranges pointer_from settings_from
    pointer_is = record {
      x = subst (λ (n : ℕ). at 24 a ≤ n) (ap (λ (n : List ℕ). get_or n 1 0) (sym (mouse_same a h)) ∙ maximum_x (settings_from a).mouse) (w 23 (omega arith)).to_high;
      y = subst (λ (n : ℕ). at 25 a ≤ n) (ap (λ (n : List ℕ). get_or n 2 0) (sym (mouse_same a h)) ∙ maximum_y (settings_from a).mouse) (w 24 (omega arith)).to_high;
      held_x = subst (λ (n : ℕ). size (held_from (at 26 a)) ≤ n) held_as (held_size (at 26 a) (held_most a) (w 25 (omega arith)).from_low (w 25 (omega arith)).to_high);
      held_y = subst (λ (n : ℕ). size (held_from (at 27 a)) ≤ n) held_as (held_size (at 27 a) (held_most a) (w 26 (omega arith)).from_low (w 26 (omega arith)).to_high);
    }

    pub ranged : IsKeys m → IsQueue (eqb (at 23 a) 1) q → OneQueue q → IsState (state_from a m q)
    unfolding state_from command_from
    ranged k i o = record {
      ranges = record {
        settings = settings_is;
        command = command_is (at 47 a) (at 48 a) (at 49 a) (at 50 a) (at 51 a) (at 52 a) (at 53 a) (at 54 a) (at 55 a) command_fits;
        queue = i;
        mouse = pointer_is;
        sticks = sticks_is;
        clock = clock_is;
        keys = k;
      };
      spelling = record {
        command = command_one (at 47 a) (at 48 a) (at 49 a) (at 50 a) (at 51 a) (at 52 a) (at 53 a) (at 54 a) (at 55 a) command_fits;
        queue = o;
        mouse = pointer_one;
        sticks = sticks_one;
      };
    }
