-- Stick events, ticks and samples computed, so that the definitions say what they are meant to say.
-- Assumes nothing.
use Prim.Native.Nat.{ℕ}
use mathlib.Core.Path.{◌≡◌, refl}
use mathlib.Core.Bool.{Bool, true, false}
use mathlib.Core.List.{[], ◌∷◌}
use Rattle.output.specs.Packets.{bytes, pair, samples, monitor}
use Rattle.protocol.specs.declared.Repeat.{Repeat}
use Rattle.protocol.specs.declared.MouseMode.TheVariants.{Relative}
use Rattle.protocol.specs.declared.StickMode.{StickMode}
use Rattle.protocol.specs.declared.StickMode.TheVariants.{Event, Monitoring, Fire, StickKeycode}
use Rattle.protocol.specs.declared.Role.{Role}
use Rattle.protocol.specs.declared.Role.TheVariants.{ForMouse, ForJoystick}
use Rattle.protocol.specs.declared.Settings.{Settings}
use Rattle.protocol.specs.declared.StickCommand.TheVariants.{ReportSticks, SetEvent}
use Rattle.sticks.specs.declared.Stick.{Stick}
use Rattle.sticks.specs.declared.Sticks.{Sticks}
use Rattle.sticks.specs.Sticks.{quiet, unmoved, no_count, centred, horizontal, vertical}
use Rattle.sticks.specs.Events.{heard, stick_reported, trigger_keys, axis_turned, axis_moved, stick_keyed, stick_moved_in, stick_moved}
use Rattle.sticks.specs.Ticks.{both, monitored, older, interval, repeated, axis_aged, axes_aged, ticked_in, ticked, sample_taken, sampled_in, sampled}
use Rattle.sticks.specs.Commands.{commanded, monitoring_left}

-- every 0.5 s for the first 0.2 s, and every 0.7 s from then on
abbrev slowing : Repeat
slowing = record { breakpoint = 2; before = 5; after = 7 }

-- the settings with this joystick mode and this role of port 0, joysticks on
abbrev playing : StickMode → Role → Settings
playing mode role = record {
  mouse = Relative;
  action = 0;
  threshold = record { x = 1; y = 1 };
  scale = record { x = 1; y = 1 };
  bottom = false;
  mouseon = true;
  stick = mode;
  stickson = true;
  port0 = role;
}

abbrev pointing : ℕ → Bool → Stick
pointing position trigger = record { position = position; trigger = trigger }

-- both sticks, and nothing counted
abbrev held : Stick → Stick → Sticks
held zero one = record { zero = zero; one = one; x = no_count; y = no_count; ticks = 0; samples = 0; bits = 0 }

-- at an age of exactly 10·R it is still T, and one tick later V
pub interval_before : interval slowing 20 ≡ 50
unfolding interval
interval_before = refl

pub interval_after : interval slowing 21 ≡ 70
unfolding interval
interval_after = refl

-- with R of 0 it is V from the start
pub interval_at_once : interval (record { breakpoint = 0; before = 5; after = 7 }) 0 ≡ 70
unfolding interval
interval_at_once = refl

-- up, down, left, right, and opposite closures
pub ups_and_downs : (vertical 0 ∷ vertical 1 ∷ vertical 2 ∷ vertical 3 ∷ vertical 12 ∷ []) ≡ (0 ∷ 0x48 ∷ 0x50 ∷ 0 ∷ 0 ∷ [])
unfolding vertical
ups_and_downs = refl

pub lefts_and_rights : (horizontal 0 ∷ horizontal 4 ∷ horizontal 8 ∷ horizontal 12 ∷ horizontal 3 ∷ []) ≡ (0 ∷ 0x4B ∷ 0x4D ∷ 0 ∷ 0 ∷ [])
unfolding horizontal
lefts_and_rights = refl

-- a wait at the interval gives a pair and becomes 0; one below it does not
pub wait_over :
    repeated slowing 0x4D (record { age = 20; wait = 50 }) ≡ record { packets = pair 0x4D; count = record { age = 20; wait = 0 } }
unfolding repeated interval
wait_over = refl

pub wait_on : repeated slowing 0x4D (record { age = 20; wait = 49 }) ≡ unmoved (record { age = 20; wait = 49 })
unfolding repeated interval
wait_on = refl

-- an interval of 0 never repeats
pub never_again :
    repeated (record { breakpoint = 0; before = 5; after = 0 }) 0x4D (record { age = 2551; wait = 2551 })
    ≡ unmoved (record { age = 2551; wait = 2551 })
unfolding repeated interval
never_again = refl

-- the counts reach 2,551 and stop there
pub counts_stop : older (record { age = 2550; wait = 2551 }) ≡ record { age = 2551; wait = 2551 }
counts_stop = refl

-- both arrows at one tick: the horizontal one first
pub arrows_at_a_tick :
    bytes
    (ticked false (playing (StickKeycode slowing slowing) ForJoystick)
    (record {
      zero = pointing 9 false;
      one = centred;
      x = record { age = 19; wait = 49 };
      y = record { age = 21; wait = 69 };
      ticks = 0;
      samples = 0;
      bits = 0;
    })
    ).packets
    ≡ (0x4D ∷ 0xCD ∷ 0x48 ∷ 0xC8 ∷ [])
unfolding ticked ticked_in heard axes_aged axis_aged repeated interval horizontal vertical
arrows_at_a_tick = refl

-- keycode mode, up and right and the trigger: horizontal, vertical, trigger
pub keys_of_a_move :
    bytes (stick_moved (playing (StickKeycode slowing slowing) ForJoystick) false (pointing 9 true) (held centred centred)).packets
    ≡ (0x4D ∷ 0xCD ∷ 0x48 ∷ 0xC8 ∷ 0x74 ∷ [])
unfolding stick_moved stick_moved_in stick_keyed axis_moved axis_turned trigger_keys heard horizontal vertical
keys_of_a_move = refl

-- keycode mode, the trigger of stick 1 let go: its break alone
pub key_of_stick_one :
    bytes (stick_moved (playing (StickKeycode slowing slowing) ForMouse) true (pointing 9 false) (held centred (pointing 9 true))).packets ≡ (0xF5 ∷ [])
unfolding stick_moved stick_moved_in stick_keyed axis_moved axis_turned trigger_keys heard horizontal vertical
key_of_stick_one = refl

-- a new direction starts its counts again, and an axis that keeps its direction keeps them
pub counts_again :
    stick_moved (playing (StickKeycode slowing slowing) ForJoystick) false (pointing 5 false)
    (record {
      zero = pointing 9 false;
      one = centred;
      x = record { age = 30; wait = 40 };
      y = record { age = 31; wait = 41 };
      ticks = 0;
      samples = 0;
      bits = 0;
    })
    ≡ record {
      packets = pair 0x4B;
      sticks = record {
        zero = pointing 5 false;
        one = centred;
        x = no_count;
        y = record { age = 31; wait = 41 };
        ticks = 0;
        samples = 0;
        bits = 0;
      };
    }
unfolding stick_moved stick_moved_in stick_keyed axis_moved axis_turned trigger_keys heard horizontal vertical
counts_again = refl

-- event mode: stick 0 where port 0 is a joystick, and stick 1
pub event_of_stick_zero :
    bytes (stick_moved (playing Event ForJoystick) false (pointing 1 true) (held centred centred)).packets ≡ (0xFE ∷ 0x81 ∷ [])
unfolding stick_moved stick_moved_in stick_reported heard
event_of_stick_zero = refl

pub event_of_stick_one :
    bytes (stick_moved (playing Event ForMouse) true (pointing 8 false) (held centred centred)).packets ≡ (0xFF ∷ 0x08 ∷ [])
unfolding stick_moved stick_moved_in stick_reported heard
event_of_stick_one = refl

-- event mode: nothing where the byte is the same, and nothing of stick 0 where port 0 is a mouse
pub event_unchanged :
    stick_moved (playing Event ForMouse) true (pointing 8 false) (held centred (pointing 8 false)) ≡ quiet (held centred (pointing 8 false))
unfolding stick_moved stick_moved_in stick_reported heard
event_unchanged = refl

pub event_unheard :
    stick_moved (playing Event ForMouse) false (pointing 1 true) (held centred centred) ≡ quiet (held (pointing 1 true) centred)
unfolding stick_moved stick_moved_in stick_reported heard
event_unheard = refl

-- monitoring at a rate of 2: nothing at the first tick, both sticks at the second
pub first_tick :
    ticked false (playing (Monitoring 2) ForJoystick) (held (pointing 1 true) (pointing 8 false))
    ≡ quiet (record { zero = pointing 1 true; one = pointing 8 false; x = no_count; y = no_count; ticks = 1; samples = 0; bits = 0 })
unfolding ticked ticked_in monitored
first_tick = refl

pub second_tick :
    ticked false (playing (Monitoring 2) ForJoystick)
    (record { zero = pointing 1 true; one = pointing 8 false; x = no_count; y = no_count; ticks = 1; samples = 0; bits = 0 })
    ≡ record { packets = monitor 0x02 0x18 ∷ []; sticks = held (pointing 1 true) (pointing 8 false) }
unfolding ticked ticked_in monitored both
second_tick = refl

-- one sample more
abbrev next_sample : ℕ → Sticks → Sticks
next_sample b s = (sampled false (playing Fire ForJoystick) b s).sticks

-- eight samples, 1 1 0 1 0 0 0 0: one byte at the eighth, with the first in the top bit
pub eight_samples :
    sampled false (playing Fire ForJoystick) 0
    (next_sample 0 (next_sample 0 (next_sample 0 (next_sample 1 (next_sample 0 (next_sample 1 (next_sample 1 (held centred centred))))))))
    ≡ record { packets = samples 0xD0 ∷ []; sticks = held centred centred }
unfolding sampled sampled_in sample_taken
eight_samples = refl

-- 0x16 sends both sticks, stick 0 first
pub both_asked : bytes (commanded ReportSticks Event (held (pointing 1 true) (pointing 8 false))).packets ≡ (0xFD ∷ 0x81 ∷ 0x08 ∷ [])
unfolding commanded
both_asked = refl

-- a joystick mode command clears counts, ticks and samples; leaving monitoring clears the last two
pub cleared_by_mode :
    commanded SetEvent (Monitoring 9)
    (record {
      zero = pointing 1 true;
      one = centred;
      x = record { age = 1; wait = 2 };
      y = record { age = 3; wait = 4 };
      ticks = 5;
      samples = 0;
      bits = 0;
    })
    ≡ quiet (held (pointing 1 true) centred)
unfolding commanded
cleared_by_mode = refl

pub cleared_by_leaving :
    monitoring_left (Monitoring 9)
    (record {
      zero = pointing 1 true;
      one = centred;
      x = record { age = 1; wait = 2 };
      y = record { age = 3; wait = 4 };
      ticks = 5;
      samples = 0;
      bits = 0;
    })
    ≡ record {
      zero = pointing 1 true;
      one = centred;
      x = record { age = 1; wait = 2 };
      y = record { age = 3; wait = 4 };
      ticks = 0;
      samples = 0;
      bits = 0;
    }
unfolding monitoring_left
cleared_by_leaving = refl
