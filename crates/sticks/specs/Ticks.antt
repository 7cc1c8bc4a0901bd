-- Ticks and fire samples, paused and not (document 01, "Sticks, samples, clock").
use Rattle.std.specs.Prelude.{ℕ, ◌+◌, ◌*◌, min, Bool, false, cond, ◌&&◌, [], ◌∷◌, eqb, leb, ltb}
use Rattle.output.specs.Packets.{Packet, monitor, samples, bit, pair}
use Rattle.protocol.specs.declared.Repeat.{Repeat}
use Rattle.protocol.specs.declared.StickMode.{StickMode}
use Rattle.protocol.specs.declared.StickMode.TheVariants.{Event, Interrogation, Monitoring, Fire, StickKeycode}
use Rattle.protocol.specs.declared.Settings.{Settings}
use Rattle.protocol.specs.Settings.{acts_as}
use Rattle.sticks.specs.declared.Count.{Count}
use Rattle.sticks.specs.declared.Sticks.{Sticks}
use Rattle.sticks.specs.Sticks.{SticksDue, quiet, CountDue, unmoved, most_count, horizontal, vertical}
use Rattle.sticks.specs.Events.{heard, keys_sent}

-- the "monitoring ticks" put in place of those before; nothing else changes
abbrev pub with_ticks : ℕ → Sticks → Sticks
with_ticks n s = record { zero = s.zero; one = s.one; x = s.x; y = s.y; ticks = n; samples = s.samples; bits = s.bits }

-- "samples (0 to 7 of them)": their number and their bits put in place of those before; nothing else changes
abbrev pub with_samples : ℕ → ℕ → Sticks → Sticks
with_samples n bits s = record { zero = s.zero; one = s.one; x = s.x; y = s.y; ticks = s.ticks; samples = n; bits = bits }

-- "2·trigger0 + trigger1, then 16·position0 + position1"
unfoldable pub both : Sticks → Packet
both s = monitor (2 * bit s.zero.trigger + bit s.one.trigger) (16 * s.zero.position + s.one.position)

-- "Monitoring: every rate ticks"
unfoldable pub monitored : ℕ → Sticks → SticksDue
monitored rate s =
    cond (leb (acts_as rate) (s.ticks + 1))
    (record { packets = both s ∷ []; sticks = with_ticks 0 s })
    (quiet (with_ticks (s.ticks + 1) s))

-- "adds one to age and wait ...; both stop at 2,551"
abbrev pub older : Count → Count
older c = record { age = min (c.age + 1) most_count; wait = min (c.wait + 1) most_count }

-- "The interval is 10·T while R is not 0 and age is at most 10·R, else 10·V"
unfoldable pub interval : Repeat → ℕ → ℕ
interval k age = cond (ltb 0 k.breakpoint && leb age (10 * k.breakpoint)) (10 * k.before) (10 * k.after)

-- "an interval of 0 never repeats; a wait at or above it gives a pair and becomes 0"
unfoldable pub repeated : Repeat → ℕ → Count → CountDue
repeated k arrow c =
    cond (ltb 0 (interval k c.age) && leb (interval k c.age) c.wait)
    (record { packets = pair arrow; count = record { age = c.age; wait = 0 } })
    (unmoved c)

-- one axis at a tick: "Each tick first adds one to age and wait of an axis that has a direction"
unfoldable pub axis_aged : Repeat → ℕ → Count → CountDue
axis_aged k arrow c = cond (eqb arrow 0) (unmoved c) (repeated k arrow (older c))

-- both axes of stick 0 at a tick, and no trigger
unfoldable pub axes_aged : Repeat → Repeat → Sticks → SticksDue
axes_aged kx ky s =
    keys_sent (axis_aged kx (horizontal s.zero.position) s.x) (axis_aged ky (vertical s.zero.position) s.y) [] s

-- a tick by mode; in keycode mode "for stick 0 while port 0 is a joystick; otherwise the counts stand still"
unfoldable pub ticked_in : StickMode → Settings → Sticks → SticksDue
ticked_in Event σ s = quiet s
ticked_in Interrogation σ s = quiet s
ticked_in (Monitoring rate) σ s = monitored rate s
ticked_in Fire σ s = quiet s
ticked_in (StickKeycode x y) σ s = cond (heard σ false) (axes_aged x y s) (quiet s)

-- "Paused: ticks move only the clock"
unfoldable pub ticked : Bool → Settings → Sticks → SticksDue
ticked paused σ s = cond paused (quiet s) (ticked_in σ.stick σ s)

-- "Fire: eight samples a byte, first in the top bit"
unfoldable pub sample_taken : ℕ → Sticks → SticksDue
sample_taken b s =
    cond (ltb s.samples 7)
    (quiet (with_samples (s.samples + 1) (2 * s.bits + b) s))
    (record { packets = samples (2 * s.bits + b) ∷ []; sticks = with_samples 0 0 s })

-- "samples elsewhere do nothing"
unfoldable pub sampled_in : StickMode → ℕ → Sticks → SticksDue
sampled_in Event b s = quiet s
sampled_in Interrogation b s = quiet s
sampled_in (Monitoring rate) b s = quiet s
sampled_in Fire b s = sample_taken b s
sampled_in (StickKeycode x y) b s = quiet s

-- "samples are dropped" while paused
unfoldable pub sampled : Bool → Settings → ℕ → Sticks → SticksDue
sampled paused σ b s = cond paused (quiet s) (sampled_in σ.stick b s)
