-- Whatever happens to the joysticks, a state stays a state: stick events, ticks, fire samples and commands.
-- Assumes nothing.
use Prim.Native.Nat.{ℕ, ◌+◌, ◌≤◌}
use native.Mathlib.Omega.{arith}
use mathlib.Core.Path.{◌≡◌, refl}
use mathlib.Core.Bool.{Bool, true, false, not, ◌&&◌}
use mathlib.Core.List.{List}
use lib.Dec.{eqb, leb, ltb}
use borrow.Author.Tests.{ltb-true, leb-false}
use Rattle.output.proofs.Cases.{both_ways}
use Rattle.protocol.specs.declared.Repeat.{Repeat}
use Rattle.protocol.specs.declared.StickMode.{StickMode}
use Rattle.protocol.specs.declared.StickMode.TheVariants.{Event, Interrogation, Monitoring, Fire, StickKeycode}
use Rattle.protocol.specs.declared.Settings.{Settings}
use Rattle.protocol.specs.Settings.{acts_as}
use Rattle.protocol.specs.declared.MouseCommand.{MouseCommand}
use Rattle.protocol.specs.declared.MouseCommand.TheVariants.{SetAction, SetRelative, SetAbsolute, SetKeycode, SetThreshold, SetScale, ReportPosition, LoadPosition, OriginBottom, OriginTop}
use Rattle.protocol.specs.declared.StickCommand.{StickCommand}
use Rattle.protocol.specs.declared.StickCommand.TheVariants.{SetEvent, SetInterrogation, ReportSticks, SetMonitoring, SetFire, SetStickKeycode, SticksOff}
use Rattle.protocol.specs.Commands.{stick_sets, mouse_sets}
use Rattle.sticks.specs.declared.Stick.{Stick}
use Rattle.sticks.specs.declared.Count.{Count}
use Rattle.sticks.specs.declared.Sticks.{Sticks}
use Rattle.sticks.specs.Sticks.{IsCount, most_position, SticksDue, CountDue, quiet, horizontal, vertical, stick_at}
use Rattle.sticks.specs.Events.{stored, heard, axis_turned, axis_moved, stick_keyed, stick_moved_in, stick_moved}
use Rattle.sticks.specs.Ticks.{monitored, older, interval, repeated, axis_aged, axes_aged, ticked_in, ticked, sample_taken, sampled_in, sampled}
use Rattle.sticks.specs.Commands.{commanded, mouse_commanded}
use Rattle.sticks.proofs.States.{GoodSticks, stored_is, counts_are, cleared_is, left_is, one_digit_more}

-- the counts of an axis are in range afterwards
abbrev CountKept : CountDue → Type 0
CountKept d = IsCount d.count

-- an axis whose direction may have changed
axis_turned_is : (old new : ℕ) (c : Count) → IsCount c → IsCount (axis_turned old new c).count
unfolding axis_turned
axis_turned_is old new c h = both_ways CountKept (eqb old new) (λ e. h) (λ e. omega arith)

axis_moved_is : (on one : Bool) (direction : ℕ → ℕ) (old new : Stick) (c : Count) → IsCount c → IsCount (axis_moved on one direction old new c).count
unfolding axis_moved
axis_moved_is on one direction old new c h = both_ways CountKept (on && not one) (λ e. axis_turned_is _ _ c h) (λ e. h)

stick_keyed_is : (mode : StickMode) (on one : Bool) (new : Stick) (s : Sticks) → new.position ≤ most_position → GoodSticks mode s → GoodSticks mode (stick_keyed on one new s).sticks
unfolding stick_keyed
stick_keyed_is mode on one new s p h =
    counts_are mode _ _ (stored one new s)
    (axis_moved_is on one horizontal (stick_at one s) new s.x h.ranges.x)
    (axis_moved_is on one vertical (stick_at one s) new s.y h.ranges.y)
    (stored_is mode one new s p h)

stick_moved_in_is : (mode : StickMode) (on one : Bool) (new : Stick) (s : Sticks) → new.position ≤ most_position → GoodSticks mode s → GoodSticks mode (stick_moved_in mode on one new s).sticks
unfolding stick_moved_in
stick_moved_in_is Event on one new s p h = stored_is Event one new s p h
stick_moved_in_is Interrogation on one new s p h = stored_is Interrogation one new s p h
stick_moved_in_is (Monitoring rate) on one new s p h = stored_is (Monitoring rate) one new s p h
stick_moved_in_is Fire on one new s p h = stored_is Fire one new s p h
stick_moved_in_is (StickKeycode x y) on one new s p h = stick_keyed_is (StickKeycode x y) on one new s p h

-- a stick event keeps the state one
pub stick_moved_is : (σ : Settings) (one : Bool) (new : Stick) (s : Sticks) → new.position ≤ most_position → GoodSticks σ.stick s → GoodSticks σ.stick (stick_moved σ one new s).sticks
unfolding stick_moved
stick_moved_is σ one new s p h = stick_moved_in_is σ.stick (heard σ one) one new s p h

-- the sticks are a state afterwards
abbrev StateKept : StickMode → SticksDue → Type 0
StateKept mode d = GoodSticks mode d.sticks

monitored_is : (rate : ℕ) (s : Sticks) → GoodSticks (Monitoring rate) s → GoodSticks (Monitoring rate) (monitored rate s).sticks
unfolding monitored
monitored_is rate s h =
    both_ways (StateKept (Monitoring rate)) (leb (acts_as rate) (s.ticks + 1)) (λ e. omega arith)
    (λ e. omega (arith, leb-false (acts_as rate) (s.ticks + 1) e))

repeated_is : (k : Repeat) (arrow : ℕ) (c : Count) → IsCount c → IsCount (repeated k arrow c).count
unfolding repeated
repeated_is k arrow c h =
    both_ways CountKept (ltb 0 (interval k c.age) && leb (interval k c.age) c.wait) (λ e. omega arith) (λ e. h)

axis_aged_is : (k : Repeat) (arrow : ℕ) (c : Count) → IsCount c → IsCount (axis_aged k arrow c).count
unfolding axis_aged
axis_aged_is k arrow c h = both_ways CountKept (eqb arrow 0) (λ e. h) (λ e. repeated_is k arrow (older c) (omega arith))

axes_aged_is : (mode : StickMode) (kx ky : Repeat) (s : Sticks) → GoodSticks mode s → GoodSticks mode (axes_aged kx ky s).sticks
unfolding axes_aged
axes_aged_is mode kx ky s h =
    counts_are mode _ _ s
    (axis_aged_is kx (horizontal s.zero.position) s.x h.ranges.x)
    (axis_aged_is ky (vertical s.zero.position) s.y h.ranges.y)
    h

ticked_in_is : (mode : StickMode) (σ : Settings) (s : Sticks) → GoodSticks mode s → GoodSticks mode (ticked_in mode σ s).sticks
unfolding ticked_in
ticked_in_is Event σ s h = h
ticked_in_is Interrogation σ s h = h
ticked_in_is (Monitoring rate) σ s h = monitored_is rate s h
ticked_in_is Fire σ s h = h
ticked_in_is (StickKeycode x y) σ s h = both_ways (StateKept (StickKeycode x y)) (heard σ false) (λ e. axes_aged_is (StickKeycode x y) x y s h) (λ e. h)

-- a tick keeps the state one
pub ticked_is : (paused : Bool) (σ : Settings) (s : Sticks) → GoodSticks σ.stick s → GoodSticks σ.stick (ticked paused σ s).sticks
unfolding ticked
ticked_is true σ s h = h
ticked_is false σ s h = ticked_in_is σ.stick σ s h

-- while paused, a tick leaves the joysticks alone
pub ticked_paused : (σ : Settings) (s : Sticks) → ticked true σ s ≡ quiet s
unfolding ticked
ticked_paused σ s = refl

sample_taken_is : (b : ℕ) (s : Sticks) → b ≤ 1 → GoodSticks Fire s → GoodSticks Fire (sample_taken b s).sticks
unfolding sample_taken
sample_taken_is b s p h =
    both_ways (StateKept Fire) (ltb s.samples 7)
    (λ e. omega (arith, ltb-true s.samples 7 e, one_digit_more s.samples))
    (λ e. omega arith)

sampled_in_is : (mode : StickMode) (b : ℕ) (s : Sticks) → b ≤ 1 → GoodSticks mode s → GoodSticks mode (sampled_in mode b s).sticks
unfolding sampled_in
sampled_in_is Event b s p h = h
sampled_in_is Interrogation b s p h = h
sampled_in_is (Monitoring rate) b s p h = h
sampled_in_is Fire b s p h = sample_taken_is b s p h
sampled_in_is (StickKeycode x y) b s p h = h

-- a fire sample keeps the state one
pub sampled_is : (paused : Bool) (σ : Settings) (b : ℕ) (s : Sticks) → b ≤ 1 → GoodSticks σ.stick s → GoodSticks σ.stick (sampled paused σ b s).sticks
unfolding sampled
sampled_is true σ b s p h = h
sampled_is false σ b s p h = sampled_in_is σ.stick b s p h

-- while paused, samples are dropped
pub sampled_paused : (σ : Settings) (b : ℕ) (s : Sticks) → sampled true σ b s ≡ quiet s
unfolding sampled
sampled_paused σ b s = refl

-- a command of the joysticks gives a state of the mode that it sets
pub commanded_is : (c : StickCommand) (ps : List ℕ) (σ : Settings) (s : Sticks) → GoodSticks σ.stick s → GoodSticks (stick_sets c ps σ).stick (commanded c σ.stick s).sticks
unfolding stick_sets commanded
commanded_is SetEvent ps σ s h = cleared_is _ _ s h
commanded_is SetInterrogation ps σ s h = cleared_is _ _ s h
commanded_is ReportSticks ps σ s h = h
commanded_is SetMonitoring ps σ s h = cleared_is _ _ s h
commanded_is SetFire ps σ s h = cleared_is _ _ s h
commanded_is SetStickKeycode ps σ s h = cleared_is _ _ s h
commanded_is SticksOff ps σ s h = left_is σ.stick s h

-- a command of the mouse gives a state of the joystick mode that it leaves
pub mouse_commanded_is : (c : MouseCommand) (ps : List ℕ) (σ : Settings) (s : Sticks) → GoodSticks σ.stick s → GoodSticks (mouse_sets c ps σ).stick (mouse_commanded c σ.stick s)
unfolding mouse_sets mouse_commanded
mouse_commanded_is SetAction ps σ s h = h
mouse_commanded_is SetRelative ps σ s h = left_is σ.stick s h
mouse_commanded_is SetAbsolute ps σ s h = left_is σ.stick s h
mouse_commanded_is SetKeycode ps σ s h = left_is σ.stick s h
mouse_commanded_is SetThreshold ps σ s h = h
mouse_commanded_is SetScale ps σ s h = h
mouse_commanded_is ReportPosition ps σ s h = h
mouse_commanded_is LoadPosition ps σ s h = h
mouse_commanded_is OriginBottom ps σ s h = h
mouse_commanded_is OriginTop ps σ s h = h
