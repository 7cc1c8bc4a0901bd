-- Outside the monitoring modes, each packet that falls due says itself where it ends; and no step leads to such a mode but by 0x17 and 0x18.
-- Assumes nothing.
use Prim.Native.Nat.{ℕ}
use mathlib.Core.Path.{◌≡◌, refl}
use mathlib.Core.Bool.{Bool, true, false, cond}
use mathlib.Core.List.{List}
use lib.IntN.{nat_abs}
use Rattle.output.proofs.Cases.{both_ways}
use Rattle.output.proofs.Framed.{AllFramed, framed_append, key_makes, sent_framed}
use Rattle.clock.specs.declared.Clock.{Clock}
use Rattle.clock.specs.Setting.{report}
use Rattle.protocol.specs.declared.Settings.{Settings}
use Rattle.protocol.specs.declared.OtherCommand.{OtherCommand}
use Rattle.protocol.specs.declared.OtherCommand.TheVariants.{Resume, MouseOff, SetClock, ReportClock}
use Rattle.protocol.specs.declared.Meaning.{Meaning}
use Rattle.protocol.specs.declared.Meaning.TheVariants.{Nothing, Memory, Pause, Reset, OfMouse, OfStick, OfOther, Inquire}
use Rattle.protocol.specs.Codes.{meaning_of}
use Rattle.protocol.specs.Settings.{monitors}
use Rattle.protocol.specs.Reading.{Fed, half, whole, feed}
use Rattle.protocol.specs.Commands.{executed}
use Rattle.protocol.proofs.Replies.{reply_framed}
use Rattle.protocol.proofs.Monitoring.{NoMonitoring, Outside, sets_outside}
use Rattle.mouse.specs.declared.Mouse.{Mouse}
use Rattle.mouse.specs.declared.Side.{Side}
use Rattle.mouse.specs.Buttons.{gives_fire}
use Rattle.mouse.proofs.Framed as mouse
use Rattle.sticks.specs.declared.Sticks.{Sticks}
use Rattle.sticks.proofs.Framed as sticks
use Rattle.keys.proofs.Framed.{breaks_framed}
use Rattle.controller.specs.declared.State.{State}
use Rattle.controller.specs.declared.Input.{Input}
use Rattle.controller.specs.declared.Input.TheVariants.{Byte, Key, Button, Move, Joystick, Sample, Tick}
use Rattle.controller.specs.declared.Refusal.{Refusal}
use Rattle.std.specs.Prelude.{Result, Ok, Err}
use Rattle.controller.specs.declared.Refusal.TheVariants.{OutOfRange, QueueFull, MotionFull, BufferShort}
use Rattle.controller.specs.Host.{Due, Effect, silent, mouse_effect, stick_effect, other_effect, effect, resumed_packets, resumed_mouse, acted, reset_due, executes, host_due, reading, command_executed}
use Rattle.controller.specs.Events.{happened, key_packets, button, event, event_due}
use Rattle.controller.specs.Step.{due, in_range, verdict, told, step}
use Rattle.controller.specs.Sequences.{executed_by}
use Rattle.controller.proofs.Numbers.{key_small}
use Rattle.controller.proofs.Answers.{taken_range}

-- ---- the packets

other_framed : (c : OtherCommand) (ps : List ℕ) (m : Mouse) (k : Sticks) (t : Clock) → AllFramed (other_effect c ps m k t).packets
unfolding other_effect report
other_framed Resume ps m k t = tt
other_framed MouseOff ps m k t = tt
other_framed SetClock ps m k t = tt
other_framed ReportClock ps m k t = (tt, tt)

-- a command itself
effect_framed : (c : Meaning) (ps : List ℕ) (σ : Settings) (m : Mouse) (k : Sticks) (t : Clock) → Outside σ → AllFramed (effect c ps σ m k t).packets
unfolding effect mouse_effect stick_effect
effect_framed Nothing ps σ m k t h = tt
effect_framed Memory ps σ m k t h = tt
effect_framed Pause ps σ m k t h = tt
effect_framed Reset ps σ m k t h = tt
effect_framed (OfMouse c) ps σ m k t h = mouse.commanded_framed c ps σ.mouse m
effect_framed (OfStick c) ps σ m k t h = sticks.commanded_framed σ h c k
effect_framed (OfOther c) ps σ m k t h = other_framed c ps m k t
effect_framed (Inquire q) ps σ m k t h = (reply_framed q σ, tt)

-- behind those of a resume
acted_framed : (c : Meaning) (ps : List ℕ) (s : State) → Outside s.settings → AllFramed (acted c ps s).packets
unfolding acted
acted_framed c ps s h =
    framed_append (resumed_packets s) _ (mouse.resumed_framed s.paused s.settings s.mouse)
    (effect_framed c ps s.settings (resumed_mouse s) s.sticks s.clock h)

executes_framed : (c : Meaning) (ps : List ℕ) (s : State) → Outside s.settings → AllFramed (executes c ps s).packets
unfolding executes reset_due
executes_framed Nothing ps s h = acted_framed Nothing ps s h
executes_framed Memory ps s h = acted_framed Memory ps s h
executes_framed Pause ps s h = tt
executes_framed Reset ps s h = (tt, breaks_framed s.keys)
executes_framed (OfMouse c) ps s h = acted_framed (OfMouse c) ps s h
executes_framed (OfStick c) ps s h = acted_framed (OfStick c) ps s h
executes_framed (OfOther c) ps s h = acted_framed (OfOther c) ps s h
executes_framed (Inquire q) ps s h = acted_framed (Inquire q) ps s h

host_framed : (f : Fed) (s : State) → Outside s.settings → AllFramed (host_due f s).packets
unfolding host_due
host_framed (half c) s h = tt
host_framed (whole code ps) s h =
    both_ways (λ (d : Due). AllFramed d.packets) (executed (meaning_of code) ps s.settings) (λ _. executes_framed (meaning_of code) ps s h) (λ _. tt)

-- a key whose code is in its range
key_framed : (σ : Settings) (code : ℕ) (down : Bool) → in_range (Key code down) ≡ true → AllFramed (key_packets σ code down)
unfolding key_packets
key_framed σ code down r =
    let (low, high) = key_small code down r in
    both_ways AllFramed (monitors σ.stick) (λ _. tt) (λ _. (sent_framed code down (key_makes code low high), tt))

button_framed : (σ : Settings) (side : Side) (down : Bool) (m : Mouse) (k : Sticks) (t : Clock) → Outside σ → AllFramed (button σ side down m k t).packets
unfolding button
button_framed σ side down m k t h =
    both_ways (λ (e : Effect). AllFramed e.packets) (gives_fire σ side down m)
    (λ _. sticks.stick_moved_framed σ h true _ k) (λ _. mouse.presses_framed σ side down m)

-- any input, if it is taken
due_framed : (s : State) (i : Input) → Outside s.settings → in_range i ≡ true → AllFramed (due s i).packets
unfolding due event_due happened event
due_framed s (Byte b) h r = host_framed (feed s.command b) s h
due_framed s (Key code down) h r = key_framed s.settings code down r
due_framed s (Button side down) h r = button_framed s.settings side down s.mouse s.sticks s.clock h
due_framed s (Move dx dy) h r = mouse.moves_framed s.paused s.settings dx dy s.mouse
due_framed s (Joystick which place trigger) h r = sticks.stick_moved_framed s.settings h _ _ s.sticks
due_framed s (Sample b) h r = sticks.sampled_framed s.settings h s.paused (nat_abs b) s.sticks
due_framed s Tick h r = sticks.ticked_framed s.settings h s.paused s.sticks

told_framed : (a : Result ℕ Refusal) (s : State) (d : Due) → ((n : ℕ) → a ≡ Ok n → AllFramed d.packets) → AllFramed (told a s d).packets
unfolding told
told_framed (Ok count) s d f = f count refl
told_framed (Err OutOfRange) s d f = tt
told_framed (Err QueueFull) s d f = tt
told_framed (Err MotionFull) s d f = tt
told_framed (Err BufferShort) s d f = tt

-- any step
pub step_framed : (s : State) (i : Input) (lent : ℕ) → Outside s.settings → AllFramed (step s i lent).packets
unfolding step
step_framed s i lent h = told_framed (verdict s i lent) s (due s i) (λ n e. due_framed s i h (taken_range s i lent e))

-- ---- the mode

executes_outside : (c : Meaning) (ps : List ℕ) (s : State) → NoMonitoring c → Outside s.settings → Outside (executes c ps s).state.settings
unfolding executes acted reset_due
executes_outside Nothing ps s n h = sets_outside Nothing ps s.settings n h
executes_outside Memory ps s n h = sets_outside Memory ps s.settings n h
executes_outside Pause ps s n h = h
executes_outside Reset ps s n h = refl
executes_outside (OfMouse c) ps s n h = sets_outside (OfMouse c) ps s.settings n h
executes_outside (OfStick c) ps s n h = sets_outside (OfStick c) ps s.settings n h
executes_outside (OfOther c) ps s n h = sets_outside (OfOther c) ps s.settings n h
executes_outside (Inquire q) ps s n h = sets_outside (Inquire q) ps s.settings n h

host_outside : (f : Fed) (s : State) → NoMonitoring (command_executed f s.settings) → Outside s.settings → Outside (host_due f s).state.settings
unfolding host_due command_executed
host_outside (half c) s n h = h
host_outside (whole code ps) s n h = by (executed (meaning_of code) ps s.settings) n
  where
    by : (t : Bool) → NoMonitoring (cond t (meaning_of code) Nothing) →
        Outside (cond t (executes (meaning_of code) ps s) (silent (reading (whole code ps) s))).state.settings
    by true n = executes_outside (meaning_of code) ps s n h
    by false n = h

due_outside : (s : State) (i : Input) → NoMonitoring (executed_by s i) → Outside s.settings → Outside (due s i).state.settings
unfolding due event_due happened
due_outside s (Byte b) n h = host_outside (feed s.command b) s n h
due_outside s (Key code down) n h = h
due_outside s (Button side down) n h = h
due_outside s (Move dx dy) n h = h
due_outside s (Joystick which place trigger) n h = h
due_outside s (Sample b) n h = h
due_outside s Tick n h = h

told_outside : (a : Result ℕ Refusal) (s : State) (d : Due) → Outside s.settings → ((told a s d).answer ≡ 0 → Outside d.state.settings) →
    Outside (told a s d).state.settings
unfolding told
told_outside (Ok count) s d h f = f refl
told_outside (Err OutOfRange) s d h f = h
told_outside (Err QueueFull) s d h f = h
told_outside (Err MotionFull) s d h f = h
told_outside (Err BufferShort) s d h f = h

-- any step that does not execute one of the two
pub step_outside : (s : State) (i : Input) (lent : ℕ) → ((step s i lent).answer ≡ 0 → NoMonitoring (executed_by s i)) → Outside s.settings →
    Outside (step s i lent).state.settings
unfolding step
step_outside s i lent n h = told_outside (verdict s i lent) s (due s i) h (λ e. due_outside s i (n e) h)
