-- The settings and the half-received command after a sequence of inputs are those after the host bytes taken, and nothing else.
-- Assumes nothing.
use Prim.Native.Nat.{ℕ}
use mathlib.Core.Path.{◌≡◌, refl, sym, ap, ◌∙◌}
use mathlib.Core.Bool.{Bool, true, false, cond}
use mathlib.Core.List.{List, [], ◌∷◌}
use Rattle.protocol.specs.declared.Meaning.{Meaning}
use Rattle.protocol.specs.declared.Meaning.TheVariants.{Nothing, Memory, Pause, Reset, OfMouse, OfStick, OfOther, Inquire}
use Rattle.protocol.specs.Codes.{meaning_of}
use Rattle.protocol.specs.Reading.{Fed, half, whole, feed, command_after}
use Rattle.protocol.specs.Commands.{executed, sets, settings_then, settings_after}
use Rattle.protocol.proofs.Core.{Core, eats, eats_append}
use Rattle.controller.specs.declared.State.{State}
use Rattle.controller.specs.declared.Input.{Input}
use Rattle.controller.specs.declared.Input.TheVariants.{Byte, Key, Button, Move, Joystick, Sample, Tick}
use Rattle.controller.specs.declared.Refusal.{Refusal}
use Rattle.std.specs.Prelude.{Result, Ok, Err}
use Rattle.controller.specs.declared.Refusal.TheVariants.{OutOfRange, QueueFull, MotionFull, BufferShort}
use Rattle.controller.specs.Host.{Due, silent, reading, acted, reset_due, executes, host_due}
use Rattle.controller.specs.Events.{happened, event_due}
use Rattle.controller.specs.Step.{due, told, verdict, step}
use Rattle.controller.specs.Sequences.{Turn, after, history, byte_taken}
use Rattle.demands.specs.Demand3.{taken, seen_in}

-- what demand 3 sees of a state
abbrev pub core : State → Core
core s = record { settings = s.settings; command = s.command }

-- the two after a byte that came to f
abbrev fed : Fed → State → Core
fed f s = record { settings = settings_after s.settings f; command = command_after f }

-- an executed command sets what it sets, and ends
executed_core : (m : Meaning) (code : ℕ) (ps : List ℕ) (s : State) →
    core (executes m ps s).state ≡ record { settings = sets m ps s.settings; command = command_after (whole code ps) }
unfolding executes acted reset_due sets command_after
executed_core Nothing code ps s = refl
executed_core Memory code ps s = refl
executed_core Pause code ps s = refl
executed_core Reset code ps s = refl
executed_core (OfMouse m) code ps s = refl
executed_core (OfStick k) code ps s = refl
executed_core (OfOther o) code ps s = refl
executed_core (Inquire q) code ps s = refl

-- a host byte, if it is taken
pub host_core : (f : Fed) (s : State) → core (host_due f s).state ≡ fed f s
unfolding host_due settings_after settings_then command_after
host_core (half c) s = refl
host_core (whole code ps) s = go (executed (meaning_of code) ps s.settings)
  where
    go : (t : Bool) →
        core (cond t (executes (meaning_of code) ps s) (silent (reading (whole code ps) s))).state
        ≡ record { settings = cond t (sets (meaning_of code) ps s.settings) s.settings; command = command_after (whole code ps) }
    go true = executed_core (meaning_of code) code ps s
    go false = refl

-- an event that keeps the two keeps them, taken or refused
event_core : (a : Result ℕ Refusal) (s : State) (d : Due) → core d.state ≡ core s → core (told a s d).state ≡ core s
unfolding told
event_core (Ok count) s d e = e
event_core (Err OutOfRange) s d e = refl
event_core (Err QueueFull) s d e = refl
event_core (Err MotionFull) s d e = refl
event_core (Err BufferShort) s d e = refl

told_core : (a : Result ℕ Refusal) (s : State) (i : Input) → core (told a s (due s i)).state ≡ eats (core s) (byte_taken i (told a s (due s i)).answer)
unfolding told due happened event_due
told_core (Ok count) s (Byte b) = host_core (feed s.command b) s
told_core (Err OutOfRange) s (Byte b) = refl
told_core (Err QueueFull) s (Byte b) = refl
told_core (Err MotionFull) s (Byte b) = refl
told_core (Err BufferShort) s (Byte b) = refl
told_core a s (Key code down) = event_core a s (due s (Key code down)) refl
told_core a s (Button side down) = event_core a s (due s (Button side down)) refl
told_core a s (Move dx dy) = event_core a s (due s (Move dx dy)) refl
told_core a s (Joystick stick position trigger) = event_core a s (due s (Joystick stick position trigger)) refl
told_core a s (Sample b) = event_core a s (due s (Sample b)) refl
told_core a s Tick = event_core a s (due s Tick) refl

-- after one step the two are those after the byte taken, if one is
pub step_core : (s : State) (i : Input) (lent : ℕ) → core (step s i lent).state ≡ eats (core s) (byte_taken i (step s i lent).answer)
unfolding step
step_core s i lent = told_core (verdict s i lent) s i

-- after a sequence they are those after all the bytes taken
pub run_core : (s : State) (ts : List Turn) → core (after s ts) ≡ eats (core s) (taken (seen_in s ts))
unfolding after history taken
run_core s [] = refl
run_core s (t ∷ ts) =
    let s' = (step s t.input t.lent).state in
    run_core s' ts
    ∙ ap (λ (c : Core). eats c (taken (seen_in s' ts))) (step_core s t.input t.lent)
    ∙ sym (eats_append (core s) (byte_taken t.input (step s t.input t.lent).answer) (taken (seen_in s' ts)))
