-- The map is true, and a reset names the keys that are down.
-- Assumes nothing.
use Prim.Native.Nat.{ℕ, ◌≤◌}
use mathlib.Core.Path.{◌≡◌, refl, sym, ap, ◌∙◌}
use mathlib.Core.Bool.{Bool, true, false, cond, true≢false}
use mathlib.Core.List.{List, [], ◌∷◌, map}
use lib.Dec.{eqb}
use borrow.Author.Tests.{eqb-true, eqb-false}
use Rattle.output.specs.ScanCodes.{first_key, last_key, break_of}
use Rattle.output.specs.Packets.{bytes}
use Rattle.output.proofs.Cases.{both_ways}
use Rattle.protocol.specs.declared.Meaning.{Meaning}
use Rattle.protocol.specs.declared.Meaning.TheVariants.{Nothing, Memory, Pause, Reset, OfMouse, OfStick, OfOther, Inquire}
use Rattle.protocol.specs.Codes.{meaning_of}
use Rattle.protocol.specs.Reading.{Fed, half, whole, feed}
use Rattle.protocol.specs.Commands.{executed}
use Rattle.keys.specs.declared.Keys.{Keys}
use Rattle.keys.specs.Keys.{has_key, struck, keys_of, break_packets}
use Rattle.keys.proofs.Maps.{has_struck, has_others, those_same, break_codes}
use Rattle.controller.specs.declared.State.{State}
use Rattle.controller.specs.declared.Input.{Input}
use Rattle.controller.specs.declared.Input.TheVariants.{Byte, Key, Button, Move, Joystick, Sample, Tick}
use Rattle.controller.specs.declared.Refusal.{Refusal}
use Rattle.std.specs.Prelude.{Result, Ok, Err}
use Rattle.controller.specs.declared.Refusal.TheVariants.{OutOfRange, QueueFull, MotionFull, BufferShort}
use Rattle.controller.specs.Host.{Due, silent, reading, acted, reset_due, reset_packets, executes, host_due, command_executed, is_reset}
use Rattle.controller.specs.Events.{happened, map_after, event_due}
use Rattle.controller.specs.Step.{due, in_range, verdict, told, step}
use Rattle.controller.specs.Sequences.{Turn, after, history, resets_by}
use Rattle.controller.proofs.Answers.{taken_range, taken_writes}
use Rattle.controller.proofs.Numbers.{key_small}
use Rattle.demands.specs.Demand3.{seen_in}
use Rattle.demands.specs.StuckKeys.{down_by, down_after, MapIsTrue, ResetNames}

-- ---- the map after one step

executes_keys : (m : Meaning) (ps : List ℕ) (s : State) → (executes m ps s).state.keys ≡ s.keys
unfolding executes acted reset_due
executes_keys Nothing ps s = refl
executes_keys Memory ps s = refl
executes_keys Pause ps s = refl
executes_keys Reset ps s = refl
executes_keys (OfMouse c) ps s = refl
executes_keys (OfStick c) ps s = refl
executes_keys (OfOther c) ps s = refl
executes_keys (Inquire q) ps s = refl

host_keys : (f : Fed) (s : State) → (host_due f s).state.keys ≡ s.keys
unfolding host_due
host_keys (half c) s = refl
host_keys (whole code ps) s =
    both_ways (λ (d : Due). d.state.keys ≡ s.keys) (executed (meaning_of code) ps s.settings) (λ _. executes_keys (meaning_of code) ps s) (λ _. refl)

due_keys : (s : State) (i : Input) → (due s i).state.keys ≡ map_after i s.keys
unfolding due event_due happened map_after
due_keys s (Byte b) = host_keys (feed s.command b) s
due_keys s (Key code down) = refl
due_keys s (Button side down) = refl
due_keys s (Move dx dy) = refl
due_keys s (Joystick which place trigger) = refl
due_keys s (Sample b) = refl
due_keys s Tick = refl

-- a key in range changes itself, and no other
key_does : (k code : ℕ) (down : Bool) (m : Keys) → first_key ≤ k → first_key ≤ code → has_key k (struck code down m) ≡ cond (eqb code k) down (has_key k m)
key_does k code down m a b = by (eqb code k) refl
  where
    by : (t : Bool) → eqb code k ≡ t → has_key k (struck code down m) ≡ cond t down (has_key k m)
    by true e = ap (λ (j : ℕ). has_key j (struck code down m)) (sym (eqb-true code k e)) ∙ has_struck code down m
    by false e = has_others code down m k a b (λ (h : k ≡ code). eqb-false code k e (sym h))

input_does : (k : ℕ) (i : Input) (m : Keys) → first_key ≤ k → in_range i ≡ true → has_key k (map_after i m) ≡ down_by k i (has_key k m)
unfolding map_after
input_does k (Byte b) m a r = refl
input_does k (Key code down) m a r = key_does k code down m a (key_small code down r).0
input_does k (Button side down) m a r = refl
input_does k (Move dx dy) m a r = refl
input_does k (Joystick which place trigger) m a r = refl
input_does k (Sample b) m a r = refl
input_does k Tick m a r = refl

module _ (k : ℕ) (a : first_key ≤ k) where
  told_does : (w : Result ℕ Refusal) (s : State) (i : Input) → ((n : ℕ) → w ≡ Ok n → in_range i ≡ true) →
      has_key k (told w s (due s i)).state.keys ≡ cond (eqb (told w s (due s i)).answer 0) (down_by k i (has_key k s.keys)) (has_key k s.keys)
  unfolding told
  told_does (Ok count) s i r = ap (has_key k) (due_keys s i) ∙ input_does k i s.keys a (r count refl)
  told_does (Err OutOfRange) s i r = refl
  told_does (Err QueueFull) s i r = refl
  told_does (Err MotionFull) s i r = refl
  told_does (Err BufferShort) s i r = refl

  all_do : (s : State) (ts : List Turn) → has_key k (after s ts).keys ≡ down_after k (seen_in s ts) (has_key k s.keys)
  unfolding after history down_after step
  all_do s [] = refl
  all_do s (t ∷ ts) =
      let o = step s t.input t.lent in
      all_do o.state ts
      ∙ ap (down_after k (seen_in o.state ts)) (told_does (verdict s t.input t.lent) s t.input (λ n. taken_range s t.input t.lent))

pub map_is_true : MapIsTrue
map_is_true s ts k a = all_do k a s ts

-- ---- what a reset sends

executes_names : (m : Meaning) (ps : List ℕ) (s : State) → is_reset m ≡ true → (executes m ps s).written ≡ bytes (reset_packets s.keys)
unfolding executes reset_due
executes_names Nothing ps s r = absurd (true≢false (sym r))
executes_names Memory ps s r = absurd (true≢false (sym r))
executes_names Pause ps s r = absurd (true≢false (sym r))
executes_names Reset ps s r = refl
executes_names (OfMouse c) ps s r = absurd (true≢false (sym r))
executes_names (OfStick c) ps s r = absurd (true≢false (sym r))
executes_names (OfOther c) ps s r = absurd (true≢false (sym r))
executes_names (Inquire q) ps s r = absurd (true≢false (sym r))

host_names : (f : Fed) (s : State) → is_reset (command_executed f s.settings) ≡ true → (host_due f s).written ≡ bytes (reset_packets s.keys)
unfolding host_due command_executed
host_names (half c) s r = absurd (true≢false (sym r))
host_names (whole code ps) s r = by (executed (meaning_of code) ps s.settings) r
  where
    by : (t : Bool) → is_reset (cond t (meaning_of code) Nothing) ≡ true →
        (cond t (executes (meaning_of code) ps s) (silent (reading (whole code ps) s))).written ≡ bytes (reset_packets s.keys)
    by true r = executes_names (meaning_of code) ps s r
    by false r = absurd (true≢false (sym r))

due_names : (s : State) (i : Input) → resets_by s i ≡ true → (due s i).written ≡ bytes (reset_packets s.keys)
unfolding due
due_names s (Byte b) r = host_names (feed s.command b) s r
due_names s (Key code down) r = absurd (true≢false (sym r))
due_names s (Button side down) r = absurd (true≢false (sym r))
due_names s (Move dx dy) r = absurd (true≢false (sym r))
due_names s (Joystick which place trigger) r = absurd (true≢false (sym r))
due_names s (Sample b) r = absurd (true≢false (sym r))
due_names s Tick r = absurd (true≢false (sym r))

pub reset_names : ResetNames
unfolding step break_packets keys_of
reset_names s ts i lent r e =
    let t = after s ts in
    taken_writes t i lent e
    ∙ due_names t i r
    ∙ ap (λ (l : List ℕ). 0xF0 ∷ l)
    (break_codes (keys_of t.keys)
    ∙ ap (map break_of) (those_same (λ k. has_key k t.keys) (λ k. down_after k (seen_in s ts) (has_key k s.keys)) first_key last_key (λ k a. map_is_true s ts k a)))
