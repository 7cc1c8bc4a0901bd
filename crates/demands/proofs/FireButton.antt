-- The right button with the mouse off (A4): it is a stick 1 event but for its level; other buttons are silent, and so is 0x12.
-- Assumes nothing.
use Prim.Native.Nat.{ℕ, ◌+◌}
use native.Mathlib.Omega.{arith}
use native.Mathlib.Nat.{add-zero}
use mathlib.Core.Path.{◌≡◌, refl, sym, ap, ◌∙◌}
use mathlib.Core.Bool.{Bool, true, false, cond, not, ◌&&◌, and-false}
use mathlib.Core.List.{List, [], ◌++◌, append-nil}
use lib.ListN.{length, take-append-drop}
use borrow.Author.Tests.{not-true, le-leb, le-ltb}
use Rattle.output.specs.Packets.{bytes}
use Rattle.output.specs.Writing.{over}
use Rattle.output.proofs.Cases.{both_ways}
use Rattle.motion.specs.declared.Axes.{Axes}
use Rattle.protocol.specs.declared.MouseMode.{MouseMode}
use Rattle.protocol.specs.declared.MouseMode.TheVariants.{Relative, Absolute, Keycode}
use Rattle.protocol.specs.declared.Settings.{Settings}
use Rattle.protocol.specs.declared.OtherCommand.TheVariants.{MouseOff}
use Rattle.protocol.specs.declared.Meaning.TheVariants.{Nothing, OfOther}
use Rattle.protocol.specs.Settings.{is_mouse, monitors}
use Rattle.protocol.specs.Codes.{meaning_of}
use Rattle.protocol.specs.Reading.{Fed, half, whole, feed}
use Rattle.protocol.specs.Commands.{executed}
use Rattle.mouse.specs.declared.Mouse.{Mouse}
use Rattle.mouse.specs.declared.Side.{Side}
use Rattle.mouse.specs.declared.Side.TheVariants.{Left, Right}
use Rattle.mouse.specs.Mouse.{live, with_held}
use Rattle.mouse.specs.Reports.{MouseDue, quiet, send_all}
use Rattle.mouse.specs.Moves.{either_reaches, send_deltas, motion_due, released}
use Rattle.mouse.specs.Buttons.{with_level, unchanged, presses, gives_fire}
use Rattle.mouse.proofs.Dues.{quiet_due}
use Rattle.sticks.specs.Sticks.{most_position}
use Rattle.output.specs.declared.Run.{Run}
use Rattle.controller.specs.declared.State.{State}
use Rattle.controller.specs.declared.Input.TheVariants.{Byte, Button}
use Rattle.controller.specs.declared.Refusal.{Refusal}
use Rattle.std.specs.Prelude.{Result, Ok, Err}
use Rattle.controller.specs.declared.Refusal.TheVariants.{OutOfRange, QueueFull, MotionFull, BufferShort}
use Rattle.controller.specs.State.{IsState, contents, queue_of, queue_room}
use Rattle.controller.specs.Host.{Due, resumed_packets, resumed_mouse, other_effect, effect, acted, executes, host_due, reading, command_executed}
use Rattle.controller.specs.Host as host
use Rattle.controller.specs.Events.{button, event, event_due, happened, map_after}
use Rattle.controller.specs.Step.{due, in_range, out_of_range, queue_full, too_far, motion_full, buffer_short, verdict, number, Out, refused, told, step}
use Rattle.controller.proofs.Lengths.{queue_small}
use Rattle.controller.proofs.Delivery.{nothing_waits}
use Rattle.controller.proofs.Results.{queue_grown}
use Rattle.controller.proofs.Answers.{taken, verdict_taken, host_taken}
use Rattle.demands.specs.FireButton.{GivesFire, stick_1, level_changed, and_level, RightButtonFires, NoFire, left, on, joystick, monitoring, same, OthersStaySilent, SwitchLeaves, SwitchedOff, SwitchingOffSendsNothing}

-- the case of the request is that of the definition
fires : (s : State) (down : Bool) → GivesFire s down → gives_fire s.settings Right down s.mouse ≡ true
unfolding gives_fire
fires s true g = λ j. not (g.off j) && is_mouse (g.port_0 j) && not (g.no_monitoring j) && not (g.changed j)
fires s false g = λ j. not (g.off j) && is_mouse (g.port_0 j) && not (g.no_monitoring j) && not (not (g.changed j))

-- what is due, but for the level
abbrev leveled : Bool → Due → Due
leveled down d = record { packets = d.packets; written = d.written; queued = d.queued; dropped = d.dropped; state = level_changed Right down d.state }

fire_due : (s : State) (down : Bool) → gives_fire s.settings Right down s.mouse ≡ true → due s (Button Right down) ≡ leveled down (due s (stick_1 s down))
unfolding due event_due event button happened map_after
fire_due s true g = rw g
fire_due s false g = rw g

-- the same refusals
fire_range : (s : State) (down : Bool) → IsState s → in_range (stick_1 s down) ≡ true
unfolding in_range
fire_range s true h = rw (le-leb s.sticks.one.position most_position h.ranges.sticks.one)
fire_range s false h = rw (le-leb s.sticks.one.position most_position h.ranges.sticks.one)

fire_verdict : (s : State) (down : Bool) (lent : ℕ) → IsState s → gives_fire s.settings Right down s.mouse ≡ true →
    verdict s (Button Right down) lent ≡ verdict s (stick_1 s down) lent
unfolding verdict out_of_range in_range queue_full motion_full too_far buffer_short
fire_verdict s down lent h g = rw (fire_due s down g, fire_range s down h)

told_level : (a : Result ℕ Refusal) (s : State) (d : Due) (down : Bool) → told a s (leveled down d) ≡ and_level down (told a s d)
unfolding told
told_level (Ok count) s d down = refl
told_level (Err OutOfRange) s d down = refl
told_level (Err QueueFull) s d down = refl
told_level (Err MotionFull) s d down = refl
told_level (Err BufferShort) s d down = refl

pub right_button_fires : RightButtonFires
unfolding step
right_button_fires s down lent h g =
    let f = fires s down g in
    rw (fire_verdict s down lent h f, fire_due s down f) (told_level (verdict s (stick_1 s down) lent) s (due s (stick_1 s down)) down)

-- A button that gives no fire, where the mouse is not live.
module _ (s : State) where
  off : Bool
  off = not s.settings.mouseon && is_mouse s.settings.port0

  no_fire : (side : Side) (down : Bool) → NoFire s down side → gives_fire s.settings side down s.mouse ≡ false
  unfolding gives_fire off
  no_fire Left down left = refl
  no_fire Right down (on e) = λ j. not (e j) && is_mouse s.settings.port0 && not (monitors s.settings.stick) && not (unchanged Right down s.mouse)
  no_fire Right down (joystick e) =
      let rest : Bool → Bool = λ b. b && not (monitors s.settings.stick) && not (unchanged Right down s.mouse) in
      (λ j. rest (not s.settings.mouseon && is_mouse (e j))) ∙ ap rest (and-false (not s.settings.mouseon))
  no_fire Right down (monitoring e) = (λ j. off && not (e j) && not (unchanged Right down s.mouse)) ∙ (λ j. and-false off j && not (unchanged Right down s.mouse))
  no_fire Right true (same e) = (λ j. off && not (monitors s.settings.stick) && not (e j)) ∙ and-false (off && not (monitors s.settings.stick))
  no_fire Right false (same e) = (λ j. off && not (monitors s.settings.stick) && not (not (e j))) ∙ and-false (off && not (monitors s.settings.stick))

-- an unchanged level is the one that comes
same_level : (side : Side) (down : Bool) (m : Mouse) → unchanged side down m ≡ true → m ≡ with_level side down m
same_level Left true m e = λ j. with_level Left (e j) m
same_level Left false m e = λ j. with_level Left (not-true m.left e j) m
same_level Right true m e = λ j. with_level Right (e j) m
same_level Right false m e = λ j. with_level Right (not-true m.right e j) m

only_level : (σ : Settings) (side : Side) (down : Bool) (m : Mouse) → live σ ≡ false → presses σ side down m ≡ quiet (with_level side down m)
unfolding presses
only_level σ side down m l =
    rw l (both_ways (λ (d : MouseDue). d ≡ quiet (with_level side down m)) (unchanged side down m) (λ e. ap quiet (same_level side down m e)) (λ _. refl))

-- nothing is added to the queue of a state
queue_stays : (s : State) → IsState s → cond s.paused (queue_of (contents s.queue ++ [])) s.queue ≡ s.queue
unfolding over
queue_stays s h =
    let q = s.queue in
    both_ways (λ (x : Run queue_room). x ≡ q) s.paused
    (λ _. sym (queue_grown s.paused q [] h.ranges.queue h.spelling.queue (omega (arith, queue_small s h)))
    ∙ (λ j. record { bytes = take-append-drop q.len q.bytes j; len = add-zero q.len j }))
    (λ _. refl)

module _ (s : State) (side : Side) (down : Bool) (h : IsState s) (l : live s.settings ≡ false) (n : NoFire s down side) where
  level_due : due s (Button side down) ≡ host.silent (level_changed side down s)
  unfolding due event_due event button happened map_after
  level_due =
      let none = both_ways (λ (l : List ℕ). l ≡ []) s.paused (λ _. refl) (λ _. refl) in
      rw (no_fire s side down n, only_level s.settings side down s.mouse l, quiet_due (with_level side down s.mouse))
      (λ j. record {
        packets = [];
        written = none j;
        queued = none j;
        dropped = [];
        state = record {
          settings = s.settings;
          command = s.command;
          paused = s.paused;
          queue = queue_stays s h j;
          mouse = with_level side down s.mouse;
          sticks = s.sticks;
          clock = s.clock;
          keys = s.keys;
        };
      })

  level_taken : (lent : ℕ) → verdict s (Button side down) lent ≡ taken s (Button side down)
  unfolding queue_full motion_full too_far buffer_short in_range
  level_taken lent =
      verdict_taken s (Button side down) lent refl
      (rw (level_due, le-ltb queue_room (s.queue.len + 0) (omega (arith, queue_small s h))) (and-false s.paused))
      (and-false s.paused)
      (rw level_due (le-ltb lent 0 (omega arith)))

pub others_stay_silent : OthersStaySilent
unfolding step told
others_stay_silent s side down lent h l n = rw (level_taken s side down h l n lent, level_due s side down h l n)

-- a resume changes nothing of the mouse but held motion
due_held : (mode : MouseMode) (t : Axes ℕ) (m : Mouse) → let n = (motion_due mode t m).mouse in n ≡ with_held n.held m
unfolding motion_due send_all send_deltas
due_held Relative t m = both_ways (λ (d : MouseDue). d.mouse ≡ with_held d.mouse.held m) (either_reaches t m.held) (λ _. refl) (λ _. refl)
due_held (Absolute maximum) t m = refl
due_held (Keycode delta) t m = refl

resumed_held : (s : State) → resumed_mouse s ≡ with_held (resumed_mouse s).held s.mouse
unfolding released
resumed_held s =
    let Kept : MouseDue → Type 0 = λ d. d.mouse ≡ with_held d.mouse.held s.mouse in
    both_ways Kept s.paused (λ _. both_ways Kept (live s.settings) (λ _. due_held s.settings.mouse s.settings.threshold s.mouse) (λ _. refl)) (λ _. refl)

-- 0x12: nothing falls due but by the resume, and levels and sticks stay.
module _ (s : State) where
  record Switched (d : Due) : Type 0 where
    written : d.written ≡ contents s.queue ++ bytes (resumed_packets s)
    packets : d.packets ≡ resumed_packets s
    leaves : SwitchLeaves s d.state

  switched : (ps : List ℕ) → Switched (acted (OfOther MouseOff) ps s)
  unfolding acted effect other_effect
  switched ps = record {
    written = rw (append-nil (resumed_packets s));
    packets = append-nil (resumed_packets s);
    leaves = record { sticks = refl; right = ap (λ (m : Mouse). m.right) (resumed_held s); left = ap (λ (m : Mouse). m.left) (resumed_held s) };
  }

  -- a byte that completes it
  off_executes : (f : Fed) → command_executed f s.settings ≡ OfOther MouseOff → Switched (host_due f s)
  unfolding host_due command_executed executes
  off_executes (half c) e = absurd (let z : ◌≡◌ {A = ℕ} 0 1 = cc in omega arith)
  off_executes (whole code ps) e = by (executed (meaning_of code) ps s.settings) e
    where
      by : (t : Bool) → cond t (meaning_of code) Nothing ≡ OfOther MouseOff → Switched (cond t (executes (meaning_of code) ps s) (host.silent (reading (whole code ps) s)))
      by true e = rw e (switched ps)
      by false e = absurd (let z : ◌≡◌ {A = ℕ} 0 1 = cc in omega arith)

  -- a refusal, which is none where output is not paused
  off_refused : (a : Refusal) (o : Out) → (number (Err a) ≡ 0 → ⊥) → o ≡ refused a s → (s.paused ≡ false → number (Err a) ≡ 0) → SwitchedOff s o
  off_refused a o n e silent = rw e (record {
    silent = λ p. absurd (n (silent p));
    resumes = λ z. absurd (n z);
    writes = λ z. absurd (n z);
    leaves = record { sticks = refl; right = refl; left = refl };
  })

  told_off : (a : Result ℕ Refusal) (d : Due) → Switched d → (s.paused ≡ false → (number a ≡ 0) × (d.written ≡ [])) → SwitchedOff s (told a s d)
  unfolding told
  told_off (Ok count) d k silent = record { silent = λ p. (refl, (silent p).1); resumes = λ _. k.packets; writes = λ _. k.written; leaves = k.leaves }
  told_off (Err OutOfRange) d k silent = off_refused OutOfRange _ (λ e. omega arith) refl (λ p. (silent p).0)
  told_off (Err QueueFull) d k silent = off_refused QueueFull _ (λ e. omega arith) refl (λ p. (silent p).0)
  told_off (Err MotionFull) d k silent = off_refused MotionFull _ (λ e. omega arith) refl (λ p. (silent p).0)
  told_off (Err BufferShort) d k silent = off_refused BufferShort _ (λ e. omega arith) refl (λ p. (silent p).0)

pub switching_off_sends_nothing : SwitchingOffSendsNothing
unfolding step due
switching_off_sends_nothing s b lent h e =
    let d = host_due (feed s.command b) s in
    let k = off_executes s (feed s.command b) e in
    told_off s (verdict s (Byte b) lent) d k (λ p.
    let none : d.written ≡ [] = k.written ∙ rw (nothing_waits s.queue (rw p at h.ranges.queue), p, quiet_due s.mouse) in
    (ap number (host_taken s b lent h.ranges.queue (omega (arith, ap length none))), none))
