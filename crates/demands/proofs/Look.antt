-- Look without clearing (A7): the look's table, the clearing, and 0x0D as one after the other.
-- Assumes nothing.
use Prim.Native.Nat.{ℕ, ◌≤◌, ◌<◌}
use native.Mathlib.Omega.{arith}
use mathlib.Core.Path.{◌≡◌, refl, sym, ap, ◌∙◌, subst}
use mathlib.Core.Bool.{Bool, true, false, cond, true≢false}
use mathlib.Core.List.{List, [], ◌∷◌, ◌++◌}
use lib.Dec.{leb, ltb}
use lib.ListN.{length}
use borrow.Author.Tests.{leb-true, leb-false, ltb-true, ltb-false}
use Rattle.output.specs.Packets.{Packet, bytes}
use Rattle.output.proofs.Cases.{both_ways}
use Rattle.output.proofs.Writing.{over_nil}
use Rattle.motion.specs.declared.Axes.{Axes}
use Rattle.protocol.specs.declared.MouseMode.{MouseMode}
use Rattle.protocol.specs.declared.MouseMode.TheVariants.{Relative, Absolute, Keycode}
use Rattle.protocol.specs.Settings.{is_absolute}
use Rattle.protocol.specs.declared.MouseCommand.TheVariants.{ReportPosition}
use Rattle.protocol.specs.declared.Meaning.{Meaning}
use Rattle.protocol.specs.declared.Meaning.TheVariants.{Nothing, OfMouse}
use Rattle.protocol.specs.Codes.{table, find, line, meaning_of}
use Rattle.protocol.specs.declared.Command.{Command}
use Rattle.protocol.specs.Reading.{Fed, half, whole, IsCommand, OneCommand, Between, zeros, begin, feed, no_command, command_after}
use Rattle.protocol.specs.Commands.{mouse_executed, executed, mouse_sets, sets}
use Rattle.protocol.proofs.Segments.{feed_between}
use Rattle.mouse.specs.declared.Mouse.{Mouse}
use Rattle.mouse.specs.Mouse.{live}
use Rattle.mouse.specs.Reports.{MouseDue, packets_due, quiet, one_packet, report}
use Rattle.mouse.specs.Reports as mouse
use Rattle.mouse.specs.Moves.{motion_due, released, resumed}
use Rattle.mouse.specs.Commands.{commanded}
use Rattle.mouse.proofs.Dues.{quiet_due, others_due}
use Rattle.sticks.specs.Commands.{mouse_commanded}
use Rattle.controller.specs.declared.State.{State}
use Rattle.controller.specs.declared.Input.TheVariants.{Byte}
use Rattle.std.specs.Prelude.{Ok}
use Rattle.controller.specs.declared.Refusal.TheVariants.{BufferShort}
use Rattle.controller.specs.Host.{Due, silent, mouse_effect, effect, acted, executes, host_due, reading, command_executed}
use Rattle.controller.specs.State.{contents}
use Rattle.controller.specs.Step.{Out, due, verdict, refused, told, step}
use Rattle.controller.specs.Look.{Sight, sight, look, mouse_changed, cleared}
use Rattle.controller.proofs.Answers.{host_taken, host_short}
use Rattle.controller.proofs.States.{cleared_is}
use Rattle.controller.proofs.Looking.{verdict_outside, verdict_short, verdict_shown}
use Rattle.demands.specs.Look.{six_bytes, Sees, LookAnswers, look_bytes, Clearing, resumed_for_mouse, interrogated, Interrogation, InterrogationIgnored}

-- ---- the look

module _ (s : State) (lent : ℕ) where
  sees_outside : is_absolute s.settings.mouse ≡ false → look s lent ≡ record { answer = 7; written = [] }
  unfolding look sight
  sees_outside e = rw (verdict_outside s lent e)

  sees_nothing : is_absolute s.settings.mouse ≡ true → lent < 6 → look s lent ≡ record { answer = 4; written = [] }
  unfolding look sight
  sees_nothing e h = rw (verdict_short s lent e h)

  sees_report : is_absolute s.settings.mouse ≡ true → 6 ≤ lent → look s lent ≡ record { answer = 0; written = six_bytes s.mouse }
  unfolding look sight report
  sees_report e h = rw (verdict_shown s lent e h)

  outside_sees : is_absolute s.settings.mouse ≡ false → Sees s lent (record { answer = 7; written = [] })
  outside_sees e = record {
    by_table = record {
      seven = (λ _. e, λ _. refl);
      four = (λ z. absurd (omega (arith, z)), λ h. absurd (true≢false (sym h.0 ∙ e)));
      shown = (λ z. absurd (omega (arith, z)), λ h. absurd (true≢false (sym h.0 ∙ e)));
      one_of_three = λ _ _. refl;
    };
    six = λ z. absurd (omega (arith, z));
    refused = λ _. (refl, λ l. sym (over_nil l));
  }

  short_sees : is_absolute s.settings.mouse ≡ true → lent < 6 → Sees s lent (record { answer = 4; written = [] })
  short_sees e h = record {
    by_table = record {
      seven = (λ z. absurd (omega (arith, z)), λ f. absurd (true≢false (sym e ∙ f)));
      four = (λ _. (e, h), λ _. refl);
      shown = (λ z. absurd (omega (arith, z)), λ g. absurd (omega (arith, h, g.1)));
      one_of_three = λ _ n. absurd (n refl);
    };
    six = λ z. absurd (omega (arith, z));
    refused = λ _. (refl, λ l. sym (over_nil l));
  }

  report_sees : is_absolute s.settings.mouse ≡ true → 6 ≤ lent → Sees s lent (record { answer = 0; written = six_bytes s.mouse })
  report_sees e h = record {
    by_table = record {
      seven = (λ z. absurd (omega (arith, z)), λ f. absurd (true≢false (sym e ∙ f)));
      four = (λ z. absurd (omega (arith, z)), λ g. absurd (omega (arith, h, g.1)));
      shown = (λ _. (e, h), λ _. refl);
      one_of_three = λ n _. absurd (n refl);
    };
    six = λ _. refl;
    refused = λ n. absurd (n refl);
  }

  sees : (absolute short : Bool) → is_absolute s.settings.mouse ≡ absolute → ltb lent 6 ≡ short → Sees s lent (look s lent)
  sees false short e t = subst (Sees s lent) (sym (sees_outside e)) (outside_sees e)
  sees true true e t = let h = ltb-true lent 6 t in subst (Sees s lent) (sym (sees_nothing e h)) (short_sees e h)
  sees true false e t = let h = ltb-false lent 6 t in subst (Sees s lent) (sym (sees_report e h)) (report_sees e h)

-- what a look shows into six bytes
pub shows : (s : State) → is_absolute s.settings.mouse ≡ true → look_bytes s ≡ six_bytes s.mouse
shows s e = ap (λ (v : Sight). v.written) (sees_report s 6 e (omega arith))

pub look_answers : LookAnswers
look_answers s lent = sees s lent (is_absolute s.settings.mouse) (ltb lent 6) refl refl

-- ---- the clearing

pub clearing : Clearing
unfolding cleared
clearing s = record {
  latches = refl;
  place = refl;
  held = refl;
  left = refl;
  right = refl;
  settings = refl;
  command = refl;
  paused = refl;
  queue = refl;
  sticks = refl;
  clock = refl;
  keys = refl;
  is_state = cleared_is s;
}

-- ---- 0x0D

-- in absolute mode a resume sends no motion, and changes nothing of the mouse
none_due : (mode : MouseMode) (t : Axes ℕ) (m : Mouse) → is_absolute mode ≡ true → motion_due mode t m ≡ quiet m
unfolding motion_due
none_due Relative t m e = absurd (true≢false (sym e))
none_due (Absolute maximum) t m e = refl
none_due (Keycode delta) t m e = absurd (true≢false (sym e))

none_resumed : (s : State) → is_absolute s.settings.mouse ≡ true → resumed s.paused s.settings s.mouse ≡ quiet s.mouse
unfolding released
none_resumed s e =
    let Still : MouseDue → Type 0 = λ d. d ≡ quiet s.mouse in
    both_ways Still s.paused (λ _. both_ways Still (live s.settings) (λ _. none_due s.settings.mouse s.settings.threshold s.mouse e) (λ _. refl)) (λ _. refl)

-- 0x0D, where it is executed
module _ (s : State) where
  -- what it comes to: the mouse and the packets by the resume, its own packets, and what is written behind what waits
  abbrev coming_to : Mouse → List Packet → List Packet → List ℕ → Out
  coming_to m resumes reports behind = record {
    answer = 0;
    written = contents s.queue ++ behind;
    packets = resumes ++ reports;
    dropped = [];
    state = mouse_changed (mouse.cleared m) (resumed_for_mouse s);
  }

  acts : (ps : List ℕ) → is_absolute s.settings.mouse ≡ true → told (Ok 0) s (acted (OfMouse ReportPosition) ps s) ≡ interrogated s
  unfolding acted effect mouse_effect commanded sets mouse_sets mouse_commanded told cleared report
  acts ps e =
      let m = s.mouse in
      let one : Mouse → MouseDue = λ n. one_packet (report n) (mouse.cleared n) in
      (λ j. let d = none_resumed s e j in coming_to d.mouse (packets_due d) (packets_due (one d.mouse)) (bytes (packets_due d ++ packets_due (one d.mouse))))
      ∙ (λ j. let ps = quiet_due m j in let qs = others_due (one m) refl j in coming_to m ps qs (bytes (ps ++ qs)))
      ∙ (λ j. coming_to m [] (report m ∷ []) (sym (shows (resumed_for_mouse s) e) j))

  -- a byte that completes it
  acts_on : (f : Fed) → command_executed f s.settings ≡ OfMouse ReportPosition → told (Ok 0) s (host_due f s) ≡ interrogated s
  unfolding host_due command_executed executes executed mouse_executed
  acts_on (half c) e = absurd (let z : ◌≡◌ {A = ℕ} 0 1 = cc in omega arith)
  acts_on (whole code ps) e = by (executed (meaning_of code) ps s.settings) refl e
    where
      by : (t : Bool) → executed (meaning_of code) ps s.settings ≡ t → cond t (meaning_of code) Nothing ≡ OfMouse ReportPosition →
          told (Ok 0) s (cond t (executes (meaning_of code) ps s) (silent (reading (whole code ps) s))) ≡ interrogated s
      by true x e = rw e (acts ps (sym (ap (λ (m : Meaning). executed m ps s.settings) e) ∙ x))
      by false x e = absurd (let z : ◌≡◌ {A = ℕ} 0 1 = cc in omega arith)

pub interrogation : Interrogation
unfolding step due told
interrogation s b lent h e = by (leb (length (interrogated s).written) lent) refl
  where
    d : Due
    d = host_due (feed s.command b) s

    as_taken : told (Ok 0) s d ≡ interrogated s
    as_taken = acts_on s (feed s.command b) e

    as_long : length d.written ≡ length (interrogated s).written
    as_long = ap (λ (o : Out). length o.written) as_taken

    by : (t : Bool) → leb (length (interrogated s).written) lent ≡ t → told (verdict s (Byte b) lent) s d ≡ cond t (interrogated s) (refused BufferShort s)
    by true f = rw (host_taken s b lent h.ranges.queue (omega (arith, as_long, leb-true (length (interrogated s).written) lent f))) as_taken
    by false f = rw (host_short s b lent h.ranges.queue (omega (arith, as_long, leb-false (length (interrogated s).written) lent f)))

-- outside absolute mode
ignored_due : (s : State) → Between s.command → is_absolute s.settings.mouse ≡ false → due s (Byte 0x0D) ≡ silent (reading (whole 0x0D zeros) s)
unfolding due host_due executed mouse_executed feed begin line find table
ignored_due s between e = rw (feed_between s.command 0x0D between, e)

-- a command of which no byte has come is none
none_received : (c : Command) → IsCommand c → OneCommand c → Between c → c ≡ no_command
unfolding line find table
none_received c h o e =
    let come : c.come ≡ 0 = (let w = rw e at h.within in omega (arith, w)) in
    let pending : c.pending ≡ 0 = (let w = rw e at h.told in omega (arith, w)) in
    let params : c.params ≡ zeros = rw come at o in
    λ j. record { code = e j; come = come j; params = params j; pending = pending j }

pub interrogation_ignored : InterrogationIgnored
unfolding step told command_after
interrogation_ignored s lent h between e =
    let none = none_received s.command h.ranges.command h.spelling.command between in
    let still : due s (Byte 0x0D) ≡ silent s =
    ignored_due s between e
    ∙ (λ j. silent (record {
      settings = s.settings;
      command = sym none j;
      paused = s.paused;
      queue = s.queue;
      mouse = s.mouse;
      sticks = s.sticks;
      clock = s.clock;
      keys = s.keys;
    })) in
    rw (host_taken s 0x0D lent h.ranges.queue (omega (arith, ap (λ (d : Due). length d.written) still)), still)
