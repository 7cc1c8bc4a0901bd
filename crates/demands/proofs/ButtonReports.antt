-- A button's report (A7) is the look's bytes alone: wherever a report falls due by a button, it is document 01's case, and comes to that.
-- Assumes nothing.
use Prim.Native.Nat.{ℕ, zero, suc, ◌+◌}
use mathlib.Core.Path.{◌≡◌, refl, sym, ap, ◌∙◌}
use mathlib.Core.Bool.{Bool, true, false, cond, ◌||◌, or_assoc, true≢false, false≢true}
use mathlib.Core.List.{List, [], ◌∷◌, ◌++◌}
use lib.Dec.{eqb}
use borrow.Author.Tests.{eqb-true}
use Rattle.output.specs.ScanCodes.{arrow_right, arrow_left, arrow_up, arrow_down}
use Rattle.output.specs.Packets.{Packet, pairs}
use Rattle.output.proofs.Cases.{both_ways}
use Rattle.motion.specs.declared.Motion.{Motion}
use Rattle.motion.specs.declared.Axes.{Axes}
use Rattle.protocol.specs.declared.MouseMode.{MouseMode}
use Rattle.protocol.specs.declared.MouseMode.TheVariants.{Relative, Absolute, Keycode}
use Rattle.protocol.specs.declared.Settings.{Settings}
use Rattle.protocol.specs.declared.StickMode.{StickMode}
use Rattle.protocol.specs.Settings.{is_absolute}
use Rattle.mouse.specs.declared.Mouse.{Mouse}
use Rattle.mouse.specs.declared.Side.{Side}
use Rattle.mouse.specs.declared.Sending.{Sending}
use Rattle.mouse.specs.Mouse.{live}
use Rattle.mouse.specs.Sending.{buttons, split_from, split, arrows, packets_sent}
use Rattle.mouse.specs.Reports.{MouseDue, packets_due, quiet, one_packet, send_all, report}
use Rattle.mouse.specs.Buttons.{with_level, unchanged, as_keys, action_reports, button_as_key, with_latch, live_button, presses, gives_fire}
use Rattle.mouse.proofs.Dues.{others_due}
use Rattle.sticks.proofs.Sends.{OfEach, of_stick_moved}
use Rattle.controller.specs.declared.State.{State}
use Rattle.controller.specs.declared.Input.TheVariants.{Button}
use Rattle.controller.specs.declared.Refusal.{Refusal}
use Rattle.std.specs.Prelude.{Result, Ok, Err}
use Rattle.controller.specs.declared.Refusal.TheVariants.{OutOfRange, QueueFull, MotionFull, BufferShort}
use Rattle.controller.specs.Host.{Due, Effect}
use Rattle.controller.specs.Events.{of_mouse, of_sticks, with_trigger, fired, button, event, event_due, happened, map_after}
use Rattle.controller.specs.Step.{Out, due, verdict, told, step}
use Rattle.demands.specs.Look.{is_report, has_report, with_button, reported_state, button_reported, ButtonReports}
use Rattle.demands.proofs.Look.{shows}

-- Where a report is: among two lists of packets in one of them, and never in what is sent of held motion or by the joysticks.
has_append : (ps qs : List Packet) → has_report (ps ++ qs) ≡ (has_report ps || has_report qs)
has_append [] qs = refl
has_append (p ∷ ps) qs = ap (λ (t : Bool). is_report p || t) (has_append ps qs) ∙ sym (or_assoc (is_report p) (has_report ps) (has_report qs))

none_in_both : (ps qs : List Packet) → has_report ps ≡ false → has_report qs ≡ false → has_report (ps ++ qs) ≡ false
none_in_both ps qs e f = rw (has_append ps qs, e, f)

none_in_pairs : (n make : ℕ) → has_report (pairs n make) ≡ false
unfolding pairs
none_in_pairs zero make = refl
none_in_pairs (suc n) make = none_in_pairs n make

none_in_split : (rest n k levels : ℕ) (d : Axes Motion) → has_report (split_from rest n k levels d) ≡ false
unfolding split_from
none_in_split zero n k levels d = refl
none_in_split (suc rest) n k levels d = none_in_split rest n (k + 1) levels d

none_in_arrows : (d : Axes Motion) → has_report (arrows d) ≡ false
unfolding arrows
none_in_arrows d =
    let right = pairs d.x.plus arrow_right in
    let left = pairs d.x.minus arrow_left in
    let down = pairs d.y.plus arrow_down in
    let up = pairs d.y.minus arrow_up in
    none_in_both right (left ++ (down ++ up)) (none_in_pairs d.x.plus arrow_right)
    (none_in_both left (down ++ up) (none_in_pairs d.x.minus arrow_left)
    (none_in_both down up (none_in_pairs d.y.plus arrow_down) (none_in_pairs d.y.minus arrow_up)))

none_in_motion : (s : Sending) → has_report (packets_sent s) ≡ false
unfolding packets_sent
none_in_motion s =
    let levels = buttons s.left s.right in
    none_in_both (split s.packets levels s.held) (arrows s.arrows) (none_in_split s.packets s.packets 0 levels s.held) (none_in_arrows s.arrows)

-- so of what falls due of the mouse the others decide
in_others : (d : MouseDue) → has_report (packets_due d) ≡ has_report d.others
in_others d = has_append (packets_sent d.sending) d.others ∙ ap (λ (t : Bool). t || has_report d.others) (none_in_motion d.sending)

record NoReport (n : ℕ) (ps : List Packet) : Type 0 where
  none : has_report ps ≡ false

none_of_sticks : (mode : StickMode) → OfEach mode NoReport
none_of_sticks mode = record {
  none = λ n. record { none = refl };
  joined = λ m n ps qs p q. record { none = none_in_both ps qs p.none q.none };
  scan = λ code h. record { none = refl };
  stick = λ one b. record { none = refl };
  monitor = λ triggers positions h. record { none = refl };
  samples = λ b h. record { none = refl };
  sticks = λ b0 b1. record { none = refl };
}

-- when a button reports: document 01's case
record Reports (σ : Settings) (side : Side) (down : Bool) (m : Mouse) : Type 0 where
  changed : unchanged side down m ≡ false
  is_live : live σ ≡ true
  absolute : is_absolute σ.mouse ≡ true
  action : action_reports σ.action down ≡ true

abbrev Without : MouseDue → Type 0
Without d = has_report d.others ≡ false

live_reports : (mode : MouseMode) (action : ℕ) (side : Side) (down : Bool) (m : Mouse) → has_report (live_button mode action side down m).others ≡ true →
    (is_absolute mode ≡ true) × (action_reports action down ≡ true)
unfolding live_button send_all report
live_reports Relative action side down m r = absurd (false≢true (sym (both_ways Without (eqb action as_keys) (λ _. refl) (λ _. refl)) ∙ r))
live_reports (Absolute maximum) action side down m r = (refl, by (eqb action as_keys) (action_reports action down) r)
  where
    n : Mouse
    n = with_latch side down m

    by : (keys acts : Bool) → has_report (cond keys (button_as_key side down n) (cond acts (one_packet (report n) n) (quiet n))).others ≡ true → acts ≡ true
    by true acts r = absurd (false≢true r)
    by false true r = refl
    by false false r = r
live_reports (Keycode delta) action side down m r = absurd (false≢true r)

presses_report : (σ : Settings) (side : Side) (down : Bool) (m : Mouse) → has_report (presses σ side down m).others ≡ true → Reports σ side down m
unfolding presses
presses_report σ side down m r = by (unchanged side down m) (live σ) refl refl r
  where
    n : Mouse
    n = with_level side down m

    by : (u l : Bool) → unchanged side down m ≡ u → live σ ≡ l →
        has_report (cond u (quiet m) (cond l (live_button σ.mouse σ.action side down n) (quiet n))).others ≡ true → Reports σ side down m
    by true l e f r = absurd (false≢true r)
    by false false e f r = absurd (false≢true r)
    by false true e f r = let k = live_reports σ.mouse σ.action side down n r in record { changed = e; is_live = f; absolute = k.0; action = k.1 }

-- an action that reports makes no keys of the buttons
reports_no_key : (action : ℕ) (down : Bool) → action_reports action down ≡ true → eqb action as_keys ≡ false
reports_no_key action down r = by (eqb action as_keys) refl
  where
    four : (down : Bool) → action_reports 4 down ≡ false
    four true = refl
    four false = refl

    by : (t : Bool) → eqb action as_keys ≡ t → t ≡ false
    by true e = absurd (true≢false (sym r ∙ ap (λ (a : ℕ). action_reports a down) (eqb-true action as_keys e) ∙ four down))
    by false e = refl

-- in absolute mode a live button with such an action reports
reports : (mode : MouseMode) (action : ℕ) (side : Side) (down : Bool) (m : Mouse) → is_absolute mode ≡ true → action_reports action down ≡ true →
    live_button mode action side down m ≡ one_packet (report (with_latch side down m)) (with_latch side down m)
unfolding live_button
reports Relative action side down m e r = absurd (true≢false (sym e))
reports (Absolute maximum) action side down m e r = rw (reports_no_key action down r, r)
reports (Keycode delta) action side down m e r = absurd (true≢false (sym e))

module _ (s : State) (side : Side) (down : Bool) where
  after : Mouse
  after = (with_button side down s).mouse

  -- what it comes to, by the bytes that are written or queued
  abbrev reporting : List ℕ → Out
  reporting shown = record {
    answer = 0;
    written = cond s.paused [] shown;
    packets = report after ∷ [];
    dropped = [];
    state = reported_state side down s shown;
  }

  reported : Reports s.settings side down s.mouse → presses s.settings side down s.mouse ≡ one_packet (report after) after
  unfolding presses after
  reported r = rw (r.changed, r.is_live) (reports s.settings.mouse s.settings.action side down (with_level side down s.mouse) r.absolute r.action)

  -- as the mouse has it, or as fire
  effect_of : Bool → Effect
  effect_of fire = cond fire (of_sticks (fired s.settings down s.sticks) (with_level side down s.mouse) s.clock) (of_mouse (presses s.settings side down s.mouse) s.sticks s.clock)

  due_of : Effect → Due
  due_of e = happened e.packets e.mouse e.sticks e.clock s.keys s

  reported_due : has_report (due s (Button side down)).packets ≡ true → told (Ok 0) s (due s (Button side down)) ≡ button_reported side down s
  unfolding due event_due event button map_after effect_of due_of happened told report after
  reported_due = by (gives_fire s.settings side down s.mouse)
    where
      by : (fire : Bool) → has_report (effect_of fire).packets ≡ true → told (Ok 0) s (due_of (effect_of fire)) ≡ button_reported side down s
      by true r = absurd (false≢true (sym (of_stick_moved NoReport s.settings (none_of_sticks s.settings.stick) true (with_trigger down s.sticks.one) s.sticks).none ∙ r))
      by false r =
          let k = presses_report s.settings side down s.mouse (sym (in_others (presses s.settings side down s.mouse)) ∙ r) in
          rw (reported k, others_due (one_packet (report after) after) refl)
          (λ j. reporting (sym (shows (with_button side down s) k.absolute) j))

-- a refusal has no packets
told_reports : (w : Result ℕ Refusal) (s : State) (d : Due) → has_report (told w s d).packets ≡ true → told w s d ≡ told (Ok 0) s d
unfolding told
told_reports (Ok count) s d r = refl
told_reports (Err OutOfRange) s d r = absurd (false≢true r)
told_reports (Err QueueFull) s d r = absurd (false≢true r)
told_reports (Err MotionFull) s d r = absurd (false≢true r)
told_reports (Err BufferShort) s d r = absurd (false≢true r)

pub button_reports : ButtonReports
unfolding step told
button_reports s side down lent r =
    let d = due s (Button side down) in
    let e = told_reports (verdict s (Button side down) lent) s d r in
    e ∙ reported_due s side down (sym (ap (λ (o : Out). has_report o.packets) e) ∙ r)
