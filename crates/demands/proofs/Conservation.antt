-- No motion is lost or doubled (A14): each step keeps the account of an axis, and so does a sequence; and nothing is dropped meanwhile.
-- Assumes nothing.
use Prim.Native.Nat.{ℕ}
use native.Mathlib.Omega.{arith}
use mathlib.Core.Path.{◌≡◌, refl, sym, ap, ap₂, ◌∙◌}
use mathlib.Core.Bool.{Bool, true, false, cond}
use mathlib.Core.List.{List, [], ◌∷◌, ◌++◌}
use lib.IntN.{ℤ, pos, ◌+ℤ◌, nat_abs, +ℤ_idl, +ℤ_idr, +ℤ_assoc}
use Rattle.output.specs.Packets.{Packet}
use Rattle.output.proofs.Cases.{both_ways}
use Rattle.motion.specs.Motion.{value}
use Rattle.clock.specs.declared.Clock.{Clock}
use Rattle.clock.specs.Setting.{report}
use Rattle.protocol.specs.declared.MouseMode.TheVariants.{Relative}
use Rattle.protocol.specs.declared.StickMode.{StickMode}
use Rattle.protocol.specs.declared.Settings.{Settings}
use Rattle.protocol.specs.declared.Meaning.{Meaning}
use Rattle.protocol.specs.declared.Meaning.TheVariants.{Nothing, Memory, Pause, Reset, OfMouse, OfStick, OfOther, Inquire}
use Rattle.protocol.specs.declared.OtherCommand.{OtherCommand}
use Rattle.protocol.specs.declared.OtherCommand.TheVariants.{Resume, MouseOff, SetClock, ReportClock}
use Rattle.protocol.specs.Codes.{meaning_of}
use Rattle.protocol.specs.Settings.{monitors}
use Rattle.protocol.specs.Reading.{Fed, half, whole, feed}
use Rattle.protocol.specs.Commands.{executed}
use Rattle.protocol.proofs.Replies.{of_reply}
use Rattle.mouse.specs.declared.Mouse.{Mouse}
use Rattle.mouse.specs.declared.Side.{Side}
use Rattle.mouse.specs.Mouse.{live}
use Rattle.mouse.specs.Reports.{packets_due}
use Rattle.mouse.specs.Moves.{moves}
use Rattle.mouse.specs.Buttons.{gives_fire}
use Rattle.mouse.specs.Totals.{Axis, along, says, said, brings}
use Rattle.mouse.proofs.Dues.{quiet_due}
use Rattle.mouse.proofs.States.{level_held}
use Rattle.mouse.proofs.Conserved.{said_append, moves_conserve, moves_dropped, resumed_conserve, commanded_conserve, presses_conserve}
use Rattle.sticks.specs.declared.Sticks.{Sticks}
use Rattle.sticks.proofs.Sends.{OfEach, of_stick_moved, of_ticked, of_sampled, of_commanded}
use Rattle.controller.specs.declared.State.{State}
use Rattle.controller.specs.declared.Input.{Input}
use Rattle.controller.specs.declared.Input.TheVariants.{Byte, Key, Button, Move, Joystick, Sample, Tick}
use Rattle.controller.specs.declared.Refusal.{Refusal}
use Rattle.std.specs.Prelude.{Result, Ok, Err}
use Rattle.controller.specs.declared.Refusal.TheVariants.{OutOfRange, QueueFull, MotionFull, BufferShort}
use Rattle.controller.specs.Host.{Due, Effect, silent, mouse_effect, stick_effect, other_effect, effect, resumed_packets, resumed_mouse, acted, executes, host_due, reading, command_executed, is_reset}
use Rattle.controller.specs.Events.{happened, key_packets, button, event, event_due}
use Rattle.controller.specs.Step.{due, told, verdict, step}
use Rattle.controller.specs.Sequences.{Turn, after, history, executed_by}
use Rattle.controller.proofs.Delivery.{step_drops}
use Rattle.demands.specs.Demand2.{flows_in, all_due, all_dropped}
use Rattle.demands.specs.Conservation.{arrivals_in, Spared, AllUndisturbed, brought_by, brought, Conservation, NoneDropped}

module _ (a : Axis) where
  -- packets that say nothing of motion, however many bytes they have
  record Mute (n : ℕ) (ps : List Packet) : Type 0 where
    none : said a ps ≡ pos 0

  sticks_mute : (mode : StickMode) → OfEach mode Mute
  sticks_mute mode = record {
    none = λ n. record { none = refl };
    joined = λ m n ps qs p q. record { none = said_append a ps qs ∙ ap₂ ◌+ℤ◌ p.none q.none };
    scan = λ code h. record { none = refl };
    stick = λ one b. record { none = refl };
    monitor = λ triggers positions h. record { none = refl };
    samples = λ b h. record { none = refl };
    sticks = λ b0 b1. record { none = refl };
  }

  none_mute : Mute 0 []
  none_mute = record { none = refl }

  of_one : {p : Packet} → says a p ≡ pos 0 → Mute 0 (p ∷ [])
  of_one e = record { none = ap (λ (z : ℤ). z +ℤ pos 0) e }

  -- from the mouse m to the mouse n: what packets say, and what is then held, is what was held and z
  record Adds (m : Mouse) (z : ℤ) (ps : List Packet) (n : Mouse) : Type 0 where
    account : said a ps +ℤ value (along a n.held) ≡ value (along a m.held) +ℤ z

  -- one after the other
  adds_then : {m n l : Mouse} {b c : ℤ} {ps qs : List Packet} → Adds m b ps n → Adds n c qs l → Adds m (b +ℤ c) (ps ++ qs) l
  adds_then {m} {n} {l} {b} {c} {ps} {qs} f g =
      let first = value (along a m.held) in
      let last = value (along a l.held) in
      record {
        account =
            ap (λ (z : ℤ). z +ℤ last) (said_append a ps qs)
            ∙ +ℤ_assoc (said a ps) (said a qs) last
            ∙ ap (λ (z : ℤ). said a ps +ℤ z) g.account
            ∙ sym (+ℤ_assoc (said a ps) (value (along a n.held)) c)
            ∙ ap (λ (z : ℤ). z +ℤ c) f.account
            ∙ +ℤ_assoc first b c;
      }

  -- nothing is brought: what is said and what is held is what was held
  adds_nothing : {m n : Mouse} {ps : List Packet} → said a ps +ℤ value (along a n.held) ≡ value (along a m.held) → Adds m (pos 0) ps n
  adds_nothing {m} e = record { account = e ∙ sym (+ℤ_idr (value (along a m.held))) }

  -- nothing is said either, and the mouse stays
  stays : {n : ℕ} {ps : List Packet} (m : Mouse) → Mute n ps → Adds m (pos 0) ps m
  stays m e = adds_nothing (ap (λ (z : ℤ). z +ℤ value (along a m.held)) e.none ∙ +ℤ_idl (value (along a m.held)))

  nothing_due : (m : Mouse) → Adds m (pos 0) [] m
  nothing_due m = stays m none_mute

  other_adds : (c : OtherCommand) (ps : List ℕ) (m : Mouse) (k : Sticks) (t : Clock) → (c ≡ MouseOff → ⊥) →
      Adds m (pos 0) (other_effect c ps m k t).packets (other_effect c ps m k t).mouse
  unfolding other_effect report
  other_adds Resume ps m k t h = nothing_due m
  other_adds MouseOff ps m k t h = absurd (h refl)
  other_adds SetClock ps m k t h = nothing_due m
  other_adds ReportClock ps m k t h = stays m (of_one refl)

  -- a command itself, once output is resumed
  effect_adds : (c : Meaning) (ps : List ℕ) (σ : Settings) (m : Mouse) (k : Sticks) (t : Clock) → Spared c →
      Adds m (pos 0) (effect c ps σ m k t).packets (effect c ps σ m k t).mouse
  unfolding effect mouse_effect stick_effect
  effect_adds Nothing ps σ m k t h = nothing_due m
  effect_adds Memory ps σ m k t h = nothing_due m
  effect_adds Pause ps σ m k t h = nothing_due m
  effect_adds Reset ps σ m k t h = nothing_due m
  effect_adds (OfMouse c) ps σ m k t h =
      adds_nothing
      (commanded_conserve a c ps σ.mouse m (λ e. h.no_relative (ap OfMouse e)) (λ e. h.no_absolute (ap OfMouse e)) (λ e. h.no_keycode (ap OfMouse e)))
  effect_adds (OfStick c) ps σ m k t h = stays m (of_commanded Mute σ.stick (sticks_mute σ.stick) c k)
  effect_adds (OfOther c) ps σ m k t h = other_adds c ps m k t (λ e. h.no_mouse_off (ap OfOther e))
  effect_adds (Inquire q) ps σ m k t h = stays m (of_one (of_reply (λ (p : Packet). says a p ≡ pos 0) (λ b c d e f g h. refl) q σ))

  -- a resume, if there is one, and then the command
  acted_adds : (c : Meaning) (ps : List ℕ) (s : State) → s.settings.mouse ≡ Relative → Spared c →
      Adds s.mouse (pos 0) (acted c ps s).packets (acted c ps s).state.mouse
  unfolding acted
  acted_adds c ps s r h =
      let first : Adds s.mouse (pos 0) (resumed_packets s) (resumed_mouse s) = adds_nothing (resumed_conserve a s.paused s.settings s.mouse r) in
      adds_then first (effect_adds c ps s.settings (resumed_mouse s) s.sticks s.clock h)

  executes_adds : (c : Meaning) (ps : List ℕ) (s : State) → s.settings.mouse ≡ Relative → Spared c →
      Adds s.mouse (pos 0) (executes c ps s).packets (executes c ps s).state.mouse
  unfolding executes
  executes_adds Nothing ps s r h = acted_adds Nothing ps s r h
  executes_adds Memory ps s r h = acted_adds Memory ps s r h
  executes_adds Pause ps s r h = nothing_due s.mouse
  executes_adds Reset ps s r h = absurd (h.no_reset refl)
  executes_adds (OfMouse c) ps s r h = acted_adds (OfMouse c) ps s r h
  executes_adds (OfStick c) ps s r h = acted_adds (OfStick c) ps s r h
  executes_adds (OfOther c) ps s r h = acted_adds (OfOther c) ps s r h
  executes_adds (Inquire q) ps s r h = acted_adds (Inquire q) ps s r h

  host_adds : (f : Fed) (s : State) → s.settings.mouse ≡ Relative → Spared (command_executed f s.settings) →
      Adds s.mouse (pos 0) (host_due f s).packets (host_due f s).state.mouse
  unfolding host_due command_executed
  host_adds (half c) s r h = nothing_due s.mouse
  host_adds (whole code ps) s r h = by (executed (meaning_of code) ps s.settings) h
    where
      by : (t : Bool) → Spared (cond t (meaning_of code) Nothing) →
          let d = cond t (executes (meaning_of code) ps s) (silent (reading (whole code ps) s)) in
          Adds s.mouse (pos 0) d.packets d.state.mouse
      by true h = executes_adds (meaning_of code) ps s r h
      by false h = nothing_due s.mouse

  -- a motion: live it is brought, else it is dropped
  move_adds : (paused : Bool) (σ : Settings) (dx dy : ℤ) (m : Mouse) → σ.mouse ≡ Relative →
      Adds m (cond (live σ) (brings a σ.bottom dx dy) (pos 0)) (packets_due (moves paused σ dx dy m)) (moves paused σ dx dy m).mouse
  move_adds paused σ dx dy m r = by (live σ) refl
    where
      by : (t : Bool) → live σ ≡ t →
          Adds m (cond t (brings a σ.bottom dx dy) (pos 0)) (packets_due (moves paused σ dx dy m)) (moves paused σ dx dy m).mouse
      by true l = record { account = moves_conserve a paused σ dx dy m r l }
      by false l = rw (moves_dropped paused σ dx dy m l, quiet_due m) (nothing_due m)

  -- a button: the mouse's, or one that gives fire, which leaves held motion
  button_adds : (σ : Settings) (side : Side) (down : Bool) (m : Mouse) (k : Sticks) (t : Clock) →
      Adds m (pos 0) (button σ side down m k t).packets (button σ side down m k t).mouse
  unfolding button
  button_adds σ side down m k t =
      both_ways (λ (e : Effect). Adds m (pos 0) e.packets e.mouse) (gives_fire σ side down m)
      (λ _. record { account = rw (level_held side down m) (stays m (of_stick_moved Mute σ (sticks_mute σ.stick) true _ k)).account })
      (λ _. adds_nothing (presses_conserve a σ side down m))

  -- any input, if it is taken
  due_adds : (s : State) (i : Input) → s.settings.mouse ≡ Relative → Spared (executed_by s i) →
      Adds s.mouse (brought_by a s i) (due s i).packets (due s i).state.mouse
  unfolding due event_due happened event brought_by key_packets
  due_adds s (Byte b) r h = host_adds (feed s.command b) s r h
  due_adds s (Key code down) r h =
      stays s.mouse (both_ways (Mute 0) (monitors s.settings.stick) (λ _. none_mute) (λ _. of_one refl))
  due_adds s (Button side down) r h = button_adds s.settings side down s.mouse s.sticks s.clock
  due_adds s (Move dx dy) r h = move_adds s.paused s.settings dx dy s.mouse r
  due_adds s (Joystick stick position trigger) r h = stays s.mouse (of_stick_moved Mute s.settings (sticks_mute s.settings.stick) _ _ s.sticks)
  due_adds s (Sample b) r h = stays s.mouse (of_sampled Mute s.settings (sticks_mute s.settings.stick) s.paused (nat_abs b) s.sticks)
  due_adds s Tick r h = stays s.mouse (of_ticked Mute s.settings (sticks_mute s.settings.stick) s.paused s.sticks)

  told_adds : (w : Result ℕ Refusal) (s : State) (d : Due) (z : ℤ) → (told w s d).answer ≡ 0 → Adds s.mouse z d.packets d.state.mouse →
      Adds s.mouse z (told w s d).packets (told w s d).state.mouse
  unfolding told
  told_adds (Ok count) s d z e k = k
  told_adds (Err OutOfRange) s d z e k = absurd (omega arith)
  told_adds (Err QueueFull) s d z e k = absurd (omega arith)
  told_adds (Err MotionFull) s d z e k = absurd (omega arith)
  told_adds (Err BufferShort) s d z e k = absurd (omega arith)

  -- a step that is taken
  step_adds : (s : State) (i : Input) (lent : ℕ) → (step s i lent).answer ≡ 0 → s.settings.mouse ≡ Relative → Spared (executed_by s i) →
      Adds s.mouse (brought_by a s i) (step s i lent).packets (step s i lent).state.mouse
  unfolding step
  step_adds s i lent e r h = told_adds (verdict s i lent) s (due s i) (brought_by a s i) e (due_adds s i r h)

  -- a sequence
  all_add : (s : State) (ts : List Turn) → AllUndisturbed (arrivals_in s ts) →
      Adds s.mouse (brought a (arrivals_in s ts)) (all_due (flows_in s ts)) (after s ts).mouse
  unfolding history after all_due arrivals_in brought
  all_add s [] h = nothing_due s.mouse
  all_add s (t ∷ ts) (u, k) =
      adds_then (step_adds s t.input t.lent u.taken u.relative u.spared) (all_add (step s t.input t.lent).state ts k)

pub conservation : Conservation
conservation a s ts h = (all_add a s ts h).account

-- no reset is executed, so that nothing is dropped
not_reset : (c : Meaning) → Spared c → is_reset c ≡ false
not_reset Nothing h = refl
not_reset Memory h = refl
not_reset Pause h = refl
not_reset Reset h = absurd (h.no_reset refl)
not_reset (OfMouse c) h = refl
not_reset (OfStick c) h = refl
not_reset (OfOther c) h = refl
not_reset (Inquire q) h = refl

pub none_dropped : NoneDropped
unfolding history all_dropped arrivals_in
none_dropped s [] h = refl
none_dropped s (t ∷ ts) (u, k) =
    let o = step s t.input t.lent in
    let none : o.dropped ≡ [] = step_drops s t.input t.lent ∙ rw (u.taken, not_reset (executed_by s t.input) u.spared) in
    ap₂ ◌++◌ none (none_dropped o.state ts k)
