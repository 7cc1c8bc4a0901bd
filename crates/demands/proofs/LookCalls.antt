-- A7 over calls in code: a glance comes to what the look's definition says, and a call of the step to what the laws of 0x0D and of a button say.
-- Assumes nothing.
use Prim.Native.Nat.{ℕ}
use native.Mathlib.Omega.{arith}
use mathlib.Core.Path.{◌≡◌, refl, sym, ap, ◌∙◌, subst}
use mathlib.Core.Bool.{Bool, true, false, cond}
use mathlib.Core.List.{List, [], ◌++◌}
use lib.Dec.{leb}
use lib.ListN.{length}
use lib.Seq.{drop-append_seam}
use Rattle.output.specs.Writing.{over}
use Rattle.protocol.specs.Settings.{is_absolute}
use Rattle.controller.specs.declared.State.{State}
use Rattle.controller.specs.declared.Input.TheVariants.{Byte, Button}
use Rattle.controller.specs.declared.Refusal.TheVariants.{BufferShort}
use Rattle.controller.specs.State.{contents}
use Rattle.controller.specs.Step.{Out, refused}
use Rattle.controller.specs.Look.{look}
use Rattle.controller.proofs.Answers.{did_answer, did_write}
use Rattle.controller.proofs.Looking.{looked_answer, looked_count, looked_bytes, looked_as_long}
use Rattle.demands.specs.Look.{six_bytes, ByLook, look_bytes, resumed_for_mouse, interrogated, with_button, reported_state}
use Rattle.demands.specs.LookCalls.{shown_by, LookAnswersOfCalls, InterrogationOfCalls, InterrogationIgnoredOfCalls, ButtonReportsOfCalls}
use Rattle.demands.proofs.Calls.{promised, wrote_nothing}
use Rattle.demands.proofs.Look.{look_answers, shows, interrogation, interrogation_ignored}
use Rattle.demands.proofs.ButtonReports.{button_reports}

pub look_answers_calls : LookAnswersOfCalls
unfolding over
look_answers_calls s g p =
    let lent = length g.before in
    let a = look_answers s lent in
    let e = looked_answer s p in
    record {
      by_table = subst (ByLook s lent) (sym e) a.by_table;
      six = λ z. let k = a.six (sym e ∙ z) in (looked_count s p ∙ ap length k, looked_bytes s p ∙ k);
      refused = λ no. let k = a.refused (λ z. no (e ∙ z)) in (looked_count s p ∙ ap length k.0, p.buffer ∙ k.1 g.before);
      as_long = looked_as_long s p;
      past_count = rw (looked_count s p, p.buffer) (drop-append_seam (look s lent).written _);
    }

-- what is answered 0 was not refused
as_taken : (t : Bool) (s : State) → (cond t (interrogated s) (refused BufferShort s)).answer ≡ 0 → cond t (interrogated s) (refused BufferShort s) ≡ interrogated s
as_taken true s e = refl
as_taken false s e = absurd (omega (arith, e))

pub interrogation_calls : InterrogationOfCalls
interrogation_calls s b c g h x p i taken q z =
    let d = promised i p in
    let lent = length c.before in
    let seen = look_answers_calls s g q in
    let absolute = (seen.by_table.shown.0 z).0 in
    let f = interrogation s b lent h x ∙ as_taken (leb (length (interrogated s).written) lent) s (ap (λ (o : Out). o.answer) (sym (interrogation s b lent h x)) ∙ sym (did_answer s (Byte b) d) ∙ taken) in
    let same : look_bytes (resumed_for_mouse s) ≡ shown_by g = shows (resumed_for_mouse s) absolute ∙ sym (seen.six z).1 in
    (did_write s (Byte b) d ∙ ap (λ (o : Out). o.written) f ∙ ap (λ (l : List ℕ). contents s.queue ++ l) same, d.state ∙ ap (λ (o : Out). o.state) f)

pub interrogation_ignored_calls : InterrogationIgnoredOfCalls
interrogation_ignored_calls s c g h between p i q z =
    let d = promised i p in
    let f = interrogation_ignored s (length c.before) h between ((look_answers_calls s g q).by_table.seven.0 z) in
    (wrote_nothing d (ap (λ (o : Out). o.answer) f) (ap (λ (o : Out). o.written) f), d.state ∙ ap (λ (o : Out). o.state) f)

pub button_reports_calls : ButtonReportsOfCalls
button_reports_calls s side down c g p i r q z =
    let d = promised i p in
    let t = with_button side down s in
    let f = button_reports s side down (length c.before) r in
    let state = d.state ∙ ap (λ (o : Out). o.state) f in
    let mouse : c.result.state.mouse ≡ t.mouse = ap (λ (x : State). x.mouse) state in
    let seen = look_answers_calls c.result.state g q in
    let absolute = sym (ap (λ (x : State). is_absolute x.settings.mouse) state) ∙ (seen.by_table.shown.0 z).0 in
    let same : look_bytes t ≡ shown_by g = shows t absolute ∙ ap six_bytes (sym mouse) ∙ sym (seen.six z).1 in
    record {
      written = did_write s (Button side down) d ∙ ap (λ (o : Out). o.written) f ∙ ap (λ (l : List ℕ). cond s.paused [] l) same;
      state = state ∙ ap (λ (l : List ℕ). reported_state side down s l) same;
    }
