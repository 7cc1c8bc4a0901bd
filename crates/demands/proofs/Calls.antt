-- The demands, that no motion is lost or doubled, which keys are down, the right button with the mouse off, and cutting the joined output, over calls of the
-- step in code, each known by its promise alone: calls come to what the definition says.
-- Assumes nothing.
use Prim.Native.Nat.{ℕ}
use native.Mathlib.Omega.{arith}
use mathlib.Core.Path.{◌≡◌, refl, sym, ap, ap₂, ◌∙◌, subst}
use mathlib.Core.Bool.{true, cond, ◌&&◌}
use mathlib.Core.List.{List, [], ◌∷◌, map}
use lib.Dec.{eqb}
use lib.ListN.{length}
use lib.Seq.{drop-append_seam}
use Rattle.output.specs.ScanCodes.{break_of}
use Rattle.output.specs.Writing.{over}
use Rattle.output.proofs.Writing.{length_over, over_nil}
use Rattle.protocol.specs.Replies.{in_order}
use Rattle.mouse.specs.declared.Side.TheVariants.{Right}
use Rattle.controller.specs.declared.State.{State}
use Rattle.controller.specs.declared.Input.{Input}
use Rattle.controller.specs.declared.Input.TheVariants.{Byte, Button}
use Rattle.controller.specs.State.{IsState, power_up, contents}
use Rattle.controller.specs.Step.{Out, Did, step}
use Rattle.controller.specs.Sequences.{after, history, done, resets_by}
use Rattle.controller.proofs.Answers.{step_fits, did_answer, did_count, did_write}
use Rattle.controller.proofs.Delivery.{step_drops}
use Rattle.controller.proofs.States.{keeps}
use Rattle.demands.specs.Demand1.{ByTable}
use Rattle.demands.specs.Demand2.{Flow, flow, flows_in}
use Rattle.demands.specs.Demand3.{Seen, seen, seen_in, Asking, SendingBack}
use Rattle.demands.specs.Conservation.{Arrival, arrival, arrivals_in, AllUndisturbed}
use Rattle.demands.specs.StuckKeys.{down_keys}
use Rattle.demands.specs.FireButton.{stick_1, level_after, SwitchLeaves}
use Rattle.demands.specs.Cutting.{NeverMonitored}
use Rattle.demands.specs.Calls.{Call, Promised, Calls, answer_of, turn_of, flow_of, flows_of, seen_of, arrival_of, arrivals_of, Demand1OfCalls, Demand2OfCalls, Demand2WholeOfCalls, Demand3OfCalls, ConservationOfCalls, NoneDroppedOfCalls, MapIsTrueOfCalls, ResetNamesOfCalls, WroteNothing, RightButtonFiresOfCalls, OthersStaySilentOfCalls, SwitchingOffSendsNothingOfCalls, CuttingOfCalls}
use Rattle.demands.proofs.Demand1.{demand_1}
use Rattle.demands.proofs.Demand2.{demand_2, demand_2_whole}
use Rattle.demands.proofs.PutBack.{put_back}
use Rattle.demands.proofs.Conservation.{conservation, none_dropped}
use Rattle.demands.proofs.StuckKeys.{map_is_true, reset_names}
use Rattle.demands.proofs.FireButton.{right_button_fires, others_stay_silent, switching_off_sends_nothing}
use Rattle.demands.proofs.Cutting.{cutting}

-- a call, as a step of a sequence
module _ (s : State) (c : Call) (p : Promised s c) where
  seen_is : seen_of c ≡ seen (done s (turn_of c))
  seen_is = λ i. record { input = c.input; answer = did_answer s c.input p i; written = did_write s c.input p i }

  dropped_is : cond (eqb (answer_of c) 0 && resets_by s c.input) (contents s.queue) [] ≡ (step s c.input (length c.before)).dropped
  dropped_is = rw (did_answer s c.input p) (sym (step_drops s c.input (length c.before)))

  flow_is : flow_of s c ≡ flow (done s (turn_of c))
  flow_is = λ i. record { due = (step s c.input (length c.before)).packets; dropped = dropped_is i; written = did_write s c.input p i }

  arrival_is : arrival_of s c ≡ arrival s (turn_of c)
  arrival_is = λ i. record { state = s; input = c.input; answer = did_answer s c.input p i }

-- calls one after the other come to what the definition says of the sequence
record Ran (s : State) (cs : List Call) (t : State) : Type 0 where
  seen_then : map seen_of cs ≡ seen_in s (map turn_of cs)
  flows_then : flows_of s cs ≡ flows_in s (map turn_of cs)
  arrivals_then : arrivals_of s cs ≡ arrivals_in s (map turn_of cs)
  state_then : t ≡ after s (map turn_of cs)

ran : (s t : State) (cs : List Call) → Calls s cs t → Ran s cs t
unfolding history after flows_of arrivals_of arrivals_in
ran s t [] e = record { seen_then = refl; flows_then = refl; arrivals_then = refl; state_then = e }
ran s t (c ∷ cs) (p, k) =
    let r = ran c.result.state t cs k in
    record {
      seen_then = ap₂ (λ (d : Seen) (l : List Seen). d ∷ l) (seen_is s c p) (r.seen_then ∙ ap (λ (x : State). seen_in x (map turn_of cs)) p.state);
      flows_then = ap₂ (λ (d : Flow) (l : List Flow). d ∷ l) (flow_is s c p) (r.flows_then ∙ ap (λ (x : State). flows_in x (map turn_of cs)) p.state);
      arrivals_then = ap₂ (λ (d : Arrival) (l : List Arrival). d ∷ l) (arrival_is s c p) (r.arrivals_then ∙ ap (λ (x : State). arrivals_in x (map turn_of cs)) p.state);
      state_then = r.state_then ∙ ap (λ (x : State). after x (map turn_of cs)) p.state;
    }

-- demand 1, for calls of the step in code
pub demand_1_calls : Demand1OfCalls
unfolding over
demand_1_calls s c h x p =
    let lent = length c.before in
    let w = (step s c.input lent).written in
    let d = demand_1 s c.input lent h x in
    let e : answer_of c ≡ (step s c.input lent).answer = did_answer s c.input p in
    record {
      by_table = subst (λ (n : ℕ). ByTable s c.input lent n) (sym e) d.by_table;
      refused = λ no.
          let k = d.refused (λ z. no (e ∙ z)) in
          (did_count s c.input p ∙ ap length k.1, p.state ∙ k.0, p.buffer ∙ k.2 c.before);
      most = omega (arith, did_count s c.input p, d.most);
      within = omega (arith, did_count s c.input p, step_fits s c.input lent);
      as_long = ap length p.buffer ∙ length_over w c.before (step_fits s c.input lent);
      past_count = rw (did_count s c.input p, p.buffer) (drop-append_seam w _);
      is_state = subst IsState (sym p.state) (keeps s c.input lent h x);
    }

-- demand 2, for calls of the step in code
pub demand_2_calls : Demand2OfCalls
demand_2_calls s t cs h x k =
    let r = ran s t cs k in
    rw (r.flows_then, r.state_then) (demand_2 s (map turn_of cs) h x)

pub demand_2_whole_calls : Demand2WholeOfCalls
demand_2_whole_calls s t cs h x k =
    let r = ran s t cs k in
    rw (r.flows_then, r.state_then) (demand_2_whole s (map turn_of cs) h x)

-- demand 3, for calls of the step in code
pub put_back_calls : Demand3OfCalls
put_back_calls s s' t t' asking sending kept S T A B x y =
    let a = ran s s' asking A in
    let b = ran t t' sending B in
    ap (λ (c : State). c.settings) b.state_then
    ∙ put_back s (map turn_of asking) kept t (map turn_of sending) S T
    (subst (λ (h : List Seen). Asking s h kept) a.seen_then x)
    (subst (λ (h : List Seen). SendingBack t h (in_order s.settings.port0 kept)) b.seen_then y)

-- A14, for calls of the step in code
pub conservation_calls : ConservationOfCalls
conservation_calls a s t cs k u =
    let r = ran s t cs k in
    rw (r.arrivals_then, r.flows_then, r.state_then) (conservation a s (map turn_of cs) (subst AllUndisturbed r.arrivals_then u))

pub none_dropped_calls : NoneDroppedOfCalls
none_dropped_calls s t cs k u =
    let r = ran s t cs k in
    rw r.flows_then (none_dropped s (map turn_of cs) (subst AllUndisturbed r.arrivals_then u))

-- A1, for calls of the step in code
pub map_is_true_calls : MapIsTrueOfCalls
map_is_true_calls s t cs k h a =
    let r = ran s t cs h in
    rw (r.state_then, r.seen_then) (map_is_true s (map turn_of cs) k a)

pub reset_names_calls : ResetNamesOfCalls
reset_names_calls s t cs c h p resets taken =
    let r = ran s t cs h in
    let ts = map turn_of cs in
    let lent = length c.before in
    let named =
    subst (λ (x : State). resets_by x c.input ≡ true → (step x c.input lent).answer ≡ 0 → (step x c.input lent).written ≡ 0xF0 ∷ map break_of (down_keys s (seen_in s ts)))
    (sym r.state_then) (reset_names s ts c.input lent) in
    did_write t c.input p
    ∙ named resets (sym (did_answer t c.input p) ∙ taken)
    ∙ ap (λ (h : List Seen). 0xF0 ∷ map break_of (down_keys s h)) (sym r.seen_then)

-- the promise of a call whose input is known
pub promised : {s : State} {c : Call} {i : Input} → c.input ≡ i → Promised s c → Did s i c.before c.result c.buffer
promised {s} {c} e p = subst (λ (i : Input). Did s i c.before c.result c.buffer) e p

-- A4, for calls of the step in code
pub right_button_fires_calls : RightButtonFiresOfCalls
right_button_fires_calls s down b c h g p q eb ec same =
    let i = stick_1 s down in
    let f = right_button_fires s down (length b.before) h g in
    let button = promised eb p in
    let stick : Did s i b.before c.result c.buffer = subst (λ (l : List ℕ). Did s i l c.result c.buffer) same (promised ec q) in
    let a = did_answer s i stick in
    record {
      answer = did_answer s (Button Right down) button ∙ ap (λ (o : Out). o.answer) f ∙ sym a;
      count = did_count s (Button Right down) button ∙ ap (λ (o : Out). length o.written) f ∙ sym (did_count s i stick);
      buffer = button.buffer ∙ ap (λ (o : Out). over o.written b.before) f ∙ sym stick.buffer;
      state = button.state ∙ ap (λ (o : Out). o.state) f ∙ (λ j. level_after down (sym a j) (sym stick.state j));
    }

-- a call whose step is taken and writes nothing
pub wrote_nothing : {s : State} {i : Input} {c : Call} → Did s i c.before c.result c.buffer → (step s i (length c.before)).answer ≡ 0 →
    (step s i (length c.before)).written ≡ [] → WroteNothing c
wrote_nothing {s} {i} {c} d a w = record {
  taken = did_answer s i d ∙ a;
  count = did_count s i d ∙ ap length w;
  buffer = d.buffer ∙ ap (λ (bs : List ℕ). over bs c.before) w ∙ sym (over_nil c.before);
}

pub others_stay_silent_calls : OthersStaySilentOfCalls
others_stay_silent_calls s side down c h l n p e =
    let f = others_stay_silent s side down (length c.before) h l n in
    let d = promised e p in
    (wrote_nothing d (ap (λ (o : Out). o.answer) f) (ap (λ (o : Out). o.written) f), d.state ∙ ap (λ (o : Out). o.state) f)

pub switching_off_sends_nothing_calls : SwitchingOffSendsNothingOfCalls
switching_off_sends_nothing_calls s b c h x p e =
    let f = switching_off_sends_nothing s b (length c.before) h x in
    let d = promised e p in
    record {
      silent = λ p. wrote_nothing d (f.silent p).0 (f.silent p).1;
      writes = λ taken. did_write s (Byte b) d ∙ f.writes (sym (did_answer s (Byte b) d) ∙ taken);
      leaves = subst (SwitchLeaves s) (sym d.state) f.leaves;
    }

-- A5, for calls of the step in code
pub cutting_calls : CuttingOfCalls
cutting_calls t cs x k n =
    let r = ran power_up t cs k in
    rw (r.flows_then, r.state_then) (cutting (map turn_of cs) x (subst NeverMonitored r.arrivals_then n))
