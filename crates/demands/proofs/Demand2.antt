-- Demand 2: packets come whole and in the order they fell due; none is missing, but for what a reset drops, and none is sent twice.
-- Assumes nothing.
use Prim.Native.Nat.{ℕ}
use mathlib.Core.Path.{◌≡◌, sym, ap, ◌∙◌}
use mathlib.Core.List.{List, [], ◌∷◌, ◌++◌, append-nil, append_assoc}
use Rattle.output.specs.Packets.{bytes}
use Rattle.output.proofs.Packets.{bytes_append}
use Rattle.controller.specs.State.{contents}
use Rattle.controller.specs.Step.{step}
use Rattle.controller.specs.Sequences.{after, history}
use Rattle.controller.proofs.Delivery.{step_delivers, step_drops, step_flows}
use Rattle.controller.proofs.States.{keeps}
use Rattle.demands.specs.Demand2.{Demand2Steps, flows_in, all_due, all_gone, Demand2, end, turn, Demand2Whole}

pub demand_2_steps : Demand2Steps
demand_2_steps s i lent h = record { in_order = step_delivers s i lent h.ranges.queue; only_reset_drops = step_drops s i lent }

-- one step in front of a sequence
joined : (queue now written_now dropped_now then rest gone last : List ℕ) →
    queue ++ now ≡ dropped_now ++ (written_now ++ then) → then ++ rest ≡ gone ++ last →
    queue ++ (now ++ rest) ≡ ((dropped_now ++ written_now) ++ gone) ++ last
joined queue now written_now dropped_now then rest gone last e f =
    sym (append_assoc queue now rest)
    ∙ ap (λ (l : List ℕ). l ++ rest) (e ∙ sym (append_assoc dropped_now written_now then))
    ∙ append_assoc (dropped_now ++ written_now) then rest
    ∙ ap (λ (l : List ℕ). (dropped_now ++ written_now) ++ l) f
    ∙ sym (append_assoc (dropped_now ++ written_now) gone last)

pub demand_2 : Demand2
unfolding history after all_due all_gone
demand_2 s [] h x = append-nil (contents s.queue)
demand_2 s (t ∷ ts) h x =
    let o = step s t.input t.lent in
    ap (λ (l : List ℕ). contents s.queue ++ l) (bytes_append o.packets (all_due (flows_in o.state ts)))
    ∙ joined (contents s.queue) (bytes o.packets) o.written o.dropped (contents o.state.queue)
    (bytes (all_due (flows_in o.state ts))) (all_gone (flows_in o.state ts)) (contents (after o.state ts).queue)
    (step_delivers s t.input t.lent h.ranges.queue)
    (demand_2 o.state ts (keeps s t.input t.lent h x.0) x.1)

pub demand_2_whole : Demand2Whole
unfolding history after
demand_2_whole s [] h x waiting e = (waiting, end, e)
demand_2_whole s (t ∷ ts) h x waiting e =
    let o = step s t.input t.lent in
    let f = step_flows s t.input t.lent waiting h.ranges.queue e in
    let r = demand_2_whole o.state ts (keeps s t.input t.lent h x.0) x.1 f.waiting_packets f.waiting_whole in (
      r.0,
      turn f.dropped_packets f.sent_packets f.waiting_packets f.dropped_whole f.sent_whole f.in_order r.1,
      r.2,
    )
