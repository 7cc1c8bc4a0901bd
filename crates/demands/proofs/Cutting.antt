-- Cutting the joined output gives the packets back (A5): outside the monitoring modes every packet that waits or falls due says itself where it ends.
-- Assumes nothing.
use Prim.Native.Nat.{ℕ}
use mathlib.Core.Path.{◌≡◌, refl, ap, ap₂, sym, ◌∙◌, subst}
use mathlib.Core.List.{List, [], ◌∷◌, ◌++◌}
use Rattle.output.specs.Packets.{Packet, bytes}
use Rattle.output.proofs.Packets.{bytes_append}
use Rattle.output.proofs.Framed.{AllFramed, framed_append, framed_parts}
use Rattle.receiver.specs.Pieces.{pieces, left}
use Rattle.receiver.specs.Sent.{AllPackets}
use Rattle.receiver.proofs.Sent.{cut_back, all_packets}
use Rattle.protocol.proofs.Monitoring.{Outside}
use Rattle.controller.specs.declared.State.{State}
use Rattle.controller.specs.State.{IsState, power_up, contents}
use Rattle.controller.specs.Step.{step}
use Rattle.controller.specs.Sequences.{Turn, after, history, AreInputs}
use Rattle.controller.proofs.Delivery.{Flowed, step_flows}
use Rattle.controller.proofs.States.{keeps, power_up_is_state}
use Rattle.controller.proofs.Framed.{step_framed, step_outside}
use Rattle.demands.specs.Demand2.{Flow, flows_in, WholePackets, end, turn}
use Rattle.demands.specs.Conservation.{arrivals_in}
use Rattle.demands.specs.Cutting.{NeverMonitored, all_sent, sent_in, Cutting}

-- packets that wait, and then steps to the state t: what is sent, as bytes and as packets
record Sends (waiting : List Packet) (fs : List Flow) (t : State) : Type 0 where
  last : List Packet
  queued : contents t.queue ≡ bytes last
  whole : WholePackets waiting fs last
  joined : all_sent fs ≡ bytes (sent_in whole)
  framed : AllFramed (sent_in whole)

-- of packets that say where they end, those that are sent and those that wait do
parts_framed : {waiting due : List Packet} {dropped written queue : List ℕ} (w : Flowed waiting due dropped written queue) → AllFramed waiting → AllFramed due →
    AllFramed w.sent_packets × AllFramed w.waiting_packets
parts_framed {waiting} {due} w f g =
    let all = subst AllFramed w.in_order (framed_append waiting due f g) in
    framed_parts w.sent_packets w.waiting_packets (framed_parts w.dropped_packets (w.sent_packets ++ w.waiting_packets) all).1

-- one step in front
sends_then : {waiting : List Packet} {f : Flow} {fs : List Flow} {queue : List ℕ} {t : State} (w : Flowed waiting f.due f.dropped f.written queue) →
    AllFramed w.sent_packets → Sends w.waiting_packets fs t → Sends waiting (f ∷ fs) t
unfolding all_sent sent_in
sends_then w g r = record {
  last = r.last;
  queued = r.queued;
  whole = turn w.dropped_packets w.sent_packets w.waiting_packets w.dropped_whole w.sent_whole w.in_order r.whole;
  joined = ap₂ ◌++◌ w.sent_whole r.joined ∙ sym (bytes_append w.sent_packets (sent_in r.whole));
  framed = framed_append w.sent_packets (sent_in r.whole) g r.framed;
}

sends : (s : State) (ts : List Turn) (waiting : List Packet) → IsState s → AreInputs ts → contents s.queue ≡ bytes waiting → AllFramed waiting →
    Outside s.settings → NeverMonitored (arrivals_in s ts) → Sends waiting (flows_in s ts) (after s ts)
unfolding history after arrivals_in all_sent sent_in
sends s [] waiting h x e f u n = record { last = waiting; queued = e; whole = end; joined = refl; framed = tt }
sends s (t ∷ ts) waiting h x e f u (m, n) =
    let w = step_flows s t.input t.lent waiting h.ranges.queue e in
    let g = parts_framed w f (step_framed s t.input t.lent u) in
    let v = step_outside s t.input t.lent (λ a. record { monitoring = m.no_monitoring a; fire = m.no_fire a }) u in
    sends_then w g.0
    (sends (step s t.input t.lent).state ts w.waiting_packets (keeps s t.input t.lent h x.0) x.1 w.waiting_whole g.1 v n)

pub cutting : Cutting
cutting ts x n =
    let r = sends power_up ts [] power_up_is_state x refl tt refl n in
    let c = cut_back (sent_in r.whole) r.framed in
    record {
      last = r.last;
      queued = r.queued;
      whole = r.whole;
      cut = ap pieces r.joined ∙ c.0;
      all_packets = subst AllPackets (sym (ap pieces r.joined ∙ c.0)) (all_packets (sent_in r.whole) r.framed);
      nothing_left = ap left r.joined ∙ c.1;
    }
