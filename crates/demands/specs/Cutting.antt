-- Document 02, A5: "For any accepted inputs from power-up in which 0x17 and 0x18 are never executed, cutting the joined output gives the packets that fell
-- due, in order, save those still queued or dropped by a reset."
-- Refused inputs may be among them, and the buffers may have any length: an input that is refused writes nothing and changes nothing.
use Rattle.std.specs.Prelude.{ℕ, ◌≡◌, List, [], ◌∷◌, ◌++◌, map}
use Rattle.output.specs.Packets.{Packet, bytes}
use Rattle.receiver.specs.Pieces.{pieces, left}
use Rattle.receiver.specs.Sent.{piece_of, AllPackets}
use Rattle.protocol.specs.declared.StickCommand.TheVariants.{SetMonitoring, SetFire}
use Rattle.protocol.specs.declared.Meaning.TheVariants.{OfStick}
use Rattle.controller.specs.declared.State.{State}
use Rattle.controller.specs.State.{power_up, contents}
use Rattle.controller.specs.Sequences.{Turn, after, AreInputs, executed_by}
use Rattle.demands.specs.Demand2.{Flow, flows_in, WholePackets, end, turn}
use Rattle.demands.specs.Conservation.{Arrival, arrivals_in}

-- of one input, if it is "accepted": "0x17 and 0x18 are never executed"
pub record Unmonitored (r : Arrival) : Type 0 where
  pub no_monitoring : r.answer ≡ 0 → executed_by r.state r.input ≡ OfStick SetMonitoring → ⊥
  pub no_fire : r.answer ≡ 0 → executed_by r.state r.input ≡ OfStick SetFire → ⊥

-- and so of all
abbrev pub NeverMonitored : List Arrival → Type 0
NeverMonitored [] = Unit {0}
NeverMonitored (r ∷ rs) = Unmonitored r × NeverMonitored rs

-- "the joined output"
unfoldable pub all_sent : List Flow → List ℕ
all_sent [] = []
all_sent (f ∷ fs) = f.written ++ all_sent fs

-- "the packets that fell due, in order, save those still queued or dropped by a reset": of what waits and falls due at each step, those that it sends
unfoldable pub sent_in : {waiting last : List Packet} {fs : List Flow} → WholePackets waiting fs last → List Packet
sent_in end = []
sent_in (turn dropped sent then d w o rest) = sent ++ sent_in rest

-- "cutting the joined output gives the packets": their kinds and bytes, and nothing else; no byte starts no packet, and none is left over
pub record CutsBack (fs : List Flow) (t : State) : Type 0 where
  -- "those still queued"
  pub last : List Packet
  pub queued : contents t.queue ≡ bytes last
  -- nothing waits at power-up; each step drops, sends and leaves whole packets
  pub whole : WholePackets [] fs last
  pub cut : pieces (all_sent fs) ≡ map piece_of (sent_in whole)
  pub all_packets : AllPackets (pieces (all_sent fs))
  pub nothing_left : left (all_sent fs) ≡ []

-- A5, over the definition
abbrev pub Cutting : Type 0
Cutting = (ts : List Turn) → AreInputs ts → NeverMonitored (arrivals_in power_up ts) → CutsBack (flows_in power_up ts) (after power_up ts)
