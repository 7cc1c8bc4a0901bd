-- Demand 2: "For each input taken, the new state and the bytes written are those of the Intelligent Keyboard Protocol as document 01 states it.
-- Packets come whole and in the order they fell due; none is missing, but for what a reset drops, and none is sent twice."
-- The first sentence is the definition of the step itself; the second is what is stated here, over it.
use Rattle.std.specs.Prelude.{ℕ, ◌≡◌, cond, ◌&&◌, List, [], ◌∷◌, ◌++◌, map, eqb}
use Rattle.output.specs.Packets.{Packet, bytes}
use Rattle.controller.specs.declared.State.{State}
use Rattle.controller.specs.declared.Input.{Input}
use Rattle.controller.specs.State.{IsState, contents}
use Rattle.controller.specs.Step.{Out, step}
use Rattle.controller.specs.Sequences.{Turn, Done, after, history, AreInputs, resets_by}

-- One step: what waited in the queue, and then what fell due, is what was dropped, what was written, and what waits now. Nothing else is dropped than
-- the queue, by a reset that is taken.
pub record Delivered (s : State) (i : Input) (o : Out) : Type 0 where
  pub in_order : contents s.queue ++ bytes o.packets ≡ o.dropped ++ (o.written ++ contents o.state.queue)
  pub only_reset_drops : o.dropped ≡ cond (eqb o.answer 0 && resets_by s i) (contents s.queue) []

-- demand 2 for one step, from every state: "none is missing, but for what a reset drops, and none is sent twice"
abbrev pub Demand2Steps : Type 0
Demand2Steps = (s : State) (i : Input) (lent : ℕ) → IsState s → Delivered s i (step s i lent)

-- what one step did with packets: those that fell due by it, the bytes that a reset dropped, and the bytes written
pub record Flow : Type 0 where
  pub due : List Packet
  pub dropped : List ℕ
  pub written : List ℕ

-- of a step of a sequence
abbrev pub flow : Done → Flow
flow d = record { due = d.out.packets; dropped = d.out.dropped; written = d.out.written }

-- of each step of a sequence
abbrev pub flows_in : State → List Turn → List Flow
flows_in s ts = map flow (history s ts)

-- all packets that fell due, in order
unfoldable pub all_due : List Flow → List Packet
all_due [] = []
all_due (f ∷ fs) = f.due ++ all_due fs

-- all bytes that a reset dropped, in order
unfoldable pub all_dropped : List Flow → List ℕ
all_dropped [] = []
all_dropped (f ∷ fs) = f.dropped ++ all_dropped fs

-- all bytes that left the queue or the controller: dropped or written, in order
unfoldable pub all_gone : List Flow → List ℕ
all_gone [] = []
all_gone (f ∷ fs) = (f.dropped ++ f.written) ++ all_gone fs

-- From the state s to the state t: none is missing, none comes twice, and the order is that in which they fell due.
abbrev pub InOrder : State → List Flow → State → Type 0
InOrder s fs t = contents s.queue ++ bytes (all_due fs) ≡ all_gone fs ++ contents t.queue

-- "Packets come whole": of packets that wait, each step drops, sends and leaves whole packets, of which the bytes are those of the step.
pub data WholePackets : List Packet → List Flow → List Packet → Type 0 where
  end : {waiting : List Packet} → WholePackets waiting [] waiting
  turn : {waiting last : List Packet} {f : Flow} {fs : List Flow} (dropped sent then : List Packet) →
      f.dropped ≡ bytes dropped →
      f.written ≡ bytes sent →
      waiting ++ f.due ≡ dropped ++ (sent ++ then) →
      WholePackets then fs last → WholePackets waiting (f ∷ fs) last

-- From the state s to the state t: where the queue is the bytes of some packets, as at power-up, no step writes a part of one.
abbrev pub Whole : State → List Flow → State → Type 0
Whole s fs t =
    (waiting : List Packet) → contents s.queue ≡ bytes waiting →
    (last : List Packet) × WholePackets waiting fs last × (contents t.queue ≡ bytes last)

-- demand 2 for a sequence: "in the order they fell due; none is missing, but for what a reset drops, and none is sent twice"
abbrev pub Demand2 : Type 0
Demand2 = (s : State) (ts : List Turn) → IsState s → AreInputs ts → InOrder s (flows_in s ts) (after s ts)

-- demand 2 for a sequence: "Packets come whole"
abbrev pub Demand2Whole : Type 0
Demand2Whole = (s : State) (ts : List Turn) → IsState s → AreInputs ts → Whole s (flows_in s ts) (after s ts)
