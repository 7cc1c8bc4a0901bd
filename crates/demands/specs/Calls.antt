-- The three demands, that no motion is lost or doubled, which keys are down, the right button with the mouse off, and cutting the joined output, over calls
-- of the step in code, each known by its promise alone. Answer, bytes and state are read off what a call handed back; what fell due is the definition's.
use Rattle.std.specs.Prelude.{ℕ, ◌≤◌, ◌≡◌, Bool, true, false, cond, ◌&&◌, List, [], ◌∷◌, ◌++◌, map, eqb, length, take, drop}
use Rattle.output.specs.Packets.{bytes}
use Rattle.output.specs.ScanCodes.{first_key, break_of}
use Rattle.protocol.specs.declared.Inquiry.{Inquiry}
use Rattle.protocol.specs.declared.OtherCommand.TheVariants.{MouseOff}
use Rattle.protocol.specs.declared.Meaning.TheVariants.{OfOther}
use Rattle.protocol.specs.Replies.{in_order}
use Rattle.mouse.specs.declared.Side.{Side}
use Rattle.mouse.specs.declared.Side.TheVariants.{Right}
use Rattle.mouse.specs.Mouse.{live}
use Rattle.mouse.specs.Totals.{Axis}
use Rattle.keys.specs.Keys.{has_key}
use Rattle.controller.specs.declared.State.{State}
use Rattle.controller.specs.declared.Input.{Input}
use Rattle.controller.specs.declared.Input.TheVariants.{Byte, Button}
use Rattle.controller.specs.declared.Stepped.{Stepped}
use Rattle.controller.specs.State.{IsState, power_up, contents, most_due}
use Rattle.controller.specs.Host.{resumed_packets}
use Rattle.controller.specs.Step.{number, count_of, Did, step, IsInput}
use Rattle.controller.specs.Sequences.{Turn, AreInputs, executed_by, resets_by}
use Rattle.demands.specs.Demand1.{ByTable}
use Rattle.demands.specs.Demand2.{Flow, all_dropped, InOrder, Whole}
use Rattle.demands.specs.Demand3.{Seen, Asking, SendingBack}
use Rattle.demands.specs.Conservation.{Arrival, AllUndisturbed, Conserved}
use Rattle.demands.specs.StuckKeys.{down_after, down_keys}
use Rattle.demands.specs.FireButton.{GivesFire, stick_1, level_after, level_changed, NoFire, SwitchLeaves}
use Rattle.demands.specs.Cutting.{NeverMonitored, CutsBack}

-- one call: the input, the lent buffer before it, what it handed back, and the buffer after it
pub record Call : Type 0 where
  pub input : Input
  pub before : List ℕ
  pub result : Stepped
  pub buffer : List ℕ

-- the step's promise, of a call from the state s
abbrev pub Promised : State → Call → Type 0
Promised s c = Did s c.input c.before c.result c.buffer

-- calls one after the other, from the state s to the state t: "nobody else writes that state meanwhile"
abbrev pub Calls : State → List Call → State → Type 0
Calls s [] t = t ≡ s
Calls s (c ∷ cs) t = Promised s c × Calls c.result.state cs t

-- the answer number of a call
abbrev pub answer_of : Call → ℕ
answer_of c = number c.result.answer

-- what a call wrote: its count of bytes, at the buffer's start
abbrev pub written_by : Call → List ℕ
written_by c = take (count_of c.result.answer) c.buffer

-- what a call's input and buffer are to the definition
abbrev pub turn_of : Call → Turn
turn_of c = record { input = c.input; lent = length c.before }

-- every input is one that the machine can give
abbrev pub AreCalls : List Call → Type 0
AreCalls cs = AreInputs (map turn_of cs)

-- What the answer to a call from the state s says.
pub record AnsweredCall (s : State) (c : Call) : Type 0 where
  -- "It is taken, or it is refused for one of the four reasons in document 01."
  pub by_table : ByTable s c.input (length c.before) (answer_of c)
  -- "A refusal writes nothing and changes nothing, neither state nor buffer"
  pub refused : (answer_of c ≡ 0 → ⊥) → (count_of c.result.answer ≡ 0) × (c.result.state ≡ s) × (c.buffer ≡ c.before)
  -- "At most 8,264 bytes are ever due at once."
  pub most : count_of c.result.answer ≤ most_due
  -- "a count of bytes written at the buffer's start": they are within it, and it stays as long
  pub within : count_of c.result.answer ≤ length c.before
  pub as_long : length c.buffer ≡ length c.before
  -- "On 0, buffer bytes past the count stay."
  pub past_count : drop (count_of c.result.answer) c.buffer ≡ drop (count_of c.result.answer) c.before
  -- "every answer to a state gives one": so of the next call too "no caller has to have tested anything first"
  pub is_state : IsState c.result.state

-- demand 1 for a call: "in every state and with a lent buffer of every length, empty too"
abbrev pub Demand1OfCalls : Type 0
Demand1OfCalls = (s : State) (c : Call) → IsState s → IsInput c.input → Promised s c → AnsweredCall s c

-- what a call from the state s did with packets; "what a reset drops" is what waited, where the call took one, and nothing else is dropped
abbrev pub flow_of : State → Call → Flow
flow_of s c = record {
  due = (step s c.input (length c.before)).packets;
  dropped = cond (eqb (answer_of c) 0 && resets_by s c.input) (contents s.queue) [];
  written = written_by c;
}

-- of each call, each from the state that the one before it gave back
unfoldable pub flows_of : State → List Call → List Flow
flows_of s [] = []
flows_of s (c ∷ cs) = flow_of s c ∷ flows_of c.result.state cs

-- demand 2 for calls: "in the order they fell due; none is missing, but for what a reset drops, and none is sent twice"
abbrev pub Demand2OfCalls : Type 0
Demand2OfCalls = (s t : State) (cs : List Call) → IsState s → AreCalls cs → Calls s cs t → InOrder s (flows_of s cs) t

-- demand 2 for calls: "Packets come whole"
abbrev pub Demand2WholeOfCalls : Type 0
Demand2WholeOfCalls = (s t : State) (cs : List Call) → IsState s → AreCalls cs → Calls s cs t → Whole s (flows_of s cs) t

-- what a call came to, as it is seen from outside
abbrev pub seen_of : Call → Seen
seen_of c = record { input = c.input; answer = answer_of c; written = written_by c }

-- demand 3 for calls: as Demand3, of two sequences of them
abbrev pub Demand3OfCalls : Type 0
Demand3OfCalls =
    (s s' t t' : State) (asking sending : List Call) (kept : Inquiry → List ℕ) →
    IsState s → IsState t → Calls s asking s' → Calls t sending t' →
    Asking s (map seen_of asking) kept →
    SendingBack t (map seen_of sending) (in_order s.settings.port0 kept) →
    t'.settings ≡ s.settings

-- the input of a call from the state s, as it came
abbrev pub arrival_of : State → Call → Arrival
arrival_of s c = record { state = s; input = c.input; answer = answer_of c }

-- of each call, each from the state that the one before it gave back
unfoldable pub arrivals_of : State → List Call → List Arrival
arrivals_of s [] = []
arrivals_of s (c ∷ cs) = arrival_of s c ∷ arrivals_of c.result.state cs

-- A14 for calls: as Conservation
abbrev pub ConservationOfCalls : Type 0
ConservationOfCalls =
    (a : Axis) (s t : State) (cs : List Call) → Calls s cs t → AllUndisturbed (arrivals_of s cs) → Conserved a s (arrivals_of s cs) (flows_of s cs) t

-- A14 for calls: as NoneDropped
abbrev pub NoneDroppedOfCalls : Type 0
NoneDroppedOfCalls = (s t : State) (cs : List Call) → Calls s cs t → AllUndisturbed (arrivals_of s cs) → all_dropped (flows_of s cs) ≡ []

-- A1 for calls: as MapIsTrue
abbrev pub MapIsTrueOfCalls : Type 0
MapIsTrueOfCalls = (s t : State) (cs : List Call) (k : ℕ) → Calls s cs t → first_key ≤ k →
    has_key k t.keys ≡ down_after k (map seen_of cs) (has_key k s.keys)

-- A1 for calls: as ResetNames
abbrev pub ResetNamesOfCalls : Type 0
ResetNamesOfCalls = (s t : State) (cs : List Call) (c : Call) → Calls s cs t → Promised t c → resets_by t c.input ≡ true → answer_of c ≡ 0 →
    written_by c ≡ 0xF0 ∷ map break_of (down_keys s (map seen_of cs))

-- two calls came to the same, but that the first changed the right button's level where it was taken
pub record SameButForLevel (down : Bool) (b c : Call) : Type 0 where
  pub answer : answer_of b ≡ answer_of c
  pub count : count_of b.result.answer ≡ count_of c.result.answer
  pub buffer : b.buffer ≡ c.buffer
  pub state : b.result.state ≡ level_after down (answer_of c) c.result.state

-- A4 for two calls from one state, with the same buffer: as RightButtonFires
abbrev pub RightButtonFiresOfCalls : Type 0
RightButtonFiresOfCalls = (s : State) (down : Bool) (b c : Call) → IsState s → GivesFire s down → Promised s b → Promised s c →
    b.input ≡ Button Right down → c.input ≡ stick_1 s down → c.before ≡ b.before → SameButForLevel down b c

-- a call that was taken and wrote nothing
pub record WroteNothing (c : Call) : Type 0 where
  pub taken : answer_of c ≡ 0
  pub count : count_of c.result.answer ≡ 0
  pub buffer : c.buffer ≡ c.before

-- A4 for calls: as OthersStaySilent
abbrev pub OthersStaySilentOfCalls : Type 0
OthersStaySilentOfCalls = (s : State) (side : Side) (down : Bool) (c : Call) → IsState s → live s.settings ≡ false → NoFire s down side →
    Promised s c → c.input ≡ Button side down → WroteNothing c × (c.result.state ≡ level_changed side down s)

-- a call that executes 0x12, from the state s: as SwitchedOff
pub record SwitchedOffBy (s : State) (c : Call) : Type 0 where
  -- not paused it is taken, and writes nothing
  pub silent : s.paused ≡ false → WroteNothing c
  -- nothing is written but what waits and then what the resume sends
  pub writes : answer_of c ≡ 0 → written_by c ≡ contents s.queue ++ bytes (resumed_packets s)
  -- taken or not, no level and no trigger changes
  pub leaves : SwitchLeaves s c.result.state

-- A4 for calls: as SwitchingOffSendsNothing
abbrev pub SwitchingOffSendsNothingOfCalls : Type 0
SwitchingOffSendsNothingOfCalls = (s : State) (b : ℕ) (c : Call) → IsState s → executed_by s (Byte b) ≡ OfOther MouseOff → Promised s c → c.input ≡ Byte b →
    SwitchedOffBy s c

-- A5 for calls: as Cutting
abbrev pub CuttingOfCalls : Type 0
CuttingOfCalls = (t : State) (cs : List Call) → AreCalls cs → Calls power_up cs t → NeverMonitored (arrivals_of power_up cs) → CutsBack (flows_of power_up cs) t
