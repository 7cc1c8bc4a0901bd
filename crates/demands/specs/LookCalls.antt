-- A7 over calls in code, of the look and of the step, each known by its promise alone.
use Rattle.std.specs.Prelude.{ℕ, ◌≡◌, Bool, true, cond, List, [], ◌++◌, length, take, drop, Result}
use Rattle.protocol.specs.declared.MouseCommand.TheVariants.{ReportPosition}
use Rattle.protocol.specs.declared.Meaning.TheVariants.{OfMouse}
use Rattle.protocol.specs.Reading.{Between}
use Rattle.mouse.specs.declared.Side.{Side}
use Rattle.controller.specs.declared.State.{State}
use Rattle.controller.specs.declared.look.LookRefusal.{LookRefusal}
use Rattle.controller.specs.declared.Input.TheVariants.{Byte, Button}
use Rattle.controller.specs.State.{IsState, contents}
use Rattle.controller.specs.Step.{count_of, step}
use Rattle.controller.specs.Sequences.{executed_by}
use Rattle.controller.specs.Look.{look_number, LookedAs, cleared}
use Rattle.demands.specs.Calls.{Call, Promised, answer_of, written_by, WroteNothing}
use Rattle.demands.specs.Look.{six_bytes, ByLook, resumed_for_mouse, has_report, reported_state}

-- a look in code: the lent buffer before it, what it handed back, and the buffer after it
pub record Glance : Type 0 where
  pub before : List ℕ
  pub result : Result ℕ LookRefusal
  pub buffer : List ℕ

-- the look's promise, of a glance at the state s
abbrev pub PromisedLook : State → Glance → Type 0
PromisedLook s g = LookedAs s g.before g.result g.buffer

-- its answer number
abbrev pub glance_answer : Glance → ℕ
glance_answer g = look_number g.result

-- what it shows: its count of bytes, at the buffer's start
abbrev pub shown_by : Glance → List ℕ
shown_by g = take (count_of g.result) g.buffer

-- what the answer to a glance at the value s says
pub record AnsweredGlance (s : State) (g : Glance) : Type 0 where
  pub by_table : ByLook s (length g.before) (glance_answer g)
  -- "writes the report's six bytes into a lent buffer"
  pub six : glance_answer g ≡ 0 → (count_of g.result ≡ 6) × (shown_by g ≡ six_bytes s.mouse)
  -- "A refusal writes nothing and changes nothing, neither state nor buffer"
  pub refused : (glance_answer g ≡ 0 → ⊥) → (count_of g.result ≡ 0) × (g.buffer ≡ g.before)
  -- the buffer stays as long, and "buffer bytes past the count stay"
  pub as_long : length g.buffer ≡ length g.before
  pub past_count : drop (count_of g.result) g.buffer ≡ drop (count_of g.result) g.before

-- as LookAnswers
abbrev pub LookAnswersOfCalls : Type 0
LookAnswersOfCalls = (s : State) (g : Glance) → PromisedLook s g → AnsweredGlance s g

-- As Interrogation, by a glance at the state before: a call of the step that executes 0x0D and is taken wrote what waited and then what that glance shows,
-- and handed back the state that is resumed, has port 0 a mouse and is cleared.
abbrev pub InterrogationOfCalls : Type 0
InterrogationOfCalls = (s : State) (b : ℕ) (c : Call) (g : Glance) → IsState s → executed_by s (Byte b) ≡ OfMouse ReportPosition →
    Promised s c → c.input ≡ Byte b → answer_of c ≡ 0 → PromisedLook s g → glance_answer g ≡ 0 →
    (written_by c ≡ contents s.queue ++ shown_by g) × (c.result.state ≡ cleared (resumed_for_mouse s))

-- As InterrogationIgnored: where a glance is refused with 7, the call of the step does nothing.
abbrev pub InterrogationIgnoredOfCalls : Type 0
InterrogationIgnoredOfCalls = (s : State) (c : Call) (g : Glance) → IsState s → Between s.command → Promised s c → c.input ≡ Byte 0x0D →
    PromisedLook s g → glance_answer g ≡ 7 → WroteNothing c × (c.result.state ≡ s)

-- what a call of the step did for a button that reports, beside a glance at the state that it handed back
pub record ReportedBy (s : State) (side : Side) (down : Bool) (c : Call) (g : Glance) : Type 0 where
  -- "written or queued, is the look's bytes"
  pub written : written_by c ≡ cond s.paused [] (shown_by g)
  -- "alone": the state has these bytes queued, if output is paused, and the button's level and latch, and else is as it was
  pub state : c.result.state ≡ reported_state side down s (shown_by g)

-- as ButtonReports
abbrev pub ButtonReportsOfCalls : Type 0
ButtonReportsOfCalls = (s : State) (side : Side) (down : Bool) (c : Call) (g : Glance) → Promised s c → c.input ≡ Button side down →
    has_report (step s (Button side down) (length c.before)).packets ≡ true → PromisedLook c.result.state g → glance_answer g ≡ 0 → ReportedBy s side down c g
