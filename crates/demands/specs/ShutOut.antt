-- Document 01, "How much each contract says": the controllers that it shuts out by name.
-- What the step promises is said with the step; here is that no controller with that promise is one of the five.
use Rattle.std.specs.Prelude.{ℕ, ◌≤◌, ◌≡◌, ◌≢◌, List, [], ◌∷◌, length, take}
use Rattle.protocol.specs.Reading.{AllBytes}
use Rattle.controller.specs.declared.State.{State}
use Rattle.controller.specs.declared.Stepped.{Stepped}
use Rattle.controller.specs.declared.Input.{Input}
use Rattle.controller.specs.declared.Input.TheVariants.{Byte}
use Rattle.controller.specs.declared.Refusal.{Refusal}
use Rattle.std.specs.Prelude.{Result, Ok, Err}
use Rattle.controller.specs.declared.Refusal.TheVariants.{OutOfRange, QueueFull, MotionFull, BufferShort}
use Rattle.controller.specs.State.{IsState, power_up}
use Rattle.controller.specs.Host.{Due}
use Rattle.controller.specs.Step.{IsInput, due, number, count_of, Did}

-- what comes out: what a controller hands back, and the lent buffer afterwards
pub record Outcome : Type 0 where
  pub stepped : Stepped
  pub buffer : List ℕ

-- "A controller state goes in with one input and a lent output buffer."
abbrev pub Controller : Type 0
Controller = State → Input → List ℕ → Outcome

-- what may go in: a state, an input and a buffer of bytes, of any length
pub record Intake : Type 0 where
  pub state : State
  pub is_state : IsState state
  pub input : Input
  pub is_input : IsInput input
  pub lent : List ℕ
  pub is_lent : AllBytes lent

-- a controller, of what goes in: "Out come the new state, an answer number and a count of bytes written at the buffer's start."
abbrev pub outcome : Controller → Intake → Outcome
outcome c k = c k.state k.input k.lent

-- the controller keeps the step's promise, whatever goes in
abbrev pub Meets : Controller → Type 0
Meets c = (k : Intake) → Did k.state k.input k.lent (outcome c k).stepped (outcome c k).buffer

-- "a controller that refuses everything"
abbrev pub RefusesEverything : Controller → Type 0
RefusesEverything c = (k : Intake) → number (outcome c k).stepped.answer ≢ 0

-- "one that sends 0xF0 at every input": wherever there is room for it, whatever it sends besides
abbrev pub SendsF0 : Controller → Type 0
SendsF0 c = (k : Intake) → 1 ≤ length k.lent → (1 ≤ count_of (outcome c k).stepped.answer) × (take 1 (outcome c k).buffer ≡ 0xF0 ∷ [])

-- "or swallows all input": nothing is ever sent, whatever it answers
abbrev pub SwallowsAllInput : Controller → Type 0
SwallowsAllInput c = (k : Intake) → count_of (outcome c k).stepped.answer ≡ 0

-- the states that a controller comes to from a state, by inputs with buffers of any length
pub data Later (c : Controller) (s : State) : State → Type 0 where
  now : Later c s s
  next : {t : State} → Later c s t → (i : Input) → IsInput i → (lent : List ℕ) → AllBytes lent → Later c s (c t i lent).stepped.state

-- it idles from a state on: no input sends anything, now or later
abbrev pub IdlesFrom : Controller → State → Type 0
IdlesFrom c s = (t : State) → Later c s t → (i : Input) → IsInput i → (lent : List ℕ) → AllBytes lent → count_of (c t i lent).stepped.answer ≡ 0

-- "one that handles the first byte of a session and idles afterwards": there is a first byte, with some buffer, after which it does
pub record HandlesFirstByteOnly (c : Controller) : Type 0 where
  pub first : ℕ
  pub is_byte : first ≤ 255
  pub lent : List ℕ
  pub is_lent : AllBytes lent
  pub idles : IdlesFrom c (c power_up (Byte first) lent).stepped.state

-- the count by its answer: "it is the length of the bytes due", and a refusal "reports 0 bytes written"
abbrev pub count_due : Result ℕ Refusal → Due → ℕ
count_due (Ok count) d = length d.written
count_due (Err OutOfRange) d = 0
count_due (Err QueueFull) d = 0
count_due (Err MotionFull) d = 0
count_due (Err BufferShort) d = 0

-- "one with an invented byte count": somewhere it is another
pub record InventsCount (c : Controller) : Type 0 where
  pub intake : Intake
  pub another : count_of (outcome c intake).stepped.answer ≢ count_due (outcome c intake).stepped.answer (due intake.state intake.input)

-- a controller that is none of the five
pub record NoneOfThese (c : Controller) : Type 0 where
  pub takes_something : RefusesEverything c → ⊥
  pub sends_not_only_f0 : SendsF0 c → ⊥
  pub sends_something : SwallowsAllInput c → ⊥
  pub goes_on : HandlesFirstByteOnly c → ⊥
  pub counts_what_is_due : InventsCount c → ⊥

-- The five are shut out by the step's promise.
abbrev pub ShutOut : Type 0
ShutOut = (c : Controller) → Meets c → NoneOfThese c
