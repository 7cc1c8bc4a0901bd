-- "power-up is one, and every answer to a state gives one" (document 01, "What the state holds").
use Rattle.std.specs.Prelude.{ℕ}
use Rattle.controller.specs.declared.State.{State}
use Rattle.controller.specs.declared.Input.{Input}
use Rattle.controller.specs.State.{IsState, power_up}
use Rattle.controller.specs.Step.{IsInput, step}

-- "power-up is one"
abbrev pub PowerUpIsState : Type 0
PowerUpIsState = IsState power_up

-- "every answer to a state gives one": taken or refused, with a lent buffer of any length
abbrev pub AnswersAreStates : Type 0
AnswersAreStates = (s : State) (i : Input) (lent : ℕ) → IsState s → IsInput i → IsState (step s i lent).state
