-- Power-up is a state, and every answer to a state gives one: the controller's laws, as the customer's statement has them.
-- Assumes nothing.
use Rattle.controller.proofs.States.{power_up_is_state, keeps}
use Rattle.demands.specs.States.{PowerUpIsState, AnswersAreStates}

pub power_up_is_one : PowerUpIsState
power_up_is_one = power_up_is_state

pub answers_are_states : AnswersAreStates
answers_are_states = keeps
