-- What a session is between two lines.
use Rattle.std.specs.Prelude.{ℕ}
use Rattle.controller.specs.declared.State.{State}

-- the state, and the number of the next line
pub record Between : Type 0 where
  pub state : State
  pub number : ℕ
