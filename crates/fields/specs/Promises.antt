-- What is promised of the fields of a saved state (document 02, A2). Each is proved in proofs/Promises.
use Rattle.std.specs.Prelude.{ℕ, ◌≡◌, true, List, eqb, length}
use Rattle.keys.specs.declared.Keys.{Keys}
use Rattle.keys.specs.Keys.{IsKeys}
use Rattle.output.specs.declared.Run.{Run}
use Rattle.controller.specs.declared.State.{State}
use Rattle.controller.specs.State.{IsState, IsQueue, OneQueue, queue_room}
use Rattle.fields.specs.Ranges.{numbered, at, all_fit}
use Rattle.fields.specs.Numbers.{numbers}
use Rattle.fields.specs.States.{state_from}

-- from a state to its fields and back is the state
abbrev pub FromState : Type 0
FromState = (s : State) → IsState s → state_from (numbers s) s.keys s.queue ≡ s

-- from fields that fit to a state and back are the same fields
abbrev pub FromFields : Type 0
FromFields = (a : List ℕ) → all_fit a ≡ true → length a ≡ numbered → (m : Keys) (q : Run queue_room) → numbers (state_from a m q) ≡ a

-- "each state within document 01's ranges": the fields of a state fit
abbrev pub StatesFit : Type 0
StatesFit = (s : State) → IsState s → all_fit (numbers s) ≡ true

-- and what fits is a state, with a map of the keys and a queue as document 01 has them
abbrev pub FitsAreStates : Type 0
FitsAreStates =
    (a : List ℕ) → all_fit a ≡ true → length a ≡ numbered →
    (m : Keys) (q : Run queue_room) → IsKeys m → IsQueue (eqb (at 23 a) 1) q → OneQueue q → IsState (state_from a m q)
