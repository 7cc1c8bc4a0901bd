-- Demand 1: "Every host byte and every key, mouse, stick, sample or tick event gets an answer, in every state and with a lent buffer of every length,
-- empty too. It is taken, or it is refused for one of the four reasons in document 01. A refusal writes nothing and changes nothing, neither state
-- nor buffer, and no caller has to have tested anything first."
use Rattle.std.specs.Prelude.{ℕ, ◌≤◌, ◌≡◌, ◌↔◌, true, false, List, [], length}
use Rattle.output.specs.Writing.{over}
use Rattle.controller.specs.declared.State.{State}
use Rattle.controller.specs.declared.Input.{Input}
use Rattle.controller.specs.State.{IsState, most_due}
use Rattle.controller.specs.Step.{IsInput, step, out_of_range, queue_full, motion_full, buffer_short}

-- The table of refusals: which number is given, for a state s, an input i and a lent buffer of this length.
pub record ByTable (s : State) (i : Input) (lent answer : ℕ) : Type 0 where
  -- "1 is tested first": 1 is given exactly when its row of the table holds
  pub one : (answer ≡ 1) ↔ (out_of_range s i lent ≡ true)
  -- each other number is given exactly when its row holds and row 1 does not
  pub two : (answer ≡ 2) ↔ ((out_of_range s i lent ≡ false) × (queue_full s i lent ≡ true))
  pub three : (answer ≡ 3) ↔ ((out_of_range s i lent ≡ false) × (motion_full s i lent ≡ true))
  pub four : (answer ≡ 4) ↔ ((out_of_range s i lent ≡ false) × (buffer_short s i lent ≡ true))
  -- and the input is taken where none holds
  pub taken : (answer ≡ 0)
      ↔ ((out_of_range s i lent ≡ false) × (queue_full s i lent ≡ false) × (motion_full s i lent ≡ false) × (buffer_short s i lent ≡ false))
  -- there are no other answers
  pub one_of_five : answer ≤ 4
  -- "no input meets two of the others"
  pub two_not_three : queue_full s i lent ≡ true → motion_full s i lent ≡ true → ⊥
  pub two_not_four : queue_full s i lent ≡ true → buffer_short s i lent ≡ true → ⊥
  pub three_not_four : motion_full s i lent ≡ true → buffer_short s i lent ≡ true → ⊥

-- What one answer says, for a state s, an input i and a lent buffer of this length.
pub record Answered (s : State) (i : Input) (lent : ℕ) : Type 0 where
  -- "It is taken, or it is refused for one of the four reasons in document 01."
  pub by_table : ByTable s i lent (step s i lent).answer
  -- "A refusal writes nothing and changes nothing, neither state nor buffer"
  pub refused : ((step s i lent).answer ≡ 0 → ⊥) →
      ((step s i lent).state ≡ s) × ((step s i lent).written ≡ []) × ((buffer : List ℕ) → over (step s i lent).written buffer ≡ buffer)
  -- "At most 8,264 bytes are ever due at once."
  pub most : length (step s i lent).written ≤ most_due

-- demand 1 whole: "in every state and with a lent buffer of every length, empty too"
abbrev pub Demand1 : Type 0
Demand1 = (s : State) (i : Input) (lent : ℕ) → IsState s → IsInput i → Answered s i lent
