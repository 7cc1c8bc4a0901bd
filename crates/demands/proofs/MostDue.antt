-- "At most 8,264 bytes are ever due at once": inputs from power-up that reach them, computed.
-- Assumes nothing.
use Prim.Native.Nat.{◌-◌, ◌/◌, ◌%◌}
use mathlib.Core.Path.{◌≡◌, refl}
use mathlib.Core.Bool.{true}
use mathlib.Core.List.{List, [], ◌∷◌, ◌++◌}
use lib.ListN.{length, replicate}
use lib.IntN.{ℤ}
use borrow.Author.Tests.{eqb-true}
use Rattle.controller.specs.declared.State.{State}
use Rattle.controller.specs.declared.Input.{Input}
use Rattle.controller.specs.declared.Input.TheVariants.{Byte, Key}
use Rattle.mouse.specs.Mouse.{held_limit}
use Rattle.controller.specs.State.{power_up, queue_room, most_due}
use Rattle.controller.specs.Step.{most_move, step}
use Rattle.controller.specs.Sequences.{after, history}
use Rattle.demands.specs.Sessions.{host, move, plus, times, turns, answers}
use Rattle.demands.proofs.Rules.{rules}

-- motions as far as they go, and a last one, to as much as is held while paused
abbrev pub to_the_limit : (ℤ → List Input) → List Input
to_the_limit moved = times (held_limit / most_move) (moved (plus most_move)) ++ moved (plus (held_limit % most_move))

-- keycode mode with deltas of 1, a pause, a full queue, and all the motion that is held on both axes
abbrev pub filling : List Input
filling = host (0x0A ∷ 0x01 ∷ 0x01 ∷ []) ++ host (0x13 ∷ []) ++ times queue_room (Key 0x1E true ∷ []) ++ to_the_limit (λ d. move d d)

-- each of them is taken, with no room at all
pub all_filled : answers (history power_up (turns 0 filling)) ≡ replicate (length filling) 0
unfolding rules
all_filled = refl

-- the state that these inputs lead to from power-up
unfoldable pub full : State
full = after power_up (turns 0 filling)

-- an inquiry is taken with a buffer of as many bytes as are ever due
pub most_taken : (step full (Byte 0x88) most_due).answer ≡ 0
unfolding rules full
most_taken = refl

-- and writes all of them
pub most_written : length (step full (Byte 0x88) most_due).written ≡ most_due
unfolding rules full
most_written = eqb-true (length (step full (Byte 0x88) most_due).written) most_due refl

-- one byte less is refused with 4
pub one_less_refused : (step full (Byte 0x88) (most_due - 1)).answer ≡ 4
unfolding rules full
one_less_refused = refl
