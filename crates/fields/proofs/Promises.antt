-- The promises of specs/Promises, and what would stand in the place of a bad field, computed at power-up.
-- Assumes nothing.
use Prim.Native.Nat.{ℕ, zero, suc}
use mathlib.Core.Path.{◌≡◌, refl}
use mathlib.Core.List.{List, [], ◌∷◌}
use Rattle.controller.specs.State.{power_up}
use Rattle.fields.specs.Ranges.{gathers, held_most, loading, most_come, most_bits, third, pending, ranges, numbered}
use Rattle.fields.specs.Numbers.{settings_numbers, pointer_numbers, sticks_numbers, clock_numbers, command_numbers, numbers, instead}
use Rattle.fields.specs.Promises.{FromState, FromFields, StatesFit, FitsAreStates}
use Rattle.fields.proofs.Back.{back}
use Rattle.fields.proofs.There.{there}
use Rattle.fields.proofs.Within.{within}
use Rattle.fields.proofs.Ranged.{ranged}

pub from_state : FromState
from_state s i = back s i

pub from_fields : FromFields
from_fields a h l m q = there a h l m q

pub states_fit : StatesFit
states_fit s i = within s i

pub fits_are_states : FitsAreStates
fits_are_states a h l m q k i o = ranged a h l m q k i o

-- what would stand in the place of the next n fields of power-up, from field i + 1 on
pub replacements : ℕ → ℕ → List ℕ
replacements zero i = []
replacements (suc n) i = instead i (numbers power_up) ∷ replacements n (suc i)

pub power_up_stays : replacements numbered 0 ≡ numbers power_up
unfolding replacements instead ranges gathers held_most loading most_come most_bits third pending numbers settings_numbers pointer_numbers sticks_numbers clock_numbers command_numbers
power_up_stays = refl
