-- Sentences of document 02, A7, that are easily read otherwise, each shown by a look behind inputs from power-up, computed.
-- Assumes nothing.
use Prim.Native.Nat.{ℕ}
use mathlib.Core.Path.{◌≡◌, refl}
use mathlib.Core.Bool.{Bool, true}
use mathlib.Core.List.{List, [], ◌∷◌, ◌++◌}
use Rattle.mouse.specs.declared.Side.TheVariants.{Right}
use Rattle.controller.specs.declared.State.{State}
use Rattle.controller.specs.declared.Input.{Input}
use Rattle.controller.specs.declared.Input.TheVariants.{Button}
use Rattle.controller.specs.State.{power_up, most_due}
use Rattle.controller.specs.Step.{step}
use Rattle.controller.specs.Sequences.{after}
use Rattle.controller.specs.Look.{Sight, not_absolute, too_short, look_verdict, sight, look, cleared}
use Rattle.demands.specs.Sessions.{host, turns}
use Rattle.demands.specs.Look.{has_report}
use Rattle.demands.proofs.Readings.{key, left, right}
use Rattle.demands.proofs.Rules.{rules, of_keys}

-- a look behind these inputs from the state s, with so many bytes lent
abbrev glance : State → List Input → ℕ → Sight
glance s is lent = look (after s (turns most_due is)) lent

abbrev refused : ℕ → Sight
refused n = record { answer = n; written = [] }

-- the report with these latches, at the coordinates 0 and 0
abbrev showing : ℕ → Sight
showing latches = record { answer = 0; written = 0xF7 ∷ latches ∷ 0x00 ∷ 0x00 ∷ 0x00 ∷ 0x00 ∷ [] }

-- absolute mode, to 5 and 5; and with the right button's latch set
abbrev absolute : List Input
absolute = host (0x09 ∷ 0x00 ∷ 0x05 ∷ 0x00 ∷ 0x05 ∷ [])

abbrev latch_set : List Input
latch_set = absolute ++ right true

-- the look, opened
looking : Unit {0}
unfolding rules of_keys not_absolute too_short look_verdict sight look
looking = tt

-- "7, exactly when the panel looks outside absolute mode, tested before 4"
pub outside_absolute : (glance power_up [] 6 ≡ refused 7) × (glance power_up [] 0 ≡ refused 7) × (glance power_up (latch_set ++ host (0x0A ∷ 0x01 ∷ 0x01 ∷ [])) 6 ≡ refused 7)
unfolding looking
outside_absolute = (refl, refl, refl)

-- "the report's six bytes"
pub six_are_needed : (glance power_up latch_set 0 ≡ refused 4) × (glance power_up latch_set 5 ≡ refused 4) × (glance power_up latch_set 6 ≡ showing 1)
unfolding looking
six_are_needed = (refl, refl, refl)

-- In any state of the mouse: off, port 0 a joystick, monitoring, paused, and within a half-received command.
pub in_any_state :
    (glance power_up (absolute ++ host (0x12 ∷ [])) 6 ≡ showing 0)
    × (glance power_up (latch_set ++ host (0x14 ∷ [])) 6 ≡ showing 1)
    × (glance power_up (latch_set ++ host (0x17 ∷ 0x05 ∷ [])) 6 ≡ showing 1)
    × (glance power_up (latch_set ++ host (0x13 ∷ [])) 6 ≡ showing 1)
    × (glance power_up (latch_set ++ host (0x0B ∷ 0x01 ∷ [])) 6 ≡ showing 1)
unfolding looking
in_any_state = (refl, refl, refl, refl, refl)

-- 0x0D clears, paused too, with a byte in the queue; a button that reports does not.
pub interrogation_clears :
    (glance power_up (latch_set ++ left true ++ host (0x0D ∷ [])) 6 ≡ showing 0)
    × (glance power_up (latch_set ++ host (0x13 ∷ []) ++ key 0x1E true ++ left true ++ host (0x0D ∷ [])) 6 ≡ showing 0)
unfolding looking
interrogation_clears = (refl, refl)

pub button_does_not : glance power_up (host (0x07 ∷ 0x03 ∷ []) ++ latch_set ++ left true) 6 ≡ showing 5
unfolding looking
button_does_not = refl

-- Latches outlive a change of mode; a clearing in another mode empties them.
abbrev in_relative_mode : State
in_relative_mode = after power_up (turns most_due (latch_set ++ host (0x08 ∷ [])))

pub cleared_in_any_mode : (glance in_relative_mode absolute 6 ≡ showing 1) × (glance (cleared in_relative_mode) absolute 6 ≡ showing 0)
unfolding looking cleared
cleared_in_any_mode = (refl, refl)

-- After 0x07 0x01 and 0x09 a press of the right button reports, paused or not, so that the case of `ButtonReports` is not empty.
abbrev pressed_after : List Input → Bool
pressed_after is = has_report (step (after power_up (turns most_due (host (0x07 ∷ 0x01 ∷ []) ++ absolute ++ is))) (Button Right true) 6).packets

pub reports_then : (pressed_after [] ≡ true) × (pressed_after (host (0x13 ∷ [])) ≡ true)
unfolding looking
reports_then = (refl, refl)
