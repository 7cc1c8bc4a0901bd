-- Document 02, A1, "Which keys are down": "Agents want stuck keys named after a reset". Which keys are down is told here by how they stood at the start and
-- by the presses and releases that were taken since, and not by the map that the state then has.
-- The start may be any value, within the ranges or not, and the buffers any length.
use Rattle.std.specs.Prelude.{ℕ, ◌≤◌, ◌≡◌, Bool, true, cond, List, [], ◌∷◌, map, eqb}
use Rattle.output.specs.ScanCodes.{first_key, last_key, break_of}
use Rattle.keys.specs.Keys.{has_key, those}
use Rattle.controller.specs.declared.State.{State}
use Rattle.controller.specs.declared.Input.{Input}
use Rattle.controller.specs.declared.Input.TheVariants.{Byte, Key, Button, Move, Joystick, Sample, Tick}
use Rattle.controller.specs.Step.{step}
use Rattle.controller.specs.Sequences.{Turn, after, resets_by}
use Rattle.demands.specs.Demand3.{Seen, seen_in}

-- "set on a press and cleared on a release": whether key k is down after an input that is taken, given whether it was
abbrev pub down_by : ℕ → Input → Bool → Bool
down_by k (Byte b) was = was
down_by k (Key code down) was = cond (eqb code k) down was
down_by k (Button side down) was = was
down_by k (Move dx dy) was = was
down_by k (Joystick stick position trigger) was = was
down_by k (Sample b) was = was
down_by k Tick was = was

-- whether it is after these steps; "Every number but 0, later ones too, ... leaves state and buffer the same."
unfoldable pub down_after : ℕ → List Seen → Bool → Bool
down_after k [] was = was
down_after k (d ∷ ds) was = down_after k ds (cond (eqb d.answer 0) (down_by k d.input was) was)

-- the keys that are down after these steps, lowest first, if before them they stood as in the state s
abbrev pub down_keys : State → List Seen → List ℕ
down_keys s h = those (λ k. down_after k h (has_key k s.keys)) first_key last_key

-- "The state keeps a map of keys 1 to 0x72": after any inputs it says of each key what the presses and releases say
abbrev pub MapIsTrue : Type 0
MapIsTrue = (s : State) (ts : List Turn) (k : ℕ) → first_key ≤ k → has_key k (after s ts).keys ≡ down_after k (seen_in s ts) (has_key k s.keys)

-- "Reset sends 0xF0 and then the break code of each key in the map, lowest first": a reset that is taken after any inputs sends that of each key that is down
abbrev pub ResetNames : Type 0
ResetNames = (s : State) (ts : List Turn) (i : Input) (lent : ℕ) → resets_by (after s ts) i ≡ true → (step (after s ts) i lent).answer ≡ 0 →
    (step (after s ts) i lent).written ≡ 0xF0 ∷ map break_of (down_keys s (seen_in s ts))
