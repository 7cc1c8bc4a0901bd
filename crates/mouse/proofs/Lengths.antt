-- How many bytes the mouse's packets are.
-- Assumes nothing.
use Prim.Native.Nat.{ℕ, zero, suc, ◌+◌, ◌*◌, ◌≤◌, max}
use native.Mathlib.Omega.{arith}
use mathlib.Core.Path.{◌≡◌, refl, ◌∙◌}
use mathlib.Core.Bool.{Bool, true, false}
use mathlib.Core.List.{List, [], ◌++◌}
use lib.Dec.{eqb}
use lib.ListN.{length, length-append}
use lib.IntN.{ℤ, nat_abs}
use Rattle.output.specs.ScanCodes.{arrow_right, arrow_left, arrow_up, arrow_down}
use Rattle.output.specs.Packets.{Packet, bytes, pairs}
use Rattle.output.proofs.Cases.{both_ways}
use Rattle.output.proofs.Packets.{bytes_append, pairs_length}
use Rattle.motion.specs.declared.Motion.{Motion}
use Rattle.motion.specs.declared.Axes.{Axes}
use Rattle.motion.specs.Motion.{size}
use Rattle.motion.proofs.Bounds.{quotient_size, needed_size}
use Rattle.protocol.specs.declared.MouseMode.{MouseMode}
use Rattle.protocol.specs.declared.MouseMode.TheVariants.{Relative, Absolute, Keycode}
use Rattle.protocol.specs.declared.Settings.{Settings}
use Rattle.protocol.specs.declared.MouseCommand.{MouseCommand}
use Rattle.protocol.specs.declared.MouseCommand.TheVariants.{SetAction, SetRelative, SetAbsolute, SetKeycode, SetThreshold, SetScale, ReportPosition, LoadPosition, OriginBottom, OriginTop}
use Rattle.protocol.specs.Settings.{acts_as}
use Rattle.mouse.specs.declared.Mouse.{Mouse}
use Rattle.mouse.specs.declared.Sending.{Sending}
use Rattle.mouse.specs.declared.Side.{Side}
use Rattle.mouse.specs.Mouse.{live, held_limit, with_held}
use Rattle.mouse.specs.Reports.{MouseDue, packets_due, send_all, report}
use Rattle.mouse.specs.Moves.{added_to_held, either_reaches, send_deltas, coordinates_moved, motion_due, released, live_motion, moves}
use Rattle.mouse.specs.Buttons.{with_level, unchanged, live_button, presses, as_keys, action_reports}
use Rattle.mouse.specs.Commands.{commanded}
use Rattle.mouse.specs.Sending.{split_from, split, arrows, packets_sent, nothing_sent}
use Rattle.mouse.proofs.Dues.{none_sent, quiet_due}
use Rattle.mouse.proofs.States.{GoodMouse, added_to_held_size, level_held, held_small, held_unpaused}

-- n packets of motion are 3·n bytes
from_length : (rest n k levels : ℕ) (d : Axes Motion) → length (bytes (split_from rest n k levels d)) ≡ 3 * rest
unfolding split_from
from_length zero n k levels d = refl
from_length (suc rest) n k levels d = let h = from_length rest n (k + 1) levels d in omega arith

pub split_length : (n levels : ℕ) (d : Axes Motion) → length (bytes (split n levels d)) ≡ 3 * n
split_length n levels d = from_length n n 0 levels d

four_append : (a b c d : List Packet) → length (bytes (a ++ (b ++ (c ++ d)))) ≡ length (bytes a) + (length (bytes b) + (length (bytes c) + length (bytes d)))
four_append a b c d = simp (bytes_append, length-append)

-- two bytes for each step that the arrows stand for
pub arrows_length : (d : Axes Motion) → length (bytes (arrows d)) ≡ 2 * (size d.x + size d.y)
unfolding arrows
arrows_length d =
    four_append (pairs d.x.plus arrow_right) (pairs d.x.minus arrow_left) (pairs d.y.plus arrow_down) (pairs d.y.minus arrow_up)
    ∙ omega (
      arith,
      pairs_length d.x.plus arrow_right,
      pairs_length d.x.minus arrow_left,
      pairs_length d.y.plus arrow_down,
      pairs_length d.y.minus arrow_up,
    )

-- what is sent of held motion, as the code hands it on: three bytes a packet, two an arrow
pub sent_length : (d : Sending) → length (bytes (packets_sent d)) ≡ 3 * d.packets + 2 * (size d.arrows.x + size d.arrows.y)
unfolding packets_sent
sent_length d = simp (bytes_append, length-append, from_length, arrows_length)

-- what falls due: three bytes a packet of motion, two an arrow, and those of the other packets
due_bytes : (d : MouseDue) → length (bytes (packets_due d)) ≡ 3 * d.sending.packets + 2 * (size d.sending.arrows.x + size d.sending.arrows.y) + length (bytes d.others)
due_bytes d = simp (bytes_append, length-append, sent_length)

-- where nothing of held motion is sent, as few as the other packets have
few : (ps : List Packet) {n : ℕ} → length (bytes ps) ≤ n → length (bytes (packets_sent nothing_sent ++ ps)) ≤ n
few ps h = rw none_sent h

-- what is sent of motion that is held, at most: n on each axis
all_length : (least n : ℕ) (m : Mouse) → size m.held.x ≤ n → size m.held.y ≤ n → length (bytes (packets_due (send_all least m))) ≤ 3 * max least n
unfolding send_all
all_length least n m hx hy =
    omega (
      arith,
      due_bytes (send_all least m),
      needed_size m.held.x,
      needed_size m.held.y,
    )

send_deltas_length : (delta : Axes ℕ) (n : ℕ) (m : Mouse) → size m.held.x ≤ n → size m.held.y ≤ n → length (bytes (packets_due (send_deltas delta m))) ≤ 4 * n
unfolding send_deltas
send_deltas_length delta n m hx hy =
    omega (
      arith,
      due_bytes (send_deltas delta m),
      quotient_size m.held.x (acts_as delta.x),
      quotient_size m.held.y (acts_as delta.y),
    )

due_length : (mode : MouseMode) (t : Axes ℕ) (n : ℕ) (m : Mouse) → size m.held.x ≤ n → size m.held.y ≤ n → length (bytes (packets_due (motion_due mode t m))) ≤ 4 * n
unfolding motion_due
due_length Relative t n m hx hy =
    both_ways (λ (d : MouseDue). length (bytes (packets_due d)) ≤ 4 * n) (either_reaches t m.held)
    (λ _. omega (arith, all_length 0 n m hx hy)) (λ _. few _ (omega arith))
due_length (Absolute p) t n m hx hy = few _ (omega arith)
due_length (Keycode delta) t n m hx hy = send_deltas_length delta n m hx hy

-- At a resume, a make and break pair for each step of both axes at the most.
pub released_length : (σ : Settings) (m : Mouse) → GoodMouse true σ m → length (bytes (packets_due (released σ m))) ≤ 4 * held_limit
unfolding released
released_length σ m g =
    let h = held_small true σ m g in
    both_ways (λ (d : MouseDue). length (bytes (packets_due d)) ≤ 4 * held_limit) (live σ)
    (λ _. due_length σ.mouse σ.threshold held_limit m h.0 h.1) (λ _. few _ (omega arith))

live_motion_paused : (mode : MouseMode) (σ : Settings) (m : Mouse) → packets_due (live_motion mode true σ m) ≡ []
unfolding live_motion
live_motion_paused Relative σ m = quiet_due m
live_motion_paused (Absolute p) σ m = quiet_due (coordinates_moved p σ.scale m)
live_motion_paused (Keycode delta) σ m = quiet_due m

-- While paused, motion sends nothing.
pub moves_paused : (σ : Settings) (dx dy : ℤ) (m : Mouse) → packets_due (moves true σ dx dy m) ≡ []
unfolding moves
moves_paused σ dx dy m =
    both_ways (λ (d : MouseDue). packets_due d ≡ []) (live σ) (λ _. live_motion_paused σ.mouse σ (with_held (added_to_held σ dx dy m.held) m)) (λ _. quiet_due m)

live_motion_length : (mode : MouseMode) (σ : Settings) (n : ℕ) (m : Mouse) → size m.held.x ≤ n → size m.held.y ≤ n → length (bytes (packets_due (live_motion mode false σ m))) ≤ 4 * n
unfolding live_motion
live_motion_length Relative σ n m hx hy = due_length Relative σ.threshold n m hx hy
live_motion_length (Absolute p) σ n m hx hy = few _ (omega arith)
live_motion_length (Keycode delta) σ n m hx hy = due_length (Keycode delta) σ.threshold n m hx hy

-- A motion event that sends, not paused.
pub moves_length : (σ : Settings) (dx dy : ℤ) (m : Mouse) → nat_abs dx ≤ 64 → nat_abs dy ≤ 64 → GoodMouse false σ m →
    length (bytes (packets_due (moves false σ dx dy m))) ≤ 4 * held_limit
unfolding moves
moves_length σ dx dy m hx hy g =
    both_ways (λ (d : MouseDue). length (bytes (packets_due d)) ≤ 4 * held_limit) (live σ)
    (λ _. let h = held_unpaused σ m g in
    let k = added_to_held_size σ dx dy m.held in
    live_motion_length σ.mouse σ held_limit (with_held (added_to_held σ dx dy m.held) m) (omega (arith, h, k)) (omega (arith, h, k)))
    (λ _. few _ (omega arith))

button_length : (mode : MouseMode) (action : ℕ) (side : Side) (down : Bool) (m : Mouse) → size m.held.x ≤ held_limit → size m.held.y ≤ held_limit →
    length (bytes (packets_due (live_button mode action side down m))) ≤ 4 * held_limit
unfolding live_button report
button_length Relative action side down m hx hy =
    both_ways (λ (d : MouseDue). length (bytes (packets_due d)) ≤ 4 * held_limit) (eqb action as_keys)
    (λ _. few _ (omega arith)) (λ _. omega (arith, all_length 1 held_limit m hx hy))
button_length (Absolute p) action side down m hx hy =
    both_ways (λ (d : MouseDue). length (bytes (packets_due d)) ≤ 4 * held_limit) (eqb action as_keys)
    (λ _. few _ (omega arith))
    (λ _. both_ways (λ (d : MouseDue). length (bytes (packets_due d)) ≤ 4 * held_limit) (action_reports action down) (λ _. few _ (omega arith)) (λ _. few _ (omega arith)))
button_length (Keycode delta) action side down m hx hy = few _ (omega arith)

-- A button event.
pub presses_length : (paused : Bool) (σ : Settings) (side : Side) (down : Bool) (m : Mouse) → GoodMouse paused σ m →
    length (bytes (packets_due (presses σ side down m))) ≤ 4 * held_limit
unfolding presses
presses_length paused σ side down m g =
    let h = held_small paused σ m g in
    both_ways (λ (d : MouseDue). length (bytes (packets_due d)) ≤ 4 * held_limit) (unchanged side down m)
    (λ _. few _ (omega arith))
    (λ _. both_ways (λ (d : MouseDue). length (bytes (packets_due d)) ≤ 4 * held_limit) (live σ)
    (λ _. button_length σ.mouse σ.action side down (with_level side down m) (rw (level_held side down m) h.0) (rw (level_held side down m) h.1))
    (λ _. few _ (omega arith)))

-- What a command of the mouse sends of its own.
pub commanded_length : (c : MouseCommand) (ps : List ℕ) (mode : MouseMode) (m : Mouse) → length (bytes (packets_due (commanded c ps mode m))) ≤ 6
unfolding commanded report
commanded_length SetAction ps mode m = few _ (omega arith)
commanded_length SetRelative ps mode m = few _ (omega arith)
commanded_length SetAbsolute ps mode m = few _ (omega arith)
commanded_length SetKeycode ps mode m = few _ (omega arith)
commanded_length SetThreshold ps mode m = few _ (omega arith)
commanded_length SetScale ps mode m = few _ (omega arith)
commanded_length ReportPosition ps mode m = few _ (omega arith)
commanded_length LoadPosition ps mode m = few _ (omega arith)
commanded_length OriginBottom ps mode m = few _ (omega arith)
commanded_length OriginTop ps mode m = few _ (omega arith)
