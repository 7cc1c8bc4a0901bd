-- What falls due of the mouse, as packets: nothing of held motion where something else is sent, and nothing else where held motion is.
-- Assumes nothing.
use Prim.Native.Nat.{ℕ, ◌≤◌, max}
use native.Mathlib.Omega.{arith}
use mathlib.Core.Path.{◌≡◌, refl}
use mathlib.Core.Bool.{Bool, true, false}
use mathlib.Core.List.{List, [], append-nil}
use lib.Dec.{eqb}
use lib.ListN.{length}
use lib.IntN.{ℤ}
use Rattle.output.specs.Packets.{bytes, pairs}
use Rattle.output.specs.Short.{short_room}
use Rattle.output.proofs.Cases.{both_ways}
use Rattle.motion.specs.Motion.{at_rest}
use Rattle.motion.specs.declared.Axes.{Axes}
use Rattle.protocol.specs.declared.MouseMode.{MouseMode}
use Rattle.protocol.specs.declared.MouseMode.TheVariants.{Relative, Absolute, Keycode}
use Rattle.protocol.specs.declared.MouseCommand.{MouseCommand}
use Rattle.protocol.specs.declared.MouseCommand.TheVariants.{SetAction, SetRelative, SetAbsolute, SetKeycode, SetThreshold, SetScale, ReportPosition, LoadPosition, OriginBottom, OriginTop}
use Rattle.protocol.specs.declared.Settings.{Settings}
use Rattle.mouse.specs.declared.Mouse.{Mouse}
use Rattle.mouse.specs.declared.Side.{Side}
use Rattle.mouse.specs.Mouse.{live, with_held}
use Rattle.mouse.specs.Sending.{buttons, split_from, split, packets_for, arrows, packets_sent, nothing_sent}
use Rattle.mouse.specs.Reports.{MouseDue, packets_due, quiet, send_all, report}
use Rattle.mouse.specs.Moves.{added_to_held, either_reaches, send_deltas, motion_due, released, resumed, live_motion, moves}
use Rattle.mouse.specs.Buttons.{with_level, unchanged, as_keys, action_reports, live_button, presses}
use Rattle.mouse.specs.Commands.{commanded}

no_arrows : arrows at_rest ≡ []
unfolding arrows pairs
no_arrows = refl

pub none_sent : packets_sent nothing_sent ≡ []
unfolding packets_sent split_from
none_sent = no_arrows

-- where nothing of held motion is sent, the others are all that falls due
pub others_due : (d : MouseDue) → d.sending ≡ nothing_sent → packets_due d ≡ d.others
others_due d e = rw (e, none_sent)

pub quiet_due : (m : Mouse) → packets_due (quiet m) ≡ []
quiet_due m = others_due (quiet m) refl

-- where nothing else is, held motion is
pub sent_due : (d : MouseDue) → d.others ≡ [] → packets_due d ≡ packets_sent d.sending
sent_due d e = rw e (append-nil _)

-- all that is held, in packets
pub all_due : (least : ℕ) (m : Mouse) → packets_due (send_all least m) ≡ split (max least (packets_for m.held)) (buttons m.left m.right) m.held
unfolding send_all packets_sent
all_due least m = simp (no_arrows, append-nil)

-- motion and a resume send nothing but held motion
due_others : (mode : MouseMode) (t : Axes ℕ) (m : Mouse) → (motion_due mode t m).others ≡ []
unfolding motion_due send_all send_deltas
due_others Relative t m = both_ways (λ (d : MouseDue). d.others ≡ []) (either_reaches t m.held) (λ _. refl) (λ _. refl)
due_others (Absolute maximum) t m = refl
due_others (Keycode delta) t m = refl

pub released_others : (σ : Settings) (m : Mouse) → (released σ m).others ≡ []
unfolding released
released_others σ m = both_ways (λ (d : MouseDue). d.others ≡ []) (live σ) (λ _. due_others σ.mouse σ.threshold m) (λ _. refl)

live_motion_others : (mode : MouseMode) (paused : Bool) (σ : Settings) (m : Mouse) → (live_motion mode paused σ m).others ≡ []
unfolding live_motion
live_motion_others Relative paused σ m = both_ways (λ (d : MouseDue). d.others ≡ []) paused (λ _. refl) (λ _. due_others Relative σ.threshold m)
live_motion_others (Absolute maximum) paused σ m = refl
live_motion_others (Keycode delta) paused σ m =
    both_ways (λ (d : MouseDue). d.others ≡ []) paused (λ _. refl) (λ _. due_others (Keycode delta) σ.threshold m)

pub resumed_others : (paused : Bool) (σ : Settings) (m : Mouse) → (resumed paused σ m).others ≡ []
resumed_others true σ m = released_others σ m
resumed_others false σ m = refl

pub moves_others : (paused : Bool) (σ : Settings) (dx dy : ℤ) (m : Mouse) → (moves paused σ dx dy m).others ≡ []
unfolding moves
moves_others paused σ dx dy m =
    both_ways (λ (d : MouseDue). d.others ≡ []) (live σ)
    (λ _. live_motion_others σ.mouse paused σ (with_held (added_to_held σ dx dy m.held) m)) (λ _. refl)

-- a button's other packets fit a short run
button_others : (mode : MouseMode) (action : ℕ) (side : Side) (down : Bool) (m : Mouse) → length (bytes (live_button mode action side down m).others) ≤ short_room
unfolding live_button send_all report
button_others Relative action side down m =
    both_ways (λ (d : MouseDue). length (bytes d.others) ≤ short_room) (eqb action as_keys) (λ _. omega arith) (λ _. omega arith)
button_others (Absolute maximum) action side down m =
    both_ways (λ (d : MouseDue). length (bytes d.others) ≤ short_room) (eqb action as_keys) (λ _. omega arith)
    (λ _. both_ways (λ (d : MouseDue). length (bytes d.others) ≤ short_room) (action_reports action down) (λ _. omega arith) (λ _. omega arith))
button_others (Keycode delta) action side down m = omega arith

pub presses_others : (σ : Settings) (side : Side) (down : Bool) (m : Mouse) → length (bytes (presses σ side down m).others) ≤ short_room
unfolding presses
presses_others σ side down m =
    both_ways (λ (d : MouseDue). length (bytes d.others) ≤ short_room) (unchanged side down m) (λ _. omega arith)
    (λ _. both_ways (λ (d : MouseDue). length (bytes d.others) ≤ short_room) (live σ)
    (λ _. button_others σ.mouse σ.action side down (with_level side down m)) (λ _. omega arith))

-- a command sends nothing of held motion
pub commanded_sends : (c : MouseCommand) (ps : List ℕ) (mode : MouseMode) (m : Mouse) → (commanded c ps mode m).sending ≡ nothing_sent
unfolding commanded
commanded_sends SetAction ps mode m = refl
commanded_sends SetRelative ps mode m = refl
commanded_sends SetAbsolute ps mode m = refl
commanded_sends SetKeycode ps mode m = refl
commanded_sends SetThreshold ps mode m = refl
commanded_sends SetScale ps mode m = refl
commanded_sends ReportPosition ps mode m = refl
commanded_sends LoadPosition ps mode m = refl
commanded_sends OriginBottom ps mode m = refl
commanded_sends OriginTop ps mode m = refl
