-- Each packet of the mouse says itself where it ends: the levels are bits, and the arrows and the buttons are keys.
-- Assumes nothing.
use Prim.Native.Nat.{ℕ, zero, suc, ◌+◌, ◌≤◌}
use native.Mathlib.Omega.{arith}
use mathlib.Core.Path.{◌≡◌, refl}
use mathlib.Core.Bool.{Bool, true, false}
use mathlib.Core.List.{List}
use lib.Dec.{eqb}
use lib.IntN.{ℤ}
use Rattle.output.specs.ScanCodes.{arrow_right, arrow_left, arrow_up, arrow_down, is_make}
use Rattle.output.specs.Packets.{pairs}
use Rattle.output.proofs.Cases.{both_ways}
use Rattle.output.proofs.Framed.{AllFramed, framed_append, sent_framed, pairs_framed}
use Rattle.motion.specs.declared.Motion.{Motion}
use Rattle.motion.specs.declared.Axes.{Axes}
use Rattle.protocol.specs.declared.MouseMode.{MouseMode}
use Rattle.protocol.specs.declared.MouseMode.TheVariants.{Relative, Absolute, Keycode}
use Rattle.protocol.specs.declared.MouseCommand.{MouseCommand}
use Rattle.protocol.specs.declared.MouseCommand.TheVariants.{SetAction, SetRelative, SetAbsolute, SetKeycode, SetThreshold, SetScale, ReportPosition, LoadPosition, OriginBottom, OriginTop}
use Rattle.protocol.specs.declared.Settings.{Settings}
use Rattle.mouse.specs.declared.Mouse.{Mouse}
use Rattle.mouse.specs.declared.Side.{Side}
use Rattle.mouse.specs.declared.Side.TheVariants.{Left, Right}
use Rattle.mouse.specs.Mouse.{live}
use Rattle.mouse.specs.Sending.{buttons, split_from, split, arrows, packets_sent}
use Rattle.mouse.specs.Reports.{MouseDue, packets_due, send_all, report}
use Rattle.mouse.specs.Moves.{resumed, moves}
use Rattle.mouse.specs.Buttons.{with_level, unchanged, key_of, as_keys, action_reports, live_button, presses}
use Rattle.mouse.specs.Commands.{commanded}
use Rattle.mouse.proofs.Dues.{resumed_others, moves_others}

buttons_most : (left right : Bool) → buttons left right ≤ 3
buttons_most true true = omega arith
buttons_most true false = omega arith
buttons_most false true = omega arith
buttons_most false false = omega arith

split_framed : (rest n k levels : ℕ) (d : Axes Motion) → levels ≤ 3 → AllFramed (split_from rest n k levels d)
unfolding split_from
split_framed zero n k levels d h = tt
split_framed (suc rest) n k levels d h = (h, split_framed rest n (k + 1) levels d h)

arrows_framed : (d : Axes Motion) → AllFramed (arrows d)
unfolding arrows is_make
arrows_framed d =
    framed_append (pairs d.x.plus arrow_right) _ (pairs_framed d.x.plus arrow_right refl)
    (framed_append (pairs d.x.minus arrow_left) _ (pairs_framed d.x.minus arrow_left refl)
    (framed_append (pairs d.y.plus arrow_down) _ (pairs_framed d.y.plus arrow_down refl) (pairs_framed d.y.minus arrow_up refl)))

-- whatever is sent of held motion does, so that the packets that follow it decide
due_framed : (d : MouseDue) → AllFramed d.others → AllFramed (packets_due d)
unfolding packets_sent
due_framed d h =
    let s = d.sending in
    let levels = buttons s.left s.right in
    framed_append (packets_sent s) d.others
    (framed_append (split s.packets levels s.held) (arrows s.arrows) (split_framed s.packets s.packets 0 levels s.held (buttons_most s.left s.right)) (arrows_framed s.arrows))
    h

pub resumed_framed : (paused : Bool) (σ : Settings) (m : Mouse) → AllFramed (packets_due (resumed paused σ m))
resumed_framed paused σ m = due_framed (resumed paused σ m) (rw (resumed_others paused σ m) tt)

pub moves_framed : (paused : Bool) (σ : Settings) (dx dy : ℤ) (m : Mouse) → AllFramed (packets_due (moves paused σ dx dy m))
moves_framed paused σ dx dy m = due_framed (moves paused σ dx dy m) (rw (moves_others paused σ dx dy m) tt)

button_makes : (side : Side) → is_make (key_of side) ≡ true
unfolding is_make
button_makes Left = refl
button_makes Right = refl

abbrev FramedOthers : MouseDue → Type 0
FramedOthers d = AllFramed d.others

button_others : (mode : MouseMode) (action : ℕ) (side : Side) (down : Bool) (m : Mouse) → FramedOthers (live_button mode action side down m)
unfolding live_button send_all report
button_others Relative action side down m =
    both_ways FramedOthers (eqb action as_keys) (λ _. (sent_framed (key_of side) down (button_makes side), tt)) (λ _. tt)
button_others (Absolute maximum) action side down m =
    both_ways FramedOthers (eqb action as_keys) (λ _. (sent_framed (key_of side) down (button_makes side), tt))
    (λ _. both_ways FramedOthers (action_reports action down) (λ _. (tt, tt)) (λ _. tt))
button_others (Keycode delta) action side down m = (sent_framed (key_of side) down (button_makes side), tt)

pub presses_framed : (σ : Settings) (side : Side) (down : Bool) (m : Mouse) → AllFramed (packets_due (presses σ side down m))
unfolding presses
presses_framed σ side down m =
    due_framed (presses σ side down m)
    (both_ways FramedOthers (unchanged side down m) (λ _. tt)
    (λ _. both_ways FramedOthers (live σ) (λ _. button_others σ.mouse σ.action side down (with_level side down m)) (λ _. tt)))

commanded_others : (c : MouseCommand) (ps : List ℕ) (mode : MouseMode) (m : Mouse) → FramedOthers (commanded c ps mode m)
unfolding commanded report
commanded_others SetAction ps mode m = tt
commanded_others SetRelative ps mode m = tt
commanded_others SetAbsolute ps mode m = tt
commanded_others SetKeycode ps mode m = tt
commanded_others SetThreshold ps mode m = tt
commanded_others SetScale ps mode m = tt
commanded_others ReportPosition ps mode m = (tt, tt)
commanded_others LoadPosition ps mode m = tt
commanded_others OriginBottom ps mode m = tt
commanded_others OriginTop ps mode m = tt

pub commanded_framed : (c : MouseCommand) (ps : List ℕ) (mode : MouseMode) (m : Mouse) → AllFramed (packets_due (commanded c ps mode m))
commanded_framed c ps mode m = due_framed (commanded c ps mode m) (commanded_others c ps mode m)
