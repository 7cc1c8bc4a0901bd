-- No motion is lost or doubled: what the packets of an event say, with what is still held after it, is what was held before it and what came in.
-- Assumes nothing.
use Prim.Native.Nat.{ℕ, zero, suc, ◌+◌, ◌≤◌}
use native.Mathlib.Omega.{arith}
use mathlib.Core.Path.{◌≡◌, refl, sym, ap, ap₂, ◌∙◌}
use mathlib.Core.Bool.{Bool, true, false, cond, not}
use mathlib.Core.List.{List, [], ◌∷◌, ◌++◌}
use lib.Dec.{eqb}
use lib.ListN.{length}
use lib.IntN.{ℤ, pos, neg_ℤ, ◌+ℤ◌, +ℤ_idl, +ℤ_idr, +ℤ_assoc}
use borrow.Author.Tests.{ne_eqb}
use Rattle.output.specs.Packets.{Packet}
use Rattle.output.proofs.Cases.{both_ways}
use Rattle.motion.specs.declared.Motion.{Motion}
use Rattle.motion.specs.declared.Axes.{Axes}
use Rattle.motion.specs.Motion.{value, opposite, of_signed}
use Rattle.motion.proofs.Integers.{value_of_signed, value_sum, value_opposite}
use Rattle.protocol.specs.declared.MouseMode.{MouseMode}
use Rattle.protocol.specs.declared.MouseMode.TheVariants.{Relative, Absolute, Keycode}
use Rattle.protocol.specs.declared.MouseCommand.{MouseCommand}
use Rattle.protocol.specs.declared.MouseCommand.TheVariants.{SetAction, SetRelative, SetAbsolute, SetKeycode, SetThreshold, SetScale, ReportPosition, LoadPosition, OriginBottom, OriginTop}
use Rattle.protocol.specs.declared.Settings.{Settings}
use Rattle.mouse.specs.declared.Mouse.{Mouse}
use Rattle.mouse.specs.declared.Side.{Side}
use Rattle.mouse.specs.Mouse.{live, with_held}
use Rattle.mouse.specs.Reports.{MouseDue, packets_due, quiet, send_all, report}
use Rattle.mouse.specs.Sending.{split_from, packets_sent, nothing_sent}
use Rattle.mouse.specs.Moves.{incoming, added_to_held, either_reaches, motion_due, released, resumed, live_motion, moves}
use Rattle.mouse.specs.Buttons.{level, with_level, unchanged, as_keys, action_reports, live_button, presses}
use Rattle.mouse.specs.Commands.{commanded}
use Rattle.mouse.specs.Totals.{Axis, AlongX, AlongY, along, says, said, brings}
use Rattle.mouse.proofs.Dues.{none_sent, all_due}
use Rattle.mouse.proofs.Splits.{split_says, enough}
use Rattle.mouse.proofs.States.{level_held}

-- what is said and what is still held, together, are what the mouse held
abbrev pub Keeps : Axis → Mouse → MouseDue → Type 0
Keeps a m d = said a (packets_due d) +ℤ value (along a d.mouse.held) ≡ value (along a m.held)

-- where nothing of held motion is sent, packets that say nothing of motion leave what is held
nothing_said : (a : Axis) (ps : List Packet) {z : ℤ} → said a ps ≡ pos 0 → said a (packets_sent nothing_sent ++ ps) +ℤ z ≡ z
nothing_said a ps {z} e = rw (none_sent, e) (+ℤ_idl z)

-- packets one after the other say what they say together
pub said_append : (a : Axis) (ps qs : List Packet) → said a (ps ++ qs) ≡ said a ps +ℤ said a qs
said_append a [] qs = sym (+ℤ_idl (said a qs))
said_append a (p ∷ ps) qs = ap (λ (z : ℤ). says a p +ℤ z) (said_append a ps qs) ∙ sym (+ℤ_assoc (says a p) (said a ps) (said a qs))

none_held : (a : Axis) (least : ℕ) (m : Mouse) → value (along a (send_all least m).mouse.held) ≡ pos 0
unfolding send_all
none_held AlongX least m = refl
none_held AlongY least m = refl

-- sending all says what was held, and holds nothing
pub send_all_keeps : (a : Axis) (least : ℕ) (m : Mouse) → Keeps a m (send_all least m)
send_all_keeps a least m = ap₂ ◌+ℤ◌ (ap (said a) (all_due least m)) (none_held a least m) ∙ +ℤ_idr _ ∙ split_says a _ _ m.held (enough a least m.held)

-- held motion that is due in relative mode is sent, or stays held
due_keeps : (a : Axis) (threshold : Axes ℕ) (m : Mouse) → Keeps a m (motion_due Relative threshold m)
unfolding motion_due
due_keeps a threshold m =
    both_ways (Keeps a m) (either_reaches threshold m.held)
    (λ e. send_all_keeps a _ m)
    (λ e. nothing_said a _ refl)

turned : (t : Bool) (z : ℤ) → value (cond t (opposite (of_signed z)) (of_signed z)) ≡ cond t (neg_ℤ z) z
turned true z = value_opposite (of_signed z) ∙ ap neg_ℤ (value_of_signed z)
turned false z = value_of_signed z

-- what comes in has that value
pub incoming_brings : (a : Axis) (σ : Settings) (dx dy : ℤ) → σ.mouse ≡ Relative → value (along a (incoming σ dx dy)) ≡ brings a σ.bottom dx dy
unfolding incoming
incoming_brings AlongX σ dx dy e = value_of_signed dx
incoming_brings AlongY σ dx dy e = rw e (turned σ.bottom dy)

-- it is added to what is held
added_to_held_brings : (a : Axis) (σ : Settings) (dx dy : ℤ) (held : Axes Motion) → σ.mouse ≡ Relative → value (along a (added_to_held σ dx dy held)) ≡ value (along a held) +ℤ brings a σ.bottom dx dy
unfolding added_to_held
added_to_held_brings AlongX σ dx dy held e =
    value_sum held.x (incoming σ dx dy).x ∙ ap (λ (z : ℤ). value held.x +ℤ z) (incoming_brings AlongX σ dx dy e)
added_to_held_brings AlongY σ dx dy held e =
    value_sum held.y (incoming σ dx dy).y ∙ ap (λ (z : ℤ). value held.y +ℤ z) (incoming_brings AlongY σ dx dy e)

live_motion_keeps : (a : Axis) (mode : MouseMode) (paused : Bool) (σ : Settings) (m : Mouse) → mode ≡ Relative → Keeps a m (live_motion mode paused σ m)
unfolding live_motion
live_motion_keeps a mode paused σ m e =
    rw e (both_ways (Keeps a m) paused (λ t. nothing_said a _ refl) (λ t. due_keeps a σ.threshold m))

-- a live motion event in relative mode: what it says and leaves held is what was held and what it brought
pub moves_conserve : (a : Axis) (paused : Bool) (σ : Settings) (dx dy : ℤ) (m : Mouse) → σ.mouse ≡ Relative → live σ ≡ true → said a (packets_due (moves paused σ dx dy m)) +ℤ value (along a (moves paused σ dx dy m).mouse.held) ≡ value (along a m.held) +ℤ brings a σ.bottom dx dy
unfolding moves
moves_conserve a paused σ dx dy m e l =
    rw l (live_motion_keeps a σ.mouse paused σ (with_held (added_to_held σ dx dy m.held) m) e ∙ added_to_held_brings a σ dx dy m.held e)

-- not live, it changes and says nothing
pub moves_dropped : (paused : Bool) (σ : Settings) (dx dy : ℤ) (m : Mouse) → live σ ≡ false → moves paused σ dx dy m ≡ quiet m
unfolding moves
moves_dropped paused σ dx dy m l = rw l

-- a resume in relative mode says and leaves held what was held
pub released_conserve : (a : Axis) (σ : Settings) (m : Mouse) → σ.mouse ≡ Relative → Keeps a m (released σ m)
unfolding released
released_conserve a σ m e =
    both_ways (Keeps a m) (live σ)
    (λ l. rw e (due_keeps a σ.threshold m))
    (λ l. nothing_said a _ refl)

-- and so does a command that resumes if output is paused
pub resumed_conserve : (a : Axis) (paused : Bool) (σ : Settings) (m : Mouse) → σ.mouse ≡ Relative → Keeps a m (resumed paused σ m)
resumed_conserve a true σ m e = released_conserve a σ m e
resumed_conserve a false σ m e = nothing_said a _ refl

-- a command other than 0x08, 0x09 and 0x0A says nothing of motion, and leaves what is held
pub commanded_conserve : (a : Axis) (c : MouseCommand) (ps : List ℕ) (mode : MouseMode) (m : Mouse) → (c ≡ SetRelative → ⊥) → (c ≡ SetAbsolute → ⊥) → (c ≡ SetKeycode → ⊥) → Keeps a m (commanded c ps mode m)
unfolding commanded report
commanded_conserve a SetAction ps mode m r b k = nothing_said a _ refl
commanded_conserve a SetRelative ps mode m r b k = absurd (r refl)
commanded_conserve a SetAbsolute ps mode m r b k = absurd (b refl)
commanded_conserve a SetKeycode ps mode m r b k = absurd (k refl)
commanded_conserve a SetThreshold ps mode m r b k = nothing_said a _ refl
commanded_conserve a SetScale ps mode m r b k = nothing_said a _ refl
commanded_conserve a ReportPosition ps mode m r b k = nothing_said a _ refl
commanded_conserve a LoadPosition ps mode m r b k = nothing_said a _ refl
commanded_conserve a OriginBottom ps mode m r b k = nothing_said a _ refl
commanded_conserve a OriginTop ps mode m r b k = nothing_said a _ refl

live_button_keeps : (a : Axis) (mode : MouseMode) (action : ℕ) (side : Side) (down : Bool) (m : Mouse) → Keeps a m (live_button mode action side down m)
unfolding live_button report
live_button_keeps a Relative action side down m =
    both_ways (Keeps a m) (eqb action as_keys) (λ t. nothing_said a _ refl) (λ t. send_all_keeps a _ m)
live_button_keeps a (Absolute maximum) action side down m =
    both_ways (Keeps a m) (eqb action as_keys) (λ t. nothing_said a _ refl)
    (λ t. both_ways (Keeps a m) (action_reports action down) (λ u. nothing_said a _ refl) (λ u. nothing_said a _ refl))
live_button_keeps a (Keycode delta) action side down m = nothing_said a _ refl

-- a button event, in every mode: what it says and leaves held is what was held
pub presses_conserve : (a : Axis) (σ : Settings) (side : Side) (down : Bool) (m : Mouse) → Keeps a m (presses σ side down m)
unfolding presses
presses_conserve a σ side down m =
    let now = with_level side down m in
    let same = ap (λ (h : Axes Motion). value (along a h)) (level_held side down m) in
    both_ways (Keeps a m) (unchanged side down m) (λ t. nothing_said a _ refl)
    (λ t.
    both_ways (Keeps a m) (live σ) (λ l. live_button_keeps a σ.mouse σ.action side down now ∙ same) (λ l. nothing_said a _ refl ∙ same))

-- there are as many packets as are asked for
from_count : (rest n k levels : ℕ) (d : Axes Motion) → length (split_from rest n k levels d) ≡ rest
unfolding split_from
from_count zero n k levels d = refl
from_count (suc rest) n k levels d = ap suc (from_count rest n (k + 1) levels d)

changed : (down : Bool) → cond down (not down) (not (not down)) ≡ false
changed true = refl
changed false = refl

sends_least : (least : ℕ) (m : Mouse) → 1 ≤ least → 1 ≤ length (packets_due (send_all least m))
sends_least least m h = rw (all_due least m, from_count) (omega arith)

-- a live button in relative mode, whose level changes and which is no key, sends a packet at least
pub button_sends : (σ : Settings) (side : Side) (down : Bool) (m : Mouse) → σ.mouse ≡ Relative → live σ ≡ true → level side m ≡ not down → (σ.action ≡ as_keys → ⊥) → 1 ≤ length (packets_due (presses σ side down m))
unfolding presses live_button
button_sends σ side down m e l c k =
    rw (c, changed down, l, e, ne_eqb σ.action as_keys k) (sends_least _ (with_level side down m) (omega arith))
