-- What happens to the mouse keeps its ranges and its one spelling.
-- Assumes nothing.
use Prim.Native.Nat.{ℕ, ◌+◌, ◌≤◌, max}
use native.Mathlib.Omega.{arith}
use mathlib.Core.Path.{◌≡◌, refl, subst}
use mathlib.Core.Bool.{Bool, true, false, cond, not, ◌&&◌, ◌||◌}
use mathlib.Core.List.{List}
use lib.Dec.{eqb}
use lib.IntN.{ℤ, nat_abs}
use borrow.Author.Tests.{ltb-false}
use Rattle.output.proofs.Cases.{both_ways, and_true, or_false}
use Rattle.motion.specs.declared.Motion.{Motion}
use Rattle.motion.specs.declared.Axes.{Axes}
use Rattle.motion.specs.Motion.{OneSided, size, of_signed, sum, opposite, reaches, remainder}
use Rattle.motion.proofs.Bounds.{sum_size, signed_size, below, remainder_size}
use Rattle.motion.proofs.Integers.{one_sided_sum, one_sided_remainder, coordinate_within}
use Rattle.protocol.specs.declared.MouseMode.{MouseMode}
use Rattle.protocol.specs.declared.MouseMode.TheVariants.{Relative, Absolute, Keycode}
use Rattle.protocol.specs.declared.Settings.{Settings}
use Rattle.protocol.specs.declared.MouseCommand.{MouseCommand}
use Rattle.protocol.specs.declared.MouseCommand.TheVariants.{SetAction, SetRelative, SetAbsolute, SetKeycode, SetThreshold, SetScale, ReportPosition, LoadPosition, OriginBottom, OriginTop}
use Rattle.protocol.specs.Settings.{IsAxes, IsSettings, IsMouseMode, is_absolute, acts_as, power_up}
use Rattle.protocol.specs.Commands.{mouse_sets}
use Rattle.mouse.specs.declared.Mouse.{Mouse}
use Rattle.mouse.specs.declared.Side.{Side}
use Rattle.mouse.specs.declared.Side.TheVariants.{Left, Right}
use Rattle.mouse.specs.Mouse.{IsMouse, OneMouse, live, gathers, held_limit, held_usual, held_most, maximum_of, with_held, at_power_up}
use Rattle.mouse.specs.Reports.{MouseDue, send_all, cleared}
use Rattle.mouse.specs.Moves.{incoming, added_to_held, either_reaches, quotients, send_deltas, coordinates_moved, motion_due, released, live_motion, moves, overflows, negates_dy}
use Rattle.mouse.specs.Buttons.{with_level, unchanged, live_button, presses, as_keys, action_reports, with_latch}
use Rattle.mouse.specs.Commands.{commanded, switched_off}

pub record GoodMouse (paused : Bool) (σ : Settings) (m : Mouse) : Type 0 where
  pub ranges : IsMouse paused σ m
  pub spelling : OneMouse m

-- the same over plain numbers: held motion at most this much, coordinates at most these
record Within (most : ℕ) (maximum : Axes ℕ) (m : Mouse) : Type 0 where
  x : m.place.x ≤ maximum.x
  y : m.place.y ≤ maximum.y
  held_x : size m.held.x ≤ most
  held_y : size m.held.y ≤ most
  one_x : OneSided m.held.x
  one_y : OneSided m.held.y

good : {paused : Bool} {σ : Settings} {m : Mouse} → Within (held_most paused σ) (maximum_of σ.mouse) m → GoodMouse paused σ m
good w = record {
  ranges = record { x = w.x; y = w.y; held_x = w.held_x; held_y = w.held_y };
  spelling = record { x = w.one_x; y = w.one_y };
}

within : {paused : Bool} {σ : Settings} {m : Mouse} → GoodMouse paused σ m → Within (held_most paused σ) (maximum_of σ.mouse) m
within g = record {
  x = g.ranges.x;
  y = g.ranges.y;
  held_x = g.ranges.held_x;
  held_y = g.ranges.held_y;
  one_x = g.spelling.x;
  one_y = g.spelling.y;
}

-- not paused, the least bound holds, and it is the least
unpaused_most : (σ : Settings) → held_most false σ ≡ held_usual
unfolding held_most
unpaused_most σ = refl

least_most : (paused : Bool) (σ : Settings) → held_usual ≤ held_most paused σ
unfolding held_most
least_most paused σ = by (paused && gathers σ)
  where
    by : (t : Bool) → held_usual ≤ cond t held_limit held_usual
    by true = omega arith
    by false = omega arith

limit_most : (paused : Bool) (σ : Settings) → held_most paused σ ≤ held_limit
unfolding held_most
limit_most paused σ = by (paused && gathers σ)
  where
    by : (t : Bool) → cond t held_limit held_usual ≤ held_limit
    by true = omega arith
    by false = omega arith

live_most : (paused : Bool) (σ : Settings) → live σ ≡ true → held_most paused σ ≡ cond (paused && not (is_absolute σ.mouse)) held_limit held_usual
unfolding held_most gathers
live_most paused σ h = rw h

-- not live, the least bound holds
dead_most : (paused : Bool) (σ : Settings) → live σ ≡ false → held_most paused σ ≡ held_usual
unfolding held_most gathers
dead_most true σ h = rw h
dead_most false σ h = refl

widen : {a b : ℕ} {p : Axes ℕ} {m : Mouse} → a ≤ b → Within a p m → Within b p m
widen h w = record {
  x = w.x;
  y = w.y;
  held_x = omega (arith, h, w.held_x);
  held_y = omega (arith, h, w.held_y);
  one_x = w.one_x;
  one_y = w.one_y;
}

acts_small : (n : ℕ) → n ≤ 255 → (1 ≤ acts_as n) × (acts_as n ≤ 255)
acts_small n h = omega arith

-- what is left of a division by a byte
left_small : (d : Motion) (n : ℕ) → n ≤ 255 → OneSided d → size (remainder d (acts_as n)) ≤ held_usual
left_small d n h one = omega (arith, remainder_size d (acts_as n) (acts_small n h).0 one, acts_small n h)

-- motion all sent
sent_within : (least : ℕ) {most : ℕ} {p : Axes ℕ} {m : Mouse} → Within most p m → Within held_usual p (send_all least m).mouse
unfolding send_all
sent_within least w = record { x = w.x; y = w.y; held_x = omega arith; held_y = omega arith; one_x = refl; one_y = refl }

send_deltas_within : (delta : Axes ℕ) {most : ℕ} {p : Axes ℕ} (m : Mouse) → IsAxes delta → Within most p m → Within held_usual p (send_deltas delta m).mouse
unfolding send_deltas
send_deltas_within delta m h w = record {
  x = w.x;
  y = w.y;
  held_x = left_small m.held.x delta.x h.x w.one_x;
  held_y = left_small m.held.y delta.y h.y w.one_y;
  one_x = one_sided_remainder m.held.x (acts_as delta.x) w.one_x;
  one_y = one_sided_remainder m.held.y (acts_as delta.y) w.one_y;
}

coordinates_moved_within : (scales : Axes ℕ) {most : ℕ} (p : Axes ℕ) (m : Mouse) → IsAxes scales → Within most p m → Within held_usual p (coordinates_moved p scales m)
unfolding coordinates_moved
coordinates_moved_within scales p m h w = record {
  x = coordinate_within p.x m.place.x (quotients scales m.held).x;
  y = coordinate_within p.y m.place.y (quotients scales m.held).y;
  held_x = left_small m.held.x scales.x h.x w.one_x;
  held_y = left_small m.held.y scales.y h.y w.one_y;
  one_x = one_sided_remainder m.held.x (acts_as scales.x) w.one_x;
  one_y = one_sided_remainder m.held.y (acts_as scales.y) w.one_y;
}

-- below both thresholds, at most 254 is held
reach_within : (t : Axes ℕ) {most : ℕ} {p : Axes ℕ} (m : Mouse) → IsAxes t → Within most p m → Within held_usual p (motion_due Relative t m).mouse
unfolding motion_due either_reaches
reach_within t {p = p} m h w =
    both_ways (λ (d : MouseDue). Within held_usual p d.mouse)
    (reaches m.held.x (acts_as t.x) || reaches m.held.y (acts_as t.y))
    (λ _. sent_within 0 w)
    (λ e.
    let (ex, ey) = or_false (reaches m.held.x (acts_as t.x)) (reaches m.held.y (acts_as t.y)) e in
    record {
      x = w.x;
      y = w.y;
      held_x = omega (arith, below m.held.x (acts_as t.x) ex, h.x);
      held_y = omega (arith, below m.held.y (acts_as t.y) ey, h.y);
      one_x = w.one_x;
      one_y = w.one_y;
    })

-- a mode's own numbers
mode_is : (σ : Settings) (mode : MouseMode) → σ.mouse ≡ mode → IsSettings σ → IsMouseMode mode
mode_is σ mode e h = subst IsMouseMode e h.mouse

-- at a resume, what is left held is small
released_within : (mode : MouseMode) (t : Axes ℕ) (m : Mouse) → IsAxes t → IsMouseMode mode →
    Within (cond (not (is_absolute mode)) held_limit held_usual) (maximum_of mode) m → Within held_usual (maximum_of mode) (motion_due mode t m).mouse
unfolding motion_due
released_within Relative t m ht hm w = reach_within t m ht w
released_within (Absolute p) t m ht hm w = w
released_within (Keycode delta) t m ht hm w = send_deltas_within delta m hm w

pub released_is : (σ : Settings) (m : Mouse) → IsSettings σ → GoodMouse true σ m → GoodMouse false σ (released σ m).mouse
unfolding released
released_is σ m h g =
    both_ways (λ (d : MouseDue). GoodMouse false σ d.mouse) (live σ)
    (λ e. good (rw (unpaused_most σ) (released_within σ.mouse σ.threshold m h.threshold h.mouse (rw (live_most true σ e) at (within g)))))
    (λ e. good (rw (unpaused_most σ) (rw (dead_most true σ e) at (within g))))

-- live motion, by mode: while output is paused, what is held must not leave the limit
live_motion_within : (mode : MouseMode) (paused : Bool) (σ : Settings) {most : ℕ} (m : Mouse) → IsSettings σ → IsMouseMode mode →
    ((paused && not (is_absolute mode)) ≡ true → (size m.held.x ≤ held_limit) × (size m.held.y ≤ held_limit)) →
    Within most (maximum_of mode) m →
    Within (cond (paused && not (is_absolute mode)) held_limit held_usual) (maximum_of mode) (live_motion mode paused σ m).mouse
unfolding live_motion motion_due
live_motion_within Relative true σ m h hm room w = record {
  x = w.x;
  y = w.y;
  held_x = (room refl).0;
  held_y = (room refl).1;
  one_x = w.one_x;
  one_y = w.one_y;
}
live_motion_within Relative false σ m h hm room w = reach_within σ.threshold m h.threshold w
live_motion_within (Absolute p) true σ m h hm room w = coordinates_moved_within σ.scale p m h.scale w
live_motion_within (Absolute p) false σ m h hm room w = coordinates_moved_within σ.scale p m h.scale w
live_motion_within (Keycode delta) true σ m h hm room w = record {
  x = w.x;
  y = w.y;
  held_x = (room refl).0;
  held_y = (room refl).1;
  one_x = w.one_x;
  one_y = w.one_y;
}
live_motion_within (Keycode delta) false σ m h hm room w = send_deltas_within delta m hm w

-- what an event brings is as far as it says
pub brought : (σ : Settings) (dx dy : ℤ) → (size (incoming σ dx dy).x ≡ nat_abs dx) × (size (incoming σ dx dy).y ≡ nat_abs dy)
unfolding incoming
brought σ dx dy = (signed_size dx, by (negates_dy σ.mouse σ.bottom))
  where
    by : (t : Bool) → size (cond t (opposite (of_signed dy)) (of_signed dy)) ≡ nat_abs dy
    by true = omega (arith, signed_size dy)
    by false = signed_size dy

-- an event adds at most what it brings
pub added_to_held_size : (σ : Settings) (dx dy : ℤ) (held : Axes Motion) →
    (size (added_to_held σ dx dy held).x ≤ size held.x + nat_abs dx) × (size (added_to_held σ dx dy held).y ≤ size held.y + nat_abs dy)
unfolding added_to_held incoming
added_to_held_size σ dx dy held =
    (omega (arith, sum_size held.x (of_signed dx), signed_size dx), by (negates_dy σ.mouse σ.bottom))
  where
    by : (t : Bool) → size (sum held.y (cond t (opposite (of_signed dy)) (of_signed dy))) ≤ size held.y + nat_abs dy
    by true = omega (arith, sum_size held.y (opposite (of_signed dy)), signed_size dy)
    by false = omega (arith, sum_size held.y (of_signed dy), signed_size dy)

added_to_held_within : (σ : Settings) (dx dy : ℤ) {most : ℕ} {p : Axes ℕ} (m : Mouse) → Within most p m →
    Within (most + max (nat_abs dx) (nat_abs dy)) p (with_held (added_to_held σ dx dy m.held) m)
unfolding added_to_held
added_to_held_within σ dx dy m w = record {
  x = w.x;
  y = w.y;
  held_x = omega (arith, (added_to_held_size σ dx dy m.held).0, w.held_x);
  held_y = omega (arith, (added_to_held_size σ dx dy m.held).1, w.held_y);
  one_x = one_sided_sum m.held.x (incoming σ dx dy).x;
  one_y = one_sided_sum m.held.y (incoming σ dx dy).y;
}

-- where the third refusal does not hold, held motion stays within its limit
roomy : (σ : Settings) (dx dy : ℤ) (m : Mouse) → live σ ≡ true → overflows σ dx dy m ≡ false → not (is_absolute σ.mouse) ≡ true →
    (size (added_to_held σ dx dy m.held).x ≤ held_limit) × (size (added_to_held σ dx dy m.held).y ≤ held_limit)
unfolding overflows gathers
roomy σ dx dy m l o a =
    let (ox, oy) = or_false _ _ (rw (l, a) at o) in
    (ltb-false held_limit _ ox, ltb-false held_limit _ oy)

-- A motion event that is not refused keeps the mouse good.
pub moves_is : (paused : Bool) (σ : Settings) (dx dy : ℤ) (m : Mouse) → IsSettings σ → (paused && overflows σ dx dy m) ≡ false →
    GoodMouse paused σ m → GoodMouse paused σ (moves paused σ dx dy m).mouse
unfolding moves
moves_is paused σ dx dy m h o g =
    both_ways (λ (d : MouseDue). GoodMouse paused σ d.mouse) (live σ)
    (λ l. good (rw (live_most paused σ l)
    (live_motion_within σ.mouse paused σ (with_held (added_to_held σ dx dy m.held) m) h h.mouse
    (λ t.
    let (p, a) = and_true paused (not (is_absolute σ.mouse)) t in
    roomy σ dx dy m l (rw p at o) a)
    (added_to_held_within σ dx dy m (within g)))))
    (λ l. g)

-- Buttons keep what is held, or send it all.
pub level_held : (side : Side) (down : Bool) (m : Mouse) → (with_level side down m).held ≡ m.held
level_held Left down m = refl
level_held Right down m = refl

level_within : (side : Side) (down : Bool) {most : ℕ} {p : Axes ℕ} {m : Mouse} → Within most p m → Within most p (with_level side down m)
level_within Left down w = record { x = w.x; y = w.y; held_x = w.held_x; held_y = w.held_y; one_x = w.one_x; one_y = w.one_y }
level_within Right down w = record { x = w.x; y = w.y; held_x = w.held_x; held_y = w.held_y; one_x = w.one_x; one_y = w.one_y }

latch_within : (side : Side) (down : Bool) {most : ℕ} {p : Axes ℕ} {m : Mouse} → Within most p m → Within most p (with_latch side down m)
latch_within side down w = record { x = w.x; y = w.y; held_x = w.held_x; held_y = w.held_y; one_x = w.one_x; one_y = w.one_y }

button_within : (mode : MouseMode) (action : ℕ) (side : Side) (down : Bool) {most : ℕ} {p : Axes ℕ} (m : Mouse) → held_usual ≤ most → Within most p m →
    Within most p (live_button mode action side down m).mouse
unfolding live_button
button_within Relative action side down {most} {p} m h w =
    both_ways (λ (d : MouseDue). Within most p d.mouse) (eqb action as_keys) (λ _. w) (λ _. widen h (sent_within 1 w))
button_within (Absolute q) action side down {most} {p} m h w =
    both_ways (λ (d : MouseDue). Within most p d.mouse) (eqb action as_keys)
    (λ _. latch_within side down w)
    (λ _. both_ways (λ (d : MouseDue). Within most p d.mouse) (action_reports action down) (λ _. latch_within side down w) (λ _. latch_within side down w))
button_within (Keycode delta) action side down m h w = w

pub level_is : {paused : Bool} {σ : Settings} (side : Side) (down : Bool) {m : Mouse} → GoodMouse paused σ m → GoodMouse paused σ (with_level side down m)
level_is side down g = good (level_within side down (within g))

pub presses_is : (paused : Bool) (σ : Settings) (side : Side) (down : Bool) (m : Mouse) → GoodMouse paused σ m →
    GoodMouse paused σ (presses σ side down m).mouse
unfolding presses
presses_is paused σ side down m g =
    both_ways (λ (d : MouseDue). GoodMouse paused σ d.mouse) (unchanged side down m)
    (λ _. g)
    (λ _. both_ways (λ (d : MouseDue). GoodMouse paused σ d.mouse) (live σ)
    (λ _. good (button_within σ.mouse σ.action side down (with_level side down m) (least_most paused σ) (level_within side down (within g))))
    (λ _. level_is side down g))

-- Not paused, only the mouse's mode matters to its ranges.
pub same_mode_is : (σ τ : Settings) (m : Mouse) → τ.mouse ≡ σ.mouse → GoodMouse false σ m → GoodMouse false τ m
same_mode_is σ τ m e g = good (rw (unpaused_most τ, e) (rw (unpaused_most σ) at (within g)))

-- A pause keeps the mouse good.
pub pause_is : (paused : Bool) (σ : Settings) (m : Mouse) → GoodMouse paused σ m → GoodMouse true σ m
pause_is true σ m g = g
pause_is false σ m g = good (widen (least_most true σ) (rw (unpaused_most σ) at (within g)))

anew : {most : ℕ} {p q : Axes ℕ} {m : Mouse} → Within most p m → Within held_usual q (with_held (record { x = record { plus = 0; minus = 0 }; y = record { plus = 0; minus = 0 } }) (record { place = record { x = 0; y = 0 }; held = m.held; left = m.left; right = m.right; latches = m.latches }))
anew w = record { x = omega arith; y = omega arith; held_x = omega arith; held_y = omega arith; one_x = refl; one_y = refl }

-- The clearing keeps the mouse good, paused or not.
pub cleared_is : {paused : Bool} {σ : Settings} {m : Mouse} → GoodMouse paused σ m → GoodMouse paused σ (cleared m)
cleared_is g =
    let w = within g in
    good (record { x = w.x; y = w.y; held_x = w.held_x; held_y = w.held_y; one_x = w.one_x; one_y = w.one_y })

-- An executed command of the mouse, after the resume.
pub commanded_is : (c : MouseCommand) (ps : List ℕ) (σ : Settings) (m : Mouse) → GoodMouse false σ m →
    GoodMouse false (mouse_sets c ps σ) (commanded c ps σ.mouse m).mouse
unfolding commanded mouse_sets held_most
commanded_is SetAction ps σ m g = same_mode_is σ (mouse_sets SetAction ps σ) m refl g
commanded_is SetRelative ps σ m g = good (anew (within g))
commanded_is SetAbsolute ps σ m g = good (anew (within g))
commanded_is SetKeycode ps σ m g = good (anew (within g))
commanded_is SetThreshold ps σ m g = same_mode_is σ (mouse_sets SetThreshold ps σ) m refl g
commanded_is SetScale ps σ m g = same_mode_is σ (mouse_sets SetScale ps σ) m refl g
commanded_is ReportPosition ps σ m g = cleared_is g
commanded_is LoadPosition ps σ m g =
    let w = within g in
    good (record { x = omega arith; y = omega arith; held_x = w.held_x; held_y = w.held_y; one_x = w.one_x; one_y = w.one_y })
commanded_is OriginBottom ps σ m g = same_mode_is σ (mouse_sets OriginBottom ps σ) m refl g
commanded_is OriginTop ps σ m g = same_mode_is σ (mouse_sets OriginTop ps σ) m refl g

-- 0x12, after the resume; it leaves the mouse's mode.
pub off_is : (σ τ : Settings) (m : Mouse) → τ.mouse ≡ σ.mouse → GoodMouse false σ m → GoodMouse false τ (switched_off m)
off_is σ τ m e g =
    let w : Within held_usual (maximum_of σ.mouse) m = rw (unpaused_most σ) at (within g) in
    good (rw (unpaused_most τ, e) (record { x = w.x; y = w.y; held_x = omega arith; held_y = omega arith; one_x = refl; one_y = refl }))

pub power_is : GoodMouse false power_up at_power_up
power_is = good (record { x = omega arith; y = omega arith; held_x = omega arith; held_y = omega arith; one_x = refl; one_y = refl })

-- What is held of a good mouse, as numbers.
pub held_small : (paused : Bool) (σ : Settings) (m : Mouse) → GoodMouse paused σ m → (size m.held.x ≤ held_limit) × (size m.held.y ≤ held_limit)
held_small paused σ m g = omega (arith, limit_most paused σ, g.ranges.held_x, g.ranges.held_y)

pub held_unpaused : (σ : Settings) (m : Mouse) → GoodMouse false σ m → (size m.held.x ≤ held_usual) × (size m.held.y ≤ held_usual)
held_unpaused σ m g = omega (arith, unpaused_most σ, g.ranges.held_x, g.ranges.held_y)
