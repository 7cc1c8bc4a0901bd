-- Motion of the mouse in its three modes, and what of it is due at a resume (document 01, "The mouse").
use Rattle.std.specs.Prelude.{ℕ, Bool, false, cond, ◌&&◌, ◌||◌, [], ltb, ℤ}
use Rattle.motion.specs.declared.Motion.{Motion}
use Rattle.motion.specs.declared.Axes.{Axes}
use Rattle.motion.specs.Motion.{size, at_rest, of_signed, sum, opposite, reaches, quotient, remainder, coordinate_after}
use Rattle.protocol.specs.declared.MouseMode.{MouseMode}
use Rattle.protocol.specs.declared.MouseMode.TheVariants.{Relative, Absolute, Keycode}
use Rattle.protocol.specs.declared.Settings.{Settings}
use Rattle.protocol.specs.Settings.{acts_as}
use Rattle.mouse.specs.declared.Mouse.{Mouse}
use Rattle.mouse.specs.Mouse.{live, gathers, held_limit, with_held}
use Rattle.mouse.specs.Reports.{MouseDue, quiet, send_all}

-- whether dy is negated: at "Origin bottom", "except in keycode mode"
abbrev pub negates_dy : MouseMode → Bool → Bool
negates_dy Relative bottom = bottom
negates_dy (Absolute maximum) bottom = bottom
negates_dy (Keycode delta) bottom = false

-- "Origin bottom negates dy as the event comes in, except in keycode mode."
unfoldable pub incoming : Settings → ℤ → ℤ → Axes Motion
incoming σ dx dy = record {
  x = of_signed dx;
  y = cond (negates_dy σ.mouse σ.bottom) (opposite (of_signed dy)) (of_signed dy);
}

-- "In every mode live motion is first added to the held motion."
unfoldable pub added_to_held : Settings → ℤ → ℤ → Axes Motion → Axes Motion
added_to_held σ dx dy held = record { x = sum held.x (incoming σ dx dy).x; y = sum held.y (incoming σ dx dy).y }

-- "if either axis reaches its threshold"
unfoldable pub either_reaches : Axes ℕ → Axes Motion → Bool
either_reaches threshold d = reaches d.x (acts_as threshold.x) || reaches d.y (acts_as threshold.y)

-- "divided by the scale toward zero", along both axes; in keycode mode by the deltas
abbrev pub quotients : Axes ℕ → Axes Motion → Axes Motion
quotients scale d = record { x = quotient d.x (acts_as scale.x); y = quotient d.y (acts_as scale.y) }

-- "the remainder stays": what that division leaves held, of both axes
abbrev pub remainders : Axes ℕ → Axes Motion → Axes Motion
remainders scale d = record { x = remainder d.x (acts_as scale.x); y = remainder d.y (acts_as scale.y) }

-- "each whole delta in the held motion sends a make and break pair ... the remainder stays"
unfoldable pub send_deltas : Axes ℕ → Mouse → MouseDue
send_deltas delta m = record {
  sending = record {
    packets = 0;
    left = false;
    right = false;
    held = at_rest;
    arrows = quotients delta m.held;
  };
  others = [];
  mouse = with_held (remainders delta m.held) m;
}

-- "held motion, divided by the scale toward zero, moves the coordinate; the remainder stays"
unfoldable pub coordinates_moved : Axes ℕ → Axes ℕ → Mouse → Mouse
coordinates_moved maximum scale m = record {
  place = record {
    x = coordinate_after maximum.x m.place.x (quotients scale m.held).x;
    y = coordinate_after maximum.y m.place.y (quotients scale m.held).y;
  };
  held = remainders scale m.held;
  left = m.left;
  right = m.right;
  latches = m.latches;
}

-- Held motion that is due (document 01's "due"): thresholds and deltas are applied to what is held; "in absolute mode none is due".
unfoldable pub motion_due : MouseMode → Axes ℕ → Mouse → MouseDue
motion_due Relative threshold m = cond (either_reaches threshold m.held) (send_all 0 m) (quiet m)
motion_due (Absolute maximum) threshold m = quiet m
motion_due (Keycode delta) threshold m = send_deltas delta m

-- at a resume: "then held motion that is due (if the mouse is live)"
unfoldable pub released : Settings → Mouse → MouseDue
released σ m = cond (live σ) (motion_due σ.mouse σ.threshold m) (quiet m)

-- "While paused, a command that is executed ... first resumes": not paused, nothing is resumed
abbrev pub resumed : Bool → Settings → Mouse → MouseDue
resumed paused σ m = cond paused (released σ m) (quiet m)

-- live motion, once it is added to the held motion: paused, it stays held, but for absolute mode, which moves all the same
unfoldable pub live_motion : MouseMode → Bool → Settings → Mouse → MouseDue
live_motion Relative paused σ m = cond paused (quiet m) (motion_due Relative σ.threshold m)
live_motion (Absolute maximum) paused σ m = quiet (coordinates_moved maximum σ.scale m)
live_motion (Keycode delta) paused σ m = cond paused (quiet m) (motion_due (Keycode delta) σ.threshold m)

-- A motion event; not live, "motion is dropped".
unfoldable pub moves : Bool → Settings → ℤ → ℤ → Mouse → MouseDue
moves paused σ dx dy m =
    cond (live σ) (live_motion σ.mouse paused σ (with_held (added_to_held σ dx dy m.held) m)) (quiet m)

-- the third refusal, but for the pause: "mouse live in relative or keycode mode, and held motion on an axis would leave -2,032 to 2,032"
unfoldable pub overflows : Settings → ℤ → ℤ → Mouse → Bool
overflows σ dx dy m =
    gathers σ
    && (ltb held_limit (size (added_to_held σ dx dy m.held).x) || ltb held_limit (size (added_to_held σ dx dy m.held).y))
