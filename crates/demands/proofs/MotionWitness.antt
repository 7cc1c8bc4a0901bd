-- A14 is not empty: a sequence of which all is true that it asks, computed, with its totals as numbers. It goes through two pauses and their resumes,
-- motion in both directions on both axes, a button while paused, two changes of the origin, and both monitoring modes, in which a byte goes out that
-- could be taken for a mouse packet's header.
-- Assumes nothing.
use mathlib.Core.Path.{◌≡◌, refl, sym, ap, ◌∙◌}
use mathlib.Core.Bool.{Bool, true, false, ◌&&◌, true≢false}
use mathlib.Core.List.{List, [], ◌∷◌, ◌++◌}
use lib.Dec.{eqb}
use borrow.Author.Tests.{eqb-true}
use Rattle.output.proofs.Cases.{and_true}
use Rattle.protocol.specs.declared.MouseMode.{MouseMode}
use Rattle.protocol.specs.declared.MouseMode.TheVariants.{Relative, Absolute, Keycode}
use Rattle.protocol.specs.declared.MouseCommand.{MouseCommand}
use Rattle.protocol.specs.declared.MouseCommand.TheVariants.{SetAction, SetRelative, SetAbsolute, SetKeycode, SetThreshold, SetScale, ReportPosition, LoadPosition, OriginBottom, OriginTop}
use Rattle.protocol.specs.declared.OtherCommand.{OtherCommand}
use Rattle.protocol.specs.declared.OtherCommand.TheVariants.{Resume, MouseOff, SetClock, ReportClock}
use Rattle.protocol.specs.declared.Meaning.{Meaning}
use Rattle.protocol.specs.declared.Meaning.TheVariants.{Nothing, Memory, Pause, Reset, OfMouse, OfStick, OfOther, Inquire}
use Rattle.mouse.specs.declared.Side.TheVariants.{Left, Right}
use Rattle.mouse.specs.Totals.{AlongX, AlongY, said}
use Rattle.controller.specs.declared.State.{State}
use Rattle.controller.specs.declared.Input.{Input}
use Rattle.controller.specs.declared.Input.TheVariants.{Button, Sample}
use Rattle.controller.specs.State.{power_up, contents}
use Rattle.controller.specs.Sequences.{Turn, after, history, all_written, executed_by}
use Rattle.demands.specs.Demand2.{flows_in, all_due}
use Rattle.demands.specs.Sessions.{host, move, stick, tick, plus, minus, times, turns}
use Rattle.demands.specs.Conservation.{Arrival, arrivals_in, Spared, Undisturbed, AllUndisturbed, brought_by, brought, held, Conserved}
use Rattle.demands.proofs.Conservation.{conservation}
use Rattle.demands.proofs.Rules.{rules}

-- What is asked of an input, as a test.
is_relative : MouseMode → Bool
is_relative Relative = true
is_relative (Absolute maximum) = false
is_relative (Keycode delta) = false

mouse_spared : MouseCommand → Bool
mouse_spared SetAction = true
mouse_spared SetRelative = false
mouse_spared SetAbsolute = false
mouse_spared SetKeycode = false
mouse_spared SetThreshold = true
mouse_spared SetScale = true
mouse_spared ReportPosition = true
mouse_spared LoadPosition = true
mouse_spared OriginBottom = true
mouse_spared OriginTop = true

other_spared : OtherCommand → Bool
other_spared Resume = true
other_spared MouseOff = false
other_spared SetClock = true
other_spared ReportClock = true

is_spared : Meaning → Bool
is_spared Nothing = true
is_spared Memory = true
is_spared Pause = true
is_spared Reset = false
is_spared (OfMouse c) = mouse_spared c
is_spared (OfStick c) = true
is_spared (OfOther c) = other_spared c
is_spared (Inquire q) = true

passes : Arrival → Bool
passes r = eqb r.answer 0 && (is_relative r.state.settings.mouse && is_spared (executed_by r.state r.input))

all_pass : List Arrival → Bool
all_pass [] = true
all_pass (r ∷ rs) = passes r && all_pass rs

-- The test is right.
relative_is : (m : MouseMode) → is_relative m ≡ true → m ≡ Relative
unfolding is_relative
relative_is Relative h = refl
relative_is (Absolute maximum) h = absurd (true≢false (sym h))
relative_is (Keycode delta) h = absurd (true≢false (sym h))

differs : (c d : Meaning) → is_spared c ≡ true → is_spared d ≡ false → c ≡ d → ⊥
differs c d h f e = true≢false (sym h ∙ ap is_spared e ∙ f)

spared_is : (c : Meaning) → is_spared c ≡ true → Spared c
unfolding is_spared mouse_spared other_spared
spared_is c h = record {
  no_reset = differs c Reset h refl;
  no_relative = differs c (OfMouse SetRelative) h refl;
  no_absolute = differs c (OfMouse SetAbsolute) h refl;
  no_keycode = differs c (OfMouse SetKeycode) h refl;
  no_mouse_off = differs c (OfOther MouseOff) h refl;
}

passes_is : (r : Arrival) → passes r ≡ true → Undisturbed r
unfolding passes
passes_is r h =
    let p = and_true _ _ h in
    let q = and_true _ _ p.1 in
    record {
      taken = eqb-true r.answer 0 p.0;
      relative = relative_is r.state.settings.mouse q.0;
      spared = spared_is (executed_by r.state r.input) q.1;
    }

all_undisturbed : (rs : List Arrival) → all_pass rs ≡ true → AllUndisturbed rs
unfolding all_pass
all_undisturbed [] h = tt
all_undisturbed (r ∷ rs) h =
    let p = and_true (passes r) (all_pass rs) h in
    (passes_is r p.0, all_undisturbed rs p.1)

-- The start: thresholds of 10, output paused, a button's packet in the queue, motion held, and 0x0B half received.
abbrev before : List Input
before =
    host (0x0B ∷ 10 ∷ 10 ∷ []) ++ move (plus 3) (minus 4) ++ host (0x13 ∷ []) ++ Button Left true ∷ move (plus 5) (plus 6) ++ host (0x0B ∷ [])

unfoldable pub start : State
start = after power_up (turns 8 before)

-- paused, and between the bytes of 0x0B
pub start_paused : (start.paused ≡ true) × (start.command.code ≡ 0x0B)
unfolding rules start
start_paused = (refl, refl)

-- a packet waits that does not count
pub start_queue : contents start.queue ≡ 0xFA ∷ 0x03 ∷ 0xFC ∷ []
unfolding rules start
start_queue = refl

-- 5 right and 6 toward the user are held
pub start_held : (held AlongX start ≡ plus 5) × (held AlongY start ≡ plus 6)
unfolding rules start
start_held = (refl, refl)

-- The inputs, each with room for 20 bytes.
abbrev inputs : List Input
inputs =
    -- paused: far to the right and away from the user, a button, and back
    times 3 (move (plus 64) (minus 64)) ++ Button Right true ∷ move (minus 30) (plus 7)
    -- 0x0B is completed: a resume, with the thresholds from before; then they are 20
    ++ host (20 ∷ 20 ∷ [])
    -- paused and resumed by 0x11: what does not reach the threshold stays held
    ++ host (0x13 ∷ []) ++ move (plus 15) (minus 3) ++ host (0x11 ∷ [])
    -- origin bottom: dy is negated
    ++ host (0x0F ∷ []) ++ move (minus 1) (plus 9)
    -- joystick monitoring: motion is dropped, a button sends nothing, and the positions are 0xF8
    ++ host (0x17 ∷ 2 ∷ []) ++ move (plus 40) (plus 40) ++ Button Left false ∷ stick 0 15 0 ++ stick 1 8 0 ++ times 2 tick
    -- fire monitoring: eight samples that are 0xF8
    ++ host (0x18 ∷ []) ++ times 5 (Sample (plus 1) ∷ []) ++ times 3 (Sample (plus 0) ∷ [])
    -- event mode, port 0 a joystick: motion is dropped; 0x10 makes port 0 a mouse, and the origin top
    ++ host (0x14 ∷ []) ++ move (plus 1) (plus 1) ++ host (0x10 ∷ []) ++ move (plus 2) (minus 1)

unfoldable pub sequence : List Turn
sequence = turns 20 inputs

-- all that is asked is true of it
pub undisturbed : AllUndisturbed (arrivals_in start sequence)
unfolding rules start sequence arrivals_in passes all_pass is_relative is_spared mouse_spared other_spared
undisturbed = all_undisturbed (arrivals_in start sequence) refl

-- the bytes: the packet that waited, the right button's two, the first resume's, and those of the monitoring modes
pub bytes_written : all_written (history start sequence) ≡
    0xFA ∷ 0x03 ∷ 0xFC ∷ 0xFB ∷ 0x62 ∷ 0xA3 ∷ 0xFB ∷ 0x63 ∷ 0xA3 ∷ 0xFB ∷ 0xE2 ∷ 0x07 ∷ 0x00 ∷ 0xF8 ∷ 0xF8 ∷ []
unfolding rules start sequence
bytes_written = refl

-- what the packets say, what is held at the end, and what the motions brought
pub x_said : said AlongX (all_due (flows_in start sequence)) ≡ plus 167
unfolding rules start sequence all_due
x_said = refl

pub y_said : said AlongY (all_due (flows_in start sequence)) ≡ minus 179
unfolding rules start sequence all_due
y_said = refl

pub end_held : (held AlongX (after start sequence) ≡ plus 16) × (held AlongY (after start sequence) ≡ minus 13)
unfolding rules start sequence
end_held = (refl, refl)

pub x_brought : brought AlongX (arrivals_in start sequence) ≡ plus 178
unfolding rules start sequence arrivals_in brought_by brought
x_brought = refl

pub y_brought : brought AlongY (arrivals_in start sequence) ≡ minus 198
unfolding rules start sequence arrivals_in brought_by brought
y_brought = refl

-- so the law speaks of it: 167 + 16 = 5 + 178, and -179 - 13 = 6 - 198
pub x_conserved : Conserved AlongX start (arrivals_in start sequence) (flows_in start sequence) (after start sequence)
x_conserved = conservation AlongX start sequence undisturbed

pub y_conserved : Conserved AlongY start (arrivals_in start sequence) (flows_in start sequence) (after start sequence)
y_conserved = conservation AlongY start sequence undisturbed
