-- Document 02, A14, "No motion lost or doubled": "This is the bet I lost, and I want it closed." Along either axis, what the mouse packets say and what
-- is held at the end add up to what was held at the start and what the motions brought.
-- The start may be any state, and the buffers any length: nothing is asked but what the customer says.
use Rattle.std.specs.Prelude.{ℕ, ◌≡◌, cond, List, [], ◌∷◌, ℤ, pos, ◌+ℤ◌}
use Rattle.motion.specs.Motion.{value}
use Rattle.protocol.specs.declared.MouseMode.TheVariants.{Relative}
use Rattle.protocol.specs.declared.MouseCommand.TheVariants.{SetRelative, SetAbsolute, SetKeycode}
use Rattle.protocol.specs.declared.OtherCommand.TheVariants.{MouseOff}
use Rattle.protocol.specs.declared.Meaning.{Meaning}
use Rattle.protocol.specs.declared.Meaning.TheVariants.{Reset, OfMouse, OfOther}
use Rattle.mouse.specs.Mouse.{live}
use Rattle.mouse.specs.Totals.{Axis, along, said, brings}
use Rattle.controller.specs.declared.State.{State}
use Rattle.controller.specs.declared.Input.{Input}
use Rattle.controller.specs.declared.Input.TheVariants.{Byte, Key, Button, Move, Joystick, Sample, Tick}
use Rattle.controller.specs.Step.{step}
use Rattle.controller.specs.Sequences.{Turn, after, executed_by}
use Rattle.demands.specs.Demand2.{Flow, flows_in, all_due, all_dropped}

-- "Take any inputs": one of them, with the state that it came to and the answer that it got
pub record Arrival : Type 0 where
  pub state : State
  pub input : Input
  pub answer : ℕ

-- one that came to the state s
abbrev pub arrival : State → Turn → Arrival
arrival s t = record { state = s; input = t.input; answer = (step s t.input t.lent).answer }

-- those of a sequence from the state s
unfoldable pub arrivals_in : State → List Turn → List Arrival
arrivals_in s [] = []
arrivals_in s (t ∷ ts) = arrival s t ∷ arrivals_in (step s t.input t.lent).state ts

-- "no reset, mouse mode or mouse-off command": not 0x80 0x01; 0x08, 0x09, 0x0A; 0x12
pub record Spared (c : Meaning) : Type 0 where
  pub no_reset : c ≡ Reset → ⊥
  pub no_relative : c ≡ OfMouse SetRelative → ⊥
  pub no_absolute : c ≡ OfMouse SetAbsolute → ⊥
  pub no_keycode : c ≡ OfMouse SetKeycode → ⊥
  pub no_mouse_off : c ≡ OfOther MouseOff → ⊥

-- what is asked of each input
pub record Undisturbed (r : Arrival) : Type 0 where
  -- "all taken"
  pub taken : r.answer ≡ 0
  -- "with the mouse in relative mode throughout"
  pub relative : r.state.settings.mouse ≡ Relative
  -- "and with no reset, mouse mode or mouse-off command executed"
  pub spared : Spared (executed_by r.state r.input)

-- and so of all
abbrev pub AllUndisturbed : List Arrival → Type 0
AllUndisturbed [] = Unit {0}
AllUndisturbed (r ∷ rs) = Undisturbed r × AllUndisturbed rs

-- "every motion that came while the mouse was live": what it brought along an axis; "each dy signed by the origin when it came"
unfoldable pub brought_by : Axis → State → Input → ℤ
brought_by a s (Byte b) = pos 0
brought_by a s (Key code down) = pos 0
brought_by a s (Button side down) = pos 0
brought_by a s (Move dx dy) = cond (live s.settings) (brings a s.settings.bottom dx dy) (pos 0)
brought_by a s (Joystick stick position trigger) = pos 0
brought_by a s (Sample b) = pos 0
brought_by a s Tick = pos 0

-- all that they brought: "The total must come from the inputs"
unfoldable pub brought : Axis → List Arrival → ℤ
brought a [] = pos 0
brought a (r ∷ rs) = brought_by a r.state r.input +ℤ brought a rs

-- "the held X", "For Y the same"
abbrev pub held : Axis → State → ℤ
held a s = value (along a s.mouse.held)

-- From the state s to the state t: "The X of all mouse packets that fell due meanwhile, each once, written at once or queued (packets already in the
-- queue at the start don't count), plus the held X at the end, equals the held X at the start plus the dx of every motion that came while the mouse was
-- live. For Y the same"
abbrev pub Conserved : Axis → State → List Arrival → List Flow → State → Type 0
Conserved a s rs fs t = said a (all_due fs) +ℤ held a t ≡ held a s +ℤ brought a rs

-- A14, over the definition: from every state, through every sequence of which that is true
abbrev pub Conservation : Type 0
Conservation = (a : Axis) (s : State) (ts : List Turn) → AllUndisturbed (arrivals_in s ts) → Conserved a s (arrivals_in s ts) (flows_in s ts) (after s ts)

-- "each once, written at once or queued": nothing is dropped. From a state, demand 2 then says of the same packets, `all_due`, that each is written or
-- waits in the queue, once.
abbrev pub NoneDropped : Type 0
NoneDropped = (s : State) (ts : List Turn) → AllUndisturbed (arrivals_in s ts) → all_dropped (flows_in s ts) ≡ []
