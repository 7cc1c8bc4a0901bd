-- An input where the queue is lent beside the rest of the state: core and queue together are the state, and what becomes of an input is what
-- the step says of that state.
use Rattle.std.specs.Prelude.{ℕ, ◌+◌, ◌≤◌, ◌<◌, ◌≡◌, Bool, true, false, List, ◌++◌, length, take, drop, replicate, Result, Ok, Err}
use Rattle.output.specs.Writing.{over}
use Rattle.controller.specs.declared.State.{State}
use Rattle.controller.specs.declared.Stepped.{Stepped}
use Rattle.controller.specs.declared.Input.{Input}
use Rattle.controller.specs.State.{IsState}
use Rattle.controller.specs.Step.{Did}
use Rattle.controller.specs.declared.Core.{Core}
use Rattle.controller.specs.declared.Applied.{Applied}
use Rattle.controller.specs.declared.Refusal.{Refusal}
use Rattle.controller.specs.declared.Refusal.TheVariants.{QueueFull, BufferShort}

-- the state of a core, with the first n bytes of the lent queue waiting
abbrev pub joined : Core → List ℕ → ℕ → State
joined k queue n = record {
  settings = k.settings;
  command = k.command;
  paused = k.paused;
  queue = record { bytes = queue; len = n };
  mouse = k.mouse;
  sticks = k.sticks;
  clock = k.clock;
  keys = k.keys;
}

-- the core of a state
abbrev pub core_of : State → Core
core_of s = record {
  settings = s.settings;
  command = s.command;
  paused = s.paused;
  mouse = s.mouse;
  sticks = s.sticks;
  clock = s.clock;
  keys = s.keys;
}

-- what was handed back, as the step hands it back; the queue afterwards is beside it
abbrev pub stepped_of : Applied → List ℕ → Stepped
stepped_of r queue = record { answer = r.answer; state = joined r.core queue r.waiting }

-- The promise of an input that is applied: it is that of the step on the state that core and queue make, and they make one again.
pub record AppliedAs (k : Core) (i : Input) (n : ℕ) (queue out : List ℕ) (r : Applied) (queue' out' : List ℕ) : Type 0 where
  pub did : Did (joined k queue n) i out (stepped_of r queue') out'
  pub keeps : IsState (joined r.core queue' r.waiting)

-- What became of an event's bytes bs, with n bytes waiting: while output is paused they go into the queue, else into the buffer. n' bytes wait then.
pub data SentAs (paused : Bool) (bs : List ℕ) (n : ℕ) (queue out : List ℕ) (r : Result ℕ Refusal) (n' : ℕ) (queue' out' : List ℕ) : Type 0 where
  full : paused ≡ true → length queue < n + length bs → r ≡ Err QueueFull → n' ≡ n → queue' ≡ queue → out' ≡ out → SentAs paused bs n queue out r n' queue' out'
  queued : paused ≡ true → n + length bs ≤ length queue → r ≡ Ok 0 → n' ≡ n + length bs →
      queue' ≡ take n queue ++ over bs (drop n queue) → out' ≡ out → SentAs paused bs n queue out r n' queue' out'
  short : paused ≡ false → length out < length bs → r ≡ Err BufferShort → n' ≡ n → queue' ≡ queue → out' ≡ out → SentAs paused bs n queue out r n' queue' out'
  sent : paused ≡ false → length bs ≤ length out → r ≡ Ok (length bs) → n' ≡ n → queue' ≡ queue → out' ≡ over bs out → SentAs paused bs n queue out r n' queue' out'

-- What became of a command's bytes bs: they go out, and nothing waits any more, since bs begin with all that waited, or a reset drops it. The places of
-- what waited are 0 again.
pub data FlushedAs (bs : List ℕ) (n : ℕ) (queue out : List ℕ) (r : Result ℕ Refusal) (n' : ℕ) (queue' out' : List ℕ) : Type 0 where
  kept : length out < length bs → r ≡ Err BufferShort → n' ≡ n → queue' ≡ queue → out' ≡ out → FlushedAs bs n queue out r n' queue' out'
  flushed : length bs ≤ length out → r ≡ Ok (length bs) → n' ≡ 0 → queue' ≡ over (replicate n 0) queue → out' ≡ over bs out → FlushedAs bs n queue out r n' queue' out'
