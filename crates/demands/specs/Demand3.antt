-- Demand 3: "What the status replies say can be put back." It is "a single claim about its two sequences together, and not one for each input".
use Rattle.std.specs.Prelude.{ℕ, ◌-◌, ◌≡◌, ◌⊎◌, false, length, drop}
use mathlib.Core.List.{List, [], ◌∷◌, ◌++◌, map, Memᴰ}
use Rattle.protocol.specs.declared.Inquiry.{Inquiry}
use Rattle.protocol.specs.declared.Meaning.TheVariants.{Nothing, Inquire}
use Rattle.protocol.specs.Codes.{line}
use Rattle.protocol.specs.Reading.{Between}
use Rattle.protocol.specs.Settings.{monitors}
use Rattle.protocol.specs.Replies.{code_of, in_order}
use Rattle.controller.specs.declared.State.{State}
use Rattle.controller.specs.declared.Input.{Input}
use Rattle.controller.specs.declared.Input.TheVariants.{Byte}
use Rattle.controller.specs.State.{IsState}
use Rattle.controller.specs.Sequences.{Turn, Done, after, history, byte_taken}

-- what one step of a sequence came to, as it is seen from outside: the input, the answer number and the bytes written
pub record Seen : Type 0 where
  pub input : Input
  pub answer : ℕ
  pub written : List ℕ

-- what is seen of a step: its answer and its bytes, without the state, what fell due and what a reset dropped
abbrev pub seen : Done → Seen
seen d = record { input = d.input; answer = d.out.answer; written = d.out.written }

-- "every sequence of inputs": "Each input comes with a buffer of any length and gets the state that the one before it, taken or refused, gave back";
-- "events, taken or refused, and refused host bytes may come anywhere"
abbrev pub seen_in : State → List Turn → List Seen
seen_in s ts = map seen (history s ts)

-- "the host bytes taken", in order
unfoldable pub taken : List Seen → List ℕ
taken [] = []
taken (d ∷ ds) = byte_taken d.input d.answer ++ taken ds

-- "no byte of another command": the byte is an inquiry, or a code that does nothing and so is no command's.
-- The eight have six companions (89 8A 90 95 96 99); that those may be taken as well is more than the demand asks.
abbrev pub NoOther : ℕ → Type 0
NoOther b = ((q : Inquiry) × ((line b).meaning ≡ Inquire q)) ⊎ ((line b).meaning ≡ Nothing)

-- "A reply is the last 8 bytes written by the step that takes its inquiry"
abbrev pub last_8 : List ℕ → List ℕ
last_8 bytes = drop (length bytes - 8) bytes

-- "Keep one reply to each, without its header byte": the bytes kept of one of the eight, from any one step that took it
pub record Kept (h : List Seen) (q : Inquiry) (kept : List ℕ) : Type 0 where
  -- a step of the asking
  pub of_step : Seen
  pub among : Memᴰ of_step h
  -- "the eight inquiries of document 01 are each taken"
  pub asks : of_step.input ≡ Byte (code_of q)
  pub is_taken : of_step.answer ≡ 0
  -- "the seven after 0xF6 are copied and kept, zeros too"
  pub copied : kept ≡ drop 1 (last_8 of_step.written)

-- "Asking may be every sequence of inputs": h is what was seen in it, from the state s, and kept is what was kept
pub record Asking (s : State) (h : List Seen) (kept : Inquiry → List ℕ) : Type 0 where
  -- "from every state outside the two monitoring modes"
  pub outside : monitors s.settings.stick ≡ false
  -- "with no command half received"
  pub between : Between s.command
  -- "in which ... no byte of another command is" taken
  pub no_other : (b : ℕ) → Memᴰ b (taken h) → NoOther b
  -- "in which the eight inquiries of document 01 are each taken"; "Keep one reply to each"
  pub replies : (q : Inquiry) → Kept h q (kept q)

-- "Sending back, later, may be every sequence of inputs": h is what was seen in it, from the state t
pub record SendingBack (t : State) (h : List Seen) (bytes : List ℕ) : Type 0 where
  -- "from whatever state the controller then is in with no command half received"
  pub between : Between t.command
  -- "in which the host bytes taken are exactly the kept bytes, in the order that document 01 gives"
  pub exactly : taken h ≡ bytes

-- The order is that "for port 0's role at the time of asking". Nothing need lead from s to t.
-- "After the sending back every setting, port 0's role among them, equals what it was before the asking."
abbrev pub Demand3 : Type 0
Demand3 =
    (s : State) (asking : List Turn) (kept : Inquiry → List ℕ) (t : State) (sending : List Turn) →
    IsState s → IsState t →
    Asking s (seen_in s asking) kept →
    SendingBack t (seen_in t sending) (in_order s.settings.port0 kept) →
    (after t sending).settings ≡ s.settings
