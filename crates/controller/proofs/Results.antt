-- The states that the step hands back are those of the definition, part by part; and what was written is what is due.
-- Assumes nothing.
use Prim.Native.Nat.{ℕ, ◌+◌, ◌-◌, ◌≤◌}
use native.Mathlib.Omega.{arith}
use mathlib.Core.Path.{◌≡◌, sym, ap, ap₂, ◌∙◌}
use mathlib.Core.Bool.{Bool, true, false, cond}
use mathlib.Core.List.{[], List, ◌++◌, append_assoc}
use lib.ListN.{length, take, drop, replicate, length-append, length-replicate, replicate-append-replicate}
use lib.Seq.{length-take-le, drop_at}
use Rattle.output.specs.Packets.{bytes}
use Rattle.output.specs.Short.{short_bytes, short_room}
use Rattle.output.specs.Writing.{over}
use Rattle.output.proofs.Packets.{bytes_append}
use Rattle.output.proofs.Runs.{short_back}
use Rattle.protocol.specs.declared.Meaning.{Meaning}
use Rattle.protocol.specs.declared.Command.{Command}
use Rattle.protocol.specs.declared.Settings.{Settings}
use Rattle.protocol.specs.Reading.{no_command}
use Rattle.protocol.specs.Commands.{sets}
use Rattle.mouse.specs.declared.Mouse.{Mouse}
use Rattle.mouse.specs.declared.Moved.{Moved}
use Rattle.mouse.specs.Sending.{packets_sent}
use Rattle.mouse.specs.Moves.{resumed}
use Rattle.mouse.specs.Handing.{moved_of}
use Rattle.mouse.proofs.Dues.{sent_due, resumed_others}
use Rattle.output.specs.declared.Run.{Run}
use Rattle.controller.specs.declared.State.{State}
use Rattle.controller.specs.declared.Input.{Input}
use Rattle.controller.specs.declared.Acted.{Acted}
use Rattle.controller.specs.State.{IsQueue, OneQueue, contents, queue_of, queue_room, empty_queue}
use Rattle.controller.specs.Host.{effect, resumed_packets, resumed_mouse, acted}
use Rattle.controller.specs.Events.{happened, event_due}
use Rattle.controller.specs.Handing.{acted_of}
use Rattle.controller.proofs.Lengths.{effect_length}
use Rattle.controller.proofs.Answers.{effect_on}

-- zeros with bytes over their start
over_zeros : (bs : List ℕ) (n : ℕ) → length bs ≤ n → over bs (replicate n 0) ≡ bs ++ replicate (n - length bs) 0
unfolding over
over_zeros bs n h = ap (λ (l : List ℕ). bs ++ l) (drop_zeros (length bs) n h)
  where
    drop_zeros : (k n : ℕ) → k ≤ n → drop {A = ℕ} k (replicate n 0) ≡ replicate (n - k) 0
    drop_zeros k n h =
        let e : n ≡ k + (n - k) = omega arith in
        ap (λ (m : ℕ). drop {A = ℕ} k (replicate m 0)) e
        ∙ ap (λ (l : List ℕ). drop k l) (sym (replicate-append-replicate k (n - k) 0))
        ∙ drop_at (replicate k 0) (replicate (n - k) 0) k (length-replicate k 0)

-- a queue with more bytes written behind those that wait
pub queue_grown : {n : ℕ} (p : Bool) (q : Run n) (bs : List ℕ) → IsQueue p q → OneQueue q → q.len + length bs ≤ queue_room →
    ◌≡◌ {A = Run n} (record { bytes = take q.len q.bytes ++ over bs (drop q.len q.bytes); len = q.len + length bs }) (queue_of (contents q ++ bs))
unfolding queue_of
queue_grown p q bs h one fits = λ i. record { bytes = content i; len = size i }
  where
    waiting : length (contents q) ≡ q.len
    waiting = length-take-le q.len q.bytes (omega (arith, h.room))

    size : q.len + length bs ≡ length (contents q ++ bs)
    size = omega (arith, length-append (contents q) bs, waiting)

    rest : queue_room - q.len - length bs ≡ queue_room - length (contents q ++ bs)
    rest = omega (arith, size)

    content : take q.len q.bytes ++ over bs (drop q.len q.bytes) ≡ (contents q ++ bs) ++ replicate (queue_room - length (contents q ++ bs)) 0
    content =
        ap (λ (l : List ℕ). contents q ++ over bs l) one
        ∙ ap (λ (l : List ℕ). contents q ++ l) (over_zeros bs (queue_room - q.len) (omega arith))
        ∙ ap (λ (n : ℕ). contents q ++ (bs ++ replicate n 0)) rest
        ∙ sym (append_assoc (contents q) bs (replicate (queue_room - length (contents q ++ bs)) 0))

-- what an event that is sent writes, and what one that is queued writes
pub sent_bytes : (i : Input) (s : State) → s.paused ≡ false → bytes (effect_on i s).packets ≡ (event_due i s).written
unfolding event_due happened
sent_bytes i s p = ap (λ (t : Bool). cond t [] (bytes (effect_on i s).packets)) (sym p)

pub queued_bytes : (i : Input) (s : State) → s.paused ≡ true → [] ≡ (event_due i s).written
unfolding event_due happened
queued_bytes i s p = ap (λ (t : Bool). cond t [] (bytes (effect_on i s).packets)) (sym p)

-- A command that acts, after the resume if output is paused.
module _ (m : Meaning) (ps : List ℕ) (s : State) (v : Moved) (a : Acted) (mv : v ≡ moved_of (resumed s.paused s.settings s.mouse))
    (ac : a ≡ acted_of (effect m ps s.settings v.mouse s.sticks s.clock)) where
  pub moved_packets : packets_sent v.sending ≡ resumed_packets s
  moved_packets =
      ap (λ (x : Moved). packets_sent x.sending) mv
      ∙ sym (sent_due (resumed s.paused s.settings s.mouse) (resumed_others s.paused s.settings s.mouse))

  moved_mouse : v.mouse ≡ resumed_mouse s
  moved_mouse = ap (λ (x : Moved). x.mouse) mv

  effect_is : a ≡ acted_of (effect m ps s.settings (resumed_mouse s) s.sticks s.clock)
  effect_is = ac ∙ ap (λ (x : Mouse). acted_of (effect m ps s.settings x s.sticks s.clock)) moved_mouse

  own_bytes : short_bytes a.short ≡ bytes (effect m ps s.settings (resumed_mouse s) s.sticks s.clock).packets
  own_bytes = ap (λ (x : Acted). short_bytes x.short) effect_is ∙ short_back (bytes (effect m ps s.settings (resumed_mouse s) s.sticks s.clock).packets)

  -- what it writes: the queue, held motion that is due, and its own packet
  pub acted_written : contents s.queue ++ (bytes (packets_sent v.sending) ++ short_bytes a.short) ≡ (acted m ps s).written
  unfolding acted
  acted_written =
      ap (λ (l : List ℕ). contents s.queue ++ l)
      (ap₂ ◌++◌ (ap bytes moved_packets) own_bytes
      ∙ sym (bytes_append (resumed_packets s) (effect m ps s.settings (resumed_mouse s) s.sticks s.clock).packets))

  -- and the state that it leaves
  pub acted_state : (σ : Settings) (c : Command) (q : _) → σ ≡ sets m ps s.settings → c ≡ no_command → q ≡ empty_queue →
      ◌≡◌ {A = State} (record {
        settings = σ;
        command = c;
        paused = false;
        queue = q;
        mouse = a.mouse;
        sticks = a.sticks;
        clock = a.clock;
        keys = s.keys;
      }) (acted m ps s).state
  unfolding acted
  acted_state σ c q eσ ec eq = λ i. record {
    settings = eσ i;
    command = ec i;
    paused = false;
    queue = eq i;
    mouse = (effect_is i).mouse;
    sticks = (effect_is i).sticks;
    clock = (effect_is i).clock;
    keys = s.keys;
  }

  -- its own bytes are few
  pub own_short : a.short.len ≤ short_room
  own_short = omega (arith, ap (λ (x : Acted). x.short.len) effect_is, effect_length m ps s.settings (resumed_mouse s) s.sticks s.clock)

  -- and the run that holds them has its eight places
  pub own_room : length a.short.bytes ≡ short_room
  own_room =
      let own = bytes (effect m ps s.settings (resumed_mouse s) s.sticks s.clock).packets in
      ap (λ (x : Acted). length x.short.bytes) effect_is
      ∙ omega (arith, length-append own (replicate (short_room - length own) 0), length-replicate {A = ℕ} (short_room - length own) 0, effect_length m ps s.settings (resumed_mouse s) s.sticks s.clock)
