-- What applying an input has to show at each of its returns, over plain values: core, queue and buffer.
-- Assumes nothing.
use Prim.Native.Nat.{ℕ, ◌+◌, ◌≤◌}
use native.Mathlib.Omega.{arith}
use mathlib.Core.Path.{◌≡◌, refl, sym, ap, ap₂, ◌∙◌, subst}
use mathlib.Core.Bool.{◌&&◌, Bool, true, false, cond, true≢false}
use mathlib.Core.List.{List, [], ◌∷◌, ◌++◌}
use lib.ListN.{length, take, drop, replicate}
use lib.IntN.{ℤ}
use Rattle.output.specs.Packets.{bytes}
use Rattle.output.specs.Short.{short_bytes, short_of, short_room, IsShort}
use Rattle.output.specs.declared.Run.{Run}
use Rattle.output.specs.Writing.{over, Wrote}
use Rattle.output.proofs.Writing.{none}
use Rattle.output.proofs.Packets.{bytes_append}
use Rattle.output.proofs.Runs.{short_back, short_is}
use Rattle.keys.specs.Keys.{break_packets}
use Rattle.keys.proofs.Maps.{packets_length, held_most}
use Rattle.clock.specs.declared.Clock.{Clock}
use Rattle.protocol.specs.declared.Meaning.{Meaning}
use Rattle.protocol.specs.declared.Meaning.TheVariants.{Reset}
use Rattle.protocol.specs.declared.Received.{Received}
use Rattle.protocol.specs.declared.Whole.{Whole}
use Rattle.protocol.specs.declared.Settings.{Settings}
use Rattle.protocol.specs.Commands.{executed, sets}
use Rattle.mouse.specs.declared.Mouse.{Mouse}
use Rattle.mouse.specs.declared.Side.{Side}
use Rattle.mouse.specs.declared.Moved.{Moved}
use Rattle.mouse.specs.declared.Pressed.{Pressed}
use Rattle.mouse.specs.Sending.{packets_sent}
use Rattle.mouse.specs.Moves.{moves}
use Rattle.mouse.specs.Buttons.{with_level, presses, gives_fire}
use Rattle.mouse.specs.Handing.{moved_of, pressed_of}
use Rattle.mouse.proofs.Dues.{sent_due, moves_others}
use Rattle.sticks.specs.declared.Sticks.{Sticks}
use Rattle.sticks.specs.declared.SticksTold.{SticksTold}
use Rattle.sticks.specs.Sticks.{SticksDue, told_of}
use Rattle.keys.specs.declared.Keys.{Keys}
use Rattle.controller.specs.declared.Stepped.{Stepped}
use Rattle.controller.specs.declared.State.{State}
use Rattle.controller.specs.declared.Acted.{Acted}
use Rattle.controller.specs.declared.Input.{Input}
use Rattle.controller.specs.declared.Input.TheVariants.{Byte, Key}
use Rattle.std.specs.Prelude.{Result, Ok, Err}
use Rattle.controller.specs.declared.Refusal.TheVariants.{OutOfRange, QueueFull, MotionFull, BufferShort}
use Rattle.controller.specs.State.{IsState, contents, queue_of, queue_room, most_due, empty_queue, reset_but}
use Rattle.controller.specs.Host.{Effect, reset_packets}
use Rattle.controller.specs.Events.{fired, button, event, event_due, happened, map_after, of_sticks, of_mouse, key_packets}
use Rattle.controller.specs.Step.{due, IsInput, in_range, too_far, motion_full, Did}
use Rattle.controller.proofs.Answers.{effect_on, refused_did, taken_did, verdict_range, verdict_motion, paused_full, paused_taken, sent_taken, sent_short}
use Rattle.controller.proofs.Lengths.{queue_small}
use Rattle.controller.proofs.Results.{queue_grown, sent_bytes, queued_bytes, own_short, own_room}
use Rattle.controller.proofs.Hosts.{Completes, Acts, stage_lengths, acted_did, acted_short_did, reset_did, reset_short_did}
use Rattle.controller.proofs.States.{keeps}
use Rattle.controller.specs.declared.Core.{Core}
use Rattle.controller.specs.declared.Applied.{Applied}
use Rattle.std.specs.Prelude.{Result, Ok, Err, is_ok}
use Rattle.controller.specs.declared.Refusal.{Refusal}
use Rattle.controller.specs.Applying.{joined, core_of, stepped_of, AppliedAs, SentAs, full, queued, short, sent, FlushedAs, kept, flushed}
use Rattle.controller.proofs.Writers.{emptied, all_length, both_length}

-- what `apply` is given beside the input: a core, a queue with so many bytes waiting, and a buffer
pub record Given : Type 0 where
  pub core : Core
  pub waiting : ℕ
  pub queue : List ℕ
  pub out : List ℕ
  pub good : IsState (joined core queue waiting)

abbrev pub state_of : Given → State
state_of g = joined g.core g.queue g.waiting

-- its promise for an input
abbrev pub Applies : Given → Input → Applied → List ℕ → List ℕ → Type 0
Applies g i r q' l' = AppliedAs g.core i g.waiting g.queue g.out r q' l'

-- for a result that is known
pub for_result : (g : Given) (i : Input) {r r' : Applied} {q' l' : List ℕ} → r ≡ r' → Applies g i r' q' l' → Applies g i r q' l'
for_result g i {q' = q'} {l'} e a = subst (λ (x : Applied). Applies g i x q' l') (sym e) a

-- the core with other parts
abbrev with_parts : Core → Mouse → Sticks → Clock → Keys → Core
with_parts k m n t keys = record { settings = k.settings; command = k.command; paused = k.paused; mouse = m; sticks = n; clock = t; keys = keys }

-- the bytes and parts that an event comes to
pub record Comes (e : Effect) (bs : List ℕ) (m : Mouse) (n : Sticks) (t : Clock) : Type 0 where
  pub bytes : bs ≡ bytes e.packets
  pub mouse : m ≡ e.mouse
  pub sticks : n ≡ e.sticks
  pub clock : t ≡ e.clock

-- at most so many bytes wait
pub waits : (g : Given) → g.waiting ≤ length g.queue
waits g = omega (arith, queue_small (state_of g) g.good, g.good.ranges.queue.room)

module _ (g : Given) (i : Input) where
  -- the buffer in another spelling
  onto : {r : Stepped} {l' l'' : List ℕ} → l' ≡ l'' → Did (state_of g) i g.out r l'' → Did (state_of g) i g.out r l'
  onto {r} e d = subst (λ (x : List ℕ). Did (state_of g) i g.out r x) (sym e) d

  -- what did what it should leaves a state
  pub applied : IsInput i → {r : Applied} {q' l' : List ℕ} → Did (state_of g) i g.out (stepped_of r q') l' → Applies g i r q' l'
  applied x d = record { did = d; keeps = subst IsState (sym d.state) (keeps (state_of g) i (length g.out) g.good x) }

  module _ (f : (due (state_of g) i ≡ event_due i (state_of g)) × IsInput i) where
    pub range_as : in_range i ≡ false → Applies g i (record { answer = Err OutOfRange; waiting = g.waiting; core = g.core }) g.queue g.out
    range_as e = applied f.1 (refused_did OutOfRange (state_of g) i (verdict_range (state_of g) i (length g.out) e) refl)

    module _ (e : in_range i ≡ true) where
      pub far_as : g.core.paused ≡ true → too_far i g.core.settings g.core.mouse ≡ true →
          Applies g i (record { answer = Err MotionFull; waiting = g.waiting; core = g.core }) g.queue g.out
      unfolding motion_full
      far_as p t =
          applied f.1 (refused_did MotionFull (state_of g) i (verdict_motion (state_of g) i (length g.out) g.good.ranges.queue e (ap₂ ◌&&◌ p t)) refl)

      module _ {bs : List ℕ} {m : Mouse} {n : Sticks} {t : Clock} (a : Comes (effect_on i (state_of g)) bs m n t) where
        with_queue : {z z' : _} → z ≡ z' → ◌≡◌ {A = State} (record {
          settings = g.core.settings;
          command = g.core.command;
          paused = g.core.paused;
          queue = z;
          mouse = m;
          sticks = n;
          clock = t;
          keys = map_after i g.core.keys;
        }) (record {
          settings = g.core.settings;
          command = g.core.command;
          paused = g.core.paused;
          queue = z';
          mouse = (effect_on i (state_of g)).mouse;
          sticks = (effect_on i (state_of g)).sticks;
          clock = (effect_on i (state_of g)).clock;
          keys = map_after i g.core.keys;
        })
        with_queue e = λ j. record {
          settings = g.core.settings;
          command = g.core.command;
          paused = g.core.paused;
          queue = e j;
          mouse = a.mouse j;
          sticks = a.sticks j;
          clock = a.clock j;
          keys = map_after i g.core.keys;
        }

        queued_parts : g.core.paused ≡ true → g.waiting + length bs ≤ length g.queue →
            joined (with_parts g.core m n t (map_after i g.core.keys)) (take g.waiting g.queue ++ over bs (drop g.waiting g.queue)) (g.waiting + length bs) ≡ (event_due i (state_of g)).state
        unfolding event_due happened
        queued_parts p fits =
            let s = state_of g in
            let own = bytes (effect_on i s).packets in
            let z : ◌≡◌ {A = _} (record { bytes = take g.waiting g.queue ++ over bs (drop g.waiting g.queue); len = g.waiting + length bs })
            (cond s.paused (queue_of (contents s.queue ++ own)) s.queue) =
            ap {B = _} (λ (b : List ℕ). record { bytes = take g.waiting g.queue ++ over b (drop g.waiting g.queue); len = g.waiting + length b }) a.bytes
            ∙ queue_grown s.paused s.queue own g.good.ranges.queue g.good.spelling.queue (omega (arith, ap length a.bytes, g.good.ranges.queue.room))
            ∙ ap (λ (x : Bool). cond x (queue_of (contents s.queue ++ own)) s.queue) (sym p) in
            with_queue z

        sent_parts : g.core.paused ≡ false → joined (with_parts g.core m n t (map_after i g.core.keys)) g.queue g.waiting ≡ (event_due i (state_of g)).state
        unfolding event_due happened
        sent_parts p =
            let s = state_of g in
            with_queue (ap (λ (x : Bool). cond x (queue_of (contents s.queue ++ bytes (effect_on i s).packets)) s.queue) (sym p))

        -- the core afterwards: with the event's parts where its bytes were taken, and as it was where they were not
        abbrev after : Core
        after = with_parts g.core m n t (map_after i g.core.keys)

        abbrev chosen : Result ℕ Refusal → Core
        chosen (Ok count) = after
        chosen (Err e) = g.core

        handed : {r r' : Result ℕ Refusal} {w w' : ℕ} {q' q'' : List ℕ} → r ≡ r' → w ≡ w' → q' ≡ q'' →
            ◌≡◌ {A = Stepped} (record { answer = r; state = joined (chosen r) q' w }) (record { answer = r'; state = joined (chosen r') q'' w' })
        handed er ew eq = λ j. record { answer = er j; state = joined (chosen (er j)) (eq j) (ew j) }

        sent_as : (g.core.paused ≡ true → too_far i g.core.settings g.core.mouse ≡ false) → {r : Result ℕ Refusal} {w : ℕ} {q' l' : List ℕ} →
            SentAs g.core.paused bs g.waiting g.queue g.out r w q' l' → Applies g i (record { answer = r; waiting = w; core = chosen r }) q' l'
        sent_as near (full p lt er ew eq el) =
            applied f.1 (onto el (refused_did QueueFull (state_of g) i
            (paused_full (state_of g) i (length g.out) f.0 e p (omega (arith, ap length a.bytes, g.good.ranges.queue.room))) (handed er ew eq)))
        sent_as near (queued p fits er ew eq el) =
            applied f.1 (onto el (taken_did (state_of g) i (event_due i (state_of g)) f.0
            (paused_taken (state_of g) i (length g.out) f.0 e p (near p) (omega (arith, ap length a.bytes, g.good.ranges.queue.room)))
            (subst (λ (x : List ℕ). Wrote x 0 g.out g.out) (queued_bytes i (state_of g) p) (none g.out))
            (handed er ew eq ∙ ap (λ (z : State). record { answer = Ok 0; state = z }) (queued_parts p fits))))
        sent_as near (short p lt er ew eq el) =
            applied f.1 (onto el (refused_did BufferShort (state_of g) i
            (sent_short (state_of g) i (length g.out) f.0 e p (omega (arith, ap length a.bytes))) (handed er ew eq)))
        sent_as near {l' = l'} (sent p fits er ew eq el) =
            applied f.1 (taken_did (state_of g) i (event_due i (state_of g)) f.0
            (sent_taken (state_of g) i (length g.out) f.0 e p (omega (arith, ap length a.bytes)))
            (subst (λ (x : List ℕ). Wrote x (length bs) g.out l') (a.bytes ∙ sent_bytes i (state_of g) p) (record { count = refl; buffer = el }))
            (handed er ew eq ∙ ap (λ (z : State). record { answer = Ok (length bs); state = z }) (sent_parts p)))

        -- The parts afterwards are the event's where its bytes were taken, and as they were where not.
        pub taken_as : (g.core.paused ≡ true → too_far i g.core.settings g.core.mouse ≡ false) → (r : Result ℕ Refusal) {w : ℕ} {q' l' : List ℕ} {k : Core} →
            SentAs g.core.paused bs g.waiting g.queue g.out r w q' l' → is_ok r ≡ true → k ≡ after → Applies g i (record { answer = r; waiting = w; core = k }) q' l'
        taken_as near (Ok count) {w} s t ek = for_result g i (ap (λ (x : Core). record { answer = Ok count; waiting = w; core = x }) ek) (sent_as near s)
        taken_as near (Err x) s t ek = absurd (true≢false (sym t))

        pub refused_as : (g.core.paused ≡ true → too_far i g.core.settings g.core.mouse ≡ false) → (r : Result ℕ Refusal) {w : ℕ} {q' l' : List ℕ} →
            SentAs g.core.paused bs g.waiting g.queue g.out r w q' l' → is_ok r ≡ false → Applies g i (record { answer = r; waiting = w; core = g.core }) q' l'
        refused_as near (Ok count) s t = absurd (true≢false t)
        refused_as near (Err x) s t = sent_as near s

-- what a key and the joysticks come to
pub told_comes : (d : SticksDue) (m : Mouse) (t : Clock) {v : SticksTold} → v ≡ told_of d → Comes (of_sticks d m t) (short_bytes v.short) m v.sticks t
told_comes d m t {v} f = record {
  bytes = ap (λ (x : SticksTold). short_bytes x.short) f ∙ short_back (bytes d.packets);
  mouse = refl;
  sticks = ap (λ (x : SticksTold). x.sticks) f;
  clock = refl;
}

pub key_comes : (g : Given) (code : ℕ) (down : Bool) {r : Run short_room} → r ≡ short_of (bytes (key_packets g.core.settings code down)) →
    Comes (effect_on (Key code down) (state_of g)) (short_bytes r) g.core.mouse g.core.sticks g.core.clock
unfolding event
key_comes g code down f = record {
  bytes = ap short_bytes f ∙ short_back (bytes (key_packets g.core.settings code down));
  mouse = refl;
  sticks = refl;
  clock = refl;
}

-- what a button comes to: one that gives fire, and any other
pub fired_comes : (σ : Settings) (side : Side) (down : Bool) (m : Mouse) (n : Sticks) (t : Clock) {v : SticksTold} {x : Mouse} → gives_fire σ side down m ≡ true →
    v ≡ told_of (fired σ down n) → x ≡ with_level side down m → Comes (button σ side down m n t) (short_bytes v.short) x v.sticks t
unfolding button
fired_comes σ side down m n t g f e =
    let c = told_comes (fired σ down n) (with_level side down m) t f in
    rw g (record { bytes = c.bytes; mouse = e; sticks = c.sticks; clock = refl })

pub pressed_comes : (σ : Settings) (side : Side) (down : Bool) (m : Mouse) (n : Sticks) (t : Clock) {v : Pressed} → gives_fire σ side down m ≡ false →
    v ≡ pressed_of (presses σ side down m) →
    Comes (button σ side down m n t) (bytes (packets_sent v.sending) ++ short_bytes v.short) v.mouse n t
unfolding button
pressed_comes σ side down m n t g f =
    let d = presses σ side down m in
    rw g (record {
      bytes =
          ap (λ (x : Pressed). bytes (packets_sent x.sending) ++ short_bytes x.short) f
          ∙ ap (λ (l : List ℕ). bytes (packets_sent d.sending) ++ l) (short_back (bytes d.others))
          ∙ sym (bytes_append (packets_sent d.sending) d.others);
      mouse = ap (λ (x : Pressed). x.mouse) f;
      sticks = refl;
      clock = refl;
    })

-- motion goes alone
pub moved_comes : (p : Bool) (σ : Settings) (dx dy : ℤ) (m : Mouse) (n : Sticks) (t : Clock) {v : Moved} → v ≡ moved_of (moves p σ dx dy m) →
    Comes (of_mouse (moves p σ dx dy m) n t) (bytes (packets_sent v.sending)) v.mouse n t
moved_comes p σ dx dy m n t {v} f = record {
  bytes = ap (λ (x : Moved). bytes (packets_sent x.sending)) f ∙ ap bytes (sym (sent_due (moves p σ dx dy m) (moves_others p σ dx dy m)));
  mouse = ap (λ (x : Moved). x.mouse) f;
  sticks = refl;
  clock = refl;
}

-- what is sent of held motion is no longer than all that falls due
pub motion_fits : {bs : List ℕ} {e : Effect} {most : ℕ} {m : Mouse} {n : Sticks} {t : Clock} → Comes e bs m n t → length (bytes e.packets) ≤ most → length bs ≤ most
motion_fits a h = omega (arith, ap length a.bytes)

-- a queue of which the bytes that waited are 0 again is the empty one
pub empty_again : {k : ℕ} (g : Given) {q' : List ℕ} {n : ℕ} → q' ≡ over (replicate g.waiting 0) g.queue → n ≡ 0 → ◌≡◌ {A = Run k} (record { bytes = q'; len = n }) empty_queue
empty_again g e z =
    let b = e ∙ emptied g.queue g.waiting (queue_small (state_of g) g.good) g.good.spelling.queue in
    λ j. record { bytes = b j; len = z j }

-- A command that acts.
module _ (g : Given) (b : ℕ) (x : b ≤ 255) (got : Received) (read : Whole) (m : Meaning) (w : Completes (state_of g) b got read m) (does : executed m read.params g.core.settings ≡ true)
    (v : Moved) (a : Acted) (y : Acts (state_of g) read.params m v a) where
  own : IsShort a.short
  own = record { len = own_short m read.params (state_of g) v a y.moved y.done; room = own_room m read.params (state_of g) v a y.moved y.done }

  -- all that it sends: what waits, held motion and its own packet
  abbrev all_sent : List ℕ
  all_sent = take g.waiting g.queue ++ (bytes (packets_sent v.sending) ++ short_bytes a.short)

  own_length : length (bytes (packets_sent v.sending) ++ short_bytes a.short) ≡ length (bytes (packets_sent v.sending)) + a.short.len
  own_length = sym (both_length v.sending a.short refl own refl)

  total : length all_sent ≡ g.waiting + length (bytes (packets_sent v.sending)) + a.short.len
  total = omega (arith, all_length (bytes (packets_sent v.sending) ++ short_bytes a.short) g.waiting g.queue g.out (waits g), own_length)

  pub flush_lengths : IsShort a.short × ((length (bytes (packets_sent v.sending) ++ short_bytes a.short) ≤ most_due) × ((g.waiting ≤ queue_room) × (g.waiting ≤ length g.queue)))
  flush_lengths = (own, (omega (arith, own_length, own.len, (stage_lengths (state_of g) b got read m g.good w does v a y).0), (queue_small (state_of g) g.good, waits g)))

  pub flushed_as : (r : Result ℕ Refusal) {n : ℕ} {q' l' : List ℕ} (σ : Settings) → FlushedAs all_sent g.waiting g.queue g.out r n q' l' → is_ok r ≡ true → σ ≡ sets m read.params g.core.settings →
      Applies g (Byte b) (record {
        answer = r;
        waiting = n;
        core = record { settings = σ; command = got.command; paused = false; mouse = a.mouse; sticks = a.sticks; clock = a.clock; keys = g.core.keys };
      }) q' l'
  flushed_as r σ (kept lt er en eq el) t eσ = absurd (true≢false (sym t ∙ ap is_ok er))
  flushed_as r {n} {q'} σ (flushed fits er en eq el) t eσ =
      applied g (Byte b) x
      (acted_did (state_of g) b got read m g.good w does v a y σ (record { bytes = q'; len = n }) (omega (arith, total))
      (record { count = refl; buffer = el }) eσ (empty_again g eq en)
      (λ j. record {
        answer = er j;
        state = record { settings = σ; command = got.command; paused = false; queue = record { bytes = q'; len = n }; mouse = a.mouse; sticks = a.sticks; clock = a.clock; keys = g.core.keys };
      }))

  pub kept_as : (r : Result ℕ Refusal) {n : ℕ} {q' l' : List ℕ} → FlushedAs all_sent g.waiting g.queue g.out r n q' l' → is_ok r ≡ false →
      Applies g (Byte b) (record { answer = r; waiting = n; core = g.core }) q' l'
  kept_as r (kept lt er en eq el) t =
      applied g (Byte b) x
      (onto g (Byte b) el
      (acted_short_did (state_of g) b got read m g.good w does v a y (omega (arith, total))
      (λ j. record { answer = er j; state = joined g.core (eq j) (en j) })))
  kept_as r (flushed fits er en eq el) t = absurd (true≢false (sym (ap is_ok er) ∙ t))

-- the version and the break codes, as the code puts them together, are what a reset sends
module _ (g : Given) {v : Run short_room} (e : v ≡ short_of (0xF0 ∷ [])) where
  abbrev reset_bytes : List ℕ
  reset_bytes = short_bytes v ++ bytes (break_packets g.core.keys)

  reset_sent : reset_bytes ≡ bytes (reset_packets g.core.keys)
  reset_sent = ap (λ (x : Run short_room). short_bytes x ++ bytes (break_packets g.core.keys)) e ∙ ap (λ (x : List ℕ). x ++ bytes (break_packets g.core.keys)) (short_back (0xF0 ∷ []))

  pub reset_lengths : IsShort v × ((length reset_bytes ≤ most_due) × (g.waiting ≤ length g.queue))
  reset_lengths = (subst IsShort (sym e) (short_is (0xF0 ∷ []) (omega arith)), (omega (arith, ap length reset_sent, packets_length g.core.keys, held_most g.core.keys), waits g))

  pub reset_flushed : {r : Result ℕ Refusal} {n : ℕ} {q' l' : List ℕ} → FlushedAs reset_bytes g.waiting g.queue g.out r n q' l' →
      FlushedAs (bytes (reset_packets g.core.keys)) g.waiting g.queue g.out r n q' l'
  reset_flushed {r} {n} {q'} {l'} f = subst (λ (x : List ℕ). FlushedAs x g.waiting g.queue g.out r n q' l') reset_sent f

-- A reset.
module _ (g : Given) (b : ℕ) (x : b ≤ 255) (got : Received) (read : Whole) (m : Meaning) (w : Completes (state_of g) b got read m) (does : executed m read.params g.core.settings ≡ true)
    (p : m ≡ Reset) (r : Result ℕ Refusal) {n : ℕ} {q' l' : List ℕ} where
  pub reset_as : {k : Core} → FlushedAs (bytes (reset_packets g.core.keys)) g.waiting g.queue g.out r n q' l' → is_ok r ≡ true → k ≡ core_of (reset_but g.core.clock g.core.keys) →
      Applies g (Byte b) (record { answer = r; waiting = n; core = k }) q' l'
  reset_as (kept lt er en eq el) t ek = absurd (true≢false (sym t ∙ ap is_ok er))
  reset_as (flushed fits er en eq el) t ek =
      let empty = empty_again g eq en in
      applied g (Byte b) x
      (reset_did (state_of g) b got read m g.good w does p fits (record { count = refl; buffer = el })
      (λ j. record {
        answer = er j;
        state = record {
          settings = (ek j).settings;
          command = (ek j).command;
          paused = (ek j).paused;
          queue = empty j;
          mouse = (ek j).mouse;
          sticks = (ek j).sticks;
          clock = (ek j).clock;
          keys = (ek j).keys;
        };
      }))

  pub reset_kept_as : FlushedAs (bytes (reset_packets g.core.keys)) g.waiting g.queue g.out r n q' l' → is_ok r ≡ false →
      Applies g (Byte b) (record { answer = r; waiting = n; core = g.core }) q' l'
  reset_kept_as (kept lt er en eq el) t =
      applied g (Byte b) x
      (onto g (Byte b) el
      (reset_short_did (state_of g) b got read m g.good w does p lt
      (λ j. record { answer = er j; state = joined g.core (eq j) (en j) })))
  reset_kept_as (flushed fits er en eq el) t = absurd (true≢false (sym (ap is_ok er) ∙ t))

-- the step: the state was taken apart before, and is put together again
pub stepped_as : (s : State) (i : Input) {k : Core} {l : List ℕ} {r : Applied} {q' l' : List ℕ} {t : State} → k ≡ core_of s →
    AppliedAs k i s.queue.len s.queue.bytes l r q' l' → t ≡ joined r.core q' r.waiting →
    Did s i l (record { answer = r.answer; state = t }) l' × IsState t
stepped_as s i {l = l} {r} {q'} {l'} ek a et = (
  subst (λ (z : State). Did s i l (record { answer = r.answer; state = z }) l') (sym et)
      (subst (λ (x : Core). Did (joined x s.queue.bytes s.queue.len) i l (stepped_of r q') l') ek a.did),
  subst IsState (sym et) a.keeps,
)
