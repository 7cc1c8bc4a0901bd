-- What a writer of `send` has to show of the bytes that it was given, at each of its returns.
-- Assumes nothing.
use Prim.Native.Nat.{ℕ, ◌+◌, ◌-◌, ◌≤◌, ◌<◌}
use native.Mathlib.Nat.{add-zero}
use native.Mathlib.Omega.{arith}
use mathlib.Core.Path.{◌≡◌, refl, sym, ap, ◌∙◌}
use mathlib.Core.Bool.{Bool, true, false}
use mathlib.Core.List.{[], List, ◌∷◌, ◌++◌}
use lib.ListN.{length, take, drop, replicate, length-append, length-replicate, replicate-append-replicate, take-append-drop}
use lib.Seq.{length-take-le}
use Rattle.output.specs.declared.Run.{Run}
use Rattle.output.specs.Short.{short_bytes, IsShort, short_room}
use Rattle.output.specs.Packets.{bytes}
use Rattle.mouse.specs.declared.Sending.{Sending}
use Rattle.mouse.specs.Sending.{packets_sent}
use Rattle.output.specs.Writing.{over, Wrote}
use Rattle.output.proofs.Writing.{both, length_over}
use Rattle.controller.specs.declared.Refusal.{Refusal}
use Rattle.controller.specs.declared.Refusal.TheVariants.{BufferShort}
use Rattle.controller.specs.State.{queue_room}
use Rattle.std.specs.Prelude.{Result, Ok, Err}
use Rattle.controller.specs.Applying.{SentAs, queued, sent, FlushedAs, kept, flushed}

-- no bytes: they go, and change nothing
nothing : (p : Bool) (bs : List ℕ) (n : ℕ) (q l : List ℕ) → length bs ≡ 0 → n ≤ length q → SentAs p bs n q l (Ok 0) n q l
unfolding over
nothing true [] n q l e h = queued refl (omega arith) refl (sym (add-zero n)) (sym (take-append-drop n q)) refl
nothing false [] n q l e h = sent refl (omega arith) refl refl refl refl
nothing p (x ∷ bs) n q l e h = absurd (omega arith)

-- as many bytes are due as the code counts
pub none_due : {p : Bool} {bs : List ℕ} {n : ℕ} {q l : List ℕ} {d : ℕ} → d ≡ length bs → n ≤ length q → d ≡ 0 → SentAs p bs n q l (Ok 0) n q l
none_due {p} {bs} {n} {q} {l} e room z = nothing p bs n q l (omega arith) room

-- a queue whose bytes are 0 again is empty
pub emptied : (q : List ℕ) (n : ℕ) → n ≤ queue_room → drop n q ≡ replicate (queue_room - n) 0 → over (replicate n 0) q ≡ replicate queue_room 0
unfolding over
emptied q at h e =
    let z : at + (queue_room - at) ≡ queue_room = omega arith in
    ap (λ (n : ℕ). replicate at 0 ++ drop n q) (length-replicate at 0)
    ∙ ap (λ (x : List ℕ). replicate at 0 ++ x) e
    ∙ replicate-append-replicate at (queue_room - at) 0
    ∙ ap (λ (n : ℕ). replicate n 0) z

-- the length of a short run, as the code counts it
pub short_length : (r : Run short_room) → IsShort r → r.len ≡ length (short_bytes r)
short_length r h = sym (length-take-le r.len r.bytes (omega (arith, h.len, h.room)))

pub both_length : (d : Sending) (r : Run short_room) {n m : ℕ} → n ≡ length (bytes (packets_sent d)) → IsShort r → m ≡ n + r.len → m ≡ length (bytes (packets_sent d) ++ short_bytes r)
both_length d r e h f = omega (arith, length-append (bytes (packets_sent d)) (short_bytes r), short_length r h)

-- the buffer keeps its length
pub flushed_length : {bs : List ℕ} {n : ℕ} {q l : List ℕ} {r : Result ℕ Refusal} {n' : ℕ} {q' l' : List ℕ} → FlushedAs bs n q l r n' q' l' → length l' ≡ length l
flushed_length (kept lt es en eq el) = ap length el
flushed_length {bs} {l = l} (flushed fits es en eq el) = ap length el ∙ length_over bs l fits

-- What waits, and then bytes that fall due, into the buffer.
module _ (bs : List ℕ) (n : ℕ) (q l : List ℕ) (room : n ≤ length q) where
  pub all_length : length (take n q ++ bs) ≡ n + length bs
  all_length = omega (arith, length-append (take n q) bs, length-take-le n q room)

  pub flush_short : length l < n + length bs → FlushedAs (take n q ++ bs) n q l (Err BufferShort) n q l
  flush_short t = kept (omega (arith, all_length)) refl refl refl refl

  pub flush_done : {a m : ℕ} {X Y q' : List ℕ} → n + length bs ≤ length l → Wrote (take n q) a l X →
      Wrote bs m (take (length X - a) (drop a X)) Y → q' ≡ over (replicate n 0) q →
      FlushedAs (take n q ++ bs) n q l (Ok (a + m)) 0 q' (take a X ++ (Y ++ drop (length X - a) (drop a X)))
  flush_done fits wa wm f =
      let w = both wa wm in
      flushed (omega (arith, all_length)) (ap Ok w.count) refl f w.buffer
