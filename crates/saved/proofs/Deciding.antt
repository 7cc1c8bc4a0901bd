-- What the code decides of a line is what its definition says.
-- Assumes nothing.
use Prim.Native.Nat.{ℕ, ◌≤◌, ◌<◌}
use native.Mathlib.Omega.{arith}
use mathlib.Core.Path.{◌≡◌, refl, sym, ap, ◌∙◌}
use mathlib.Core.Bool.{Bool, true, false, cond}
use mathlib.Core.List.{List, [], ◌∷◌, ◌++◌}
use Rattle.std.specs.Prelude.{Option, None, Some, bytes_eq, option_map}
use lib.Dec.{eqb, leb}
use lib.ListN.{length, take, drop, get_or, length-take}
use borrow.Author.Tests.{le-leb, lt-leb}
use Rattle.keys.specs.declared.Keys.{Keys}
use Rattle.output.specs.declared.Run.{Run}
use Rattle.controller.specs.declared.State.{State}
use Rattle.controller.specs.State.{IsState, power_up, contents, queue_room, queue_of}
use Rattle.text.specs.Line.{line_feed}
use Rattle.text.specs.Output.{shown}
use Rattle.fields.specs.Ranges.{numbered, all_fit}
use Rattle.fields.specs.States.{state_from}
use Rattle.controller.proofs.States.{power_up_is_state}
use Rattle.saved.specs.declared.Loaded.{Loaded}
use Rattle.saved.specs.Digits.{map_from}
use Rattle.saved.specs.Load.{then, read_numbers, read_queue, map_width, has_queue, load_with, load, is_minus}
use Rattle.saved.specs.Answers.{loaded, begun}
use Rattle.saved.proofs.Promises.{made_is, made_contents, writes_back}

-- what is handed back is a state
pub loaded_is : (l : List ℕ) (r : Loaded) → r ≡ loaded (load queue_room l) → IsState r.state
loaded_is l r e = rw e (go (load queue_room l) refl)
  where
    go : (o : Option State) → load queue_room l ≡ o → IsState (loaded o).state
    go None e = power_up_is_state
    go (Some s) e = (writes_back queue_room l s e).0.state

-- no number, or one that is not well written
pub no_numbers : (l : List ℕ) → None ≡ read_numbers numbered 0 l → None ≡ load queue_room l
unfolding load
no_numbers l e = rw (← e) refl

module _ (l a rest : List ℕ) (n : Some (a, rest) ≡ read_numbers numbered 0 l) where
  load_as : load queue_room l ≡ cond (all_fit a) (then (map_from rest) (λ k. load_with queue_room a k (drop map_width rest))) None
  unfolding load
  load_as = rw (← n) refl

  -- some number does not fit
  pub unfit : all_fit a ≡ false → None ≡ load queue_room l
  unfit f = sym (load_as ∙ rw f refl)

  module _ (f : all_fit a ≡ true) where
    -- there is no map
    pub no_map : None ≡ option_map {U = Keys × List ℕ} (λ (m : Keys). (m, drop map_width rest)) (map_from rest) → None ≡ load queue_room l
    no_map e = sym (load_as ∙ rw f (go (map_from rest) e))
      where
        go : (o : Option Keys) → None ≡ option_map {U = Keys × List ℕ} (λ (m : Keys). (m, drop map_width rest)) o → then o (λ k. load_with queue_room a k (drop map_width rest)) ≡ None
        go None e = refl
        go (Some k) e = absurd cc

    module _ (keys : Keys) (tail : List ℕ) (m : Some (keys, tail) ≡ option_map {U = Keys × List ℕ} (λ (k : Keys). (k, drop map_width rest)) (map_from rest)) where
      load_map : load queue_room l ≡ load_with queue_room a keys tail
      load_map = load_as ∙ rw f (go (map_from rest) m)
        where
          go : (o : Option Keys) → Some (keys, tail) ≡ option_map {U = Keys × List ℕ} (λ (k : Keys). (k, drop map_width rest)) o → then o (λ k. load_with queue_room a k (drop map_width rest)) ≡ load_with queue_room a keys tail
          go None e = absurd cc
          go (Some k) e =
              let p : ◌≡◌ {A = Keys × List ℕ} (keys, tail) (k, drop map_width rest) = cc in
              sym (ap (λ (x : Keys × List ℕ). load_with queue_room a x.0 x.1) p)

      abbrev queued : List ℕ
      queued = take queue_room (read_queue tail)

      module _ (q : Run queue_room) (c : q ≡ queue_of queued) (most : ℕ) (b : most ≡ cond (eqb (get_or a 22 0) 1) queue_room 0) where
        load_queue : load queue_room l ≡ cond (has_queue queue_room a queued tail) (Some (state_from a keys q)) None
        unfolding load_with
        load_queue = load_map ∙ rw c refl

        long_as : q.len ≡ length queued
        unfolding queue_of
        long_as = ap (λ (x : Run queue_room). x.len) c

        short : length queued ≤ queue_room
        short = omega (arith, length-take queue_room (read_queue tail))

        -- too many bytes are queued
        pub too_long : most < q.len → None ≡ load queue_room l
        unfolding has_queue
        too_long h =
            let z : leb (length queued) (cond (eqb (get_or a 22 0) 1) queue_room 0) ≡ false = lt-leb (length queued) (cond (eqb (get_or a 22 0) 1) queue_room 0) (omega (arith, long_as, b)) in
            sym (load_queue ∙ rw z refl)

        -- what the comparison of its text asks of a queue
        pub queue_good : (q.len ≤ queue_room) × (length q.bytes ≡ queue_room)
        queue_good = (omega (arith, long_as, short), ap (λ (x : Run queue_room). length x.bytes) c ∙ (made_is queued short true short).room)

        module _ (h : q.len ≤ most) (r : Bool) (d : r ≡ bytes_eq (shown (contents q) ++ (line_feed ∷ [])) tail) where
          queue_as : has_queue queue_room a queued tail ≡ r
          unfolding has_queue
          queue_as =
              let z : leb (length queued) (cond (eqb (get_or a 22 0) 1) queue_room 0) ≡ true = le-leb (length queued) (cond (eqb (get_or a 22 0) 1) queue_room 0) (omega (arith, long_as, b)) in
              let t : contents q ≡ queued = ap contents c ∙ made_contents queued short in
              rw z (ap (λ (x : List ℕ). bytes_eq (shown x ++ (line_feed ∷ [])) tail) (sym t) ∙ sym d)

          -- the line ends otherwise
          pub other_end : r ≡ false → None ≡ load queue_room l
          other_end z = sym (load_queue ∙ rw (queue_as, z) refl)

          pub this_line : r ≡ true → Some (state_from a keys q) ≡ load queue_room l
          this_line z = sym (load_queue ∙ rw (queue_as, z) refl)

-- ---- a minus, or a line

pub begun_minus : (l : List ℕ) (r : Loaded) → r ≡ loaded (Some power_up) → is_minus l ≡ true → (r ≡ begun l) × IsState r.state
unfolding begun
begun_minus l r e m = (e ∙ rw m refl, rw e power_up_is_state)

pub begun_line : (l : List ℕ) (r : Loaded) → is_minus l ≡ false → r ≡ loaded (load queue_room l) → r ≡ begun l
unfolding begun
begun_line l r e k = k ∙ rw e refl
