-- Writing and reading undo each other: the theorems of specs/Promises.
-- Assumes nothing.
use Prim.Native.Nat.{ℕ, zero, suc, ◌+◌, ◌-◌, ◌*◌, ◌≤◌, ◌<◌}
use native.Mathlib.Omega.{arith}
use mathlib.Core.Path.{◌≡◌, refl, sym, ap, ◌∙◌, subst}
use mathlib.Core.Bool.{Bool, true, false, cond}
use mathlib.Core.List.{List, [], ◌∷◌, ◌++◌, append_assoc}
use Rattle.std.proofs.lemmas.Slice.Eq.{bytes_eq-Decides}
use Rattle.std.specs.Prelude.{Option, None, Some, Ok, Err, bytes_eq}
use lib.Dec.{eqb, leb}
use lib.ListN.{length, take, drop, replicate, get_or, length-append, length-replicate, length-take, take-append-drop}
use lib.Seq.{take_all, take-append_seam, drop-append_seam, length-take-le}
use borrow.Author.Tests.{leb-true, le-leb}
use Rattle.output.specs.Writing.{over}
use Rattle.output.proofs.Cases.{and_true, both_ways}
use Rattle.protocol.specs.Reading.{AllBytes}
use Rattle.output.specs.declared.Run.{Run}
use Rattle.controller.specs.declared.State.{State}
use Rattle.controller.specs.State.{IsState, power_up, IsQueue, OneQueue, contents, queue_of, queue_room}
use Rattle.text.specs.Line.{tab, line_feed}
use Rattle.text.specs.Output.{shown}
use Rattle.fields.specs.Ranges.{numbered, at, all_fit}
use Rattle.fields.specs.Numbers.{settings_numbers, pointer_numbers, sticks_numbers, clock_numbers, command_numbers, numbers}
use Rattle.fields.specs.States.{state_from}
use Rattle.fields.proofs.Back.{back, flag_back}
use Rattle.fields.proofs.There.{there}
use Rattle.fields.proofs.Within.{within}
use Rattle.fields.proofs.Ranged.{ranged}
use Rattle.saved.specs.Digits.{map_text, map_of, has_map, map_from}
use Rattle.saved.specs.Line.{signed, field_text, fields_text, line_of, InTypes}
use Rattle.saved.specs.Load.{then, read_numbers, read_queue, map_width, has_queue, load_with, load}
use Rattle.saved.specs.Answers.{too_short, no_state, SavedAs, load_number, loaded, field_width}
use Rattle.saved.specs.Promises.{Such, ReadsBack, WritesBack, NoneWrites, Refused, OneState, RoomForAll, CallsUndo}
use Rattle.saved.proofs.Digits.{map_back, map_there, map_passes, map_length, map_is}
use Rattle.saved.proofs.Reading.{Sized, absurd_none, some_same, then_some, cond_some, numbers_back, numbers_there, queue_back, queue_bytes}
use Rattle.saved.proofs.Sizes.{sized}
use Rattle.saved.proofs.Putting.{field_short, short_queue, shown_room}

-- ---- the queue

queue_same : (paused : Bool) (q : Run queue_room) → IsQueue paused q → OneQueue q → queue_of (contents q) ≡ q
unfolding queue_of
queue_same paused q i o =
    let short : q.len ≤ queue_room = both_ways (λ (n : ℕ). q.len ≤ n → q.len ≤ queue_room) paused (λ _ h. h) (λ _ h. omega arith) i.filled in
    let n : length (contents q) ≡ q.len = length-take-le q.len q.bytes (omega (arith, short, i.room)) in
    let b : contents q ++ replicate (queue_room - q.len) 0 ≡ q.bytes = ap (λ (l : List ℕ). contents q ++ l) (sym o) ∙ take-append-drop q.len q.bytes in
    rw (n, b)

module _ (bs : List ℕ) (h : length bs ≤ queue_room) where
  pub made_contents : contents (queue_of {n = queue_room} bs) ≡ bs
  unfolding queue_of
  made_contents = take-append_seam bs (replicate (queue_room - length bs) 0)

  pub made_one : OneQueue (queue_of {n = queue_room} bs)
  unfolding queue_of
  made_one = drop-append_seam bs (replicate (queue_room - length bs) 0)

  pub made_is : (paused : Bool) → length bs ≤ cond paused queue_room 0 → IsQueue paused (queue_of {n = queue_room} bs)
  unfolding queue_of
  made_is paused l = record { room = length-append bs (replicate (queue_room - length bs) 0) ∙ ap (λ (n : ℕ). length bs + n) (length-replicate (queue_room - length bs) 0) ∙ omega arith; filled = l }

  made_count : (queue_of {n = queue_room} bs).len ≡ length bs
  unfolding queue_of
  made_count = refl

-- a queue within both rooms
within_both : (paused : Bool) (room n : ℕ) → n ≤ queue_room → n ≤ cond paused room 0 → (n ≤ cond paused queue_room 0) × (n ≤ room)
within_both true room n q r = (q, r)
within_both false room n q r = (r, omega arith)

-- ---- what is read is a state that writes the line

take_bytes : (n : ℕ) (bs : List ℕ) → AllBytes bs → AllBytes (take n bs)
take_bytes zero bs h = tt
take_bytes (suc n) [] h = tt
take_bytes (suc n) (b ∷ bs) h = (h.0, take_bytes n bs h.1)

module _ (room : ℕ) (l a left : List ℕ) (n : length a ≡ numbered) (spelt : l ≡ fields_text 0 a ++ left) (f : all_fit a ≡ true) (m : has_map left ≡ true) where
  abbrev tail : List ℕ
  tail = drop map_width left

  abbrev queued : List ℕ
  queued = take queue_room (read_queue tail)

  short_queued : length queued ≤ queue_room
  short_queued = omega (arith, length-take queue_room (read_queue tail))

  abbrev made : State
  made = state_from a (map_of left) (queue_of queued)

  made_such : length queued ≤ cond (eqb (at 23 a) 1) room 0 → Such room made
  unfolding state_from
  made_such q =
      let w = within_both (eqb (at 23 a) 1) room (length queued) short_queued q in
      record {
        state = ranged a f n (map_of left) (queue_of queued) (map_is left m) (made_is queued short_queued (eqb (at 23 a) 1) w.0) (made_one queued short_queued);
        types = rw (made_contents queued short_queued) (take_bytes queue_room (read_queue tail) (queue_bytes tail));
        queue = rw (made_count queued short_queued) w.1;
      }

  made_line : bytes_eq (shown queued ++ (line_feed ∷ [])) tail ≡ true → line_of made ≡ l
  unfolding line_of state_from
  made_line q =
      let s = (bytes_eq-Decides (shown queued ++ (line_feed ∷ [])) tail).0 q in
      let e : left ≡ map_text (map_of left) ++ (tab ∷ (shown queued ++ (line_feed ∷ []))) = map_there left m ∙ ap (λ (t : List ℕ). map_text (map_of left) ++ (tab ∷ t)) (sym s) in
      rw (there a f n (map_of left) (queue_of queued), made_contents queued short_queued) (ap (λ (t : List ℕ). fields_text 0 a ++ t) (sym e) ∙ sym spelt)

  exact_with : (s : State) → load_with room a (map_of left) tail ≡ Some s → Such room s × (line_of s ≡ l)
  unfolding load_with has_queue
  exact_with s e =
      let u = cond_some (has_queue room a queued tail) (Some made) s e in
      let q = and_true (leb (length queued) (cond (eqb (at 23 a) 1) room 0)) (bytes_eq (shown queued ++ (line_feed ∷ [])) tail) u.0 in
      let z : made ≡ s = some_same u.1 in
      subst (λ (x : State). Such room x × (line_of x ≡ l)) z (made_such (leb-true (length queued) (cond (eqb (at 23 a) 1) room 0) q.0), made_line q.1)

pub writes_back : WritesBack
unfolding load map_from
writes_back room l s e =
    let u = then_some (read_numbers numbered 0 l) (λ r. cond (all_fit r.0) (then (map_from r.1) (λ m. load_with room r.0 m (drop map_width r.1))) None) s e in
    let r = u.0 in
    let t = numbers_there numbered 0 l r u.1 in
    let f = cond_some (all_fit r.0) (then (map_from r.1) (λ m. load_with room r.0 m (drop map_width r.1))) s u.2 in
    let g = then_some (map_from r.1) (λ m. load_with room r.0 m (drop map_width r.1)) s f.1 in
    let h = cond_some (has_map r.1) (Some (map_of r.1)) g.0 g.1 in
    let z = some_same h.1 in
    exact_with room l r.0 r.1 t.count t.spelling f.0 h.0 s (rw z g.2)

-- ---- what is written is read as the state

module _ (s : State) (i : IsState s) where
  count : length (numbers s) ≡ numbered
  unfolding numbers settings_numbers pointer_numbers sticks_numbers clock_numbers command_numbers
  count = refl

  paused_as : eqb (get_or (numbers s) 22 0) 1 ≡ s.paused
  unfolding numbers settings_numbers pointer_numbers
  paused_as = flag_back s.paused

  abbrev end : List ℕ
  end = shown (contents s.queue) ++ (line_feed ∷ [])

  abbrev rest : List ℕ
  rest = map_text s.keys ++ (tab ∷ end)

  read_again : read_numbers numbered 0 (line_of s) ≡ Some (numbers s, rest)
  unfolding line_of
  read_again = subst (λ (n : ℕ). read_numbers n 0 (line_of s) ≡ Some (numbers s, rest)) count (numbers_back 0 (numbers s) rest (sized s i))

  -- past the map and its tab
  past_map : drop map_width rest ≡ end
  past_map =
      let m = map_text s.keys ++ (tab ∷ []) in
      let e : map_width ≡ length m = omega (arith, length-append (map_text s.keys) (tab ∷ []), map_length s.keys) in
      ap (λ (n : ℕ). drop n rest) e ∙ ap (drop (length m)) (sym (append_assoc (map_text s.keys) (tab ∷ []) end)) ∙ drop-append_seam m end

  few : (room : ℕ) → s.queue.len ≤ room → length (contents s.queue) ≤ cond s.paused room 0
  few room h =
      let q = i.ranges.queue in
      let n : length (contents s.queue) ≤ s.queue.len = omega (arith, length-take s.queue.len s.queue.bytes) in
      both_ways (λ (m : ℕ). s.queue.len ≤ cond s.paused queue_room 0 → length (contents s.queue) ≤ m) s.paused (λ _ f. omega arith) (λ e f. let z : s.queue.len ≤ 0 = subst (λ (p : Bool). s.queue.len ≤ cond p queue_room 0) e f in omega arith) q.filled

  short : length (contents s.queue) ≤ queue_room
  short = let q = i.ranges.queue in omega (arith, length-take s.queue.len s.queue.bytes, q.room)

  loads : (room : ℕ) → InTypes s → s.queue.len ≤ room → load room (line_of s) ≡ Some s
  unfolding load load_with has_queue map_from
  loads room t h =
      let q = s.queue in
      let bs = contents q in
      let e : take queue_room (read_queue end) ≡ bs = ap (take queue_room) (queue_back bs t) ∙ take_all queue_room bs short in
      let same_state : state_from (numbers s) s.keys (queue_of bs) ≡ s = ap (state_from (numbers s) s.keys) (queue_same s.paused q i.ranges.queue i.spelling.queue) ∙ back s i in
      let fits : leb (length bs) (cond s.paused room 0) ≡ true = le-leb (length bs) (cond s.paused room 0) (few room h) in
      rw (read_again, within s i, map_passes s.keys end, past_map, e, map_back s.keys (tab ∷ end) i.ranges.keys, same_state, paused_as, fits, (bytes_eq-Decides end end).1 refl) refl

pub reads_back : ReadsBack
reads_back room s h = loads s h.state room h.types h.queue

pub refused : Refused
refused room l = record { only_then = then_none (load room l) refl; always_then = none_then (load room l) refl }
  where
    then_none : (o : Option State) → load room l ≡ o → load_number (loaded o).answer ≡ 5 → NoneWrites room l
    then_none None e n s h f = absurd_none (sym e ∙ ap (load room) (sym f) ∙ reads_back room s h)
    then_none (Some t) e n s h f = absurd (omega arith)

    none_then : (o : Option State) → load room l ≡ o → NoneWrites room l → loaded o ≡ record { state = power_up; answer = Err no_state }
    none_then None e n = refl
    none_then (Some s) e n = let w = writes_back room l s e in absurd (n s w.0 w.1)

pub one_state : OneState
one_state s t p q e =
    let a : Some s ≡ Some t = sym (reads_back queue_room s p) ∙ ap (load queue_room) e ∙ reads_back queue_room t q in
    cc

-- what a write that was taken left in the buffer is the line
pub line_left : (line before after : List ℕ) (n : ℕ) → SavedAs line before (Ok n) after → take n after ≡ line
unfolding over
line_left line before after n w = go (leb (length line) (length before)) w.result w.buffer
  where
    go : (t : Bool) → Ok n ≡ cond t (Ok (length line)) (Err too_short) → after ≡ cond t (over line before) before → take n after ≡ line
    go true p q = let e : n ≡ length line = cc in rw (e, q) (take-append_seam line (drop (length line) before))
    go false p q = absurd cc

pub calls_undo : CallsUndo
calls_undo s before after n h w = ap (load queue_room) (line_left (line_of s) before after n w) ∙ reads_back queue_room s h

-- ---- how long a line is

fields_short : (i : ℕ) (a : List ℕ) → Sized i a → length (fields_text i a) ≤ field_width * length a
unfolding fields_text
fields_short i [] z = omega arith
fields_short i (x ∷ a) z =
    let small : x < 65536 = both_ways (λ (n : ℕ). x ≤ n → x < 65536) (signed i) (λ _ h. omega arith) (λ _ h. omega arith) z.0 in
    omega (arith, field_short i x small, fields_short (suc i) a z.1, length-append (field_text i x) (tab ∷ fields_text (suc i) a))

pub room_for_all : RoomForAll
unfolding line_of
room_for_all s i =
    let q = short_queue s i in
    let m = map_text s.keys in
    let t = shown (contents s.queue) in
    omega (
      arith,
      fields_short 0 (numbers s) (sized s i),
      count s i,
      map_length s.keys,
      shown_room s.queue q.0 q.1,
      length-append (fields_text 0 (numbers s)) (m ++ (tab ∷ (t ++ (line_feed ∷ [])))),
      length-append m (tab ∷ (t ++ (line_feed ∷ []))),
      length-append t (line_feed ∷ []),
    )
