-- Laws of writing a line: its fields, the loop over them, and the whole.
-- Assumes nothing.
use Prim.Native.Nat.{ℕ, zero, suc, ◌+◌, ◌-◌, ◌*◌, ◌/◌, ◌%◌, ◌^◌, ◌≤◌, ◌<◌}
use native.Mathlib.Omega.{arith}
use native.Mathlib.Numerals.{add-one}
use native.Mathlib.Nat.{pow-succ', add-zero, zero-add}
use native.Mathlib.Decide.{dec_lt}
use mathlib.Core.Path.{◌≡◌, refl, sym, ap, ◌∙◌, subst}
use mathlib.Core.Bool.{Bool, true, false, cond}
use mathlib.Core.List.{List, [], ◌∷◌, ◌++◌, append_assoc}
use lib.Dec.{leb}
use lib.ListN.{length, take, drop, get_or, set, length-append}
use lib.Seq.{take_all, take-append_seam, length-take-le}
use borrow.Author.Tests.{lt-ltb, le-ltb, le-leb}
use Rattle.output.specs.Writing.{over, Wrote}
use Rattle.output.proofs.Cases.{both_ways}
use Rattle.output.proofs.Writing.{both, kept, none, stored}
use Rattle.output.specs.declared.Run.{Run}
use Rattle.controller.specs.declared.State.{State}
use Rattle.controller.specs.State.{IsState, contents, queue_room}
use Rattle.fields.specs.Ranges.{numbered, held_zero}
use Rattle.fields.specs.Numbers.{numbers}
use Rattle.text.specs.Line.{tab, minus, line_feed}
use Rattle.text.specs.Output.{figure, decimal, shown}
use Rattle.text.proofs.Counting.{one_figure, decimal_ten}
use Rattle.text.proofs.Shown.{shown_one, shown_two}
use Rattle.saved.specs.Digits.{map_text}
use Rattle.saved.specs.Line.{signed, motion_text, field_text, fields_text, line_of}
use Rattle.std.specs.Prelude.{Ok}
use Rattle.saved.specs.Answers.{SavedAs, field_width}

-- what was written stands at the front
pub front : {line : List ℕ} {n : ℕ} {l X : List ℕ} → Wrote line n l X → take n X ≡ line
unfolding over
front {line} {n} {l} {X} w = ap (λ (m : ℕ). take m X) w.count ∙ ap (take (length line)) w.buffer ∙ take-append_seam line (drop (length line) l)

pub one_digit : (x : ℕ) (l : List ℕ) → x < 10 → 1 ≤ length l → Wrote (decimal x) 1 l (set l 0 (figure x))
one_digit x l h r = rw (one_figure x x h) (stored (figure x) l r)

pub minus_stored : (l : List ℕ) → 1 ≤ length l → Wrote (minus ∷ []) 1 l (set l 0 minus)
minus_stored l r = stored minus l r

pub decimal_short : (k n : ℕ) → n < 10 ^ suc k → length (decimal n) ≤ suc k
decimal_short zero n h = rw (one_figure n n (omega arith)) (omega arith)
decimal_short (suc k) n h =
    elim (dec_lt n 10) [
      | yes l ↦ rw (one_figure n n l) (omega arith)
      | no l ↦
          let p = pow-succ' 10 (suc k) in
          let d = decimal_short k (n / 10) (omega arith) in
          rw (decimal_ten n (omega arith)) (omega (arith, d, length-append (decimal (n / 10)) (figure (n % 10) ∷ [])))
    ]

motion_short : (x : ℕ) → x < 65536 → length (motion_text x) ≤ 5
unfolding motion_text
motion_short x h =
    elim (dec_lt x held_zero) [
      | yes l ↦ rw (lt-ltb x held_zero l) (omega (arith, decimal_short 3 (held_zero - x) (omega arith)))
      | no l ↦ rw (le-ltb x held_zero (omega arith)) (decimal_short 4 (x - held_zero) (omega arith))
    ]

pub field_short : (i x : ℕ) → x < 65536 → length (field_text i x) ≤ 5
unfolding field_text
field_short i x h = go (signed i)
  where
    go : (t : Bool) → length (cond t (motion_text x) (decimal x)) ≤ 5
    go true = motion_short x h
    go false = decimal_short 4 x (omega arith)

module _ {n : ℕ} {l X : List ℕ} (x : ℕ) where
  pub motion_below : x < held_zero → Wrote (minus ∷ decimal (held_zero - x)) n l X → Wrote (motion_text x) n l X
  unfolding motion_text
  motion_below h w = rw (lt-ltb x held_zero h) w

-- ---- the loop over the fields

fields_more : (j i : ℕ) (b : List ℕ) → i < length b → fields_text j (take (suc i) b) ≡ fields_text j (take i b) ++ (field_text (j + i) (get_or b i 0) ++ (tab ∷ []))
unfolding fields_text
fields_more j i [] h = absurd (omega arith)
fields_more j zero (x ∷ b) h = ap (λ (n : ℕ). field_text n x ++ (tab ∷ [])) (sym (add-zero j))
fields_more j (suc i) (x ∷ b) h =
    let e : suc j + i ≡ j + suc i = omega arith in
    let v = get_or b i 0 in
    let rest = fields_text (suc j) (take i b) in
    ap (λ (t : List ℕ). field_text j x ++ (tab ∷ t)) (fields_more (suc j) i b (omega arith) ∙ ap (λ (n : ℕ). rest ++ (field_text n v ++ (tab ∷ []))) e)
    ∙ sym (append_assoc (field_text j x) (tab ∷ rest) (field_text (j + suc i) v ++ (tab ∷ [])))

pub record Filling (a l X : List ℕ) (i at : ℕ) : Type 0 where
  pub inside : i ≤ numbered
  pub room : at ≤ field_width * i
  pub same : length X ≡ length l
  pub wrote : Wrote (fields_text 0 (take i a)) at l X

module _ (a l : List ℕ) (h : field_width * numbered ≤ length l) where
  pub filling_start : Filling a l l 0 0
  unfolding fields_text
  filling_start = record { inside = omega arith; room = omega arith; same = refl; wrote = none l }

  module _ {X Y : List ℕ} {i at k : ℕ} (f : Filling a l X i at) where
    pub filling_on : length a ≡ numbered → i < numbered → k ≤ field_width → Wrote (field_text i (get_or a i 0) ++ (tab ∷ [])) k (take (length X - at) (drop at X)) Y
        → Filling a l (take at X ++ (Y ++ drop (length X - at) (drop at X))) (i + 1) (at + k)
    filling_on n b s w =
        let e : fields_text 0 (take (i + 1) a) ≡ fields_text 0 (take i a) ++ (field_text i (get_or a i 0) ++ (tab ∷ [])) =
        ap (λ (m : ℕ). fields_text 0 (take m a)) (add-one i) ∙ fields_more 0 i a (omega arith) ∙ ap (λ (m : ℕ). fields_text 0 (take i a) ++ (field_text m (get_or a i 0) ++ (tab ∷ []))) (zero-add i)
        in
        let v = both f.wrote w in
        record {
          inside = omega arith;
          room = omega (arith, f.room);
          same = kept v (omega (arith, f.room));
          wrote = rw e v;
        }

  module _ {X : List ℕ} {i at : ℕ} (f : Filling a l X i at) where
    pub filling_end : length a ≡ numbered → numbered ≤ i → Wrote (fields_text 0 a) at l X
    filling_end n b = subst (λ (t : List ℕ). Wrote (fields_text 0 t) at l X) (take_all i a (omega arith)) f.wrote

-- ---- the queue and the whole line

pub short_queue : (s : State) → IsState s → (s.queue.len ≤ queue_room) × (length s.queue.bytes ≡ queue_room)
short_queue s i = (both_ways (λ (n : ℕ). s.queue.len ≤ n → s.queue.len ≤ queue_room) s.paused (λ _ h. h) (λ _ h. omega arith) i.ranges.queue.filled, i.ranges.queue.room)

-- the bytes of a queue have two digits each, or it is a minus
pub shown_room : (q : Run queue_room) → q.len ≤ queue_room → length q.bytes ≡ queue_room → length (shown (contents q)) ≤ 2 * queue_room
shown_room q h e =
    let n : length (contents q) ≡ q.len = length-take-le q.len q.bytes (omega (arith, h, e)) in
    elim (dec_lt 0 q.len) [
      | yes some ↦ omega (arith, h, n, shown_two (contents q) (λ z. omega (arith, n)))
      | no some ↦ omega (arith, shown_one (contents q) (omega (arith, n)))
    ]

pub line_whole : (s : State) (a : List ℕ) {n : ℕ} {l X : List ℕ} → a ≡ numbers s
    → Wrote ((fields_text 0 a ++ (map_text s.keys ++ (tab ∷ []))) ++ (shown (contents s.queue) ++ (line_feed ∷ []))) n l X → Wrote (line_of s) n l X
unfolding line_of
line_whole s a {n} {l} {X} e w =
    let m = map_text s.keys in
    let tail = shown (contents s.queue) ++ (line_feed ∷ []) in
    subst (λ (t : List ℕ). Wrote t n l X)
    (append_assoc (fields_text 0 a) (m ++ (tab ∷ [])) tail
    ∙ ap (λ (t : List ℕ). fields_text 0 a ++ t) (append_assoc m (tab ∷ []) tail)
    ∙ ap (λ (b : List ℕ). fields_text 0 b ++ (m ++ (tab ∷ tail))) e) w

module _ (line : List ℕ) {n : ℕ} {l X : List ℕ} (w : Wrote line n l X) (before : List ℕ) where
  -- the line is at the front of the buffer, and the rest stays
  pub saved_whole : n ≤ length before → {after : List ℕ} → after ≡ take n X ++ drop n before → SavedAs line before (Ok n) after
  unfolding over
  saved_whole h {after} a =
      let e : leb (length line) (length before) ≡ true = le-leb (length line) (length before) (omega (arith, w.count)) in
      record { result = rw (e, w.count); buffer = rw (e, a, front w, w.count) }
