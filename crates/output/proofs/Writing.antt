-- Laws of buffers with bytes written at their start, and of two stages that write one after the other.
-- Assumes nothing.
use Prim.Native.Nat.{ℕ, ◌+◌, ◌-◌, ◌≤◌}
use native.Mathlib.Nat.{zero-add, add-sub_cancel_left}
use native.Mathlib.Omega.{arith}
use mathlib.Core.Path.{◌≡◌, refl, sym, ap, ◌∙◌, subst}
use mathlib.Core.List.{List, [], ◌∷◌, ◌++◌, append-nil, append_assoc}
use lib.ListN.{length, take, drop, set, length-append, length-drop}
use lib.Seq.{paste, sets, sets-eq, drop-append-add, take-append_seam, drop-append_seam, take-length, drop-length, drop-drop, length-take-le}
use Rattle.output.specs.Writing.{over, Wrote}

-- no bytes leave the buffer as it was
pub over_nil : (l : List ℕ) → l ≡ over [] l
unfolding over
over_nil l = refl

-- a buffer keeps its length
pub length_over : (bs l : List ℕ) → length bs ≤ length l → length (over bs l) ≡ length l
unfolding over
length_over bs l h = simp (length-append, length-drop) (omega arith)

-- a copy of the first n bytes, as a loop leaves it
pub over_paste : (d s : List ℕ) (n : ℕ) → n ≤ length s → paste d 0 s n ≡ over (take n s) d
unfolding over
over_paste d s n h = rw (zero-add, length-take-le)

-- bytes stored one after the other, past those at the start
pub over_more : (vs bs l : List ℕ) → length bs + length vs ≤ length l → sets (over bs l) (length bs) vs ≡ over (bs ++ vs) l
unfolding over
over_more vs bs l h =
    let room : length bs + length vs ≤ length (over bs l) = simp (length-append, length-drop) (omega arith) in
    sets-eq vs (over bs l) (length bs) room ∙ simp (take-append_seam, drop-append-add, drop-drop, length-append, append_assoc)

-- a is written at the start of l, and then b into the part from there to the end
seam : (a b l : List ℕ)
    → take (length a) (over a l) ++ (over b (take (length (over a l) - length a) (drop (length a) (over a l))) ++ drop (length (over a l) - length a) (drop (length a) (over a l)))
    ≡ over (a ++ b) l
unfolding over
seam a b l = simp (take-append_seam, drop-append_seam, length-append, add-sub_cancel_left, take-length, drop-length, append-nil, drop-drop, append_assoc)

-- two stages: the second is lent the part from the first one's count on
pub both : {a b l X Y : List ℕ} {n m : ℕ} → Wrote a n l X → Wrote b m (take (length X - n) (drop n X)) Y
    → Wrote (a ++ b) (n + m) l (take n X ++ (Y ++ drop (length X - n) (drop n X)))
both {a} {b} {l} {X} {Y} {n} {m} p q = record {
  count = simp (p.count, q.count, length-append);
  buffer = rw (q.buffer, p.count, p.buffer) (seam a b l);
}

-- a first stage that has nothing to write may be left out
pub second : (a : List ℕ) {b l X : List ℕ} {n : ℕ} → length a ≡ 0 → Wrote b n l X → Wrote (a ++ b) n l X
second [] e w = w
second (x ∷ a) e w = absurd (omega arith)

-- nothing written
pub none : (l : List ℕ) → Wrote [] 0 l l
none l = record { count = refl; buffer = over_nil l }

-- one byte stored at the front
pub stored : (b : ℕ) (l : List ℕ) → 1 ≤ length l → Wrote (b ∷ []) 1 l (set l 0 b)
unfolding over
stored b [] h = absurd (omega arith)
stored b (x ∷ l) h = record { count = refl; buffer = refl }

-- one byte stored behind what was written
pub stored_after : (b : ℕ) {a l X : List ℕ} {n : ℕ} → Wrote a n l X → n + 1 ≤ length l → Wrote (a ++ (b ∷ [])) (n + 1) l (set X n b)
stored_after b {a} {l} w h = record {
  count = (let c = w.count in let k = length-append a (b ∷ []) in omega arith);
  buffer = (λ i. set (w.buffer i) (w.count i) b) ∙ over_more (b ∷ []) a l (omega (arith, w.count));
}

-- what a stage leaves is as long as it was
pub kept : {a l X : List ℕ} {n : ℕ} → Wrote a n l X → n ≤ length l → length X ≡ length l
kept {a} {l} p h = rw p.buffer (length_over a l (rw p.count at h))

-- all of an array
pub whole : (k : ℕ) (s : List ℕ) {l X : List ℕ} {n : ℕ} → length s ≡ k → Wrote (take k s) n l X → Wrote s n l X
whole k s {l} {X} {n} e p = subst (λ (t : List ℕ). Wrote t n l X) (ap (λ (j : ℕ). take j s) (sym e) ∙ take-length s) p
