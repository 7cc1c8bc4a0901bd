-- The rows of bytes are written packet by packet: what a turn takes, and what it adds.
-- Assumes nothing.
use Prim.Native.Nat.{ℕ, ◌+◌, ◌-◌, ◌≤◌, ◌<◌}
use native.Mathlib.Nat.{add-zero}
use native.Mathlib.Omega.{arith}
use mathlib.Core.Path.{◌≡◌, refl, sym, ap, ◌∙◌, subst}
use mathlib.Core.Logic.{◌⊎◌, inl}
use mathlib.Core.List.{List, [], ◌∷◌, ◌++◌, append_assoc, append-nil}
use lib.ListN.{length, take, drop, length-append, length-take, length-drop, drop_of_length-le}
use lib.Seq.{take-add, take_all}
use Rattle.output.specs.Writing.{over, Wrote}
use Rattle.output.proofs.Writing.{none, both, kept}
use Rattle.text.specs.Output.{text}
use Rattle.receiver.specs.declared.Kind.{Kind}
use Rattle.receiver.specs.declared.Cut.{Cut}
use Rattle.receiver.specs.declared.Cut.TheVariants.{Whole, TooFew, NoPacket}
use Rattle.receiver.specs.Cut.{cut}
use Rattle.receiver.specs.Pieces.{Piece, packet, off, pieces_from, left_from, pieces, left}
use Rattle.receiver.specs.Promises.{Says, whole, empty, few, none as starts_none}
use Rattle.receiver.proofs.Firsts.{is_cut, cut_says, starts_short, decided_by_length}
use Rattle.receiver.proofs.Pieces.{cut_in_turn, in_parts}
use Rattle.listing.specs.declared.rows.Rows.{Rows}
use Rattle.listing.specs.Rows.{row, packet_row, piece_row, rows, row_room}
use Rattle.listing.specs.Listing.{taken, ListsFirst, Lists}

-- ---- the first packet

-- all that is taken is there, and is at most eight bytes; nothing is taken only of too few
pub record Takes (c : Cut) (l : List ℕ) : Type 0 where
  pub within : taken c ≤ length l
  pub short : taken c ≤ 8
  pub none : taken c ≡ 0 → c ≡ TooFew

said : {l : List ℕ} {c : Cut} → Says l c → Takes c l
said (whole {b} {n} f h) = let s = starts_short b f in record { within = h; short = s.1; none = λ z. absurd (omega (arith, z, s.0)) }
said empty = record { within = omega arith; short = omega arith; none = λ z. refl }
said (few f h) = record { within = omega arith; short = omega arith; none = λ z. refl }
said (starts_none f) = record { within = omega arith; short = omega arith; none = λ z. absurd (omega arith) }

pub takes : {l : List ℕ} {c : Cut} → cut l ≡ c → Takes c l
takes e = said (cut_says e)

-- its row
module _ (l : List ℕ) {c : Cut} {before after : List ℕ} (e : c ≡ cut l) where
  first : (d : Cut) (r : ℕ) → c ≡ d → Wrote (rows (off d (take (taken d) l))) r before after → ListsFirst l (record { used = taken d; count = r }) before after
  first d r f w =
      let g : cut l ≡ d = sym e ∙ f in
      record {
        used = sym (ap taken g);
        printed = subst (λ (x : Cut). Wrote (rows (off x (take (taken x) l))) r before after) (sym g) w;
      }

  pub first_whole : {k : Kind} {n r : ℕ} → c ≡ Whole k n → Wrote (packet_row k (take n l)) r before after → ListsFirst l (record { used = n; count = r }) before after
  unfolding rows
  first_whole {k} {n} {r} f w = first (Whole k n) r f (rw append-nil w)

  pub first_none : {r : ℕ} → c ≡ NoPacket → Wrote (row (text "no packet") (take 1 l)) r before after → ListsFirst l (record { used = 1; count = r }) before after
  unfolding rows
  first_none {r} f w = first NoPacket r f (rw append-nil w)

pub first_few : (l before : List ℕ) {c : Cut} → c ≡ cut l → c ≡ TooFew → ListsFirst l (record { used = 0; count = 0 }) before before
unfolding rows
first_few l before e f = first l e TooFew 0 f (none before)

-- ---- one after the other

-- what is taken comes off by itself, and nothing is left of it
alone : (l : List ℕ) (c : Cut) → cut l ≡ c → (pieces (take (taken c) l) ≡ off c (take (taken c) l)) × (left (take (taken c) l) ≡ [])
unfolding pieces_from left_from
alone l (Whole k n) e =
    let p = take n l in
    let short : length p ≤ n = omega (arith, length-take n l) in
    let same : cut p ≡ Whole k n = ap cut (sym (append-nil p)) ∙ (decided_by_length l k n e).whatever_follows [] in
    let t = (cut_in_turn p).packets k n same in
    let end : drop n p ≡ [] = drop_of_length-le p short in (
      t.0 ∙ (λ i. packet k (take_all n p short i) ∷ pieces (end i)),
      t.1 ∙ ap left end,
    )
alone l TooFew e = (refl, refl)
alone l NoPacket e = at l (cut_says e)
  where
    at : (l : List ℕ) → Says l NoPacket → (pieces (take 1 l) ≡ off NoPacket (take 1 l)) × (left (take 1 l) ≡ [])
    at [] w = elim w [ ]
    at (b ∷ l) (starts_none f) = (cut_in_turn (b ∷ [])).others (sym (is_cut (b ∷ []) NoPacket (starts_none f)))

-- it comes behind what was taken before
turn : (l : List ℕ) (from : ℕ) (c : Cut) → cut (drop from l) ≡ c → left (take from l) ≡ [] →
    (pieces (take (from + taken c) l) ≡ pieces (take from l) ++ off c (take (taken c) (drop from l))) × (left (take (from + taken c) l) ≡ [])
turn l from c e w =
    let a = take from l in
    let p = take (taken c) (drop from l) in
    let split = take-add from (taken c) l in
    let parts = in_parts a p in
    let one = alone (drop from l) c e in (
      ap pieces split ∙ parts.0 ∙ ap (λ (t : List ℕ). pieces a ++ pieces (t ++ p)) w ∙ ap (λ (ps : List Piece). pieces a ++ ps) one.0,
      ap left split ∙ parts.1 ∙ ap (λ (t : List ℕ). left (t ++ p)) w ∙ one.1,
    )

pub rows_append : (a b : List Piece) → rows (a ++ b) ≡ rows a ++ rows b
unfolding rows
rows_append [] b = refl
rows_append (p ∷ a) b = ap (λ (t : List ℕ). piece_row p ++ t) (rows_append a b) ∙ sym (append_assoc (piece_row p) (rows a) (rows b))

-- what is written is inside a buffer that keeps its length
pub inside : {a l X : List ℕ} {n : ℕ} → Wrote a n l X → length X ≡ length l → n ≤ length l
unfolding over
inside {a} {l} w e = omega (arith, w.count, ap length w.buffer, length-append a (drop (length a) l), length-drop (length a) l, e)

-- the rows of the first `from` bytes are written, `at` places of the buffer
pub record SoFar (l : List ℕ) (from at : ℕ) (before after : List ℕ) : Type 0 where
  pub within : from ≤ length l
  pub nothing_waits : left (take from l) ≡ []
  pub printed : Wrote (rows (pieces (take from l))) at before after
  pub room : at ≤ length before
  pub same : length after ≡ length before

pub none_yet : (l before : List ℕ) → SoFar l 0 0 before before
unfolding pieces_from left_from rows
none_yet l before = record { within = omega arith; nothing_waits = refl; printed = none before; room = omega arith; same = refl }

-- the end of the loop
pub finish : {l before after : List ℕ} {from at : ℕ} → SoFar l from at before after → (cut (drop from l) ≡ TooFew) ⊎ (length before < at + row_room) → Lists l (record { used = from; count = at }) before after
finish s m = record { within = s.within; nothing_waits = s.nothing_waits; printed = s.printed; most = m }

-- a turn of the loop
module _ {l before X Y : List ℕ} {from at : ℕ} {r : Rows}
    (s : SoFar l from at before X)
    (f : ListsFirst (take (length l - from) (drop from l)) r (take (length X - at) (drop at X)) Y)
    (same : length Y ≡ length (take (length X - at) (drop at X))) where
  rest : take (length l - from) (drop from l) ≡ drop from l
  rest = take_all (length l - from) (drop from l) (omega (arith, length-drop from l))

  -- what it takes
  used : r.used ≡ taken (cut (drop from l))
  used = f.used ∙ ap (λ (t : List ℕ). taken (cut t)) rest

  printed : Wrote (rows (off (cut (drop from l)) (take (taken (cut (drop from l))) (drop from l)))) r.count (take (length X - at) (drop at X)) Y
  printed = subst (λ (t : List ℕ). Wrote (rows (off (cut t) (take (taken (cut t)) t))) r.count (take (length X - at) (drop at X)) Y) rest f.printed

  pub more_used : from + r.used ≤ length l
  more_used = omega (arith, used, (takes {l = drop from l} refl).within, length-drop from l, s.within)

  pub more_room : at + r.count ≤ length before
  more_room = omega (arith, inside printed same, length-take (length X - at) (drop at X), length-drop at X, s.room, s.same)

  pub go_on : SoFar l (from + r.used) (at + r.count) before (take at X ++ (Y ++ drop (length X - at) (drop at X)))
  go_on =
      let d = drop from l in
      let t = turn l from (cut d) refl s.nothing_waits in
      let w = both s.printed printed in
      let all = sym (rows_append (pieces (take from l)) (off (cut d) (take (taken (cut d)) d))) ∙ ap rows (sym t.0) in
      record {
        within = more_used;
        nothing_waits = ap (λ (n : ℕ). left (take (from + n) l)) used ∙ t.1;
        printed =
            subst (λ (bs : List ℕ). Wrote bs (at + r.count) before (take at X ++ (Y ++ drop (length X - at) (drop at X))))
            (all ∙ ap (λ (n : ℕ). rows (pieces (take (from + n) l))) (sym used)) w;
        room = more_room;
        same = kept w more_room;
      }

  -- a turn that takes nothing is the last: what follows is too few
  pub ends : r.used ≡ 0 → Lists l (record { used = from; count = at }) before (take at X ++ (Y ++ drop (length X - at) (drop at X)))
  unfolding rows
  ends z =
      let d = drop from l in
      let few : cut d ≡ TooFew = (takes {l = d} refl).none (sym used ∙ z) in
      let c : r.count ≡ 0 = printed.count ∙ ap (λ (x : Cut). length (rows (off x (take (taken x) d)))) few in
      let Z = take at X ++ (Y ++ drop (length X - at) (drop at X)) in
      let n = subst (λ (m : ℕ). SoFar l (from + m) (at + r.count) before Z) z go_on in
      let o = subst (λ (m : ℕ). SoFar l (from + 0) (at + m) before Z) c n in
      finish (subst (λ (m : ℕ). SoFar l m at before Z) (add-zero from) (subst (λ (m : ℕ). SoFar l (from + 0) m before Z) (add-zero at) o)) (inl few)
