-- A whole line: its bytes come behind those that wait, all packets are listed, and what is left goes to the front.
-- Assumes nothing.
use Prim.Native.Nat.{ℕ, ◌+◌, ◌-◌, ◌≤◌, ◌<◌}
use native.Mathlib.Omega.{arith}
use mathlib.Core.Path.{◌≡◌, refl, sym, ap, ◌∙◌, subst}
use mathlib.Core.Logic.{◌⊎◌, inl, inr}
use mathlib.Core.List.{List, [], ◌++◌, append-nil}
use Rattle.std.specs.Prelude.{Option, Some, None}
use lib.ListN.{length, take, drop, length-take, length-drop, take-append-drop}
use lib.Seq.{length-take-le, take_all, take_at}
use Rattle.output.specs.Writing.{over, Wrote}
use Rattle.output.proofs.Writing.{both}
use Rattle.receiver.specs.declared.Cut.TheVariants.{TooFew}
use Rattle.receiver.specs.Cut.{cut}
use Rattle.receiver.specs.Pieces.{Piece, pieces, left}
use Rattle.receiver.specs.Promises.{empty}
use Rattle.receiver.proofs.Firsts.{is_cut, cut_says}
use Rattle.receiver.proofs.Pieces.{cut_in_turn, in_parts, left_few}
use Rattle.listing.specs.declared.rows.Rows.{Rows}
use Rattle.listing.specs.Input.{Given, gives, bad, bytes_given, told, ReadsBytes}
use Rattle.listing.specs.Rows.{rows, bad_row, row_room}
use Rattle.listing.specs.Listing.{printed, waiting_after, Lists, most_left, listing_room, ListsLine}
use Rattle.listing.proofs.Turns.{inside}
use Rattle.listing.proofs.Rooms.{rows_most, left_most, few_most}

-- a part of a buffer, written where it stands
stands : (w : ℕ) (B : List ℕ) → w ≤ length B → Wrote (take w B) w B B
unfolding over
stands w B h =
    let long = length-take-le w B h in
    record { count = sym long; buffer = sym (take-append-drop w B) ∙ ap (λ (n : ℕ). take w B ++ drop n B) (sym long) }

-- what was written stands at the start
pub starts : {a l X : List ℕ} {n : ℕ} → Wrote a n l X → take n X ≡ a
unfolding over
starts {a} {l} {X} {n} w = ap (take n) w.buffer ∙ take_at a (drop (length a) l) n (sym w.count)

-- what a line that was read gives
given : (g : Given) (n : ℕ) → told g ≡ Some n → (g ≡ gives (bytes_given g)) × (n ≡ length (bytes_given g))
given (gives bs) n e = (refl, cc)
given bad n e = let z : ◌≡◌ {A = ℕ} 0 1 = cc in absurd (omega arith)

given_bad : (g : Given) → told g ≡ None → g ≡ bad
given_bad (gives bs) e = let z : ◌≡◌ {A = ℕ} 0 1 = cc in absurd (omega arith)
given_bad bad e = refl

-- too few bytes are few
pub few_waits : (w : ℕ) (B : List ℕ) → w ≤ length B → cut (take w B) ≡ TooFew → w ≤ most_left
few_waits w B h e = omega (arith, few_most (cut_says e), length-take-le w B h)

-- the bytes of a line come behind those that wait
module _ (B : List ℕ) (w : ℕ) {Y : List ℕ} {n : ℕ} {g : Given} {r : Option ℕ}
    (h : w ≤ length B)
    (k : ReadsBytes g r (take (length B - w) (drop w B)) Y)
    (same : length Y ≡ length (take (length B - w) (drop w B)))
    (e : r ≡ Some n) where
  is_given : (g ≡ gives (bytes_given g)) × (n ≡ length (bytes_given g))
  is_given = given g n (sym k.result ∙ e)

  wrote : Wrote (bytes_given g) n (take (length B - w) (drop w B)) Y
  wrote = record { count = is_given.1; buffer = k.buffer }

  joined_bytes : Wrote (take w B ++ bytes_given g) (w + n) B (take w B ++ (Y ++ drop (length B - w) (drop w B)))
  joined_bytes = both (stands w B h) wrote

  pub joined_within : w + n ≤ length B
  joined_within = omega (arith, inside wrote same, length-take (length B - w) (drop w B), length-drop w B)

  pub joined_all : take (w + n) (take w B ++ (Y ++ drop (length B - w) (drop w B))) ≡ take w B ++ bytes_given g
  joined_all = starts joined_bytes

  -- all its packets are listed, and what is left goes to the front
  module _ {out O X Z : List ℕ} {d : Rows} {kept_bytes : ℕ}
      (all : X ≡ take w B ++ (Y ++ drop (length B - w) (drop w B)))
      (room : listing_room (length B) ≤ length out)
      (lists : Lists (take (w + n) X) d out O)
      (few : kept_bytes ≤ most_left)
      (keeps : Wrote (take most_left (drop d.used (take (w + n) X))) kept_bytes X Z) where
    is_l : take (w + n) X ≡ take w B ++ bytes_given g
    is_l = ap (take (w + n)) all ∙ joined_all

    -- there was room for all
    rest_few : cut (drop d.used (take (w + n) X)) ≡ TooFew
    rest_few = at lists.most
      where
        at : (cut (drop d.used (take (w + n) X)) ≡ TooFew) ⊎ (length out < d.count + row_room) → cut (drop d.used (take (w + n) X)) ≡ TooFew
        at (inl e) = e
        at (inr m) =
            let front = take d.used (take (w + n) X) in
            absurd
            (omega
            (arith, m, room, lists.printed.count, rows_most front, length-take d.used (take (w + n) X), length-take (w + n) X, joined_within))

    -- so nothing else comes off, and what is left is left of all
    both_parts : (pieces (take (w + n) X) ≡ pieces (take d.used (take (w + n) X))) × (left (take (w + n) X) ≡ drop d.used (take (w + n) X))
    both_parts =
        let a = take d.used (take (w + n) X) in
        let b = drop d.used (take (w + n) X) in
        let parts = in_parts a b in
        let none = (cut_in_turn b).rest rest_few in
        let front = lists.nothing_waits in
        let split = sym (take-append-drop d.used (take (w + n) X)) in (
          ap pieces split ∙ parts.0 ∙ ap (λ (t : List ℕ). pieces a ++ pieces (t ++ b)) front ∙ ap (λ (ps : List Piece). pieces a ++ ps) none.0 ∙ append-nil (pieces a),
          ap left split ∙ parts.1 ∙ ap (λ (t : List ℕ). left (t ++ b)) front ∙ none.1,
        )

    left_is : take kept_bytes Z ≡ left (take w B ++ bytes_given g)
    left_is =
        let short : length (drop d.used (take (w + n) X)) ≤ most_left = subst (λ (t : List ℕ). length t ≤ most_left) both_parts.1 (left_most (take (w + n) X)) in
        starts keeps ∙ take_all most_left (drop d.used (take (w + n) X)) short ∙ sym both_parts.1 ∙ ap left is_l

    pub line_listed : {number : ℕ} → ListsLine number g (take w B) (record { waiting = kept_bytes; count = d.count }) Z out O
    unfolding printed waiting_after
    line_listed {number} =
        let all_rows : Wrote (rows (pieces (take w B ++ bytes_given g))) d.count out O =
        subst (λ (ps : List Piece). Wrote (rows ps) d.count out O) (sym both_parts.0 ∙ ap pieces is_l) lists.printed in
        subst (λ (x : Given). ListsLine number x (take w B) (record { waiting = kept_bytes; count = d.count }) Z out O) (sym is_given.0)
        (record {
          printed = all_rows;
          waits = left_is;
          few = ap cut left_is ∙ left_few [] (take w B ++ bytes_given g) (sym (is_cut [] TooFew empty));
          within = few;
        })

-- a bad line: its row, and what waits stays
pub line_refused : (B : List ℕ) (w : ℕ) {g : Given} {r : Option ℕ} {l m Z out O : List ℕ} {number count : ℕ} → w ≤ length B → cut (take w B) ≡ TooFew →
    ReadsBytes g r l m → r ≡ None → take w Z ≡ take w B → Wrote (bad_row number) count out O →
    ListsLine number g (take w B) (record { waiting = w; count = count }) Z out O
unfolding printed waiting_after
line_refused B w {g = g} {Z = Z} {out = out} {O = O} {number = number} {count = count} h few k e same row =
    subst (λ (x : Given). ListsLine number x (take w B) (record { waiting = w; count = count }) Z out O) (sym (given_bad g (sym k.result ∙ e)))
    (record { printed = row; waits = same; few = ap cut same ∙ few; within = few_waits w B h few })

-- what is within the first n is at most n
pub within_taken : (n : ℕ) (l : List ℕ) {d : ℕ} → d ≤ length (take n l) → d ≤ n
within_taken n l h = omega (arith, length-take n l)
