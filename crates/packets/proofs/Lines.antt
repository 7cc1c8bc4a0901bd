-- Lines are listed one behind the other.
-- Assumes nothing.
use Prim.Native.Nat.{ℕ, suc, ◌+◌, ◌-◌, ◌≤◌, ◌<◌}
use native.Mathlib.Omega.{arith}
use mathlib.Core.Path.{◌≡◌, refl, sym, ap, ◌∙◌, subst}
use mathlib.Core.Bool.{Bool, true, false, cond}
use lib.Dec.{eqb}
use mathlib.Core.List.{[], List, ◌∷◌, ◌++◌, append-nil, append_assoc}
use lib.ListN.{length, take, drop, length-append, length-take, length-drop}
use lib.Seq.{length-take-le, take-add, take-append-add, take-append_seam}
use Rattle.output.specs.Writing.{over, Wrote}
use Rattle.output.proofs.Writing.{both, none}
use Rattle.text.specs.Fronts.{until}
use Rattle.text.specs.Line.{line_feed}
use Rattle.receiver.specs.declared.Cut.TheVariants.{TooFew}
use Rattle.receiver.specs.Cut.{cut}
use Rattle.session.specs.Session.{ended, rest, ended_from, rest_from}
use Rattle.session.proofs.Ended.{ended_append, rest_append, ended_line, rest_line, ended_few, none_ended, line_split}
use Rattle.session.proofs.Feeding.{line_within}
use Rattle.listing.specs.declared.Listed.{Listed}
use Rattle.listing.specs.Input.{line_of}
use Rattle.listing.specs.Rows.{left_row}
use Rattle.listing.specs.Listing.{printed, waiting_after, listing, ListsLine}
use Rattle.packets.specs.declared.Waiting.{Waiting}
use Rattle.packets.specs.Lines.{printed_for, waiting_behind, bytes_waiting, ListsLines, ListsAll}

pub lists_all : ListsAll
unfolding listing printed_for waiting_behind
lists_all n p [] = refl
lists_all n p (l ∷ ls) =
    ap (λ (t : List ℕ). printed n p (line_of l) ++ t) (lists_all (suc n) (waiting_after p (line_of l)) ls)
    ∙ sym (append_assoc (printed n p (line_of l)) (printed_for (suc n) (waiting_after p (line_of l)) ls) (left_row (waiting_behind (waiting_after p (line_of l)) ls)))

-- one line more
one_more : (n : ℕ) (p : List ℕ) (ls : List (List ℕ)) (l : List ℕ)
    → printed_for n p (ls ++ (l ∷ [])) ≡ printed_for n p ls ++ printed (n + length ls) (waiting_behind p ls) (line_of l)
unfolding printed_for waiting_behind
one_more n p [] l =
    let here : n ≡ n + 0 = omega arith in
    append-nil (printed n p (line_of l)) ∙ ap (λ (m : ℕ). printed m p (line_of l)) here
one_more n p (k ∷ ls) l =
    let next : suc n + length ls ≡ n + suc (length ls) = omega arith in
    let q = waiting_after p (line_of k) in
    ap (λ (t : List ℕ). printed n p (line_of k) ++ t)
    (one_more (suc n) q ls l ∙ ap (λ (m : ℕ). printed_for (suc n) q ls ++ printed m (waiting_behind q ls) (line_of l)) next)
    ∙ sym (append_assoc (printed n p (line_of k)) (printed_for (suc n) q ls) (printed (n + suc (length ls)) (waiting_behind q ls) (line_of l)))

one_waits : (p : List ℕ) (ls : List (List ℕ)) (l : List ℕ) → waiting_behind p (ls ++ (l ∷ [])) ≡ waiting_after (waiting_behind p ls) (line_of l)
unfolding waiting_behind
one_waits p [] l = refl
one_waits p (k ∷ ls) l = one_waits (waiting_after p (line_of k)) ls l

-- Where the loop tests: the first `used` bytes of the text are whole lines, and their rows are written.
pub record SoFar (w : Waiting) (t before : List ℕ) (used count : ℕ) (now : Waiting) (after : List ℕ) : Type 0 where
  pub within : used ≤ length t
  pub whole : rest (take used t) ≡ []
  pub wrote : Wrote (printed_for w.number (bytes_waiting w) (ended (take used t))) count before after
  pub waits : bytes_waiting now ≡ waiting_behind (bytes_waiting w) (ended (take used t))
  pub number : now.number ≡ w.number + length (ended (take used t))
  pub few : cut (bytes_waiting now) ≡ TooFew
  pub room : count ≤ length before

module _ (w : Waiting) (t before : List ℕ) where
  pub none_yet : cut (bytes_waiting w) ≡ TooFew → SoFar w t before 0 0 w before
  unfolding ended_from rest_from printed_for waiting_behind
  none_yet f = record {
    within = omega arith;
    whole = refl;
    wrote = none before;
    waits = refl;
    number = omega arith;
    few = f;
    room = omega arith;
  }

  module _ {used count : ℕ} {now : Waiting} {after : List ℕ} (s : SoFar w t before used count now after) where
    -- there are no more lines than bytes
    pub number_most : now.number ≤ w.number + used
    number_most = omega (arith, s.number, ended_few [] (take used t), length-take-le used t s.within)

    -- the line that begins behind them ends at `end`
    module _ {end : ℕ} (e : end ≡ used + length (until line_feed (drop used t))) where
      pub end_within : end ≤ length t
      end_within = omega (arith, line_within t used s.within)

      -- without a line feed, if the text ends there
      pub no_more : end ≡ length t → used ≡ 0 → ended t ≡ []
      no_more h z =
          let all : length t ≤ 0 + length (until line_feed (drop 0 t)) = subst (λ (k : ℕ). length t ≤ k + length (until line_feed (drop k t))) z (omega (arith, e, h)) in
          none_ended [] t (omega (arith, all))

      module _ (h : end < length t) where
        abbrev line : List ℕ
        line = until line_feed (drop used t)

        split : drop used t ≡ line ++ (line_feed ∷ drop (suc (length line)) (drop used t))
        split = line_split (drop used t) (rw length-drop (omega arith))

        with_line : take (end + 1) t ≡ take used t ++ (line ++ (line_feed ∷ []))
        with_line =
            let far : end + 1 ≡ used + (length line + 1) = omega arith in
            ap (λ (k : ℕ). take k t) far
            ∙ take-add used (length line + 1) t
            ∙ ap (λ (l : List ℕ). take used t ++ take (length line + 1) l) split
            ∙ ap (λ (l : List ℕ). take used t ++ l) (take-append-add line (line_feed ∷ drop (suc (length line)) (drop used t)) 1)

        lines_then : ended (take (end + 1) t) ≡ ended (take used t) ++ (line ∷ [])
        unfolding ended_from
        lines_then =
            ap ended with_line
            ∙ ended_append [] (take used t) (line ++ (line_feed ∷ []))
            ∙ ap (λ (p : List ℕ). ended (take used t) ++ ended_from p (line ++ (line_feed ∷ []))) s.whole
            ∙ ap (λ (ls : List (List ℕ)). ended (take used t) ++ ls) (ended_line [] (drop used t) [])

        whole_then : rest (take (end + 1) t) ≡ []
        unfolding rest_from
        whole_then =
            ap rest with_line
            ∙ rest_append [] (take used t) (line ++ (line_feed ∷ []))
            ∙ rest_line (rest (take used t)) (drop used t) []

        printed_then : printed_for w.number (bytes_waiting w) (ended (take (end + 1) t))
            ≡ printed_for w.number (bytes_waiting w) (ended (take used t)) ++ printed now.number (bytes_waiting now) (line_of line)
        printed_then =
            ap (printed_for w.number (bytes_waiting w)) lines_then
            ∙ one_more w.number (bytes_waiting w) (ended (take used t)) line
            ∙ (λ i. printed_for w.number (bytes_waiting w) (ended (take used t)) ++ printed (sym s.number i) (sym s.waits i) (line_of line))

        -- one line more is listed and taken
        pub turn : {lent Y bytes : List ℕ} {r : Listed} → lent ≡ line → length after ≡ length before
            → ListsLine now.number (line_of lent) (bytes_waiting now) r bytes (take (length after - count) (drop count after)) Y
            → r.count ≤ length (take (length after - count) (drop count after))
            → SoFar w t before (end + 1) (count + r.count) (record { number = now.number + 1; waiting = r.waiting; bytes = bytes })
            (take count after ++ (Y ++ drop (length after - count) (drop count after)))
        turn {lent} {Y} {bytes} {r} el same given fits =
            let one : ListsLine now.number (line_of line) (bytes_waiting now) r bytes (take (length after - count) (drop count after)) Y =
            subst (λ (l : List ℕ). ListsLine now.number (line_of l) (bytes_waiting now) r bytes (take (length after - count) (drop count after)) Y) el given in
            record {
              within = omega arith;
              whole = whole_then;
              wrote =
                  subst (λ (l : List ℕ). Wrote l (count + r.count) before (take count after ++ (Y ++ drop (length after - count) (drop count after)))) (sym printed_then)
                  (both s.wrote one.printed);
              waits =
                  one.waits
                  ∙ ap (λ (p : List ℕ). waiting_after p (line_of line)) s.waits
                  ∙ sym (one_waits (bytes_waiting w) (ended (take used t)) line)
                  ∙ ap (waiting_behind (bytes_waiting w)) (sym lines_then);
              number = omega (arith, s.number, ap length lines_then, length-append (ended (take used t)) (line ∷ []));
              few = one.few;
              room = omega (arith, s.room, same, fits, length-take (length after - count) (drop count after), length-drop count after);
            }

    -- the loop is left: no line ends in what follows, or there might be no room for the rows of the next
    pub listed : (used ≡ 0 → ended t ≡ []) → ListsLines w t used (take count after) now
    unfolding over
    listed most = record {
      within = s.within;
      whole = s.whole;
      printed = rw (s.wrote.buffer, s.wrote.count) (take-append_seam (printed_for w.number (bytes_waiting w) (ended (take used t))) (drop (length (printed_for w.number (bytes_waiting w) (ended (take used t)))) before));
      waits = s.waits;
      number = s.number;
      most = most;
    }

    -- where no line was taken nothing is printed
    pub none_printed : used ≡ 0 → count ≡ 0
    unfolding ended_from printed_for
    none_printed z = s.wrote.count ∙ ap (λ (n : ℕ). length (printed_for w.number (bytes_waiting w) (ended (take n t)))) z

-- the line, as it is lent
until_taken : (stop : ℕ) (l : List ℕ) → take (length (until stop l)) l ≡ until stop l
unfolding until
until_taken stop [] = refl
until_taken stop (b ∷ l) = at (eqb b stop) (until_taken stop l)
  where
    at : (t : Bool) → take (length (until stop l)) l ≡ until stop l → take (length (cond t [] (b ∷ until stop l))) (b ∷ l) ≡ cond t [] (b ∷ until stop l)
    at true e = refl
    at false e = ap (λ (k : List ℕ). b ∷ k) e

pub line_lent : (t : List ℕ) (used : ℕ) {end : ℕ} → end ≡ used + length (until line_feed (drop used t)) → take (end - used) (drop used t) ≡ until line_feed (drop used t)
line_lent t used {end} e =
    let long : end - used ≡ length (until line_feed (drop used t)) = omega arith in
    ap (λ (n : ℕ). take n (drop used t)) long ∙ until_taken line_feed (drop used t)
