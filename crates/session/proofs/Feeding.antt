-- Laws for feeding a text to a session: where the loop tests, whole lines are read and answered.
-- Assumes nothing.
use Prim.Native.Nat.{ℕ, suc, ◌+◌, ◌-◌, ◌^◌, ◌≤◌, ◌<◌}
use native.Mathlib.Omega.{arith}
use mathlib.Core.Path.{◌≡◌, refl, sym, ap, ◌∙◌, subst}
use mathlib.Core.Logic.{◌⊎◌}
use mathlib.Core.List.{[], List, ◌∷◌, ◌++◌, append-nil}
use lib.ListN.{length, take, drop, length-append, length-take, length-drop}
use lib.Seq.{length-take-le, take-add, take-append-add, drop-drop}
use Rattle.output.specs.Writing.{over, Wrote}
use Rattle.output.proofs.Writing.{both, none, kept}
use Rattle.controller.specs.declared.State.{State}
use Rattle.controller.specs.declared.Core.{Core}
use Rattle.controller.specs.Applying.{core_of, joined}
use Rattle.controller.specs.State.{IsState}
use Rattle.controller.specs.Step.{step}
use Rattle.controller.proofs.Answers.{step_fits}
use Rattle.session.specs.declared.lines.Session.{Session}
use Rattle.session.specs.declared.lines.Fed.{Fed}
use Rattle.text.specs.Fronts.{until}
use Rattle.text.specs.Line.{Line, Good, Bad, line_feed, line_of}
use Rattle.text.specs.Output.{line_room}
use Rattle.session.specs.Play.{bad_line, printed, state_then}
use Rattle.session.specs.Session.{ended, rest, ended_from, rest_from, printout, state_after, Feeds}
use Rattle.text.proofs.Fields.{until_most}
use Rattle.text.proofs.Shown.{line_most}
use Rattle.session.proofs.Ended.{ended_append, rest_append, ended_line, rest_line, ended_few, none_ended, line_split, printout_append, state_append}

-- a line's output has its room
pub printed_most : (s : State) (lent n : ℕ) (line : Line) → n < 2 ^ 64 → length (printed s lent n line) ≤ line_room lent
unfolding printed
printed_most s lent n Bad h = omega (arith, line_most n bad_line [] h)
printed_most s lent n (Good i) h = omega (arith, line_most n (step s i lent).answer (step s i lent).written h, step_fits s i lent)

-- a line ends within its text
pub line_within : (t : List ℕ) (from : ℕ) → from ≤ length t → from + length (until line_feed (drop from t)) ≤ length t
line_within t from h = omega (arith, until_most line_feed (drop from t), length-drop from t)

-- Where the loop tests: the text that is left follows whole lines, and their output is written.
pub record Reading (s : Session) (lent : ℕ) (t before after : List ℕ) (state : State) (number : ℕ) (left : List ℕ) (at : ℕ) : Type 0 where
  pub within : length left ≤ length t
  pub left_is : left ≡ drop (length t - length left) t
  pub whole : rest (take (length t - length left) t) ≡ []
  pub wrote : Wrote (printout s.state lent s.number (ended (take (length t - length left) t))) at before after
  pub state_is : state ≡ state_after s.state lent (ended (take (length t - length left) t))
  pub number_is : number ≡ s.number + length (ended (take (length t - length left) t))
  pub keeps : IsState state
  pub room : at ≤ length before
  pub same : length after ≡ length before

module _ (s : Session) (lent : ℕ) (t before : List ℕ) where
  nothing_used : length t - length t ≡ 0
  nothing_used = omega arith

  pub reading_start : IsState s.state → Reading s lent t before before s.state s.number t 0
  unfolding ended_from rest_from printout state_after
  reading_start h = record {
    within = omega arith;
    left_is = rw nothing_used refl;
    whole = rw nothing_used refl;
    wrote = rw nothing_used (none before);
    state_is = rw nothing_used refl;
    number_is = rw nothing_used (omega arith);
    keeps = h;
    room = omega arith;
    same = refl;
  }

  module _ {after left : List ℕ} {state : State} {number at : ℕ} (r : Reading s lent t before after state number left at) where
    abbrev used : ℕ
    used = length t - length left

    -- there are no more lines than bytes
    pub number_most : number + length left ≤ s.number + length t
    number_most = omega (arith, r.within, r.number_is, ended_few [] (take used t), length-take-le used t (omega (arith, r.within)))

    -- no line ends in what is left
    pub no_more : length left ≤ length (until line_feed left) → ended (drop used t) ≡ []
    no_more h = ap ended (sym r.left_is) ∙ none_ended [] left h

    abbrev line : List ℕ
    line = until line_feed left

    -- a line ends in what is left, and another text follows it
    module _ (h : length (until line_feed left) < length left) {behind : List ℕ} (e : behind ≡ drop (suc (length (until line_feed left))) left) where
      far : length t - length behind ≡ used + (length line + 1)
      far = omega (arith, ap length e, length-drop (suc (length line)) left, r.within)

      pub fewer : length behind < length left
      fewer = omega (arith, ap length e, length-drop (suc (length line)) left)

      behind_is : behind ≡ drop (length t - length behind) t
      behind_is =
          e
          ∙ ap (drop (suc (length line))) r.left_is
          ∙ drop-drop (suc (length line)) used t
          ∙ ap (λ (k : ℕ). drop k t) (omega (arith, far))

      with_line : take (length t - length behind) t ≡ take used t ++ (line ++ (line_feed ∷ []))
      with_line =
          ap (λ (k : ℕ). take k t) far
          ∙ take-add used (length line + 1) t
          ∙ ap (λ (l : List ℕ). take used t ++ take (length line + 1) l) (sym r.left_is ∙ line_split left h)
          ∙ ap (λ (l : List ℕ). take used t ++ l) (take-append-add line (line_feed ∷ drop (suc (length line)) left) 1)

      lines_then : ended (take (length t - length behind) t) ≡ ended (take used t) ++ (line ∷ [])
      unfolding ended_from
      lines_then =
          ap ended with_line
          ∙ ended_append [] (take used t) (line ++ (line_feed ∷ []))
          ∙ ap (λ (p : List ℕ). ended (take used t) ++ ended_from p (line ++ (line_feed ∷ []))) r.whole
          ∙ ap (λ (ls : List (List ℕ)). ended (take used t) ++ ls) (ended_line [] left [])

      whole_then : rest (take (length t - length behind) t) ≡ []
      unfolding rest_from
      whole_then =
          ap rest with_line
          ∙ rest_append [] (take used t) (line ++ (line_feed ∷ []))
          ∙ rest_line (rest (take used t)) left []

      printed_then : printout s.state lent s.number (ended (take (length t - length behind) t))
          ≡ printout s.state lent s.number (ended (take used t)) ++ printed state lent number (line_of line)
      unfolding printout
      printed_then =
          ap (printout s.state lent s.number) lines_then
          ∙ printout_append s.state lent s.number (ended (take used t)) (line ∷ [])
          ∙ ap (λ (l : List ℕ). printout s.state lent s.number (ended (take used t)) ++ l)
          (append-nil _ ∙ (λ i. printed (sym r.state_is i) lent (sym r.number_is i) (line_of line)))

      -- one line more, printed and taken
      pub turn : {Y : List ℕ} {next : State} {lent_now count : ℕ} → lent_now ≡ lent → number < 2 ^ 64 → line_room lent ≤ length after - at
          → Wrote (printed state lent_now number (line_of line)) count (take (length after - at) (drop at after)) Y
          → next ≡ state_then state lent_now (line_of line) → IsState next
          → Reading s lent t before (take at after ++ (Y ++ drop (length after - at) (drop at after))) next (number + 1) behind (at + count)
      unfolding state_after
      turn {Y} {next} {lent_now} {count} el small room w n k =
          let b = both r.wrote (subst (λ (m : ℕ). Wrote (printed state m number (line_of line)) count (take (length after - at) (drop at after)) Y) el w) in
          let fits : count ≤ line_room lent =
          omega (arith, w.count, printed_most state lent_now number (line_of line) small) in
          record {
            within = omega (arith, fewer, r.within);
            left_is = behind_is;
            whole = whole_then;
            wrote = subst (λ (l : List ℕ). Wrote l (at + count) before (take at after ++ (Y ++ drop (length after - at) (drop at after)))) (sym printed_then) b;
            state_is =
                n
                ∙ (λ i. state_then (r.state_is i) (el i) (line_of line))
                ∙ sym (state_append s.state lent (ended (take used t)) (line ∷ []))
                ∙ ap (state_after s.state lent) (sym lines_then);
            number_is = omega (arith, r.number_is, ap length lines_then, length-append (ended (take used t)) (line ∷ []));
            keeps = k;
            room = omega (arith, r.room, r.same);
            same = kept b (omega (arith, r.room, r.same));
          }

    -- the loop is left, and the state put together
    pub fed : {last : State} → last ≡ state → (ended (drop used t) ≡ []) ⊎ (length before < at + line_room lent) →
        Feeds s lent t (record { session = record { state = last; number = number }; used = used; count = at }) before after
    fed e most = record {
      within = omega arith;
      whole = r.whole;
      printed = r.wrote;
      state = e ∙ r.state_is;
      number = r.number_is;
      most = most;
    }

-- ---- what a caller needs

-- what was written stands in the buffer
pub wrote_within : {bs before after : List ℕ} {n : ℕ} → Wrote bs n before after → n ≤ length after
unfolding over
wrote_within w = rw w.buffer (simp length-append (omega (arith, w.count)))

module _ {s : Session} {lent : ℕ} {t : List ℕ} {r : Fed} {before after : List ℕ} (f : Feeds s lent t r before after) where
  pub count_within : r.count ≤ length after
  count_within = wrote_within f.printed

  -- there are no more lines than bytes
  pub lines_few : r.session.number ≤ s.number + r.used
  lines_few = omega (arith, f.number, ended_few [] (take r.used t), length-take-le r.used t f.within)

-- the text was the part of a block from `from` on
pub part_used : (from : ℕ) (block : List ℕ) {s : Session} {lent : ℕ} {r : Fed} {before after : List ℕ} → Feeds s lent (take (length block - from) (drop from block)) r before after
    → from ≤ length block → from + r.used ≤ length block
part_used from block f h = omega (arith, f.within, length-take (length block - from) (drop from block), length-drop from block)

-- the session, whose fields are these
module _ {f s : Session} (e : f ≡ s) where
  pub same_number : f.number ≡ s.number
  same_number = ap (λ (x : Session). x.number) e

  -- and whose state was taken apart
  pub again : {k : Core} {lent : ℕ} {t : List ℕ} {r : Fed} {before after : List ℕ} → k ≡ core_of f.state →
      Feeds (record { state = joined k f.state.queue.bytes f.state.queue.len; number = f.number }) lent t r before after → Feeds s lent t r before after
  again {lent = lent} {t} {r} {before} {after} a w =
      subst (λ (x : Session). Feeds x lent t r before after) e
      (subst (λ (x : Core). Feeds (record { state = joined x f.state.queue.bytes f.state.queue.len; number = f.number }) lent t r before after) a w)
