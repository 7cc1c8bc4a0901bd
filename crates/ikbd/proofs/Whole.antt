-- What a session prints in blocks is what its whole input gives.
-- Assumes nothing.
use Rattle.std.proofs.Common.{◌≡◌, ℕ, suc, ◌+◌, ◌≤◌, ◌<◌, List, [], ◌∷◌, ◌++◌, length, take, drop, refl, sym, ap, ◌∙◌, arith, length-append, append_assoc}
use mathlib.Core.List.{append-nil}
use mathlib.Core.Bool.{Bool, true, false, cond}
use lib.Dec.{eqb}
use Rattle.std.proofs.Math.Seq.{take-add, drop-length}
use Rattle.std.proofs.lemmas.List.{length-drop, take-append-drop}
use Rattle.controller.specs.State.{power_up, most_due}
use Rattle.controller.specs.declared.State.{State}
use Rattle.text.specs.Line.{line_feed}
use Rattle.text.specs.Output.{header}
use Rattle.session.specs.declared.lines.Session.{Session}
use Rattle.session.specs.Session.{ended_from, rest_from, ended, rest, last_line, printout, state_after, whole_output, at_start, finished, block_output, joined}
use Rattle.session.proofs.Ended.{ended_append, rest_append, printout_append, state_append}
use Rattle.session.proofs.Finishing.{finished_lines}
use Rattle.session.proofs.Blockwise.{blockwise}
use Rattle.blocks.specs.Blocks.{Parts, none_yet, part_then, Answered, to_the_end, none_follows, Blocks, no_block, block_then, Ran, at_the_end, at_the_limit}
use Rattle.blocks.specs.Playing.{Plays}

-- where no line ends, all of the text is left
rest_all : (p l : List ℕ) → ended_from p l ≡ [] → rest_from p l ≡ p ++ l
unfolding ended_from rest_from
rest_all p [] e = sym (append-nil p)
rest_all p (x ∷ l) e = at (eqb x line_feed) (rest_all (p ++ (x ∷ [])) l) e
  where
    at : (t : Bool) → (ended_from (p ++ (x ∷ [])) l ≡ [] → rest_from (p ++ (x ∷ [])) l ≡ (p ++ (x ∷ [])) ++ l)
        → cond t (p ∷ ended_from [] l) (ended_from (p ++ (x ∷ [])) l) ≡ [] → cond t (rest_from [] l) (rest_from (p ++ (x ∷ [])) l) ≡ p ++ (x ∷ l)
    at true f h = absurd cc
    at false f h = f h ∙ append_assoc p (x ∷ []) l

-- nor does one in its beginning
none_before : (n : ℕ) (l : List ℕ) → ended l ≡ [] → ended (take n l) ≡ []
none_before n l e = first (ended (take n l)) (ended_from (rest (take n l)) (drop n l))
    (sym (ended_append [] (take n l) (drop n l)) ∙ ap ended (take-append-drop n l) ∙ e)
  where
    first : (a b : List (List ℕ)) → a ++ b ≡ [] → a ≡ []
    first [] b h = refl
    first (x ∷ a) b h = absurd cc

-- the first `used` bytes of a text are whole lines, and they are printed and taken
record Told (s : Session) (t : List ℕ) (used : ℕ) (shown : List ℕ) (n : Session) : Type 0 where
  pub within : used ≤ length t
  pub whole : rest (take used t) ≡ []
  pub printed : shown ≡ printout s.state most_due s.number (ended (take used t))
  pub state : n.state ≡ state_after s.state most_due (ended (take used t))
  pub number : n.number ≡ s.number + length (ended (take used t))

told_more : (s m n : Session) (t : List ℕ) (from used : ℕ) (shown more : List ℕ)
    → Told s t from shown m → Plays most_due m (drop from t) used more n → Told s t (from + used) (shown ++ more) n
told_more s m n t from used shown more i a = record {
  within = omega (arith, i.within, a.within, length-drop from t);
  whole = ap rest parts ∙ rest_append [] (take from t) new ∙ ap (λ (p : List ℕ). rest_from p new) i.whole ∙ a.whole;
  printed = sym (ap (printout s.state most_due s.number) lines ∙ printout_append s.state most_due s.number old (ended new) ∙ sym both);
  state = a.state ∙ ap (λ (q : State). state_after q most_due (ended new)) i.state ∙ sym (state_append s.state most_due old (ended new)) ∙ ap (state_after s.state most_due) (sym lines);
  number = omega (arith, a.number, i.number, length-append old (ended new), ap length lines);
}
  where
    new : List ℕ
    new = take used (drop from t)

    old : List (List ℕ)
    old = ended (take from t)

    parts : take (from + used) t ≡ take from t ++ new
    parts = take-add from used t

    lines : ended (take (from + used) t) ≡ old ++ ended new
    lines = ap ended parts ∙ ended_append [] (take from t) new ∙ ap (λ (p : List ℕ). old ++ ended_from p new) i.whole

    both : shown ++ more ≡ printout s.state most_due s.number old ++ printout (state_after s.state most_due old) most_due (s.number + length old) (ended new)
    both = (λ j. i.printed j ++ a.printed j) ∙ (λ j. printout s.state most_due s.number old ++ printout (i.state j) most_due (i.number j) (ended new))

told_start : (s : Session) (t : List ℕ) → Told s t 0 [] s
unfolding ended_from rest_from printout state_after
told_start s t = record { within = omega arith; whole = refl; printed = refl; state = refl; number = omega arith }

-- a last part without a line changes nothing
told_none : (s m n : Session) (t : List ℕ) (from : ℕ) (shown more : List ℕ)
    → Told s t from shown m → Plays most_due m (drop from t) 0 more n → Told s t from shown n
unfolding ended_from state_after
told_none s m n t from shown more i a = record {
  within = i.within;
  whole = i.whole;
  printed = i.printed;
  state = a.state ∙ i.state;
  number = omega (arith, a.number, i.number);
}

-- all lines of a text, and what is left of it
record All (s : Session) (t : List ℕ) (used : ℕ) (shown : List ℕ) (n : Session) : Type 0 where
  pub printed : shown ≡ printout s.state most_due s.number (ended t)
  pub state : n.state ≡ state_after s.state most_due (ended t)
  pub number : n.number ≡ s.number + length (ended t)
  pub left : drop used t ≡ rest t
  pub none : ended (drop used t) ≡ []

all_told : (s n : Session) (t : List ℕ) (used : ℕ) (shown : List ℕ) → Told s t used shown n → ended (drop used t) ≡ [] → All s t used shown n
all_told s n t used shown i none = record {
  printed = i.printed ∙ ap (printout s.state most_due s.number) (sym same);
  state = i.state ∙ ap (state_after s.state most_due) (sym same);
  number = i.number ∙ ap (λ (ls : List (List ℕ)). s.number + length ls) (sym same);
  left = sym (ap rest (sym (take-append-drop used t)) ∙ rest_append [] (take used t) (drop used t) ∙ ap (λ (p : List ℕ). rest_from p (drop used t)) i.whole ∙ rest_all [] (drop used t) none);
  none = none;
}
  where
    same : ended t ≡ ended (take used t)
    same = ap ended (sym (take-append-drop used t)) ∙ ended_append [] (take used t) (drop used t)
        ∙ ap (λ (p : List ℕ). ended (take used t) ++ ended_from p (drop used t)) i.whole
        ∙ ap (λ (ls : List (List ℕ)). ended (take used t) ++ ls) none
        ∙ append-nil (ended (take used t))

nothing_ends : ended [] ≡ []
unfolding ended_from
nothing_ends = refl

module _ {S : Type 0} (of : S → Session) where
  abbrev how : S → List ℕ → ℕ → List ℕ → S → Type 0
  how p t used shown n = Plays most_due (of p) t used shown (of n)

  parts_told : {s : S} {t : List ℕ} {used : ℕ} {shown : List ℕ} {n : S} → Parts how s t used shown n → Told (of s) t used shown (of n)
  parts_told {s} {t} none_yet = told_start (of s) t
  parts_told {s} {t} (part_then {from} {used} {printed} {more} {now} {next} p a some) =
      told_more (of s) (of now) (of next) t from used printed more (parts_told p) a

  answered_all : {s : S} {t : List ℕ} {used : ℕ} {shown : List ℕ} {n : S} → Answered how s t used shown n → All (of s) t used shown (of n)
  answered_all {s} {t} (to_the_end {printed} {now} p) =
      all_told (of s) (of now) t (length t) printed (parts_told p) (ap ended (drop-length t) ∙ nothing_ends)
  answered_all {s} {t} (none_follows {from} {printed} {more} {now} {next} p a) =
      all_told (of s) (of next) t from printed (told_none (of s) (of now) (of next) t from printed more (parts_told p) a) (a.most refl)

  -- the blocks before, and whatever follows
  record Before (s : S) (begun input shown kept : List ℕ) (n : S) : Type 0 where
    pub blocks : List (List ℕ)
    pub bytes : joined blocks ≡ input
    pub none : ended kept ≡ []
    pub then : (more : List (List ℕ)) → block_output (of s).state most_due (of s).number begun (blocks ++ more)
        ≡ shown ++ block_output (of n).state most_due (of n).number kept more

  joined_more : (bs : List (List ℕ)) (b : List ℕ) → joined (bs ++ (b ∷ [])) ≡ joined bs ++ b
  joined_more [] b = append-nil b
  joined_more (x ∷ bs) b = ap (λ (l : List ℕ). x ++ l) (joined_more bs b) ∙ sym (append_assoc x (joined bs) b)

  before_start : (s : S) (begun : List ℕ) → ended begun ≡ [] → Before s begun [] [] begun s
  before_start s begun e = record { blocks = []; bytes = refl; none = e; then = λ more. refl }

  before_more : (s n m : S) (begun input shown kept got more : List ℕ) (used : ℕ)
      → Before s begun input shown kept n → All (of n) (kept ++ got) used more (of m)
      → Before s begun (input ++ got) (shown ++ more) (take (suc 19) (drop used (kept ++ got))) m
  unfolding block_output
  before_more s n m begun input shown kept got more used b a = record {
    blocks = b.blocks ++ (got ∷ []);
    bytes = joined_more b.blocks got ∙ ap (λ (l : List ℕ). l ++ got) b.bytes;
    none = none_before 20 (drop used (kept ++ got)) a.none;
    then = λ next. ap (block_output (of s).state most_due (of s).number begun) (append_assoc b.blocks (got ∷ []) next)
        ∙ b.then (got ∷ next)
        ∙ (λ j. shown ++ (sym a.printed j ++ block_output (sym a.state j) most_due (sym a.number j) (take 20 (sym a.left j)) next))
        ∙ sym (append_assoc shown more (block_output (of m).state most_due (of m).number (take 20 (drop used (kept ++ got))) next));
  }

  blocks_before : {s : S} {begun : List ℕ} {count : ℕ} {input shown kept : List ℕ} {n : S} → ended begun ≡ []
      → Blocks how 20 s begun count input shown kept n → Before s begun input shown kept n
  blocks_before {s} {begun} e no_block = before_start s begun e
  blocks_before {s} {begun} e (block_then {count} {used} {input} {kept} {printed} got {more} {now} {next} b some a) =
      before_more s now next begun input printed kept got more used (blocks_before e b) (answered_all a)

  -- each block has a byte
  blocks_few : {s : S} {begun : List ℕ} {count : ℕ} {input shown kept : List ℕ} {n : S} → Blocks how 20 s begun count input shown kept n → count ≤ length input
  blocks_few no_block = omega arith
  blocks_few (block_then {input = input} got b some a) = omega (arith, blocks_few b, some, length-append input got)

  last : (s now n : S) (input shown kept more : List ℕ) (used : ℕ) → of s ≡ at_start → Before s [] input shown kept now
      → All (of now) (finished kept) used more (of n) → header ++ (shown ++ more) ≡ whole_output input
  unfolding block_output
  last s now n input shown kept more used e b a = ap (λ (l : List ℕ). header ++ l) (sym out) ∙ blockwise b.blocks ∙ ap whole_output b.bytes
    where
      lines : ended (finished kept) ≡ last_line kept
      lines = finished_lines kept ∙ (λ j. b.none j ++ last_line (rest_all [] kept b.none j))

      tail : more ≡ printout (of now).state most_due (of now).number (last_line kept)
      tail = a.printed ∙ ap (printout (of now).state most_due (of now).number) lines

      out : block_output power_up most_due 1 [] b.blocks ≡ shown ++ more
      out = (λ j. block_output (sym e j).state most_due (sym e j).number [] (sym (append-nil b.blocks) j)) ∙ b.then [] ∙ ap (λ (l : List ℕ). shown ++ l) (sym tail)

  pub ran_whole : {s : S} {limit : ℕ} {input shown : List ℕ} {n : S} → of s ≡ at_start → Ran how 20 limit s [] input shown n
      → length input < limit → header ++ shown ≡ whole_output input
  ran_whole e (at_the_limit b) few = absurd (omega (arith, blocks_few b))
  ran_whole {s} {n = n} e (at_the_end {count} {used} {input} {kept} {printed} {more} {now} b less a) few =
      last s now n input printed kept more used e (blocks_before nothing_ends b) (answered_all a)
