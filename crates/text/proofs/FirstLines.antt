-- Laws of the first line of a text that goes on behind it, and of what is read of it.
-- Assumes nothing.
use Prim.Native.Nat.{ℕ, zero, suc, ◌+◌, ◌-◌, ◌≤◌, ◌<◌}
use native.Mathlib.Decide.{ℕ_discrete, dec_lt}
use native.Mathlib.Omega.{arith}
use mathlib.Core.Path.{◌≡◌, refl, sym, ap, ◌∙◌}
use mathlib.Core.Bool.{Bool, true, false, cond}
use mathlib.Core.List.{List, [], ◌∷◌}
use lib.Dec.{eqb}
use lib.ListN.{length, take, drop, get_or, length-drop}
use lib.Seq.{length-take-le, drop-drop}
use borrow.Author.Tests.{lt-ltb, le-ltb, eq-eqb, ne_eqb}
use Rattle.controller.specs.declared.Input.{Input}
use Rattle.text.specs.Line.{Line, Good, Bad, line_feed}
use Rattle.std.specs.Prelude.{Option, Some, None}
use Rattle.text.specs.Fronts.{until, followed, upto}
use Rattle.text.specs.Reading.{first_line, input}
use Rattle.text.proofs.Fields.{until_most, rest_of}

-- ---- what stands up to a stop

module _ (stop b : ℕ) (l : List ℕ) where
  pub stops : b ≡ stop → until stop (b ∷ l) ≡ []
  unfolding until
  stops e = rw (eq-eqb b stop e) refl

  pub goes_on : (b ≡ stop → ⊥) → until stop (b ∷ l) ≡ b ∷ until stop l
  unfolding until
  goes_on n = rw (ne_eqb b stop n) refl

-- where there is none, that is everything
pub until_all : (stop : ℕ) (l : List ℕ) → length l ≤ length (until stop l) → until stop l ≡ l
unfolding until
until_all stop [] h = refl
until_all stop (b ∷ l) h =
    elim (ℕ_discrete b stop) [
      | yes e ↦ absurd (omega (arith, ap length (stops stop b l e)))
      | no n ↦ (let e = goes_on stop b l n in e ∙ ap (λ (t : List ℕ). b ∷ t) (until_all stop l (omega (arith, ap length e))))
    ]

front : (stop : ℕ) (s : List ℕ) → until stop s ≡ take (length (until stop s)) s
unfolding until
front stop [] = refl
front stop (b ∷ s) = at (eqb b stop) (front stop s)
  where
    at : (t : Bool) → until stop s ≡ take (length (until stop s)) s → cond t [] (b ∷ until stop s) ≡ take (length (cond t [] (b ∷ until stop s))) (b ∷ s)
    at true e = refl
    at false e = ap (λ (l : List ℕ). b ∷ l) e

-- the stop stands there
stop_at : (stop : ℕ) (s : List ℕ) → length (until stop s) < length s → get_or s (length (until stop s)) 0 ≡ stop
unfolding until
stop_at stop [] h = absurd (omega arith)
stop_at stop (b ∷ s) h =
    elim (ℕ_discrete b stop) [
      | yes e ↦ rw (stops stop b s e) e
      | no n ↦ rw (goes_on stop b s n) (stop_at stop s (omega (arith, ap length (goes_on stop b s n))))
    ]

-- k bytes without it, and then the stop
stops_at : (stop k : ℕ) (s : List ℕ) → k < length s → get_or s k 0 ≡ stop → until stop (take k s) ≡ take k s → until stop s ≡ take k s
stops_at stop k [] h e f = absurd (omega arith)
stops_at stop zero (b ∷ s) h e f = stops stop b s e
stops_at stop (suc k) (b ∷ s) h e f =
    elim (ℕ_discrete b stop) [
      | yes g ↦ absurd (omega (arith, ap length (sym (stops stop b (take k s) g) ∙ f)))
      | no n ↦ (let g = sym (goes_on stop b (take k s) n) ∙ f in goes_on stop b s n ∙ ap (λ (l : List ℕ). b ∷ l) (stops_at stop k s (omega arith) e (cc)))
    ]

-- what stands up to it, further on
pub until_drop : (stop k : ℕ) (s : List ℕ) → k ≤ length (until stop s) → until stop (drop k s) ≡ drop k (until stop s)
unfolding until
until_drop stop zero s h = refl
until_drop stop (suc k) [] h = refl
until_drop stop (suc k) (b ∷ s) h =
    elim (ℕ_discrete b stop) [
      | yes e ↦ absurd (omega (arith, ap length (stops stop b s e)))
      | no n ↦ until_drop stop k s (omega (arith, ap length (goes_on stop b s n))) ∙ ap (drop (suc k)) (sym (goes_on stop b s n))
    ]

-- ---- two stops: a ends a field, and b ends a line

-- the first field of a line that has more is that of the text
pub same_first : (a b : ℕ) (s : List ℕ) → length (until a (until b s)) < length (until b s) → until a (until b s) ≡ until a s
unfolding until
same_first a b [] h = refl
same_first a b (c ∷ s) h =
    elim (ℕ_discrete c b) [
      | yes e ↦ absurd (omega (arith, ap length (stops b c s e)))
      | no n ↦ (let line = goes_on b c s n in
          elim (ℕ_discrete c a) [
            | yes e ↦ ap (until a) line ∙ stops a c (until b s) e ∙ sym (stops a c s e)
            | no m ↦ (let field = ap (until a) line ∙ goes_on a c (until b s) m in field ∙ ap (λ (l : List ℕ). c ∷ l) (same_first a b s (omega (arith, ap length line, ap length field))) ∙ sym (goes_on a c s m))
          ])
    ]

-- the first field of the text, if it ends and has no end of a line in it, is that of a line that has more
pub parts : (a b : ℕ) (s : List ℕ) → (a ≡ b → ⊥) → length (until a s) < length s → until b (until a s) ≡ until a s → length (until a (until b s)) < length (until b s)
unfolding until
parts a b [] d h f = absurd (omega arith)
parts a b (c ∷ s) d h f =
    elim (ℕ_discrete c a) [
      | yes e ↦ (let line = goes_on b c s (λ g. d (sym e ∙ g)) in omega (arith, ap length line, ap length (ap (until a) line ∙ stops a c (until b s) e)))
      | no n ↦ (let same = sym (ap (until b) (goes_on a c s n)) ∙ f ∙ goes_on a c s n in
          elim (ℕ_discrete c b) [
            | yes g ↦ absurd (omega (arith, ap length (sym (stops b c (until a s) g) ∙ same)))
            | no m ↦ (let line = goes_on b c s m in
                let tails = sym (goes_on b c (until a s) m) ∙ same in
                let more = parts a b s d (omega (arith, ap length (goes_on a c s n))) (cc) in
                omega (arith, more, ap length line, ap length (ap (until a) line ∙ goes_on a c (until b s) n)))
          ])
    ]

-- ---- what is read

-- the input of the first line, which is read by m, and the text after it
abbrev pub by : (List ℕ → Line) → List ℕ → Option (Input × List ℕ)
by m s = upto (λ l. input (m l)) line_feed s

pub unread : (m : List ℕ → Line) (s : List ℕ) → (length (first_line s) < length s → m (first_line s) ≡ Bad) → None ≡ by m s
unfolding upto
unread m s h =
    elim (dec_lt (length (first_line s)) (length s)) [
      | yes l ↦ rw (lt-ltb (length (first_line s)) (length s) l, h l) refl
      | no l ↦ rw (le-ltb (length (first_line s)) (length s) (omega arith)) refl
    ]

pub whole : (m : List ℕ → Line) (s : List ℕ) (i : Input) → length (first_line s) < length s → m (first_line s) ≡ Good i → Some (i, drop (suc (length (first_line s))) s) ≡ by m s
unfolding upto
whole m s i h e = rw (lt-ltb (length (first_line s)) (length s) h, e) refl

-- the same, of a text of which the first k bytes have been read
pub later : (m n : List ℕ → Line) (k : ℕ) (s : List ℕ) → k ≤ length (first_line s) → m (first_line (drop k s)) ≡ n (first_line s) → by m (drop k s) ≡ by n s
unfolding upto
later m n k s h e =
    let p : length (first_line (drop k s)) + k ≡ length (first_line s) = (let e = ap length (until_drop line_feed k s h) in omega (arith, length-drop k (first_line s))) in
    let j : k + suc (length (first_line (drop k s))) ≡ suc (length (first_line s)) = omega arith in
    let q : length (drop k s) + k ≡ length s = omega (arith, length-drop k s, until_most line_feed s) in
    elim (dec_lt (length (first_line s)) (length s)) [
      | yes l ↦
          rw (lt-ltb (length (first_line s)) (length s) l, lt-ltb (length (first_line (drop k s))) (length (drop k s)) (omega arith), e)
          (ap (λ (r : List ℕ). followed r (input (n (first_line s)))) (drop-drop (suc (length (first_line (drop k s)))) k s ∙ ap (λ (i : ℕ). drop i s) j))
      | no l ↦ rw (le-ltb (length (first_line s)) (length s) (omega arith), le-ltb (length (first_line (drop k s))) (length (drop k s)) (omega arith)) refl
    ]

-- ---- lines of a kind that all have one length
module _ (k : ℕ) (m : List ℕ → Line) (sized : (l : List ℕ) → (length l ≡ k → ⊥) → m l ≡ Bad) (s : List ℕ) where
  -- the line does not end there
  pub unended : (k < length s → get_or s k 0 ≡ line_feed → ⊥) → None ≡ by m s
  unended n = unread m s (λ h. sized (first_line s) (λ e. n (omega arith) (ap (λ (i : ℕ). get_or s i 0) (sym e) ∙ stop_at line_feed s h)))

  -- it is bad if it does
  pub wrong : (k ≤ length s → m (take k s) ≡ Bad) → None ≡ by m s
  wrong h =
      unread m s (λ l. elim (ℕ_discrete (length (first_line s)) k) [
        | yes e ↦ ap m (front line_feed s ∙ ap (λ (i : ℕ). take i s) e) ∙ h (omega arith)
        | no n ↦ sized (first_line s) n
      ])

  -- it ends there, and not before; the rest is as a call is lent it
  pub right : k < length s → get_or s k 0 ≡ line_feed → until line_feed (take k s) ≡ take k s → (i : Input) → m (take k s) ≡ Good i → Some (i, take (length s - (k + 1)) (drop (k + 1) s)) ≡ by m s
  right h e f i g =
      let l = stops_at line_feed k s h e f in
      let n : length (first_line s) ≡ k = ap length l ∙ length-take-le k s (omega arith) in
      let d : k + 1 ≡ suc (length (first_line s)) = omega arith in
      ap (λ (r : List ℕ). Some (i, r)) (rest_of (k + 1) s ∙ ap (λ (p : ℕ). drop p s) d) ∙ whole m s i (omega arith) (ap m l ∙ g)
