-- Laws of whole lines, by their first byte and the tab after it, and of the texts that they stand at the front of.
-- Assumes nothing.
use Prim.Native.Char.{code}
use Prim.Native.Nat.{ℕ, suc, ◌-◌, ◌≤◌, ◌<◌}
use native.Mathlib.Decide.{ℕ_discrete, dec_lt}
use native.Mathlib.Omega.{arith}
use mathlib.Core.Path.{◌≡◌, refl, sym, ap, ◌∙◌}
use mathlib.Core.Bool.{Bool, true, false, cond}
use mathlib.Core.List.{List, [], ◌∷◌}
use lib.Dec.{eqb}
use lib.ListN.{length, take, drop, get_or}
use borrow.Author.Tests.{ne_eqb}
use Rattle.controller.specs.declared.Input.TheVariants.{Tick}
use Rattle.std.specs.Prelude.{Option, None, Some}
use Rattle.controller.specs.declared.Input.{Input}
use Rattle.text.specs.Line.{Good, Bad, line_feed, tab, lengthened, fields, kind, meaning, line_of}
use Rattle.text.specs.Reading.{first_line, line_by}
use Rattle.text.proofs.Fields.{rest_of, none_after, whatever}
use Rattle.text.proofs.Lengths.{either}
use Rattle.text.proofs.FirstLines.{stops, goes_on, until_drop, unread, whole, later}

-- ---- what a line means

no_bytes : (l : List ℕ) → length l ≡ 0 → line_of l ≡ Bad
unfolding line_of fields meaning
no_bytes [] n = refl
no_bytes (b ∷ l) n = absurd (omega arith)

-- one byte alone
tick_alone : (b : ℕ) → b ≡ code "T" → line_of (b ∷ []) ≡ Good Tick
unfolding line_of fields meaning kind
tick_alone b e = rw e refl

other_alone : (b : ℕ) → (b ≡ code "T" → ⊥) → line_of (b ∷ []) ≡ Bad
unfolding line_of fields meaning kind
other_alone b e = at (eqb b tab)
  where
    alone : kind b [] ≡ Bad
    alone =
        either (eqb b (code "B")) refl
        (either (eqb b (code "K")) refl
        (either (eqb b (code "L")) refl
        (either (eqb b (code "R")) refl
        (either (eqb b (code "M")) refl
        (either (eqb b (code "S")) refl
        (either (eqb b (code "F")) refl (rw (ne_eqb b (code "T") e) refl)))))))

    at : (t : Bool) → meaning (cond t ([] ∷ [] ∷ []) ((b ∷ []) ∷ [])) ≡ Bad
    at true = refl
    at false = alone

-- a first field of two bytes or more
untabbed : (b c : ℕ) (l : List ℕ) → (c ≡ tab → ⊥) → line_of (b ∷ c ∷ l) ≡ Bad
unfolding line_of fields meaning
untabbed b c l e = rw (ne_eqb c tab e) (at (eqb b tab))
  where
    longer : meaning (lengthened b (lengthened c (fields l))) ≡ Bad
    longer = whatever l (λ (fs : List (List ℕ)). meaning (lengthened b (lengthened c fs)) ≡ Bad) (λ fs. refl)

    at : (t : Bool) → meaning (cond t ([] ∷ lengthened c (fields l)) (lengthened b (lengthened c (fields l)))) ≡ Bad
    at true = refl
    at false = longer

-- one byte and a tab: the line is of that kind
tabbed : (b c : ℕ) (l : List ℕ) → c ≡ tab → line_of (b ∷ c ∷ l) ≡ kind b (fields l)
unfolding line_of fields meaning kind
tabbed b c l t =
    elim (ℕ_discrete b tab) [
      | yes e ↦ rw (t, e) refl
      | no n ↦ rw (t, ne_eqb b tab n) refl
    ]

-- a byte that is no kind but perhaps `T`, which wants no field more
other_kind : (b : ℕ) (l : List ℕ) → (b ≡ code "B" → ⊥) × (b ≡ code "K" → ⊥) × (b ≡ code "L" → ⊥) × (b ≡ code "R" → ⊥) × (b ≡ code "M" → ⊥) × (b ≡ code "S" → ⊥) × (b ≡ code "F" → ⊥) → kind b (fields l) ≡ Bad
unfolding kind
other_kind b l n =
    rw (ne_eqb b (code "B") n.0, ne_eqb b (code "K") n.1, ne_eqb b (code "L") n.2, ne_eqb b (code "R") n.3, ne_eqb b (code "M") n.4, ne_eqb b (code "S") n.5, ne_eqb b (code "F") n.6)
    (either (eqb b (code "T")) (none_after Tick l) refl)

-- ---- what is read of a text

pub no_line : (t : List ℕ) → length t < 2 → None ≡ line_by meaning t
unfolding line_of
no_line t h = unread line_of t (λ l. no_bytes (first_line t) (omega arith))

bad_line : (a : ℕ) (l : List ℕ) → ((a ≡ line_feed → ⊥) → line_of (a ∷ first_line l) ≡ Bad) → None ≡ line_by meaning (a ∷ l)
unfolding line_of
bad_line a l h =
    unread line_of (a ∷ l) (λ k. elim (ℕ_discrete a line_feed) [
      | yes e ↦ no_bytes (first_line (a ∷ l)) (ap length (stops line_feed a l e))
      | no n ↦ ap line_of (goes_on line_feed a l n) ∙ h n
    ])

front_two : (t : List ℕ) → 2 ≤ length t → get_or t 0 0 ∷ get_or t 1 0 ∷ drop 2 t ≡ t
front_two [] h = absurd (omega arith)
front_two (a ∷ []) h = absurd (omega arith)
front_two (a ∷ b ∷ t) h = refl

module _ (t : List ℕ) (h : 2 ≤ length t) where
  bad_front : ((get_or t 0 0 ≡ line_feed → ⊥) → line_of (get_or t 0 0 ∷ first_line (get_or t 1 0 ∷ drop 2 t)) ≡ Bad) → None ≡ line_by meaning t
  bad_front w = bad_line (get_or t 0 0) (get_or t 1 0 ∷ drop 2 t) w ∙ ap (line_by meaning) (front_two t h)

  module _ (e : get_or t 1 0 ≡ line_feed) where
    ended : first_line (get_or t 1 0 ∷ drop 2 t) ≡ []
    ended = stops line_feed (get_or t 1 0) (drop 2 t) e

    pub tick : get_or t 0 0 ≡ code "T" → Some (Tick, take (length t - 2) (drop 2 t)) ≡ line_by meaning t
    unfolding line_of
    tick f =
        let a = get_or t 0 0 in
        let l : first_line t ≡ a ∷ [] = ap first_line (sym (front_two t h)) ∙ goes_on line_feed a (get_or t 1 0 ∷ drop 2 t) (λ g. omega arith) ∙ ap (λ (r : List ℕ). a ∷ r) ended in
        ap (λ (r : List ℕ). Some (Tick, r)) (rest_of 2 t ∙ ap (λ (k : ℕ). drop (suc k) t) (sym (ap length l))) ∙ whole line_of t Tick (omega (arith, ap length l)) (ap line_of l ∙ tick_alone a f)

    pub no_tick : (get_or t 0 0 ≡ code "T" → ⊥) → None ≡ line_by meaning t
    no_tick f = bad_front (λ n. ap (λ (r : List ℕ). line_of (get_or t 0 0 ∷ r)) ended ∙ other_alone (get_or t 0 0) f)

  module _ (n : get_or t 1 0 ≡ line_feed → ⊥) where
    second : first_line (get_or t 1 0 ∷ drop 2 t) ≡ get_or t 1 0 ∷ first_line (drop 2 t)
    second = goes_on line_feed (get_or t 1 0) (drop 2 t) n

    pub no_tab : (get_or t 1 0 ≡ tab → ⊥) → None ≡ line_by meaning t
    no_tab m = bad_front (λ k. ap (λ (r : List ℕ). line_of (get_or t 0 0 ∷ r)) second ∙ untabbed (get_or t 0 0) (get_or t 1 0) (first_line (drop 2 t)) m)

  module _ (e : get_or t 1 0 ≡ tab) where
    -- the line is of a kind, and the rest of it is lent to a call
    pub by_kind : (q : Option (Input × List ℕ)) (b : ℕ) → get_or t 0 0 ≡ b → (b ≡ line_feed → ⊥) → q ≡ line_by (kind b) (take (length t - 2) (drop 2 t)) → q ≡ line_by meaning t
    unfolding line_of
    by_kind q b f n g =
        let a = get_or t 0 0 in
        let l : first_line t ≡ a ∷ get_or t 1 0 ∷ first_line (drop 2 t) = ap first_line (sym (front_two t h)) ∙ goes_on line_feed a (get_or t 1 0 ∷ drop 2 t) (λ k. n (sym f ∙ k)) ∙ ap (λ (r : List ℕ). a ∷ r) (second (λ k. omega arith)) in
        g
        ∙ (λ i. line_by (kind (sym f i)) (rest_of 2 t i))
        ∙ later (λ l. kind a (fields l)) (λ l. meaning (fields l)) 2 t (omega (arith, ap length l))
        (ap (λ (r : List ℕ). kind a (fields r)) (until_drop line_feed 2 t (omega (arith, ap length l)) ∙ ap (drop 2) l) ∙ sym (means l))
      where
        means : {k : List ℕ} → k ≡ get_or t 0 0 ∷ get_or t 1 0 ∷ first_line (drop 2 t) → meaning (fields k) ≡ kind (get_or t 0 0) (fields (first_line (drop 2 t)))
        means l = ap line_of l ∙ tabbed (get_or t 0 0) (get_or t 1 0) (first_line (drop 2 t)) e

    pub no_kind : (get_or t 0 0 ≡ code "B" → ⊥) × (get_or t 0 0 ≡ code "K" → ⊥) × (get_or t 0 0 ≡ code "L" → ⊥) × (get_or t 0 0 ≡ code "R" → ⊥) × (get_or t 0 0 ≡ code "M" → ⊥) × (get_or t 0 0 ≡ code "S" → ⊥) × (get_or t 0 0 ≡ code "F" → ⊥) → None ≡ line_by meaning t
    no_kind n =
        bad_front (λ k. ap (λ (r : List ℕ). line_of (get_or t 0 0 ∷ r)) (second (λ k. omega arith)) ∙ tabbed (get_or t 0 0) (get_or t 1 0) (first_line (drop 2 t)) e ∙ other_kind (get_or t 0 0) (first_line (drop 2 t)) n)

-- none of the kinds
pub no_good : (t : List ℕ) → (2 ≤ length t → get_or t 0 0 ≡ code "T" → get_or t 1 0 ≡ line_feed → ⊥) → (2 ≤ length t → get_or t 0 0 ≡ code "B" → get_or t 1 0 ≡ tab → ⊥) → (2 ≤ length t → get_or t 0 0 ≡ code "K" → get_or t 1 0 ≡ tab → ⊥) → (2 ≤ length t → get_or t 0 0 ≡ code "L" → get_or t 1 0 ≡ tab → ⊥) → (2 ≤ length t → get_or t 0 0 ≡ code "R" → get_or t 1 0 ≡ tab → ⊥) → (2 ≤ length t → get_or t 0 0 ≡ code "M" → get_or t 1 0 ≡ tab → ⊥) → (2 ≤ length t → get_or t 0 0 ≡ code "S" → get_or t 1 0 ≡ tab → ⊥) → (2 ≤ length t → get_or t 0 0 ≡ code "F" → get_or t 1 0 ≡ tab → ⊥) → None ≡ line_by meaning t
no_good t nt nb nk nl nr nm ns nf =
    elim (dec_lt (length t) 2) [
      | yes l ↦ no_line t l
      | no l ↦
          elim (ℕ_discrete (get_or t 1 0) line_feed) [
            | yes e ↦ no_tick t (omega arith) e (λ g. nt (omega arith) g e)
            | no f ↦
                elim (ℕ_discrete (get_or t 1 0) tab) [
                  | yes e ↦ no_kind t (omega arith) e (λ g. nb (omega arith) g e, λ g. nk (omega arith) g e, λ g. nl (omega arith) g e, λ g. nr (omega arith) g e, λ g. nm (omega arith) g e, λ g. ns (omega arith) g e, λ g. nf (omega arith) g e)
                  | no g ↦ no_tab t (omega arith) f g
                ]
          ]
    ]
