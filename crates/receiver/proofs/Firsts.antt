-- The promises about the first packet: exactly one of three things is true of every byte string, which bytes start none, and what decides.
-- Assumes nothing.
use Prim.Native.Nat.{ℕ, zero, suc, ◌≤◌, ◌<◌}
use native.Mathlib.Omega.{arith}
use mathlib.Core.Path.{◌≡◌, refl, sym, ap, ◌∙◌, subst}
use mathlib.Core.Bool.{Bool, true, false, cond, ◌&&◌}
use mathlib.Core.List.{List, [], ◌∷◌}
use lib.Dec.{eqb, leb, ltb}
use Rattle.std.specs.Prelude.{Option, Some, None}
use lib.ListN.{length, take, length-append, length-take}
use borrow.Author.Tests.{eqb-true, lt-ltb, le-ltb, ltb-true, ltb-false}
use Rattle.output.specs.ScanCodes.{is_make, is_break}
use Rattle.output.proofs.Cases.{both_ways}
use Rattle.output.proofs.Computed.{passes, passes_at}
use Rattle.receiver.specs.declared.Kind.{Kind}
use Rattle.receiver.specs.declared.Cut.{Cut}
use Rattle.receiver.specs.declared.Cut.TheVariants.{Whole, TooFew, NoPacket}
use Rattle.receiver.specs.Cut.{start, cut, cut_at, length_of, number}
use Rattle.receiver.specs.Promises.{Says, whole, empty, few, none, ExactlyOne, starts_none, Refuses, Decided, DecidedByLength}

-- a packet has a byte, and at most eight
abbrev pub Short : Option (Kind × ℕ) → Type 0
Short (Some (k, n)) = (1 ≤ n) × (n ≤ 8)
Short None = Unit {0}

short : (b : ℕ) → Short (start b)
unfolding start
short b =
    both_ways Short (is_make b) (λ _. omega arith)
    (λ _. both_ways Short (eqb b 0xF0) (λ _. omega arith)
    (λ _. both_ways Short (is_break b) (λ _. omega arith)
    (λ _. both_ways Short (eqb b 0xF6) (λ _. omega arith)
    (λ _. both_ways Short (eqb b 0xF7) (λ _. omega arith)
    (λ _. both_ways Short (leb 0xF8 b && leb b 0xFB) (λ _. omega arith)
    (λ _. both_ways Short (eqb b 0xFC) (λ _. omega arith)
    (λ _. both_ways Short (eqb b 0xFD) (λ _. omega arith)
    (λ _. both_ways Short (leb 0xFE b && leb b 0xFF) (λ _. omega arith) (λ _. tt)))))))))

pub starts_short : (b : ℕ) {n : ℕ} {k : Kind} → start b ≡ Some (k, n) → (1 ≤ n) × (n ≤ 8)
starts_short b e = subst Short e (short b)

says : (l : List ℕ) → Says l (cut l)
unfolding cut
says [] = empty
says (b ∷ l) = at (start b) refl
  where
    at : (x : Option (Kind × ℕ)) → start b ≡ x → Says (b ∷ l) (cut_at x (length (b ∷ l)))
    at (Some (k, n)) e =
        both_ways (Says (b ∷ l)) (ltb (length (b ∷ l)) n) (λ t. few e (ltb-true (length (b ∷ l)) n t)) (λ t. whole e (ltb-false (length (b ∷ l)) n t))
    at None e = none e

-- what is cut, where one of the three is known
pub is_cut : (l : List ℕ) (c : Cut) → Says l c → c ≡ cut l
unfolding cut
is_cut [] NoPacket w = elim w [ ]
is_cut [] (Whole k n) w = elim w [ ]
is_cut (b ∷ l) (Whole k n) (whole e h) = rw (e, le-ltb (length (b ∷ l)) n h)
is_cut [] TooFew empty = refl
is_cut (b ∷ l) TooFew (few {n} e h) = rw (e, lt-ltb (length (b ∷ l)) n h)
is_cut (b ∷ l) NoPacket (none e) = rw e

pub exactly_one : ExactlyOne
exactly_one l = (says l, is_cut l)

-- and the other way: what is known where the cut is
pub cut_says : {l : List ℕ} {c : Cut} → cut l ≡ c → Says l c
cut_says {l} e = subst (Says l) e (says l)

-- which bytes start none, tested at all 256
refused_right : ℕ → Bool
refused_right b = eqb (number (cut_at (start b) 8)) (cond (starts_none b) 6 0)

-- how many bytes there are does not count for it
same_number : (x : Option (Kind × ℕ)) (m n : ℕ) → number (cut_at x m) ≡ number (cut_at x n)
same_number (Some (k, length)) m n = never (ltb m length) ∙ sym (never (ltb n length))
  where
    never : (t : Bool) → number (cond t TooFew (Whole k length)) ≡ 0
    never true = refl
    never false = refl
same_number None m n = refl

number_is : (first : ℕ) (rest : List ℕ) → first ≤ 255 → number (cut (first ∷ rest)) ≡ cond (starts_none first) 6 0
unfolding cut passes refused_right start is_make is_break
number_is first rest h =
    same_number (start first) _ 8
    ∙ eqb-true (number (cut_at (start first) 8)) (cond (starts_none first) 6 0) (passes_at refused_right 0 256 refl first (omega arith) (omega arith))

-- what is refused takes nothing
none_taken : (c : Cut) → number c ≡ 6 → length_of c ≡ 0
none_taken (Whole k n) e = absurd (omega arith)
none_taken TooFew e = refl
none_taken NoPacket e = refl

pub refuses : Refuses
refuses first rest h =
    let n = number_is first rest h in
    (n, λ e. none_taken (cut (first ∷ rest)) (n ∙ ap (λ (t : Bool). cond t 6 0) e))

-- a packet whatever follows it, and none without its last byte
pub decided_by_length : DecidedByLength
decided_by_length bytes k n e = at bytes n (cut_says e)
  where
    at : (l : List ℕ) (n : ℕ) → Says l (Whole k n) → Decided l k n
    at [] _ w = elim w [ ]
    at (b ∷ l) zero (whole f h) = let s = starts_short b f in absurd (omega (arith, s.0))
    at (b ∷ l) (suc n) (whole f h) = record {
      whatever_follows = λ rest. sym (is_cut _ _ (whole f (omega (arith, length-append (take n l) rest, length-take n l, h))));
      none_spared = λ m less. fewer m less;
    }
      where
        fewer : (m : ℕ) → m < suc n → cut (take m (b ∷ l)) ≡ TooFew
        fewer zero less = sym (is_cut [] TooFew empty)
        fewer (suc m) less = sym (is_cut _ _ (few f (omega (arith, length-take m l, less))))
