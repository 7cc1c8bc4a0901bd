-- Cutting byte by byte is cutting packet by packet, and is the same in parts.
-- Assumes nothing.
use Prim.Native.Nat.{ℕ, zero, suc, ◌≤◌}
use native.Mathlib.Omega.{arith}
use mathlib.Core.Path.{◌≡◌, refl, sym, ap, ◌∙◌}
use mathlib.Core.List.{List, [], ◌∷◌, ◌++◌, append_assoc, append-nil}
use lib.ListN.{length, take, drop, get_or, length-append}
use lib.Seq.{take-suc, split_at}
use Rattle.receiver.specs.declared.Kind.{Kind}
use Rattle.receiver.specs.declared.Cut.{Cut}
use Rattle.receiver.specs.declared.Cut.TheVariants.{Whole, TooFew, NoPacket}
use Rattle.receiver.specs.Cut.{cut}
use Rattle.receiver.specs.Pieces.{Piece, packet, no_packet, off, waiting, pieces_from, left_from, pieces, left}
use Rattle.receiver.specs.Promises.{Says, whole, empty, few, none, CutInTurn, InParts}
use Rattle.receiver.proofs.Firsts.{is_cut, cut_says, starts_short, decided_by_length}

-- what is cut off bytes, and what is left of them, where the bytes p wait
pub record Given (p l : List ℕ) (ps : List Piece) (q : List ℕ) : Type 0 where
  pub pieces : pieces_from p l ≡ ps
  pub left : left_from p l ≡ q

-- a byte comes, and the first packet is then known
given_by : (p l : List ℕ) (b : ℕ) {c : Cut} → cut (p ++ (b ∷ [])) ≡ c →
    Given p (b ∷ l) (off c (p ++ (b ∷ [])) ++ pieces_from (waiting c (p ++ (b ∷ []))) l) (left_from (waiting c (p ++ (b ∷ []))) l)
unfolding pieces_from left_from
given_by p l b e = record {
  pieces = ap (λ (c : Cut). off c (p ++ (b ∷ [])) ++ pieces_from (waiting c (p ++ (b ∷ []))) l) e;
  left = ap (λ (c : Cut). left_from (waiting c (p ++ (b ∷ []))) l) e;
}

-- too few bytes are too few without their last
few_before : (a b : List ℕ) → cut (a ++ b) ≡ TooFew → cut a ≡ TooFew
few_before [] b e = sym (is_cut [] TooFew empty)
few_before (x ∷ a) b e = at (cut_says e)
  where
    at : Says (x ∷ (a ++ b)) TooFew → cut (x ∷ a) ≡ TooFew
    at (few f h) = sym (is_cut (x ∷ a) TooFew (few f (omega (arith, length-append a b, h))))

-- bytes that are too few all wait: nothing is cut off them
waits : (q r b : List ℕ) → cut (q ++ r) ≡ TooFew → Given q (r ++ b) (pieces_from (q ++ r) b) (left_from (q ++ r) b)
waits q [] b e = rw (append-nil q) (record { pieces = refl; left = refl })
waits q (c ∷ r) b e =
    let join : (q ++ (c ∷ [])) ++ r ≡ q ++ (c ∷ r) = append_assoc q (c ∷ []) r in
    let one = given_by q (r ++ b) c (few_before (q ++ (c ∷ [])) r (ap cut join ∙ e)) in
    let more = waits (q ++ (c ∷ [])) r b (ap cut join ∙ e) in
    record {
      pieces = one.pieces ∙ more.pieces ∙ ap (λ (p : List ℕ). pieces_from p b) join;
      left = one.left ∙ more.left ∙ ap (λ (p : List ℕ). left_from p b) join;
    }

-- bytes in parts, where p waits
in_parts_from : (p a b : List ℕ) → Given p (a ++ b) (pieces_from p a ++ pieces_from (left_from p a) b) (left_from (left_from p a) b)
unfolding pieces_from left_from
in_parts_from p [] b = record { pieces = refl; left = refl }
in_parts_from p (x ∷ a) b =
    let c = cut (p ++ (x ∷ [])) in
    let q = waiting c (p ++ (x ∷ [])) in
    let more = in_parts_from q a b in
    record {
      pieces = ap (λ (ps : List Piece). off c (p ++ (x ∷ [])) ++ ps) more.pieces ∙ sym (append_assoc (off c (p ++ (x ∷ []))) (pieces_from q a) (pieces_from (left_from q a) b));
      left = more.left;
    }

-- what waits is too few
waiting_few : (c : Cut) (l : List ℕ) → cut l ≡ c → cut (waiting c l) ≡ TooFew
waiting_few (Whole k n) l e = sym (is_cut [] TooFew empty)
waiting_few TooFew l e = e
waiting_few NoPacket l e = sym (is_cut [] TooFew empty)

pub left_few : (p l : List ℕ) → cut p ≡ TooFew → cut (left_from p l) ≡ TooFew
unfolding left_from
left_few p [] e = e
left_few p (b ∷ l) e = left_few (waiting (cut (p ++ (b ∷ []))) (p ++ (b ∷ []))) l (waiting_few (cut (p ++ (b ∷ []))) (p ++ (b ∷ [])) refl)

-- no byte is too few
pub none_waits : cut [] ≡ TooFew
none_waits = sym (is_cut [] TooFew empty)

pub in_parts : InParts
in_parts a b =
    let parts = in_parts_from [] a b in
    let then = waits [] (left a) b (left_few [] a none_waits) in (
      parts.pieces ∙ ap (λ (ps : List Piece). pieces a ++ ps) (sym then.pieces),
      parts.left ∙ sym then.left,
    )

-- the last byte of a packet comes
last_comes : (l : List ℕ) (m : ℕ) {k : Kind} → cut l ≡ Whole k (suc m) → suc m ≤ length l →
    Given [] l (packet k (take (suc m) l) ∷ pieces (drop (suc m) l)) (left (drop (suc m) l))
last_comes l m {k} e h =
    let p = take m l in
    let x = get_or l m 0 in
    let rest = drop (suc m) l in
    let d = decided_by_length l k (suc m) e in
    let all : l ≡ p ++ (x ∷ rest) = split_at l m 0 h in
    let front : take (suc m) l ≡ p ++ (x ∷ []) = take-suc l m 0 h in
    let ends : cut (p ++ (x ∷ [])) ≡ Whole k (suc m) = ap cut (sym front) ∙ ap cut (sym (append-nil (take (suc m) l))) ∙ d.whatever_follows [] in
    let before = waits [] p (x ∷ rest) (d.none_spared m (omega arith)) in
    let last = given_by p rest x ends in
    record {
      pieces = ap pieces all ∙ before.pieces ∙ last.pieces ∙ ap (λ (q : List ℕ). packet k q ∷ pieces rest) (sym front);
      left = ap left all ∙ before.left ∙ last.left;
    }

pub cut_in_turn : CutInTurn
unfolding pieces_from left_from
cut_in_turn l = record {
  packets = λ k n e. packet_off l n e (cut_says e);
  others = λ e. none_off l e (cut_says e);
  rest = λ e.
      let w = waits [] l [] e in
      (ap pieces (sym (append-nil l)) ∙ w.pieces, ap left (sym (append-nil l)) ∙ w.left);
}
  where
    packet_off : (l : List ℕ) (n : ℕ) {k : Kind} → cut l ≡ Whole k n → Says l (Whole k n) →
        (pieces l ≡ packet k (take n l) ∷ pieces (drop n l)) × (left l ≡ left (drop n l))
    packet_off [] n {k = k} e w = elim w [ ]
    packet_off (b ∷ l) zero e (whole f h) = let s = starts_short b f in absurd (omega (arith, s.0))
    packet_off (b ∷ l) (suc m) e (whole f h) = let g = last_comes (b ∷ l) m e h in (g.pieces, g.left)

    none_off : (l : List ℕ) → cut l ≡ NoPacket → Says l NoPacket →
        (pieces l ≡ no_packet (take 1 l) ∷ pieces (drop 1 l)) × (left l ≡ left (drop 1 l))
    none_off [] e w = elim w [ ]
    none_off (b ∷ l) e (none f) =
        let one : cut (b ∷ []) ≡ NoPacket = sym (is_cut (b ∷ []) NoPacket (none f)) in
        let g = given_by [] l b one in
        (g.pieces, g.left)
