-- Laws for writing what is sent of held motion: packets in a loop, and arrow keys.
-- Assumes nothing.
use Prim.Native.Nat.{ℕ, suc, ◌+◌, ◌-◌, ◌*◌, ◌≤◌, ◌<◌}
use native.Mathlib.Omega.{arith}
use mathlib.Core.Path.{◌≡◌, refl, sym, ap, ◌∙◌, subst}
use mathlib.Core.List.{List, [], ◌∷◌, ◌++◌, append_assoc, append-nil}
use lib.ListN.{length, take, drop, length-append}
use Rattle.output.specs.Packets.{bytes, pairs}
use Rattle.output.specs.ScanCodes.{arrow_right, arrow_left, arrow_up, arrow_down}
use Rattle.output.specs.Writing.{Wrote}
use Rattle.output.proofs.Packets.{bytes_append, pairs_length}
use Rattle.output.proofs.Writing.{both, none, kept}
use Rattle.motion.specs.declared.Motion.{Motion}
use Rattle.motion.specs.declared.Axes.{Axes}
use Rattle.motion.specs.declared.Spread.{Spread}
use Rattle.motion.specs.Motion.{size}
use Rattle.motion.specs.Spread.{spread_at, next_byte, further}
use Rattle.motion.proofs.Spreads.{says_part, moves_on}
use Rattle.mouse.specs.Sending.{split_from, split, arrows}

-- Before the k-th packet: `front` is written, and with the packets that are still to come it is all that is sent.
pub record Going (n levels : ℕ) (d : Axes Motion) (l X : List ℕ) (x y : Spread) (k at : ℕ) : Type 0 where
  pub written : at ≡ 3 * k
  pub x_is : x ≡ spread_at n k d.x
  pub y_is : y ≡ spread_at n k d.y
  pub front : List ℕ
  pub wrote : Wrote front at l X
  pub all : front ++ bytes (split_from (n - k) n k levels d) ≡ bytes (split n levels d)
  pub room : at + 3 * (n - k) ≤ length l
  pub same : length X ≡ length l

module _ (n levels : ℕ) (d : Axes Motion) (l : List ℕ) where
  pub start : {x y : Spread} → 3 * n ≤ length l → x ≡ spread_at n 0 d.x → y ≡ spread_at n 0 d.y → Going n levels d l l x y 0 0
  start h sx sy =
      let whole : n - 0 ≡ n = omega arith in
      record {
        written = omega arith;
        x_is = sx;
        y_is = sy;
        front = [];
        wrote = none l;
        all = ap (λ (r : ℕ). bytes (split_from r n 0 levels d)) whole;
        room = omega arith;
        same = refl;
      }

  -- one packet, with what the calls gave
  pub turn : {X Y : List ℕ} {x y x' y' : Spread} {k at first p q j : ℕ} → d.x.minus ≤ 65535 → d.y.minus ≤ 65535 → Going n levels d l X x y k at → k < n →
      first ≡ 0xF8 + levels → p ≡ next_byte x → q ≡ next_byte y → Wrote (first ∷ p ∷ q ∷ []) j (take (length X - at) (drop at X)) Y →
      x' ≡ further x → y' ≡ further y →
      Going n levels d l (take at X ++ (Y ++ drop (length X - at) (drop at X))) x' y' (k + 1) (at + j)
  unfolding split_from
  turn {X} {Y} {x} {y} {x'} {y'} {k} {at} {first} {p} {q} {j} fx fy g h ef sx sy w mx my =
      let b = both g.wrote w in
      let room = g.room in
      let three = w.count in
      let written = g.written in
      let some : 0 < n = omega arith in
      let ep = sx ∙ ap next_byte g.x_is ∙ says_part n k d.x some fx in
      let eq = sy ∙ ap next_byte g.y_is ∙ says_part n k d.y some fy in
      let more : n - k ≡ suc (n - (k + 1)) = omega arith in
      let packet : bytes (split_from (n - k) n k levels d) ≡ first ∷ p ∷ q ∷ bytes (split_from (n - (k + 1)) n (k + 1) levels d) =
      ap (λ (r : ℕ). bytes (split_from r n k levels d)) more ∙ rw (ef, ep, eq) refl in
      record {
        written = omega arith;
        x_is = mx ∙ ap further g.x_is ∙ moves_on n k d.x some;
        y_is = my ∙ ap further g.y_is ∙ moves_on n k d.y some;
        front = g.front ++ (first ∷ p ∷ q ∷ []);
        wrote = b;
        all = append_assoc g.front (first ∷ p ∷ q ∷ []) _ ∙ ap (λ (t : List ℕ). g.front ++ t) (sym packet) ∙ g.all;
        room = omega arith;
        same = kept b (omega arith);
      }

  -- nothing is to come any more
  pub done : {X : List ℕ} {x y : Spread} {k at : ℕ} → Going n levels d l X x y k at → n ≤ k → Wrote (bytes (split n levels d)) at l X
  unfolding split_from
  done {X} {x} {y} {k} {at} g h =
      let zero_left : n - k ≡ 0 = omega arith in
      let whole : g.front ≡ bytes (split n levels d) =
      sym (append-nil g.front) ∙ ap (λ (r : ℕ). g.front ++ bytes (split_from r n k levels d)) (sym zero_left) ∙ g.all in
      subst (λ (t : List ℕ). Wrote t at l X) whole g.wrote

  -- no packet at all
  pub nothing : n ≡ 0 → Wrote (bytes (split n levels d)) 0 l l
  unfolding split_from
  nothing e = rw e (none l)

-- the arrows of one axis, as many bytes as they are, and those of the other
pub axis_length : (d : Motion) (forth back : ℕ) → length (bytes (pairs d.plus forth ++ pairs d.minus back)) ≡ 2 * size d
axis_length d forth back = simp (bytes_append, length-append) (omega (arith, pairs_length d.plus forth, pairs_length d.minus back))

pub arrow_bytes : (d : Axes Motion) → bytes (arrows d) ≡ bytes (pairs d.x.plus arrow_right ++ pairs d.x.minus arrow_left) ++ bytes (pairs d.y.plus arrow_down ++ pairs d.y.minus arrow_up)
unfolding arrows
arrow_bytes d = simp (bytes_append, append_assoc)
