-- Laws of bytes in hexadecimal, and of output lines.
-- Assumes nothing.
use Prim.Native.Char.{code}
use Prim.Native.Nat.{ℕ, suc, ◌+◌, ◌-◌, ◌*◌, ◌/◌, ◌%◌, ◌^◌, ◌≤◌, ◌<◌}
use native.Mathlib.Numerals.{add-one}
use native.Mathlib.Decide.{dec_lt}
use native.Mathlib.Omega.{arith}
use mathlib.Core.Path.{◌≡◌, refl, sym, ap, ◌∙◌}
use mathlib.Core.List.{List, [], ◌∷◌, ◌++◌}
use Rattle.std.specs.Prelude.{Some}
use lib.ListN.{length, take, get_or, set, length-append, length-set}
use lib.Seq.{take-suc, length-take-le, set_split, take-length}
use borrow.Author.Tests.{lt-ltb, le-ltb, le-leb, lt-leb}
use Rattle.output.specs.Writing.{over, Wrote}
use Rattle.output.proofs.Writing.{over_more, stored_after}
use Rattle.text.specs.Line.{tab, hex_digit, hex}
use Rattle.text.specs.Output.{figure, decimal, hex_figure, hex_bytes, shown, output_line, line_room}
use Rattle.text.proofs.Counting.{decimal_most}

hex_append : (a b : List ℕ) → hex_bytes (a ++ b) ≡ hex_bytes a ++ hex_bytes b
unfolding hex_bytes
hex_append [] b = refl
hex_append (x ∷ a) b = ap (λ (l : List ℕ). hex_figure (x / 16) ∷ hex_figure (x % 16) ∷ l) (hex_append a b)

pub hex_length : (l : List ℕ) → length (hex_bytes l) ≡ 2 * length l
unfolding hex_bytes
hex_length [] = refl
hex_length (b ∷ l) = let h = hex_length l in omega arith

-- a byte in hexadecimal is read as that byte again
figure_back : (d : ℕ) → d ≤ 15 → hex_digit (hex_figure d) ≡ d
unfolding hex_digit hex_figure
figure_back d h =
    elim (dec_lt d 10) [
      | yes l ↦ rw (lt-ltb d 10 l, le-leb (code "0") (code "0" + d) (omega arith), le-leb (code "0" + d) (code "9") (omega arith)) (omega arith)
      | no l ↦
          rw (le-ltb d 10 (omega arith), le-leb (code "0") (code "A" + (d - 10)) (omega arith), lt-leb (code "A" + (d - 10)) (code "9") (omega arith), le-leb (code "A") (code "A" + (d - 10)) (omega arith), le-leb (code "A" + (d - 10)) (code "F") (omega arith))
          (omega arith)
    ]

pub hex_back : (b : ℕ) → b ≤ 255 → hex (hex_bytes (b ∷ [])) ≡ Some b
unfolding hex hex_bytes
hex_back b h =
    rw (figure_back (b / 16) (omega arith), figure_back (b % 16) (omega arith), lt-ltb (b / 16) 16 (omega arith), lt-ltb (b % 16) 16 (omega arith))
    (ap Some (omega arith))

-- the first i bytes are written, `at` places of the buffer
pub record Listing (bytes : List ℕ) (i at : ℕ) (before after : List ℕ) : Type 0 where
  pub place : at ≡ 2 * i
  pub buffer : after ≡ over (hex_bytes (take i bytes)) before
  pub same : length after ≡ length before

pub listing_start : (bytes l : List ℕ) → Listing bytes 0 0 l l
unfolding over hex_bytes
listing_start bytes l = record { place = refl; buffer = refl; same = refl }

pub listing_on : (bytes l X : List ℕ) (i at h k : ℕ) → Listing bytes i at l X → i < length bytes → at + 2 ≤ length l → h ≡ hex_figure (get_or bytes i 0 / 16) → k ≡ hex_figure (get_or bytes i 0 % 16) → Listing bytes (i + 1) (at + 2) l (set (set X at h) (at + 1) k)
unfolding hex_bytes
listing_on bytes l X i at h k r inside room p q =
    let b = get_or bytes i 0 in
    let written = hex_bytes (take i bytes) in
    let place = r.place in
    let long : at ≡ length written = place ∙ ap (λ (n : ℕ). 2 * n) (sym (length-take-le i bytes (omega arith))) ∙ sym (hex_length (take i bytes)) in
    let step : take (i + 1) bytes ≡ take i bytes ++ (b ∷ []) = ap (λ (n : ℕ). take n bytes) (add-one i) ∙ take-suc bytes i 0 inside in
    let longer : written ++ (h ∷ k ∷ []) ≡ hex_bytes (take (i + 1) bytes) =
    (λ j. written ++ (p j ∷ q j ∷ [])) ∙ sym (hex_append (take i bytes) (b ∷ [])) ∙ ap hex_bytes (sym step) in
    record {
      place = omega (arith, place);
      buffer =
          ap (λ (n : ℕ). set (set X at h) n k) (add-one at)
          ∙ (λ j. set (set (r.buffer j) (long j) h) (suc (long j)) k)
          ∙ over_more (h ∷ k ∷ []) written l (omega arith)
          ∙ ap (λ (t : List ℕ). over t l) longer;
      same = length-set (set X at h) (at + 1) k ∙ length-set X at h ∙ r.same;
    }

pub listing_end : (bytes l X : List ℕ) (i at : ℕ) → Listing bytes i at l X → i ≡ length bytes → Wrote (hex_bytes bytes) at l X
listing_end bytes l X i at r e =
    let all : take i bytes ≡ bytes = ap (λ (m : ℕ). take m bytes) e ∙ take-length bytes in
    record {
      count = r.place ∙ ap (λ (m : ℕ). 2 * m) e ∙ sym (hex_length bytes);
      buffer = r.buffer ∙ ap (λ (b : List ℕ). over (hex_bytes b) l) all;
    }

-- ---- the bytes of a line, or that there are none

pub shown_none : (bytes l : List ℕ) → length bytes ≡ 0 → 1 ≤ length l → Wrote (shown bytes) 1 l (set l 0 (code "-"))
unfolding shown over
shown_none [] l e h = record { count = refl; buffer = set_split l 0 (code "-") (omega arith) }
shown_none (b ∷ bytes) l e h = absurd (omega arith)

shown_is : (bytes : List ℕ) → (length bytes ≡ 0 → ⊥) → shown bytes ≡ hex_bytes bytes
unfolding shown
shown_is [] e = absurd (e refl)
shown_is (b ∷ bytes) e = refl

-- how long they are: the minus, or two digits for each byte
pub shown_one : (bytes : List ℕ) → length bytes ≡ 0 → length (shown bytes) ≡ 1
unfolding shown
shown_one [] e = refl
shown_one (b ∷ bytes) e = absurd (omega arith)

pub shown_two : (bytes : List ℕ) → (length bytes ≡ 0 → ⊥) → length (shown bytes) ≡ 2 * length bytes
shown_two bytes e = rw (shown_is bytes e, hex_length) refl

pub shown_some : (r : ℕ) (bytes l X : List ℕ) → (length bytes ≡ 0 → ⊥) → Wrote (hex_bytes bytes) r l X → Wrote (shown bytes) r l X
shown_some r bytes l X e w = rw (shown_is bytes e) w

pub shown_most : (bytes : List ℕ) → length (shown bytes) ≤ 2 * length bytes + 1
unfolding shown
shown_most [] = omega arith
shown_most (b ∷ bytes) = omega (arith, hex_length (b ∷ bytes))

-- an output line has its room
pub line_most : (number answer : ℕ) (bytes : List ℕ) → number < 2 ^ 64 → length (output_line number answer bytes) ≤ line_room (length bytes)
unfolding output_line
line_most number answer bytes h = simp length-append (omega (arith, decimal_most number h, shown_most bytes))

-- it fits where there is room for any line of n bytes
pub line_fits : (number answer n : ℕ) (bytes : List ℕ) {room : ℕ} → number < 2 ^ 64 → n ≤ length bytes → line_room n ≤ room → length (output_line number answer (take n bytes)) ≤ room
line_fits number answer n bytes h p r = omega (arith, line_most number answer (take n bytes) h, length-take-le n bytes p)

-- the parts of an output line: number, three bytes, what was written, and a line feed
pub line_length : (number answer : ℕ) (bytes : List ℕ) → length (output_line number answer bytes) ≡ length (decimal number) + 3 + length (shown bytes) + 1
unfolding output_line
line_length number answer bytes = simp length-append (omega arith)

-- a line feed after what was written
pub line_end : (number answer n : ℕ) (bytes l X : List ℕ) → Wrote ((decimal number ++ (tab ∷ figure answer ∷ tab ∷ [])) ++ shown bytes) n l X → n + 1 ≤ length l → Wrote (output_line number answer bytes) (n + 1) l (set X n (code "\n"))
unfolding output_line
line_end number answer n bytes l X w h = stored_after (code "\n") w h
