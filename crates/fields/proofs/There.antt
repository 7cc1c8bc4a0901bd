-- Numbers that all fit are those of the state that they give.
-- Assumes nothing.
use Prim.Native.Nat.{ℕ, zero, suc, ◌+◌, ◌*◌, ◌/◌, ◌%◌, ◌≤◌, ◌<◌}
use native.Mathlib.Omega.{arith}
use native.Mathlib.Nat.{div-div-eq-div-mul}
use mathlib.Core.Path.{◌≡◌, refl, sym, ◌∙◌}
use mathlib.Core.Bool.{true, cond}
use mathlib.Core.List.{List, [], ◌∷◌}
use lib.Dec.{eqb, leb}
use lib.ListN.{get_or, length}
use borrow.Author.Tests.{eqb-true, eqb-false, leb-true, leb-false}
use Rattle.output.specs.Packets.{bit}
use Rattle.output.proofs.Cases.{both_ways}
use Rattle.protocol.specs.declared.Role.{Role}
use Rattle.mouse.specs.Reports.{latch_byte}
use Rattle.sticks.specs.Sticks.{byte}
use Rattle.keys.specs.declared.Keys.{Keys}
use Rattle.controller.specs.State.{queue_room}
use Rattle.output.specs.declared.Run.{Run}
use Rattle.fields.specs.Ranges.{at, high, ranges, all_fit}
use Rattle.fields.specs.Numbers.{mouse_numbers, stick_numbers, role_number, settings_numbers, pointer_numbers, sticks_numbers, clock_numbers, command_numbers, numbers, held_number}
use Rattle.fields.specs.States.{mouse_from, stick_from, role_from, settings_from, held_from, latches_from, pointer_from, stick_of, sticks_from, clock_from, command_from, state_from}
use Rattle.fields.proofs.Facts.{fit, listed, listed_all}

none : {x : ℕ} → x ≤ 0 → x ≡ 0
none h = omega arith

mouse_there : (t x y dx dy : ℕ) → t ≤ 2 → x ≤ cond (eqb t 1) 65535 0 → y ≤ cond (eqb t 1) 65535 0 → dx ≤ cond (eqb t 2) 255 0 → dy ≤ cond (eqb t 2) 255 0
    → mouse_numbers (mouse_from t x y dx dy) ≡ t ∷ x ∷ y ∷ dx ∷ dy ∷ []
mouse_there zero x y dx dy h a b c d = rw (none a, none b, none c, none d)
mouse_there (suc zero) x y dx dy h a b c d = rw (none c, none d)
mouse_there (suc (suc zero)) x y dx dy h a b c d = rw (none a, none b)
mouse_there (suc (suc (suc t))) x y dx dy h a b c d = absurd (omega arith)

-- the same of the stick mode: only its own numbers are not 0
module _ (r rx ry tx ty vx vy : ℕ) where
  abbrev eight : ℕ → List ℕ
  eight t = t ∷ r ∷ rx ∷ ry ∷ tx ∷ ty ∷ vx ∷ vy ∷ []

  stick_there : (t : ℕ) → t ≤ 4 → r ≤ cond (eqb t 2) 255 0
      → rx ≤ cond (eqb t 4) 255 0 → ry ≤ cond (eqb t 4) 255 0 → tx ≤ cond (eqb t 4) 255 0 → ty ≤ cond (eqb t 4) 255 0 → vx ≤ cond (eqb t 4) 255 0 → vy ≤ cond (eqb t 4) 255 0
      → stick_numbers (stick_from t r rx ry tx ty vx vy) ≡ eight t
  stick_there zero h a b c d e f g = rw (none a, none b, none c, none d, none e, none f, none g)
  stick_there (suc zero) h a b c d e f g = rw (none a, none b, none c, none d, none e, none f, none g)
  stick_there (suc (suc zero)) h a b c d e f g = rw (none b, none c, none d, none e, none f, none g)
  stick_there (suc (suc (suc zero))) h a b c d e f g = rw (none a, none b, none c, none d, none e, none f, none g)
  stick_there (suc (suc (suc (suc zero)))) h a b c d e f g = rw (none a)
  stick_there (suc (suc (suc (suc (suc t))))) h a b c d e f g = absurd (omega arith)

flag_there : {x : ℕ} → x ≤ 1 → bit (eqb x 1) ≡ x
flag_there {x} h = both_ways (λ (n : ℕ). n ≡ x) (eqb x 1) (λ e. sym (eqb-true x 1 e)) (λ e. let z = eqb-false x 1 e in omega arith)

role_there : {x : ℕ} → x ≤ 1 → role_number (role_from x) ≡ x
role_there {x} h = both_ways (λ (r : Role). role_number r ≡ x) (eqb x 1) (λ e. sym (eqb-true x 1 e)) (λ e. let z = eqb-false x 1 e in omega arith)

held_there : (x : ℕ) → held_number (held_from x) ≡ x
held_there x = omega arith

bit_there : (x : ℕ) → bit (eqb (x % 2) 1) ≡ x % 2
bit_there x = flag_there (omega arith)

latches_there : {x : ℕ} → x ≤ 15 → latch_byte (latches_from x) ≡ x
latches_there {x} h =
    let p : x ≡ 2 * (x / 2) + x % 2 = omega arith in
    let q : x / 2 ≡ 2 * (x / 4) + x / 2 % 2 = omega (arith, div-div-eq-div-mul x 2 2) in
    let r : x / 4 ≡ 2 * (x / 8) + x / 4 % 2 = omega (arith, div-div-eq-div-mul x 4 2) in
    let z : x / 8 % 2 ≡ x / 8 = omega arith in
    rw (bit_there x, bit_there (x / 2), bit_there (x / 4), bit_there (x / 8)) (omega (arith, p, q, r, z))

one_stick_there : {x : ℕ} → x ≤ 255 → byte (stick_of x) ≡ x
one_stick_there {x} h = both_ways (λ (n : ℕ). 128 * n + x % 128 ≡ x) (leb 128 x) (λ e. let z = leb-true 128 x e in omega arith) (λ e. let z = leb-false 128 x e in omega arith)

module _ (a : List ℕ) (h : all_fit a ≡ true) where
  pub mouse_same : mouse_numbers (mouse_from (at 1 a) (at 2 a) (at 3 a) (at 4 a) (at 5 a)) ≡ listed 5 0 a
  unfolding ranges
  mouse_same =
      let w : (k : ℕ) → k < 55 → get_or a k 0 ≤ high k a = (λ k l. (fit a h k l).to_high) in
      mouse_there (at 1 a) (at 2 a) (at 3 a) (at 4 a) (at 5 a) (w 0 (omega arith)) (w 1 (omega arith)) (w 2 (omega arith)) (w 3 (omega arith)) (w 4 (omega arith))

  pub stick_same : stick_numbers (stick_from (at 13 a) (at 14 a) (at 15 a) (at 16 a) (at 17 a) (at 18 a) (at 19 a) (at 20 a)) ≡ listed 8 12 a
  unfolding ranges
  stick_same =
      let w : (k : ℕ) → k < 55 → get_or a k 0 ≤ high k a = (λ k l. (fit a h k l).to_high) in
      stick_there (at 14 a) (at 15 a) (at 16 a) (at 17 a) (at 18 a) (at 19 a) (at 20 a) (at 13 a) (w 12 (omega arith)) (w 13 (omega arith)) (w 14 (omega arith)) (w 15 (omega arith)) (w 16 (omega arith)) (w 17 (omega arith)) (w 18 (omega arith)) (w 19 (omega arith))

  settings_there : settings_numbers (settings_from a) ≡ listed 22 0 a
  unfolding settings_numbers settings_from ranges
  settings_there =
      let w : (k : ℕ) → k < 55 → get_or a k 0 ≤ high k a = (λ k l. (fit a h k l).to_high) in
      rw (
        mouse_same,
        stick_same,
        flag_there (w 10 (omega arith)),
        flag_there (w 11 (omega arith)),
        flag_there (w 20 (omega arith)),
        role_there (w 21 (omega arith)),
      )

  pointer_there : pointer_numbers (eqb (at 23 a) 1) (pointer_from a) ≡ listed 8 22 a
  unfolding pointer_numbers pointer_from ranges
  pointer_there =
      let w : (k : ℕ) → k < 55 → get_or a k 0 ≤ high k a = (λ k l. (fit a h k l).to_high) in
      rw (
        flag_there (w 22 (omega arith)),
        held_there (at 26 a),
        held_there (at 27 a),
        flag_there (w 27 (omega arith)),
        flag_there (w 28 (omega arith)),
        latches_there (w 29 (omega arith)),
      )

  sticks_there : sticks_numbers (sticks_from a) ≡ listed 9 30 a
  unfolding sticks_numbers sticks_from ranges
  sticks_there =
      let p : at 31 a ≤ 143 = (fit a h 30 (omega arith)).to_high in
      let q : at 32 a ≤ 143 = (fit a h 31 (omega arith)).to_high in
      rw (one_stick_there {x = at 31 a} (omega arith), one_stick_there {x = at 32 a} (omega arith))

  clock_there : clock_numbers (clock_from a) ≡ listed 7 39 a
  unfolding clock_numbers clock_from
  clock_there = refl

  command_there : command_numbers (command_from a) ≡ listed 9 46 a
  unfolding command_numbers command_from
  command_there = refl

  fields_there : (m : Keys) (q : Run queue_room) → numbers (state_from a m q) ≡ listed 55 0 a
  unfolding numbers state_from
  fields_there m q = rw (settings_there, pointer_there, sticks_there, clock_there, command_there)

  pub there : length a ≡ 55 → (m : Keys) (q : Run queue_room) → numbers (state_from a m q) ≡ a
  there l m q = fields_there m q ∙ listed_all 55 a l
