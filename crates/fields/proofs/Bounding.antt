-- Laws that the code's proofs cite.
-- Assumes nothing.
use Prim.Native.Nat.{ℕ, zero, suc, ◌-◌, ◌%◌, ◌^◌, ◌≤◌, ◌<◌, min, max}
use native.Mathlib.Omega.{arith}
use native.Mathlib.Numerals.{add-one}
use native.Mathlib.Nat.{mod-mod, pow-le-pow_right}
use mathlib.Core.Path.{◌≡◌, refl, ◌∙◌}
use mathlib.Core.Bool.{Bool, true, false, cond, ◌&&◌}
use mathlib.Core.List.{List}
use lib.Dec.{eqb, leb, ltb}
use mir.Val.{bool_byte}
use Rattle.std.specs.List.{list_all, range_with_len}
use lib.ListN.{get_or}
use borrow.Author.Tests.{ne_eqb}
use Rattle.output.specs.Packets.{bit}
use Rattle.output.proofs.Cases.{both_ways}
use Rattle.clock.specs.Clock.{month_length}
use Rattle.clock.proofs.Laws.{month_bounds}
use Rattle.protocol.specs.Codes.{parameters_of, memory_load}
use Rattle.protocol.proofs.Reading.{parameters_small}
use Rattle.fields.specs.Ranges.{at, lows, highs, high, ranges, third, pending, gap_free, most_bits, most_come, loading, fits, fit_from, all_fit}
use Rattle.fields.proofs.Facts.{fit}
use Rattle.fields.proofs.Commands.{code_byte}

-- what is no byte is no code with parameters
pub no_parameters : (b : ℕ) → 255 < b → parameters_of b ≡ 0
no_parameters b h = go (parameters_of b) refl
  where
    go : (n : ℕ) → parameters_of b ≡ n → parameters_of b ≡ 0
    go zero e = e
    go (suc n) e = absurd (let l = code_byte b (omega (arith, e)) in omega arith)

pub by_four : (year month : ℕ) → month_length (year % 4) month ≡ month_length year month
unfolding month_length
by_four year month = rw (mod-mod year 4)

pub late_month : (year month : ℕ) → 255 < month → 31 ≡ month_length year month
unfolding month_length
late_month year month h = rw (ne_eqb month 2 (λ e. omega arith), ne_eqb month 4 (λ e. omega arith), ne_eqb month 6 (λ e. omega arith), ne_eqb month 9 (λ e. omega arith), ne_eqb month 11 (λ e. omega arith))

pub bit_small : (b : Bool) → bit b ≤ 1
bit_small true = omega arith
bit_small false = omega arith

-- a bool's number, as a packet has it
pub bool_bit : (b : Bool) → bool_byte b ≡ bit b
bool_bit true = refl
bool_bit false = refl

-- ---- the tests of the next n fields from i + 1 on

tested_from : (n i : ℕ) (a : List ℕ) → list_all (λ (k : ℕ). fits k a (get_or a k 0)) (range_with_len i n) ≡ fit_from n i a
unfolding fit_from
tested_from zero i a = refl
tested_from (suc n) i a = rw (add-one i, tested_from n (suc i) a)

pub all_tested : (n : ℕ) (a least most : List ℕ) (r : Bool) → least ≡ lows a → most ≡ highs a
    → r ≡ list_all (λ (k : ℕ). leb (get_or least k 0) (get_or a k 0) && (leb (get_or a k 0) (get_or most k 0) && gap_free k (get_or a k 0))) (range_with_len 0 n)
    → r ≡ fit_from n 0 a
unfolding fits
all_tested n a least most r l m e = e ∙ rw (l, m) (tested_from n 0 a)

-- fields that are bytes
pub record Bytes (a : List ℕ) : Type 0 where
  pub delta_x : get_or a 3 0 ≤ 255
  pub delta_y : get_or a 4 0 ≤ 255
  pub action : get_or a 5 0 ≤ 255
  pub threshold_x : get_or a 6 0 ≤ 255
  pub threshold_y : get_or a 7 0 ≤ 255
  pub scale_x : get_or a 8 0 ≤ 255
  pub scale_y : get_or a 9 0 ≤ 255
  pub rate : get_or a 13 0 ≤ 255
  pub breakpoint_x : get_or a 14 0 ≤ 255
  pub breakpoint_y : get_or a 15 0 ≤ 255
  pub before_x : get_or a 16 0 ≤ 255
  pub before_y : get_or a 17 0 ≤ 255
  pub after_x : get_or a 18 0 ≤ 255
  pub after_y : get_or a 19 0 ≤ 255
  pub ticks : get_or a 36 0 ≤ 255
  pub samples : get_or a 37 0 ≤ 255
  pub bits : get_or a 38 0 ≤ 255
  pub year : get_or a 39 0 ≤ 255
  pub month : get_or a 40 0 ≤ 255
  pub day : get_or a 41 0 ≤ 255
  pub hour : get_or a 42 0 ≤ 255
  pub minute : get_or a 43 0 ≤ 255
  pub second : get_or a 44 0 ≤ 255
  pub hundredth : get_or a 45 0 ≤ 255
  pub code : get_or a 46 0 ≤ 255
  pub come : get_or a 47 0 ≤ 255
  pub parameter_1 : get_or a 48 0 ≤ 255
  pub parameter_2 : get_or a 49 0 ≤ 255
  pub parameter_3 : get_or a 50 0 ≤ 255
  pub parameter_4 : get_or a 51 0 ≤ 255
  pub parameter_5 : get_or a 52 0 ≤ 255
  pub parameter_6 : get_or a 53 0 ≤ 255
  pub pending : get_or a 54 0 ≤ 255

module _ (a : List ℕ) (h : all_fit a ≡ true) where
  -- a field whose range ends at a byte's end
  low_byte : (k : ℕ) → k < 55 → high k a ≤ 255 → get_or a k 0 ≤ 255
  low_byte k l b = let u = (fit a h k l).to_high in omega arith

  byte_or_none : (t : Bool) → cond t 255 0 ≤ 255
  byte_or_none true = omega arith
  byte_or_none false = omega arith

  ticks_byte : at 37 a ≤ 255
  unfolding ranges
  ticks_byte =
      let r : at 14 a ≤ cond (eqb (at 13 a) 2) 255 0 = (fit a h 13 (omega arith)).to_high in
      let t : at 37 a ≤ max (at 14 a) 1 - 1 = (fit a h 36 (omega arith)).to_high in
      omega (arith, r, t, byte_or_none (eqb (at 13 a) 2))

  samples_byte : at 38 a ≤ 255
  unfolding ranges
  samples_byte =
      let r : at 38 a ≤ cond (eqb (at 13 a) 3) 7 0 = (fit a h 37 (omega arith)).to_high in
      both_ways (λ (n : ℕ). at 38 a ≤ n → at 38 a ≤ 255) (eqb (at 13 a) 3) (λ _ l. omega arith) (λ _ l. omega arith) r

  bits_byte : at 39 a ≤ 255
  unfolding ranges most_bits
  bits_byte =
      let r : at 39 a ≤ 2 ^ min (at 38 a) 7 - 1 = (fit a h 38 (omega arith)).to_high in
      let p : 2 ^ min (at 38 a) 7 ≤ 2 ^ 7 = (let z : 0 < 2 = omega arith in let q : min (at 38 a) 7 ≤ 7 = omega arith in pow-le-pow_right z q) in
      omega arith

  day_byte : at 42 a ≤ 255
  unfolding ranges
  day_byte =
      let r : at 42 a ≤ month_length (at 40 a) (at 41 a) = (fit a h 41 (omega arith)).to_high in
      omega (arith, r, month_bounds (at 40 a) (at 41 a))

  come_byte : at 48 a ≤ 255
  unfolding ranges most_come
  come_byte =
      let r : at 48 a ≤ cond (eqb (at 47 a) memory_load) 3 (parameters_of (at 47 a) - 1) = (fit a h 47 (omega arith)).to_high in
      let p = parameters_small (at 47 a) in
      both_ways (λ (n : ℕ). at 48 a ≤ n → at 48 a ≤ 255) (eqb (at 47 a) memory_load) (λ _ l. omega arith) (λ _ l. omega (arith, l, p)) r

  third_byte : at 51 a ≤ 255
  unfolding ranges third
  third_byte =
      let r : at 51 a ≤ cond (ltb 2 (at 48 a)) 255 0 = (fit a h 50 (omega arith)).to_high in
      omega (arith, r, byte_or_none (ltb 2 (at 48 a)))

  pending_byte : at 55 a ≤ 255
  unfolding ranges pending
  pending_byte =
      let r : at 55 a ≤ cond (loading a) (at 51 a) 0 = (fit a h 54 (omega arith)).to_high in
      both_ways (λ (n : ℕ). at 55 a ≤ n → at 55 a ≤ 255) (loading a) (λ _ l. omega (arith, l, third_byte)) (λ _ l. omega arith) r

  pub bytes : Bytes a
  unfolding ranges
  bytes = record {
    delta_x = low_byte 3 (omega arith) (byte_or_none (eqb (at 1 a) 2));
    delta_y = low_byte 4 (omega arith) (byte_or_none (eqb (at 1 a) 2));
    action = low_byte 5 (omega arith) (omega arith);
    threshold_x = low_byte 6 (omega arith) (omega arith);
    threshold_y = low_byte 7 (omega arith) (omega arith);
    scale_x = low_byte 8 (omega arith) (omega arith);
    scale_y = low_byte 9 (omega arith) (omega arith);
    rate = low_byte 13 (omega arith) (byte_or_none (eqb (at 13 a) 2));
    breakpoint_x = low_byte 14 (omega arith) (byte_or_none (eqb (at 13 a) 4));
    breakpoint_y = low_byte 15 (omega arith) (byte_or_none (eqb (at 13 a) 4));
    before_x = low_byte 16 (omega arith) (byte_or_none (eqb (at 13 a) 4));
    before_y = low_byte 17 (omega arith) (byte_or_none (eqb (at 13 a) 4));
    after_x = low_byte 18 (omega arith) (byte_or_none (eqb (at 13 a) 4));
    after_y = low_byte 19 (omega arith) (byte_or_none (eqb (at 13 a) 4));
    ticks = ticks_byte;
    samples = samples_byte;
    bits = bits_byte;
    year = low_byte 39 (omega arith) (omega arith);
    month = low_byte 40 (omega arith) (omega arith);
    day = day_byte;
    hour = low_byte 42 (omega arith) (omega arith);
    minute = low_byte 43 (omega arith) (omega arith);
    second = low_byte 44 (omega arith) (omega arith);
    hundredth = low_byte 45 (omega arith) (omega arith);
    code = low_byte 46 (omega arith) (omega arith);
    come = come_byte;
    parameter_1 = low_byte 48 (omega arith) (byte_or_none (ltb 0 (at 48 a)));
    parameter_2 = low_byte 49 (omega arith) (byte_or_none (ltb 1 (at 48 a)));
    parameter_3 = third_byte;
    parameter_4 = low_byte 51 (omega arith) (byte_or_none (ltb 3 (at 48 a)));
    parameter_5 = low_byte 52 (omega arith) (byte_or_none (ltb 4 (at 48 a)));
    parameter_6 = low_byte 53 (omega arith) (byte_or_none (ltb 5 (at 48 a)));
    pending = pending_byte;
  }
