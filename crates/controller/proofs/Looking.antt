-- What a look comes to: outside absolute mode, in a buffer that is too short, and shown.
-- Assumes nothing.
use Prim.Native.Nat.{ℕ, ◌≤◌, ◌<◌}
use native.Mathlib.Omega.{arith}
use mathlib.Core.Path.{◌≡◌, refl, sym, ap, ◌∙◌, subst}
use mathlib.Core.Bool.{Bool, true, false, cond}
use mathlib.Core.List.{List}
use lib.Dec.{ltb}
use lib.ListN.{length, take}
use lib.Seq.{take-append_seam}
use borrow.Author.Tests.{lt-ltb, le-ltb, ltb-true, ltb-false}
use Rattle.output.specs.declared.Run.{Run}
use Rattle.output.specs.Packets.{bytes_of}
use Rattle.output.specs.Short.{short_of, short_bytes, short_room}
use Rattle.output.specs.Writing.{over, Wrote}
use Rattle.output.proofs.Runs.{short_back}
use Rattle.output.proofs.Writing.{over_nil, length_over}
use Rattle.protocol.specs.Settings.{is_absolute}
use Rattle.mouse.specs.declared.Mouse.{Mouse}
use Rattle.mouse.specs.Reports.{report}
use Rattle.controller.specs.declared.State.{State}
use Rattle.controller.specs.declared.look.LookRefusal.{LookRefusal}
use Rattle.controller.specs.declared.look.LookRefusal.TheVariants.{NotAbsolute, BufferShort}
use Rattle.std.specs.Prelude.{Result, Ok, Err}
use Rattle.controller.specs.Step.{count_of}
use Rattle.controller.specs.Look.{report_bytes, not_absolute, too_short, look_verdict, look_number, sight, look, LookedAs}

-- "the report's six bytes"
report_length : (m : Mouse) → length (bytes_of (report m)) ≡ 6
unfolding report
report_length m = refl

-- and as the code hands them on
pub run_length : (m : Mouse) {r : Run short_room} → r ≡ short_of (bytes_of (report m)) → r.len ≡ 6
run_length m e = ap (λ (x : Run short_room). x.len) e ∙ report_length m

module _ (s : State) (lent : ℕ) where
  pub verdict_outside : is_absolute s.settings.mouse ≡ false → look_verdict s lent ≡ Err NotAbsolute
  unfolding look_verdict not_absolute
  verdict_outside e = rw e

  pub verdict_short : is_absolute s.settings.mouse ≡ true → lent < 6 → look_verdict s lent ≡ Err BufferShort
  unfolding look_verdict not_absolute too_short
  verdict_short e h = rw (e, lt-ltb lent (length (report_bytes s)) (omega (arith, report_length s.mouse)))

  pub verdict_shown : is_absolute s.settings.mouse ≡ true → 6 ≤ lent → look_verdict s lent ≡ Ok (length (report_bytes s))
  unfolding look_verdict not_absolute too_short
  verdict_shown e h = rw (e, le-ltb lent (length (report_bytes s)) (omega (arith, report_length s.mouse)))

-- what is shown fits
look_fits : (s : State) (lent : ℕ) → length (look s lent).written ≤ lent
unfolding look sight
look_fits s lent = by (is_absolute s.settings.mouse) (ltb lent 6) refl refl
  where
    by : (absolute short : Bool) → is_absolute s.settings.mouse ≡ absolute → ltb lent 6 ≡ short → length (sight (look_verdict s lent) s).written ≤ lent
    by false short e t = rw (verdict_outside s lent e) (omega arith)
    by true true e t = rw (verdict_short s lent e (ltb-true lent 6 t)) (omega arith)
    by true false e t = rw (verdict_shown s lent e (ltb-false lent 6 t)) (omega (arith, ltb-false lent 6 t, report_length s.mouse))

-- the number of an answer is that of its case
sight_number : (a : Result ℕ LookRefusal) (s : State) → look_number a ≡ (sight a s).answer
unfolding sight
sight_number (Ok count) s = refl
sight_number (Err NotAbsolute) s = refl
sight_number (Err BufferShort) s = refl

-- and its count that of the bytes
verdict_counts : (s : State) (lent : ℕ) → count_of (look_verdict s lent) ≡ length (look s lent).written
unfolding look look_verdict sight
verdict_counts s lent = by (not_absolute s) (too_short s lent)
  where
    verdict_by : (a b : Bool) → Result ℕ LookRefusal
    verdict_by a b = cond a (Err NotAbsolute) (cond b (Err BufferShort) (Ok (length (report_bytes s))))

    by : (a b : Bool) → count_of (verdict_by a b) ≡ length (sight (verdict_by a b) s).written
    by true b = refl
    by false true = refl
    by false false = refl

-- Read off what the code handed back.
module _ (s : State) {before after : List ℕ} {r : Result ℕ LookRefusal} (p : LookedAs s before r after) where
  pub looked_answer : look_number r ≡ (look s (length before)).answer
  unfolding look
  looked_answer = ap look_number p.answer ∙ sight_number (look_verdict s (length before)) s

  pub looked_count : count_of r ≡ length (look s (length before)).written
  looked_count = ap count_of p.answer ∙ verdict_counts s (length before)

  pub looked_bytes : take (count_of r) after ≡ (look s (length before)).written
  unfolding over
  looked_bytes = rw (looked_count, p.buffer) (take-append_seam (look s (length before)).written _)

  pub looked_within : count_of r ≤ length before
  looked_within = omega (arith, looked_count, look_fits s (length before))

  pub looked_as_long : length after ≡ length before
  looked_as_long = ap length p.buffer ∙ length_over (look s (length before)).written before (look_fits s (length before))

-- The code, by its three returns.
module _ (s : State) (l : List ℕ) where
  pub outside : is_absolute s.settings.mouse ≡ false → LookedAs s l (Err NotAbsolute) l
  unfolding look sight
  outside e = let v = verdict_outside s (length l) e in record { answer = sym v; buffer = rw v (over_nil l) }

  pub short : {r : Run short_room} → is_absolute s.settings.mouse ≡ true → r ≡ short_of (report_bytes s) → length l < r.len → LookedAs s l (Err BufferShort) l
  unfolding look sight
  short e is h = let v = verdict_short s (length l) e (omega (arith, run_length s.mouse is)) in record { answer = sym v; buffer = rw v (over_nil l) }

  pub shown : {r : Run short_room} {n : ℕ} {after : List ℕ} → is_absolute s.settings.mouse ≡ true → r ≡ short_of (report_bytes s) → r.len ≤ length l →
      Wrote (short_bytes r) n l after → LookedAs s l (Ok n) after
  unfolding look sight
  shown {r} {n} {after} e is h w =
      let v = verdict_shown s (length l) e (omega (arith, run_length s.mouse is)) in
      let all : Wrote (report_bytes s) n l after = subst (λ (bs : List ℕ). Wrote bs n l after) (ap short_bytes is ∙ short_back (report_bytes s)) w in
      record { answer = ap Ok all.count ∙ sym v; buffer = rw v all.buffer }
