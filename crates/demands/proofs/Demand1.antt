-- Demand 1: every input gets an answer, and the table says exactly which.
-- Assumes nothing.
use Prim.Native.Nat.{ℕ, ◌≤◌}
use lib.ListN.{length}
use native.Mathlib.Omega.{arith}
use mathlib.Core.Path.{◌≡◌, refl, sym, ap, ◌∙◌}
use mathlib.Core.Logic.{◌↔◌}
use mathlib.Core.Bool.{Bool, true, false, cond, true≢false, false≢true}
use mathlib.Core.List.{List}
use Rattle.output.specs.Writing.{over}
use Rattle.output.proofs.Writing.{over_nil}
use Rattle.controller.specs.declared.State.{State}
use Rattle.controller.specs.declared.Input.{Input}
use Rattle.std.specs.Prelude.{Ok, Err}
use Rattle.controller.specs.declared.Refusal.TheVariants.{OutOfRange, QueueFull, MotionFull, BufferShort}
use Rattle.controller.specs.Host.{Due}
use Rattle.controller.specs.Step.{due, out_of_range, queue_full, motion_full, buffer_short, verdict, told, step}
use Rattle.controller.proofs.Refusals.{queue_or_motion, queue_or_buffer, motion_or_buffer, refusal_keeps}
use Rattle.controller.proofs.Lengths.{most_written}
use Rattle.demands.specs.Demand1.{Demand1}

-- the number of the first row that holds, and 0 where none does
number : Bool → Bool → Bool → Bool → ℕ
number a b c d = cond a 1 (cond b 2 (cond c 3 (cond d 4 0)))

number_told : (a b c d : Bool) (s : State) (u : Due) →
    (told (cond a (Err OutOfRange) (cond b (Err QueueFull) (cond c (Err MotionFull) (cond d (Err BufferShort) (Ok (length u.written)))))) s u).answer ≡ number a b c d
unfolding number told
number_told true b c d s u = refl
number_told false true c d s u = refl
number_told false false true d s u = refl
number_told false false false true s u = refl
number_told false false false false s u = refl

-- what the numbers say of four tests of which the last three exclude each other
record Numbered (n : ℕ) (a b c d : Bool) : Type 0 where
  one : (n ≡ 1) ↔ (a ≡ true)
  two : (n ≡ 2) ↔ ((a ≡ false) × (b ≡ true))
  three : (n ≡ 3) ↔ ((a ≡ false) × (c ≡ true))
  four : (n ≡ 4) ↔ ((a ≡ false) × (d ≡ true))
  taken : (n ≡ 0) ↔ ((a ≡ false) × (b ≡ false) × (c ≡ false) × (d ≡ false))
  few : n ≤ 4

numbered : (a b c d : Bool) → (b ≡ true → c ≡ true → ⊥) → (b ≡ true → d ≡ true → ⊥) → (c ≡ true → d ≡ true → ⊥) → Numbered (number a b c d) a b c d
unfolding number
numbered true b c d bc bd cd = record {
  one = (λ _. refl, λ _. refl);
  two = (λ e. absurd (omega (arith, e)), λ h. absurd (true≢false h.0));
  three = (λ e. absurd (omega (arith, e)), λ h. absurd (true≢false h.0));
  four = (λ e. absurd (omega (arith, e)), λ h. absurd (true≢false h.0));
  taken = (λ e. absurd (omega (arith, e)), λ h. absurd (true≢false h.0));
  few = omega arith;
}
numbered false true c d bc bd cd = record {
  one = (λ e. absurd (omega (arith, e)), λ h. absurd (false≢true h));
  two = (λ _. (refl, refl), λ _. refl);
  three = (λ e. absurd (omega (arith, e)), λ h. absurd (bc refl h.1));
  four = (λ e. absurd (omega (arith, e)), λ h. absurd (bd refl h.1));
  taken = (λ e. absurd (omega (arith, e)), λ h. absurd (true≢false h.1));
  few = omega arith;
}
numbered false false true d bc bd cd = record {
  one = (λ e. absurd (omega (arith, e)), λ h. absurd (false≢true h));
  two = (λ e. absurd (omega (arith, e)), λ h. absurd (false≢true h.1));
  three = (λ _. (refl, refl), λ _. refl);
  four = (λ e. absurd (omega (arith, e)), λ h. absurd (cd refl h.1));
  taken = (λ e. absurd (omega (arith, e)), λ h. absurd (true≢false h.2));
  few = omega arith;
}
numbered false false false true bc bd cd = record {
  one = (λ e. absurd (omega (arith, e)), λ h. absurd (false≢true h));
  two = (λ e. absurd (omega (arith, e)), λ h. absurd (false≢true h.1));
  three = (λ e. absurd (omega (arith, e)), λ h. absurd (false≢true h.1));
  four = (λ _. (refl, refl), λ _. refl);
  taken = (λ e. absurd (omega (arith, e)), λ h. absurd (true≢false h.3));
  few = omega arith;
}
numbered false false false false bc bd cd = record {
  one = (λ e. absurd (omega (arith, e)), λ h. absurd (false≢true h));
  two = (λ e. absurd (omega (arith, e)), λ h. absurd (false≢true h.1));
  three = (λ e. absurd (omega (arith, e)), λ h. absurd (false≢true h.1));
  four = (λ e. absurd (omega (arith, e)), λ h. absurd (false≢true h.1));
  taken = (λ _. (refl, refl, refl, refl), λ _. refl);
  few = omega arith;
}

answer_is : (s : State) (i : Input) (lent : ℕ) →
    (step s i lent).answer ≡ number (out_of_range s i lent) (queue_full s i lent) (motion_full s i lent) (buffer_short s i lent)
unfolding step verdict
answer_is s i lent = number_told (out_of_range s i lent) (queue_full s i lent) (motion_full s i lent) (buffer_short s i lent) s (due s i)

pub demand_1 : Demand1
demand_1 s i lent h x =
    let q = h.ranges.queue in
    let n : Numbered (step s i lent).answer (out_of_range s i lent) (queue_full s i lent) (motion_full s i lent) (buffer_short s i lent) =
    rw (answer_is s i lent)
    (numbered (out_of_range s i lent) (queue_full s i lent) (motion_full s i lent) (buffer_short s i lent)
    (queue_or_motion s i lent q) (queue_or_buffer s i lent q) (motion_or_buffer s i lent q)) in
    record {
      by_table = record {
        one = n.one;
        two = n.two;
        three = n.three;
        four = n.four;
        taken = n.taken;
        one_of_five = n.few;
        two_not_three = queue_or_motion s i lent q;
        two_not_four = queue_or_buffer s i lent q;
        three_not_four = motion_or_buffer s i lent q;
      };
      refused = λ r.
          let k = refusal_keeps s i lent r in
          (k.0, k.1, λ l. ap (λ (bs : List ℕ). over bs l) k.1 ∙ sym (over_nil l));
      most = most_written s i lent h;
    }
