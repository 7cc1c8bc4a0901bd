use native.Mathlib.Omega.{arith}
use Rattle.text.proofs.Decimals.{stopped, low, high, fifth, turn, ended, at_once}
use Rattle.text.proofs.numbers.digits.Goals.{in_default-via-then-b-lt48, in_default-via-in-48-to-57+else-i-lt-MOST_DIGITS, in_default-via-else-b-lt48+else-b-lt58, then-end-stop+else-i-gt0, else-end-stop}
use Rattle.text.proofs.numbers.digits.Goals as goal

pub returns-in_default-clause-value : goal.returns-in_default-clause-value
returns-in_default-clause-value c = stopped _ _ _ _ c.loop-i.invariant (omega arith) (omega arith) c.if-end-stop.true

pub returns-in_default-2-clause-value : goal.returns-in_default-2-clause-value
returns-in_default-2-clause-value c =
    let r = c.loop-i.invariant in
    elim c.if-end-stop.branch [
      | then-end-stop+else-i-gt0 w ↦ at_once _ _ _ _ r (omega arith) (omega arith) (omega arith)
      | else-end-stop w ↦
          elim c.in_default-1.branch [
            | in_default-via-then-b-lt48 v ↦ low _ _ _ _ r (omega arith) (λ e. omega arith) (omega arith)
            | in_default-via-in-48-to-57+else-i-lt-MOST_DIGITS v ↦ fifth _ _ _ _ r (omega arith) (λ e. omega arith) (omega (arith, r.few))
            | in_default-via-else-b-lt48+else-b-lt58 v ↦ high _ _ _ _ r (omega arith) (λ e. omega arith) (omega arith)
          ]
    ]

pub loop-i-preserved : goal.loop-i-preserved
loop-i-preserved c = rw c.from.ensures (turn _ _ _ _ c.loop-i.invariant (omega arith) c.requires (omega arith) (omega arith) (λ e. omega arith))

pub returns-clause-value : goal.returns-clause-value
returns-clause-value c = ended _ _ _ _ c.loop-i.invariant (omega arith)
