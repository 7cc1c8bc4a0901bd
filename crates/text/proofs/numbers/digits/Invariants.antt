use Rattle.text.proofs.Decimals.{Reading}
use Rattle.text.proofs.numbers.digits.Given as goal

abbrev pub invariant-loop-i : goal.invariant-loop-i
invariant-loop-i l = Reading l.stop l.s l.value l.i
