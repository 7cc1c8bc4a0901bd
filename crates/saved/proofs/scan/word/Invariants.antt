use Rattle.saved.proofs.Digits.{Reckoning}
use Rattle.saved.proofs.scan.word.Given as goal

abbrev pub invariant-loop-i : goal.invariant-loop-i
invariant-loop-i l = Reckoning l.digits l.i l.bits
