use Rattle.saved.proofs.Scanning.{Scanning}
use Rattle.saved.proofs.scan.numbers.Given as goal

abbrev pub invariant-loop-i : goal.invariant-loop-i
invariant-loop-i l = Scanning l.line l.numbers l.i l.rest
