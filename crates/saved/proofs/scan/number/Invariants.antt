use Rattle.saved.proofs.Scanning.{Numbering}
use Rattle.saved.proofs.scan.number.Given as goal

abbrev pub invariant-loop-i : goal.invariant-loop-i
invariant-loop-i l = Numbering l.line l.i l.value
