use Rattle.saved.proofs.Putting.{Filling}
use Rattle.saved.proofs.put.put_fields.Given as goal

abbrev pub invariant-loop-i : goal.invariant-loop-i
invariant-loop-i l = Filling l.x-items l.initial.out l.out l.i l.at
