use Rattle.keys.proofs.Writing.{Breaking}
use Rattle.keys.proofs.write_word.Given as goal

abbrev pub invariant-loop-rest : goal.invariant-loop-rest
invariant-loop-rest l = Breaking l.first l.word l.initial.out l.out l.rest l.at

abbrev pub decreases-loop-rest : goal.decreases-loop-rest
decreases-loop-rest l = l.rest
