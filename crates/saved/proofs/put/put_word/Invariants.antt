use Rattle.saved.proofs.Digits.{Spelling}
use Rattle.saved.proofs.put.put_word.Given as goal

abbrev pub invariant-loop-i : goal.invariant-loop-i
invariant-loop-i l = Spelling l.word l.n l.initial.out l.out l.i l.rest
