use Rattle.text.proofs.Shown.{Listing}
use Rattle.text.proofs.figures.write_hex.Given as goal

abbrev pub invariant-loop-b : goal.invariant-loop-b
invariant-loop-b l = Listing l.bytes l.b-index l.at l.initial.out l.out
