use Rattle.listing.proofs.Reading.{SpeltSoFar}
use Rattle.listing.proofs.input.spell.Given as goal

abbrev pub invariant-loop-i : goal.invariant-loop-i
invariant-loop-i l = SpeltSoFar l.field l.i l.initial.out l.out
