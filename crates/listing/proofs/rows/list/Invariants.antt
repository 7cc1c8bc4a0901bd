use Prim.Native.Nat.{◌-◌}
use lib.ListN.{length}
use Rattle.listing.proofs.Turns.{SoFar}
use Rattle.listing.proofs.rows.list.Given as goal

abbrev pub invariant-loop-out : goal.invariant-loop-out
invariant-loop-out l = SoFar l.bytes l.from l.at l.initial.out l.out

abbrev pub decreases-loop-out : goal.decreases-loop-out
decreases-loop-out l = length l.bytes - l.from
