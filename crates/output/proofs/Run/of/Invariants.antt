use Rattle.std.proofs.Common.{◌≡◌, length}
use lib.Seq.{paste}
use Rattle.output.proofs.Run.of.Given as goal

abbrev pub invariant-loop-i : goal.invariant-loop-i
invariant-loop-i g l = (length l.bytes ≡ length l.initial.bytes) × (l.bytes ≡ paste l.initial.bytes 0 l.fn.some l.i)
