-- Of a line that has not ended, one byte more than the longest saved line is kept at most.
use Rattle.std.proofs.Common.{◌<◌}
use Rattle.resume.proofs.first_line.Given as goal

abbrev pub invariant-loop-block : goal.invariant-loop-block
invariant-loop-block g l = l.kept < 65536
