-- Each digit makes the number ten times as large at most.
use Rattle.std.proofs.Common.{◌<◌, ◌^◌}
use Rattle.vectors.proofs.head_in.Given as goal

abbrev pub invariant-loop-digit : goal.invariant-loop-digit
invariant-loop-digit l = l.value < 10 ^ l.digit-index
