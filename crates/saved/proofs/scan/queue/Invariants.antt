use Rattle.saved.proofs.Scanning.{Queueing}
use Rattle.saved.proofs.scan.queue.Given as goal

abbrev pub invariant-loop-len : goal.invariant-loop-len
invariant-loop-len l = Queueing l.text l.bytes l.len l.rest
