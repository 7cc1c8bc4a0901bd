use native.Mathlib.Omega.{arith}
use Rattle.saved.proofs.Scanning.{queueing_short, queueing_minus, queueing_full, queueing_on}
use Rattle.saved.proofs.scan.queue.Goals as goal

pub returns-in_default : goal.returns-in_default
returns-in_default c = queueing_short c.args.text.now c.loop-len.bytes c.loop-len.len c.loop-len.rest.now c.loop-len.invariant (omega arith) (grind arith)

pub returns-then-high-eq45 : goal.returns-then-high-eq45
returns-then-high-eq45 c = queueing_minus c.args.text.now c.loop-len.bytes c.loop-len.len c.loop-len.rest.now c.loop-len.invariant (omega arith) (omega arith) (omega arith)

pub loop-len-preserved : goal.loop-len-preserved
loop-len-preserved c = queueing_on c.args.text.now c.loop-len.bytes c.loop-len.len c.loop-len.rest.now c.loop-len.invariant c.byte.result (omega arith) (omega arith) c.if-high-eq45.false c.byte.ensures

pub returns : goal.returns
returns c = queueing_full c.args.text.now c.loop-len.bytes c.loop-len.len c.loop-len.rest.now c.loop-len.invariant (omega arith)
