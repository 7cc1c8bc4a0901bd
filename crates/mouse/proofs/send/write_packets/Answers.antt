use native.Mathlib.Omega.{arith}
use Rattle.mouse.proofs.Sends.{start, turn, done, nothing}
use Rattle.mouse.proofs.send.write_packets.Goals as goal

pub returns-then-n-eq0 : goal.returns-then-n-eq0
returns-then-n-eq0 c = nothing _ _ _ _ c.if-n-eq0.true

pub loop-init : goal.loop-init
loop-init c = start _ _ _ _ c.requires c.spread-x.ensures c.spread-y.ensures

pub loop-preserved : goal.loop-preserved
loop-preserved c =
    turn _ _ _ _ (omega arith) (omega arith) c.loop.invariant c.loop-test.true c.header-first.ensures c.byte.ensures
    c.byte-in-loop.ensures c.put3-at.ensures c.next-x.ensures c.next-y.ensures

pub returns : goal.returns
returns c = done _ _ _ _ c.loop.invariant c.loop-test.false
