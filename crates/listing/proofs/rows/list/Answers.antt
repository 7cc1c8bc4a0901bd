use native.Mathlib.Omega.{arith}
use Rattle.listing.proofs.Turns.{none_yet, more_used, more_room, go_on, ends}
use Rattle.listing.proofs.rows.list.Goals as goal

pub loop-out-init : goal.loop-out-init
loop-out-init c = none_yet _ _

pub returns-then-first-eq0 : goal.returns-then-first-eq0
returns-then-first-eq0 c = ends c.loop-out.invariant c.write_first-first.ensures c.write_first-first.auto.out c.if-first-eq0.true

pub overflow_add-from : goal.overflow_add-from
overflow_add-from c = omega (arith, more_used c.loop-out.invariant c.write_first-first.ensures c.write_first-first.auto.out)

pub overflow_add-at : goal.overflow_add-at
overflow_add-at c = omega (arith, c.well_formed, more_room c.loop-out.invariant c.write_first-first.ensures c.write_first-first.auto.out)

pub loop-out-smaller : goal.loop-out-smaller
loop-out-smaller c = omega (arith, more_used c.loop-out.invariant c.write_first-first.ensures c.write_first-first.auto.out)

pub loop-out-preserved : goal.loop-out-preserved
loop-out-preserved c = go_on c.loop-out.invariant c.write_first-first.ensures c.write_first-first.auto.out
