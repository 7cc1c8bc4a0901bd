use native.Mathlib.Omega.{arith}
use borrow.Author.Rules.{rules}
use Rattle.saved.proofs.Putting.{filling_start, filling_on, filling_end}
use Rattle.saved.proofs.put.put_fields.Goals as goal

pub loop-i-init : goal.loop-i-init
loop-i-init c = filling_start c.args.a _ c.requires

pub loop-i-preserved : goal.loop-i-preserved
loop-i-preserved c = filling_on c.args.a _ c.requires c.loop-i.invariant (search rules) c.loop-i-test.true c.put_field-at.ensures.1 c.put_field-at.ensures.0

pub returns : goal.returns
returns c = (filling_end c.args.a _ c.requires c.loop-i.invariant (search rules) c.loop-i-test.false, omega (arith, c.loop-i.invariant.room))
