use mathlib.Core.Path.{ap, ◌∙◌}
use Rattle.text.specs.Fronts.{seen}
use Rattle.saved.proofs.Scanning.{scanning_stop, scanning_on, scanning_end}
use Rattle.saved.proofs.scan.numbers.Goals as goal

pub returns-in_err-x : goal.returns-in_err-x
returns-in_err-x c = ap seen c.from_residual.ensures ∙ scanning_stop c.args.line.now c.loop-i.numbers c.loop-i.i c.loop-i.rest.now c.loop-i.invariant c.loop-i-test.true c.in_err-x.ensures

pub loop-i-preserved : goal.loop-i-preserved
loop-i-preserved c = scanning_on c.args.line.now c.loop-i.numbers c.loop-i.i c.loop-i.rest.now c.loop-i.invariant c.loop-i-test.true c.in_ok-x.x c.in_ok-x.after.now c.in_ok-x.ensures

pub returns : goal.returns
returns c = scanning_end c.args.line.now c.loop-i.numbers c.loop-i.i c.loop-i.rest.now c.loop-i.invariant c.loop-i-test.false
