use native.Mathlib.Omega.{arith}
use mathlib.Core.Path.{sym, ◌∙◌}
use Rattle.saved.proofs.Scanning.{single, numbering_end, numbering_none, numbering_tab, numbering_stop, numbering_on}
use Rattle.saved.proofs.scan.number.Goals as goal

pub returns-in-48-to-57 : goal.returns-in-48-to-57
returns-in-48-to-57 c = single c.args.line.now c.from.result (omega arith) (omega arith) (omega arith) (omega arith) c.from.ensures

pub returns-then-i-eq0 : goal.returns-then-i-eq0
returns-then-i-eq0 c = numbering_none c.args.line.now c.loop-i.i c.loop-i.value c.loop-i.invariant c.loop-i-test.true c.if-b-eq9.true c.if-i-eq0.true

pub returns-else-i-eq0 : goal.returns-else-i-eq0
returns-else-i-eq0 c = numbering_tab c.args.line.now c.loop-i.i c.loop-i.value c.loop-i.invariant c.loop-i-test.true c.if-b-eq9.true c.if-i-eq0.false

pub returns-then-not-may_follow : goal.returns-then-not-may_follow
returns-then-not-may_follow c = numbering_stop c.args.line.now c.loop-i.i c.loop-i.value c.loop-i.invariant c.loop-i-test.true c.if-b-eq9.false (sym c.may_follow.ensures ∙ c.if-not-may_follow.true)

pub loop-i-preserved : goal.loop-i-preserved
loop-i-preserved c = numbering_on c.args.line.now c.loop-i.i c.loop-i.value c.loop-i.invariant c.loop-i-test.true c.if-b-eq9.false c.from-in-loop-i.result c.from-in-loop-i.ensures (sym c.may_follow.ensures ∙ c.if-not-may_follow.false)

pub returns : goal.returns
returns c = numbering_end c.args.line.now c.loop-i.i c.loop-i.value c.loop-i.invariant c.loop-i-test.false
