use native.Mathlib.Omega.{arith}
use mathlib.Core.Path.{ap, ◌∙◌}
use Rattle.text.specs.Fronts.{seen}
use Rattle.saved.proofs.Scanning.{minus_none, minus_some, minus_bad, plain_none, plain_some, plain_bad}
use Rattle.saved.proofs.scan.motion.Goals as goal

pub returns-in_err-n : goal.returns-in_err-n
returns-in_err-n c = ap seen c.from_residual.ensures ∙ minus_none c.args.line.now (omega arith) (omega arith) c.in_err-n.ensures

pub returns-then-n-le-HELD_LIMIT : goal.returns-then-n-le-HELD_LIMIT
returns-then-n-le-HELD_LIMIT c = minus_some c.args.line.now (omega arith) (omega arith) c.in_ok-n.n c.in_ok-n.rest.now c.in_ok-n.ensures (omega arith) (omega arith)

pub returns-else-n-gt0 : goal.returns-else-n-gt0
returns-else-n-gt0 c = minus_bad c.args.line.now (omega arith) (omega arith) c.in_ok-n.n c.in_ok-n.rest.now c.in_ok-n.ensures (λ p q. grind arith)

pub returns-in_err-n-2 : goal.returns-in_err-n-2
returns-in_err-n-2 c = ap seen c.from_residual-in_err-n-2.ensures ∙ plain_none c.args.line.now (λ h e. grind arith) c.in_err-n-2.ensures

pub returns-then-n-le-HELD_LIMIT-2 : goal.returns-then-n-le-HELD_LIMIT-2
returns-then-n-le-HELD_LIMIT-2 c = plain_some c.args.line.now (λ h e. grind arith) c.in_ok-n-2.n c.in_ok-n-2.rest.now c.in_ok-n-2.ensures (omega arith)

pub returns-else-n-le-HELD_LIMIT-2 : goal.returns-else-n-le-HELD_LIMIT-2
returns-else-n-le-HELD_LIMIT-2 c = plain_bad c.args.line.now (λ h e. grind arith) c.in_ok-n-2.n c.in_ok-n-2.rest.now c.in_ok-n-2.ensures (omega arith)
