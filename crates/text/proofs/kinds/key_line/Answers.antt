use Rattle.std.proofs.Common.{ap, refl, arith}
use Rattle.text.specs.Fronts.{seen}
use Rattle.text.proofs.Fixed.{key_is}
use Rattle.text.proofs.kinds.key_line.Goals as goal

pub returns-in_err-code : goal.returns-in_err-code
returns-in_err-code c = rw (key_is c.args.s.now (omega arith) (omega arith) (omega arith), ← c.in_err-code.ensures) (ap seen c.from_residual.ensures)

pub returns-in_err-down : goal.returns-in_err-down
returns-in_err-down c = rw (key_is c.args.s.now (omega arith) (omega arith) (omega arith), ← c.in_ok-code.ensures, ← c.in_err-down.ensures) (ap seen c.from_residual-in_err-down.ensures)

pub returns : goal.returns
returns c = rw (key_is c.args.s.now (omega arith) (omega arith) (omega arith), ← c.in_ok-code.ensures, ← c.in_ok-down.ensures) refl
