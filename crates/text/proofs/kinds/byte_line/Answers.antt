use Rattle.std.proofs.Common.{ap, refl, arith}
use Rattle.text.specs.Fronts.{seen}
use Rattle.text.proofs.Fixed.{byte_is}
use Rattle.text.proofs.kinds.byte_line.Goals as goal

pub returns-in_err-hex : goal.returns-in_err-hex
returns-in_err-hex c = rw (byte_is c.args.s.now (omega arith) (omega arith), ← c.in_err-hex.ensures) (ap seen c.from_residual.ensures)

pub returns : goal.returns
returns c = rw (byte_is c.args.s.now (omega arith) (omega arith), ← c.in_ok-hex.ensures) refl
