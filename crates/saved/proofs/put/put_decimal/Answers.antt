use native.Mathlib.Omega.{arith}
use Rattle.saved.proofs.Putting.{one_digit, decimal_short}
use Rattle.saved.proofs.put.put_decimal.Goals as goal

pub returns-then-x-lt10 : goal.returns-then-x-lt10
returns-then-x-lt10 c = one_digit c.args.x c.args.out.now c.if-x-lt10.true (omega (arith, c.requires))

pub write_decimal-requires : goal.write_decimal-requires
write_decimal-requires c = omega (arith, decimal_short 4 c.args.x (omega arith), c.requires)
