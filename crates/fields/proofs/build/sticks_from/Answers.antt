use native.Mathlib.Omega.{arith}
use Rattle.fields.proofs.Bounding.{bytes}
use Rattle.fields.proofs.build.sticks_from.Goals as goal

pub overflow_cast-result : goal.overflow_cast-result
overflow_cast-result c = omega (arith, bytes c.args.a c.requires)

pub overflow_cast-result-2 : goal.overflow_cast-result-2
overflow_cast-result-2 c = omega (arith, bytes c.args.a c.requires)

pub overflow_cast-result-3 : goal.overflow_cast-result-3
overflow_cast-result-3 c = omega (arith, bytes c.args.a c.requires)
