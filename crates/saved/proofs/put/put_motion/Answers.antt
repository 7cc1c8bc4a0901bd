use Prim.Native.Nat.{ℕ, ◌-◌}
use lib.ListN.{length-take, length-drop, length-set}
use native.Mathlib.Omega.{arith}
use Rattle.output.proofs.Writing.{both}
use Rattle.mouse.specs.Mouse.{held_limit}
use Rattle.saved.proofs.Putting.{decimal_short, motion_below, minus_stored}
use Rattle.saved.proofs.put.put_motion.Goals as goal

pub write_decimal-requires : goal.write_decimal-requires
write_decimal-requires c = omega (arith, decimal_short 3 (held_limit - c.args.x) (omega arith), c.requires, length-take {A = ℕ}, length-drop {A = ℕ}, length-set {A = ℕ})

pub overflow_add-result : goal.overflow_add-result
overflow_add-result c = omega (arith, decimal_short 3 (held_limit - c.args.x) (omega arith), c.write_decimal.ensures.count)

pub returns-then-x-lt-HELD_LIMIT : goal.returns-then-x-lt-HELD_LIMIT
returns-then-x-lt-HELD_LIMIT c = motion_below _ c.if-x-lt-HELD_LIMIT.true (both (minus_stored c.args.out.now (omega (arith, c.requires))) c.write_decimal.ensures)
