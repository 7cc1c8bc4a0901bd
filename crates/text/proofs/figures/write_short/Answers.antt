use native.Mathlib.Omega.{arith}
use lib.ListN.{length-set}
use Rattle.text.proofs.Blocks.{one_wrote, two_wrote, three_wrote, four_more}
use Rattle.text.proofs.Counting.{one_digit, digits_are}
use Rattle.text.proofs.figures.write_short.Goals as goal

pub bounds-out-0 : goal.bounds-out-0
bounds-out-0 c = omega (arith, one_digit c.args.n c.if-n-lt10.true, c.requires.1)

pub returns-then-n-lt10 : goal.returns-then-n-lt10
returns-then-n-lt10 c = one_wrote _ _ c.if-n-lt10.true (omega (arith, one_digit c.args.n c.if-n-lt10.true, c.requires.1))

pub bounds-out-0-then-n-lt100 : goal.bounds-out-0-then-n-lt100
bounds-out-0-then-n-lt100 c = omega (arith, digits_are 1 c.args.n (omega arith) (omega arith), c.requires.1)

pub bounds-out-1 : goal.bounds-out-1
bounds-out-1 c = simp length-set (omega (arith, digits_are 1 c.args.n (omega arith) (omega arith), c.requires.1))

pub returns-then-n-lt100 : goal.returns-then-n-lt100
returns-then-n-lt100 c = two_wrote _ _ c.if-n-lt10.false c.if-n-lt100.true (omega (arith, digits_are 1 c.args.n (omega arith) (omega arith), c.requires.1))

pub put3-requires : goal.put3-requires
put3-requires c = omega (arith, digits_are 2 c.args.n (omega arith) (omega arith), c.requires.1)

pub returns-then-n-lt1000 : goal.returns-then-n-lt1000
returns-then-n-lt1000 c = three_wrote _ _ _ _ c.if-n-lt100.false c.if-n-lt1000.true c.put3.ensures

pub write_four-requires : goal.write_four-requires
write_four-requires c = (c.requires.0, omega (arith, digits_are 3 c.args.n (omega arith) (omega (arith, c.requires.0)), c.requires.1))

pub returns : goal.returns
returns c = four_more _ _ _ _ c.if-n-lt1000.false c.requires.0 c.write_four.ensures
