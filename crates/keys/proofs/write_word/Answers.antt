use Prim.Native.Nat.{◌+◌, ◌-◌, ◌≤◌}
use native.Mathlib.Omega.{arith}
use lib.Count.{count_trailing_zeros}
use Rattle.output.specs.ScanCodes.{last_key}
use Rattle.keys.proofs.Writing.{begin, lowest_in, fits_in, falls, again, done}
use Rattle.keys.proofs.write_word.Goals as goal

pub loop-rest-init : goal.loop-rest-init
loop-rest-init c = let a = c.args in begin a.first a.word a.out.now c.requires.word_in_bounds

pub code_sent-requires : goal.code_sent-requires
code_sent-requires c =
    let lowest-key : c.args.first + count_trailing_zeros 64 c.loop-rest.rest ≤ last_key = omega (arith, lowest_in c.loop-rest.invariant c.loop-rest-test.true (last_key + 1 - c.args.first) c.requires.first_le_last_key.1, c.requires.first_le_last_key.0) in
    omega (arith, lowest-key)

pub bounds-out-at : goal.bounds-out-at
bounds-out-at c = fits_in c.loop-rest.invariant c.loop-rest-test.true c.ranges.word.fits

pub loop-rest-smaller : goal.loop-rest-smaller
loop-rest-smaller c = falls c.loop-rest.invariant c.loop-rest-test.true c.ranges.word.fits c.put-rest.ensures

pub loop-rest-preserved : goal.loop-rest-preserved
loop-rest-preserved c = again c.loop-rest.invariant c.loop-rest-test.true c.ranges.word.fits c.code_sent.ensures c.put-rest.ensures

pub returns : goal.returns
returns c = done c.loop-rest.invariant c.loop-rest-test.false
