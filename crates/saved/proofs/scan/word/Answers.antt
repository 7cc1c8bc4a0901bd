use native.Mathlib.Omega.{arith}
use Rattle.saved.proofs.Digits.{reckoning_start, reckoning_stop, reckoning_small, reckoning_on, reckoning_end}
use Rattle.saved.proofs.scan.word.Goals.{in-48, in_default, in_default-2}
use Rattle.saved.proofs.scan.word.Goals as goal

pub loop-i-init : goal.loop-i-init
loop-i-init c = reckoning_start _

pub returns-then-not-matches : goal.returns-then-not-matches
returns-then-not-matches c =
    reckoning_stop c.args.digits.now c.loop-i.i c.loop-i.bits c.loop-i.invariant c.loop-i-test.true
    (λ e. elim c.if-matches.branch [ in-48 w ↦ grind arith | in_default w ↦ grind arith | in_default-2 w ↦ grind arith ])
    (λ e. elim c.if-matches.branch [ in-48 w ↦ grind arith | in_default w ↦ grind arith | in_default-2 w ↦ grind arith ])

pub overflow_add-bits : goal.overflow_add-bits
overflow_add-bits c =
    omega (
      arith,
      reckoning_small c.args.digits.now c.loop-i.i c.loop-i.bits c.loop-i.invariant c.loop-i-test.true c.from.result c.from.ensures
          (elim c.if-matches.branch [ in-48 w ↦ grind arith | in_default w ↦ grind arith | in_default-2 w ↦ grind arith ])
          (elim c.if-matches.branch [ in-48 w ↦ grind arith | in_default w ↦ grind arith | in_default-2 w ↦ grind arith ])
          c.requires,
    )

pub loop-i-preserved : goal.loop-i-preserved
loop-i-preserved c =
    reckoning_on c.args.digits.now c.loop-i.i c.loop-i.bits c.loop-i.invariant c.loop-i-test.true c.from.result c.from.ensures
    (elim c.if-matches.branch [ in-48 w ↦ grind arith | in_default w ↦ grind arith | in_default-2 w ↦ grind arith ])
    (elim c.if-matches.branch [ in-48 w ↦ grind arith | in_default w ↦ grind arith | in_default-2 w ↦ grind arith ])
    c.requires

pub returns : goal.returns
returns c = reckoning_end c.args.digits.now c.loop-i.i c.loop-i.bits c.loop-i.invariant (omega arith)
