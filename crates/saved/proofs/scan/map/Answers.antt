use mathlib.Core.Path.{ap, ◌∙◌}
use native.Mathlib.Omega.{arith}
use Rattle.text.specs.Fronts.{seen}
use Rattle.saved.proofs.Digits.{map_short, map_low, map_high, map_other, map_whole}
use Rattle.saved.proofs.scan.map.Goals.{in_default-via-then-rest-lt1, in_default-via-else-rest-lt1+in_default-1}
use Rattle.saved.proofs.scan.map.Goals as goal

pub returns-then-line-lt-MAP_WIDTH : goal.returns-then-line-lt-MAP_WIDTH
returns-then-line-lt-MAP_WIDTH c = map_short c.args.line.now c.if-line-lt-MAP_WIDTH.true

pub returns-in_err-low : goal.returns-in_err-low
returns-in_err-low c = ap seen c.from_residual.ensures ∙ map_low c.args.line.now _ _ _ _ c.split_at.ensures.front c.split_at.ensures.back c.split_at-2.ensures.front c.split_at-2.ensures.back c.split_at.ensures.front_len c.split_at-2.ensures.front_len c.in_err-low.ensures

pub returns-in_err-high : goal.returns-in_err-high
returns-in_err-high c = ap seen c.from_residual-in_err-high.ensures ∙ map_high c.args.line.now _ _ _ _ c.split_at.ensures.front c.split_at.ensures.back c.split_at-2.ensures.front c.split_at-2.ensures.back c.split_at.ensures.front_len c.split_at-2.ensures.front_len c.in_ok-low.low c.in_ok-low.ensures c.in_err-high.ensures

pub returns-in_default : goal.returns-in_default
returns-in_default c =
    map_other c.args.line.now _ _ _ _ c.split_at.ensures.front c.split_at.ensures.back c.split_at-2.ensures.front c.split_at-2.ensures.back c.split_at.ensures.front_len c.split_at-2.ensures.front_len c.in_ok-low.low c.in_ok-low.ensures c.in_ok-high.high c.in_ok-high.ensures
    (λ h e. elim c.in_default.branch [
      | in_default-via-then-rest-lt1 w ↦ grind arith
      | in_default-via-else-rest-lt1+in_default-1 w ↦ grind arith
    ])

pub returns : goal.returns
returns c = map_whole c.args.line.now _ _ _ _ c.split_at.ensures.front c.split_at.ensures.back c.split_at-2.ensures.front c.split_at-2.ensures.back c.split_at.ensures.front_len c.split_at-2.ensures.front_len c.in_ok-low.low c.in_ok-low.ensures c.in_ok-high.high c.in_ok-high.ensures (omega arith) (omega arith)
