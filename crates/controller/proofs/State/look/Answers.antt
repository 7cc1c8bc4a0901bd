use native.Mathlib.Omega.{arith}
use mathlib.Core.Path.{sym, ◌∙◌}
use Rattle.controller.proofs.Looking.{outside, short, shown}
use Rattle.controller.proofs.State.look.Goals as goal

pub returns-then-not-is_absolute : goal.returns-then-not-is_absolute
returns-then-not-is_absolute c = outside _ _ (sym c.is_absolute.ensures ∙ c.if-not-is_absolute.true)

pub returns-then-out-report : goal.returns-then-out-report
returns-then-out-report c = short _ _ (sym c.is_absolute.ensures ∙ c.if-not-is_absolute.false) c.report-report.ensures c.if-out-report.true

pub returns : goal.returns
returns c =
    shown _ _ (sym c.is_absolute.ensures ∙ c.if-not-is_absolute.false) c.report-report.ensures
    (omega (arith, c.if-out-report.false)) c.write.ensures
