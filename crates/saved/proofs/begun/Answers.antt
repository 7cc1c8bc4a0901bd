use mathlib.Core.Path.{sym, ap, ◌∙◌}
use Rattle.std.specs.Prelude.{Some}
use Rattle.controller.specs.declared.State.{State}
use Rattle.saved.specs.Answers.{loaded}
use Rattle.saved.proofs.Deciding.{begun_minus, begun_line}
use Rattle.saved.proofs.begun.Goals as goal

pub returns-then-is_minus-clause-told : goal.returns-then-is_minus-clause-told
returns-then-is_minus-clause-told c = (begun_minus c.args.line.now _ (c.hand_back.ensures ∙ ap (λ (s : State). loaded (Some s)) c.power_up.ensures) (sym c.is_minus.ensures ∙ c.if-is_minus.true)).0

pub returns-then-is_minus-clause-keeps : goal.returns-then-is_minus-clause-keeps
returns-then-is_minus-clause-keeps c = (begun_minus c.args.line.now _ (c.hand_back.ensures ∙ ap (λ (s : State). loaded (Some s)) c.power_up.ensures) (sym c.is_minus.ensures ∙ c.if-is_minus.true)).1

pub returns-clause-told : goal.returns-clause-told
returns-clause-told c = begun_line c.args.line.now _ (sym c.is_minus.ensures ∙ c.if-is_minus.false) c.read.ensures.told
