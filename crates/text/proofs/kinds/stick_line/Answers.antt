use Rattle.std.proofs.Common.{ap}
use Rattle.text.specs.Fronts.{seen}
use Rattle.controller.specs.declared.Input.TheVariants.{Joystick}
use Rattle.std.proofs.Common.{Some}
use Rattle.text.proofs.Signs.{back}
use Rattle.text.proofs.Fronts.{stick_is, position_is, trigger_is}
use Rattle.text.proofs.kinds.stick_line.Goals as goal

pub returns-in_err-stick : goal.returns-in_err-stick
returns-in_err-stick c = rw (stick_is c.args.s.now, ← c.in_err-stick.ensures) (ap seen c.from_residual.ensures)

pub returns-in_err-position : goal.returns-in_err-position
returns-in_err-position c = rw (stick_is c.args.s.now, ← c.in_ok-stick.ensures, position_is c.in_ok-stick.stick c.in_ok-stick.rest.now, ← c.in_err-position.ensures) (ap seen c.from_residual-in_err-position.ensures)

pub returns-in_err-trigger : goal.returns-in_err-trigger
returns-in_err-trigger c = rw (stick_is c.args.s.now, ← c.in_ok-stick.ensures, position_is c.in_ok-stick.stick c.in_ok-stick.rest.now, ← c.in_ok-position.ensures, trigger_is c.in_ok-stick.stick c.in_ok-position.position c.in_ok-position.rest.now, ← c.in_err-trigger.ensures) (ap seen c.from_residual-in_err-trigger.ensures)

pub returns : goal.returns
returns c = rw (stick_is c.args.s.now, ← c.in_ok-stick.ensures, position_is c.in_ok-stick.stick c.in_ok-stick.rest.now, ← c.in_ok-position.ensures, trigger_is c.in_ok-stick.stick c.in_ok-position.position c.in_ok-position.rest.now, ← c.in_ok-trigger.ensures) (λ i. Some (Joystick (back _ _ _ _ c.in_ok-stick.ensures i) (back _ _ _ _ c.in_ok-position.ensures i) (back _ _ _ _ c.in_ok-trigger.ensures i), c.in_ok-trigger.rest.now))
