use Rattle.std.proofs.Common.{ap}
use Rattle.text.specs.Fronts.{seen}
use Rattle.controller.specs.declared.Input.TheVariants.{Move}
use Rattle.std.proofs.Common.{Some}
use Rattle.text.proofs.Signs.{back}
use Rattle.text.proofs.Fronts.{motion_is, dy_is}
use Rattle.text.proofs.kinds.motion_line.Goals as goal

pub returns-in_err-dx : goal.returns-in_err-dx
returns-in_err-dx c = rw (motion_is c.args.s.now, ← c.in_err-dx.ensures) (ap seen c.from_residual.ensures)

pub returns-in_err-dy : goal.returns-in_err-dy
returns-in_err-dy c = rw (motion_is c.args.s.now, ← c.in_ok-dx.ensures, dy_is c.in_ok-dx.dx c.in_ok-dx.rest.now, ← c.in_err-dy.ensures) (ap seen c.from_residual-in_err-dy.ensures)

pub returns : goal.returns
returns c = rw (motion_is c.args.s.now, ← c.in_ok-dx.ensures, dy_is c.in_ok-dx.dx c.in_ok-dx.rest.now, ← c.in_ok-dy.ensures) (λ i. Some (Move (back _ _ _ _ c.in_ok-dx.ensures i) (back _ _ _ _ c.in_ok-dy.ensures i), c.in_ok-dy.rest.now))
