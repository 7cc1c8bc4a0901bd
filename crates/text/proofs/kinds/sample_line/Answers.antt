use Rattle.std.proofs.Common.{ap}
use Rattle.text.specs.Fronts.{seen}
use Rattle.controller.specs.declared.Input.TheVariants.{Sample}
use Rattle.std.proofs.Common.{Some}
use Rattle.text.proofs.Signs.{back}
use Rattle.text.proofs.Fronts.{sample_is}
use Rattle.text.proofs.kinds.sample_line.Goals as goal

pub returns-in_err-bit : goal.returns-in_err-bit
returns-in_err-bit c = rw (sample_is c.args.s.now, ← c.in_err-bit.ensures) (ap seen c.from_residual.ensures)

pub returns : goal.returns
returns c = rw (sample_is c.args.s.now, ← c.in_ok-bit.ensures) (λ i. Some (Sample (back _ _ _ _ c.in_ok-bit.ensures i), c.in_ok-bit.rest.now))
