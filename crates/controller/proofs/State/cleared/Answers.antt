use mathlib.Core.Path.{refl}
use Rattle.controller.specs.Look.{cleared}
use Rattle.controller.proofs.State.cleared.Goals as goal

pub returns-clause-only : goal.returns-clause-only
unfolding cleared
returns-clause-only c = rw c.cleared-self.ensures refl
