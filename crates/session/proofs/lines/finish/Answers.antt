use native.Mathlib.Omega.{arith}
use Rattle.session.proofs.Finishing.{given_feed}
use Rattle.session.proofs.lines.finish.Goals as goal

pub returns-clause-whole : goal.returns-clause-whole
returns-clause-whole c = given_feed _ _ (λ e. omega arith) (omega (arith, c.requires)) (λ e. omega arith) c.requires
