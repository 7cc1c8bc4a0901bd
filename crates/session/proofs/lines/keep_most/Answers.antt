use native.Mathlib.Omega.{arith}
use Rattle.session.proofs.Moving.{moved}
use Rattle.session.proofs.lines.keep_most.Goals as goal

pub returns-clause-kept : goal.returns-clause-kept
returns-clause-kept c = moved _ _ _ _ _ _ c.copy_within.ensures.after (omega (arith, c.min-kept.ensures)) c.requires.0 c.requires.1
