-- What is written is within its buffer.
use Rattle.std.proofs.Common.{arith}
use Rattle.session.proofs.Feeding.{wrote_within}
use Rattle.vectors.proofs.Sessions.print.Goals as goal

pub returns-2-clause-within : goal.returns-2-clause-within
returns-2-clause-within c = omega (arith, wrote_within c.play-played.ensures.printed, c.play-played.auto.out)
