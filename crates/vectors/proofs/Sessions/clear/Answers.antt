-- The line of an answer alone has its room.
use Rattle.std.proofs.Common.{[], arith}
use Rattle.text.proofs.Shown.{line_fits}
use Rattle.session.proofs.Feeding.{wrote_within}
use Rattle.vectors.proofs.Sessions.clear.Goals as goal

pub write_line-requires : goal.write_line-requires
write_line-requires c = (omega arith, line_fits c.args.number 0 0 [] c.ranges.number.fits (omega arith) c.requires.room)

pub returns-clause-within : goal.returns-clause-within
returns-clause-within c = omega (arith, wrote_within c.write_line.ensures, c.write_line.auto.out)
