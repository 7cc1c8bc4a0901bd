use native.Mathlib.Omega.{arith}
use mathlib.Core.List.{◌∷◌, []}
use Rattle.text.proofs.Shown.{line_fits}
use Rattle.session.proofs.ask.tell_lamp.Goals as goal

pub write_line-requires : goal.write_line-requires
write_line-requires c = (omega arith, line_fits _ _ 1 (c.lamp.result ∷ []) c.ranges.number.fits (omega arith) c.requires.room)
