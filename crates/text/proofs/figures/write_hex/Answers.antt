use native.Mathlib.Omega.{arith}
use Rattle.text.proofs.Shown.{listing_start, listing_on, listing_end}
use Rattle.text.proofs.figures.write_hex.Goals as goal

pub loop-b-init : goal.loop-b-init
loop-b-init c = listing_start _ _

pub loop-b-preserved : goal.loop-b-preserved
loop-b-preserved c = listing_on _ _ _ _ _ _ _ c.loop-b.invariant (omega arith) (omega (arith, c.loop-b.invariant.place)) c.hex_figure.ensures c.hex_figure-in-loop-b.ensures

pub returns : goal.returns
returns c = listing_end _ _ _ _ _ c.loop-b.invariant (omega arith)
