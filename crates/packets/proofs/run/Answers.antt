-- At first nothing waits, and what is written of it is within its buffer.
use native.Mathlib.Omega.{arith}
use Rattle.receiver.proofs.Pieces.{none_waits}
use Rattle.session.proofs.Feeding.{wrote_within}
use Rattle.packets.proofs.run.Goals as goal

pub run-requires-clause-ready : goal.run-requires-clause-ready
run-requires-clause-ready g c = (omega arith, none_waits, omega arith)

pub shared_ref_as_front-write_all-2 : goal.shared_ref_as_front-write_all-2
shared_ref_as_front-write_all-2 g c = omega (arith, wrote_within c.write_left-n.ensures)
