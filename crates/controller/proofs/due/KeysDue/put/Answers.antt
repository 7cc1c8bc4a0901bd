use native.Mathlib.Omega.{arith}
use Rattle.keys.proofs.Maps.{packets_length}
use Rattle.controller.proofs.due.KeysDue.put.Goals as goal

pub write_breaks-requires-clause-self_in_bounds : goal.write_breaks-requires-clause-self_in_bounds
write_breaks-requires-clause-self_in_bounds c = omega (arith, packets_length c.args.self.now, c.requires.room)
