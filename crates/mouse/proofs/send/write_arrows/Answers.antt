use Rattle.output.proofs.Writing.{both}
use Rattle.mouse.proofs.Sends.{arrow_bytes}
use Rattle.mouse.proofs.send.write_arrows.Goals as goal

pub returns : goal.returns
returns c = rw arrow_bytes (both c.write_axis-n.ensures c.write_axis.ensures)
