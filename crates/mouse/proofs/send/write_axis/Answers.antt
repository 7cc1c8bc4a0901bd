use Rattle.output.proofs.Packets.{bytes_append}
use Rattle.output.proofs.Writing.{both}
use Rattle.mouse.proofs.send.write_axis.Goals as goal

pub returns : goal.returns
returns c = rw bytes_append (both c.write_pairs-n.ensures c.write_pairs.ensures)
