use Rattle.output.proofs.Packets.{bytes_append}
use Rattle.output.proofs.Writing.{both}
use Rattle.mouse.specs.Sending.{packets_sent}
use Rattle.mouse.proofs.Sending.write.Goals as goal

pub returns : goal.returns
unfolding packets_sent
returns c = rw bytes_append (both c.write_packets-n.ensures c.write_arrows.ensures)
