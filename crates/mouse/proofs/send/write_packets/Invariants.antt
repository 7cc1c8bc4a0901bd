use Rattle.mouse.specs.Sending.{buttons}
use Rattle.mouse.proofs.Sends.{Going}
use Rattle.mouse.proofs.send.write_packets.Given as goal

abbrev pub invariant-loop : goal.invariant-loop
invariant-loop l = Going l.n (buttons l.left l.right) l.fn.held l.initial.out l.out l.x l.y l.counter l.at
