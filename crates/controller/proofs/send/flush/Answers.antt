use native.Mathlib.Omega.{arith}
use Rattle.controller.proofs.Writers.{flush_done}
use Rattle.controller.proofs.send.flush.Goals as goal

pub returns : goal.returns
returns g c = flush_done _ c.args.waiting.now c.args.queue.now c.args.out.now c.requires.waiting_le_queue_room.1 (omega (arith, c.if-out-waiting.false, c.count.ensures)) c.copy-a.ensures c.put-n.ensures c.clear.ensures
