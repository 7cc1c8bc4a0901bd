use Rattle.output.proofs.Writing.{both}
use Rattle.controller.proofs.due.ThenDue.put.Goals as goal

pub returns : goal.returns
returns g c = both c.put-n.ensures c.put.ensures
