use Rattle.controller.proofs.Applying.{stepped_as}
use Rattle.controller.proofs.State.step.Goals as goal

pub returns-clause-did : goal.returns-clause-did
returns-clause-did c = (stepped_as c.args.self c.args.input c.core.ensures c.apply-done.ensures c.with_queue.ensures).0
