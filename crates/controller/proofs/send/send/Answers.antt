use Rattle.controller.proofs.Writers.{none_due}
use Rattle.controller.proofs.send.send.Goals as goal

pub returns-then-count-eq0 : goal.returns-then-count-eq0
returns-then-count-eq0 g c = none_due c.count-count.ensures c.requires.waiting_in_bounds c.if-count-eq0.true
