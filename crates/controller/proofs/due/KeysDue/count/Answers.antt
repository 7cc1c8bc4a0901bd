use mathlib.Core.Path.{sym, ◌∙◌}
use Rattle.keys.proofs.Maps.{packets_length}
use Rattle.controller.proofs.due.KeysDue.count.Goals as goal

pub returns : goal.returns
returns c = c.count.ensures ∙ sym (packets_length c.args.self.now)
