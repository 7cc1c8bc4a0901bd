use mathlib.Core.Path.{ap, ◌∙◌}
use Rattle.saved.specs.Answers.{loaded}
use Rattle.saved.proofs.Deciding.{loaded_is}
use Rattle.saved.proofs.read.Goals as goal

pub returns-clause-told : goal.returns-clause-told
returns-clause-told c = c.hand_back.ensures ∙ ap loaded c.state.ensures

pub returns-clause-keeps : goal.returns-clause-keeps
returns-clause-keeps c = loaded_is c.args.line.now _ (c.hand_back.ensures ∙ ap loaded c.state.ensures)
