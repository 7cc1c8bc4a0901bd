use borrow.Author.Rules.{rules}
use Rattle.protocol.proofs.Table.{in_table, by_table}
use Rattle.protocol.proofs.code.parameters_of.Goals as goal

pub returns-then-code-le34 : goal.returns-then-code-le34
unfolding by_table
returns-then-code-le34 c = in_table 35 c.args.code (search rules)
