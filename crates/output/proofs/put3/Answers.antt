use mathlib.Core.Path.{refl}
use mathlib.Core.List.{[], ◌∷◌}
use Rattle.output.specs.Writing.{over}
use Rattle.output.proofs.Writing.{over_more}
use borrow.Author.Rules.{rules}
use Rattle.output.proofs.put3.Goals as goal

pub returns : goal.returns
unfolding over
returns c = record { count = refl; buffer = over_more (c.args.a ∷ c.args.b ∷ c.args.c ∷ []) [] c.args.out.now (search rules) }
