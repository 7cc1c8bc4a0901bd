use Prim.Native.Nat.{ℕ}
use mathlib.Core.Path.{ap}
use mathlib.Core.List.{List, ◌++◌}
use lib.ListN.{drop}
use Rattle.saved.proofs.Putting.{saved_whole}
use Rattle.saved.proofs.write.Goals as goal

pub returns : goal.returns
returns c = saved_whole _ c.put_line-n.ensures.0 c.args.out.now c.if-out-n.false (ap (λ (t : List ℕ). t ++ drop c.put_line-n.result c.args.out.now) c.copy_from_slice.ensures.after)
