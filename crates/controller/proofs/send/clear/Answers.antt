use mathlib.Core.Path.{sym, ap, ◌∙◌}
use mathlib.Core.List.{List, ◌++◌}
use lib.ListN.{drop, replicate, length-replicate}
use lib.Seq.{length-take-le}
use Prim.Native.Nat.{ℕ}
use Rattle.output.specs.Writing.{over}
use Rattle.controller.proofs.send.clear.Goals as goal

pub returns : goal.returns
unfolding over
returns c =
    let n = c.args.n in
    let rest = drop n c.args.queue.now in
    ap (λ (l : List ℕ). l ++ rest) (c.fill.ensures.after (λ y e. e) ∙ ap (λ (k : ℕ). replicate k 0) (length-take-le n c.args.queue.now c.requires))
    ∙ ap (λ (k : ℕ). replicate n 0 ++ drop k c.args.queue.now) (sym (length-replicate n 0))
