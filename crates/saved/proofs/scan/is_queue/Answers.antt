use Prim.Native.Nat.{ℕ}
use mathlib.Core.Path.{ap, ◌∙◌}
use mathlib.Core.List.{List}
use Rattle.std.specs.Prelude.{bytes_eq}
use Rattle.saved.proofs.Putting.{front}
use Rattle.saved.proofs.scan.is_queue.Goals as goal

pub returns : goal.returns
returns c = c.eq.ensures ∙ ap (λ (t : List ℕ). bytes_eq t c.args.text.now) (front c.put_queue-n.ensures.0)
