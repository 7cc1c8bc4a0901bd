use native.Mathlib.Omega.{arith}
use mathlib.Core.Path.{refl, ap}
use Rattle.std.specs.Prelude.{Ok}
use Rattle.controller.specs.Applying.{kept, flushed}
use Rattle.controller.proofs.send.replace.Goals as goal

pub returns-then-out-count : goal.returns-then-out-count
returns-then-out-count g c = kept (omega (arith, c.count.ensures, c.if-out-count.true)) refl refl refl refl

pub returns : goal.returns
returns g c = flushed (omega (arith, c.count.ensures, c.if-out-count.false)) (ap Ok c.put-n.ensures.count) refl c.clear.ensures c.put-n.ensures.buffer
