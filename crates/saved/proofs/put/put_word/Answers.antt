use native.Mathlib.Omega.{arith}
use mathlib.Core.Path.{refl}
use Rattle.saved.proofs.Digits.{spelling_start, spelling_on}
use Rattle.saved.proofs.put.put_word.Goals as goal

pub loop-i-init : goal.loop-i-init
loop-i-init c = spelling_start _ _ _ c.requires

pub loop-i-preserved : goal.loop-i-preserved
loop-i-preserved c = spelling_on _ _ _ c.requires c.loop-i.invariant _ (omega arith) refl
