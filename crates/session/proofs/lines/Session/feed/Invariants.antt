use mathlib.Core.Path.{◌≡◌}
use lib.ListN.{length}
use Rattle.controller.specs.Applying.{joined}
use Rattle.session.proofs.Feeding.{Reading}
use Rattle.session.proofs.lines.Session.feed.Given as goal

abbrev pub invariant-loop-out : goal.invariant-loop-out
invariant-loop-out l = Reading (record { state = joined l.initial.core l.initial.queue l.initial.waiting; number = l.initial.number }) (length l.initial.lent) l.text l.initial.out l.out (joined l.core l.queue l.waiting) l.number l.rest l.at × (length l.lent ≡ length l.initial.lent)

abbrev pub decreases-loop-out : goal.decreases-loop-out
decreases-loop-out l = length l.rest
