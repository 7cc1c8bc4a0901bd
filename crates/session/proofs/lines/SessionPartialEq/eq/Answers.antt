-- The numbers are compared first.
use Rattle.std.proofs.Common.{◌≡◌, Bool, ◌∙◌}
use Rattle.std.proofs.Math.Bool.{and_comm}
use mathlib.Core.Bool.{◌&&◌}
use lib.Dec.{eqb}
use Rattle.controller.specs.declared.State.{State}
use Rattle.controller.specs.contracts.StatePartialEq.TheImpl as state_eq
use Rattle.session.specs.declared.lines.Session.{Session}
use Rattle.session.proofs.lines.SessionPartialEq.eq.Goals as goal

seen : (same : State → State → Bool) {a b x y : Session} {n r : Bool} → a ≡ x → b ≡ y → n ≡ eqb a.number b.number → r ≡ n && same a.state b.state
    → r ≡ same x.state y.state && eqb x.number y.number
seen same {a} {b} {n = n} p q e f =
    f ∙ and_comm n (same a.state b.state) ∙ (λ i. same (p i).state (q i).state && (e ∙ (λ j. eqb (p j).number (q j).number)) i)

pub returns : goal.returns
returns c = seen (state_eq.ghosts.eq) c.t1-1.view_is c.t2-1.view_is c.eq.ensures c.and_eq.ensures
