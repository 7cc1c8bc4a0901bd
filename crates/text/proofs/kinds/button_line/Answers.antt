use Rattle.std.proofs.Common.{ap, refl, arith}
use Rattle.text.specs.Fronts.{seen}
use Rattle.text.proofs.Fixed.{button_bad, button_is}
use Rattle.text.proofs.kinds.button_line.Goals.{in_default-via-then-s-lt2, in_default-via-else-s-lt2+in_default-1}
use Rattle.text.proofs.kinds.button_line.Goals as goal

pub returns-in_default : goal.returns-in_default
returns-in_default c =
    elim c.in_default.branch [
      | in_default-via-then-s-lt2 w ↦ button_bad c.args.side c.args.s.now (λ h e. grind arith)
      | in_default-via-else-s-lt2+in_default-1 w ↦ button_bad c.args.side c.args.s.now (λ h e. grind arith)
    ]

pub returns-in_err-down : goal.returns-in_err-down
returns-in_err-down c = rw (button_is c.args.side c.args.s.now (omega arith) (omega arith), ← c.in_err-down.ensures) (ap seen c.from_residual.ensures)

pub returns : goal.returns
returns c = rw (button_is c.args.side c.args.s.now (omega arith) (omega arith), ← c.in_ok-down.ensures) refl
