use Rattle.std.proofs.Common.{arith}
use Rattle.text.proofs.Shown.{shown_some}
use Rattle.text.proofs.figures.write_shown.Goals as goal

pub returns : goal.returns
returns c = shown_some _ _ _ _ (λ e. grind arith) c.write_hex.ensures
