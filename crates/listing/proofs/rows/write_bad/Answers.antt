use Rattle.output.proofs.Writing.{both}
use Rattle.listing.proofs.Printing.{bad_end}
use Rattle.listing.proofs.rows.write_bad.Goals as goal

pub returns : goal.returns
returns c = bad_end _ (both (both c.copy-at.ensures c.write_decimal-at.ensures) c.put3-at.ensures)
