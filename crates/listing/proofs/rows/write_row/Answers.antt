use native.Mathlib.Omega.{arith}
use Rattle.output.proofs.Writing.{both}
use Rattle.listing.specs.Rows.{row}
use Rattle.listing.proofs.Printing.{behind_room}
use Rattle.listing.proofs.rows.write_row.Goals as goal

pub overflow_add-result : goal.overflow_add-result
overflow_add-result c = omega (arith, c.requires, c.copy-n.ensures.count, c.write_bytes.ensures.count, behind_room c.args.bytes.now)

pub returns : goal.returns
unfolding row
returns c = both c.copy-n.ensures c.write_bytes.ensures
