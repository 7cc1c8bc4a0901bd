use Rattle.std.proofs.Common.{rules}
use Rattle.listing.proofs.Printing.{left_none, left_some}
use Rattle.listing.proofs.rows.write_left.Goals as goal

pub returns-then-is_empty : goal.returns-then-is_empty
returns-then-is_empty c = left_none _ _ (search rules)

pub returns : goal.returns
returns c = left_some _ (search rules) c.write_row.ensures
