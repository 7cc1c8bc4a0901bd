use native.Mathlib.Omega.{arith}
use Rattle.output.proofs.Writing.{both, kept}
use Rattle.listing.specs.Rows.{row}
use Rattle.listing.proofs.Rooms.{name_most}
use Rattle.listing.proofs.Printing.{behind_room}
use Rattle.listing.proofs.rows.write_packet.Goals as goal

pub write_bytes-requires : goal.write_bytes-requires
write_bytes-requires c =
    let name = c.write_name-n.ensures in
    omega (arith, c.requires, name.count, name_most c.args.kind, kept name (omega (arith, c.requires, name.count, name_most c.args.kind)))

pub overflow_add-result : goal.overflow_add-result
overflow_add-result c =
    omega (arith, c.requires, c.write_name-n.ensures.count, name_most c.args.kind, c.write_bytes.ensures.count, behind_room c.args.bytes.now)

pub returns : goal.returns
unfolding row
returns c = both c.write_name-n.ensures c.write_bytes.ensures
