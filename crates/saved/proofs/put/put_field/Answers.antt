use Prim.Native.Nat.{◌+◌, ◌≤◌}
use native.Mathlib.Omega.{arith}
use lib.ListN.{length}
use Rattle.output.proofs.Writing.{kept, stored_after}
use Rattle.saved.proofs.Putting.{field_short}
use Rattle.saved.proofs.put.put_field.Goals as goal

pub bounds-out-n : goal.bounds-out-n
bounds-out-n c =
    let short : c.put_number-n.result + 1 ≤ 6 = omega (arith, field_short c.args.i c.args.x c.ranges.x.fits, c.put_number-n.ensures.count) in
    let room : c.put_number-n.result + 1 ≤ length c.args.out.now = omega (arith, short, c.requires) in
    omega (arith, room, kept c.put_number-n.ensures (omega (arith, room)))

pub overflow_add-result : goal.overflow_add-result
overflow_add-result c =
    let short : c.put_number-n.result + 1 ≤ 6 = omega (arith, field_short c.args.i c.args.x c.ranges.x.fits, c.put_number-n.ensures.count) in
    let room : c.put_number-n.result + 1 ≤ length c.args.out.now = omega (arith, short, c.requires) in
    omega (arith, room)

pub returns : goal.returns
returns c =
    let short : c.put_number-n.result + 1 ≤ 6 = omega (arith, field_short c.args.i c.args.x c.ranges.x.fits, c.put_number-n.ensures.count) in
    let room : c.put_number-n.result + 1 ≤ length c.args.out.now = omega (arith, short, c.requires) in
    (stored_after _ c.put_number-n.ensures (omega (arith, room)), omega (arith, short))
