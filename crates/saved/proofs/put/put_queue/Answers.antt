use Prim.Native.Nat.{◌*◌, ◌≤◌}
use native.Mathlib.Omega.{arith}
use Rattle.output.proofs.Writing.{kept, stored_after}
use Rattle.controller.specs.State.{queue_room}
use Rattle.text.specs.Line.{line_feed}
use Rattle.saved.proofs.Putting.{shown_room}
use Rattle.saved.proofs.put.put_queue.Goals as goal

pub write_shown-n-requires : goal.write_shown-n-requires
write_shown-n-requires c =
    let p = c.requires.queue in
    omega (arith, shown_room c.args.queue p.0 p.1, c.requires.room)

pub bounds-out-n : goal.bounds-out-n
bounds-out-n c =
    let short : c.write_shown-n.result ≤ 2 * queue_room = (let p = c.requires.queue in
    omega (arith, shown_room c.args.queue p.0 p.1, c.write_shown-n.ensures.count)) in
    omega (arith, short, kept c.write_shown-n.ensures (omega (arith, short, c.requires.room)), c.requires.room)

pub overflow_add-result : goal.overflow_add-result
overflow_add-result c =
    let short : c.write_shown-n.result ≤ 2 * queue_room = (let p = c.requires.queue in
    omega (arith, shown_room c.args.queue p.0 p.1, c.write_shown-n.ensures.count)) in
    omega (arith, short)

pub returns : goal.returns
returns c =
    let short : c.write_shown-n.result ≤ 2 * queue_room = (let p = c.requires.queue in
    omega (arith, shown_room c.args.queue p.0 p.1, c.write_shown-n.ensures.count)) in
    (stored_after line_feed c.write_shown-n.ensures (omega (arith, short, c.requires.room)), omega (arith, short))
