-- By the room that is left behind the tab, and behind the bytes.
use native.Mathlib.Omega.{arith}
use Rattle.output.proofs.Writing.{both, kept}
use Rattle.listing.proofs.Printing.{shown_room, tab_stored, behind_end}
use Rattle.listing.proofs.rows.write_bytes.Goals as goal

pub write_shown-at-requires : goal.write_shown-at-requires
write_shown-at-requires c =
    let tab = tab_stored c.args.out.now (omega (arith, c.requires)) in
    omega (arith, c.requires, kept tab (omega (arith, c.requires)), shown_room c.args.bytes.now)

pub overflow_add-at : goal.overflow_add-at
overflow_add-at c = omega (arith, c.requires, c.write_shown-at.ensures.count, shown_room c.args.bytes.now)

pub bounds-out-at : goal.bounds-out-at
bounds-out-at c =
    let room = shown_room c.args.bytes.now in
    let shown = both (tab_stored c.args.out.now (omega (arith, c.requires))) c.write_shown-at.ensures in
    omega (arith, c.requires, room, c.write_shown-at.ensures.count, kept shown (omega (arith, c.requires, room, c.write_shown-at.ensures.count)))

pub overflow_add-result : goal.overflow_add-result
overflow_add-result c = omega (arith, c.requires, c.write_shown-at.ensures.count, shown_room c.args.bytes.now)

pub returns : goal.returns
returns c =
    let shown = both (tab_stored c.args.out.now (omega (arith, c.requires))) c.write_shown-at.ensures in
    behind_end c.args.bytes.now shown (omega (arith, c.requires, c.write_shown-at.ensures.count, shown_room c.args.bytes.now))
