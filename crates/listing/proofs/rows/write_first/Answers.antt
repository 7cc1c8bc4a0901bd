use native.Mathlib.Omega.{arith}
use mathlib.Core.Path.{sym, ◌∙◌}
use lib.Seq.{length-take-le}
use Rattle.listing.proofs.Turns.{takes, first_whole, first_none, first_few}
use Rattle.listing.proofs.rows.write_first.Goals as goal

pub slice_bounds-write_packet-end : goal.slice_bounds-write_packet-end
slice_bounds-write_packet-end c = sym (length-take-le _ _ (takes (sym c.first_packet.ensures ∙ c.in-Whole.is)).within)

pub write_packet-n-requires : goal.write_packet-n-requires
write_packet-n-requires c =
    let t = takes (sym c.first_packet.ensures ∙ c.in-Whole.is) in
    omega (arith, c.requires, t.short, length-take-le _ _ t.within)

pub slice_bounds-write_row-end-in-NoPacket : goal.slice_bounds-write_row-end-in-NoPacket
slice_bounds-write_row-end-in-NoPacket c = sym (length-take-le _ _ (takes (sym c.first_packet.ensures ∙ c.in-NoPacket.is)).within)

pub returns-in-Whole : goal.returns-in-Whole
returns-in-Whole c = first_whole _ c.first_packet.ensures c.in-Whole.is c.write_packet-n.ensures

pub returns-in-TooFew : goal.returns-in-TooFew
returns-in-TooFew c = first_few _ _ c.first_packet.ensures c.in-TooFew.is

pub returns-in-NoPacket : goal.returns-in-NoPacket
returns-in-NoPacket c = first_none _ c.first_packet.ensures c.in-NoPacket.is c.write_row-n.ensures
