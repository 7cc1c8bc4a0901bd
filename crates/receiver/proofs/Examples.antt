-- What received bytes are cut into, computed: readings 90 and 115, each kind, too few, and bytes that start no packet.
-- Assumes nothing.
use mathlib.Core.Path.{◌≡◌, refl}
use mathlib.Core.List.{[], ◌∷◌}
use Rattle.receiver.specs.declared.Kind.TheVariants.{Make, Break, VersionOrBreak, Status, MousePosition, MouseMotion, Time, BothSticks, StickEvent}
use Rattle.receiver.specs.declared.Cut.TheVariants.{Whole, TooFew, NoPacket}
use Rattle.output.specs.ScanCodes.{is_make, is_break}
use Rattle.receiver.specs.Cut.{start, cut}
use Rattle.receiver.specs.Pieces.{packet, no_packet, pieces_from, left_from, pieces, left}

rules : Unit {0}
unfolding start is_make is_break cut pieces_from left_from
rules = tt

-- Reading 90: "00, 73, 76 to 80, F3 and nothing else; F6 to FF are packets and not breaks", and an empty rest is too few.
pub no_break_of_0 : cut (0x80 ∷ []) ≡ NoPacket
unfolding rules
no_break_of_0 = refl

pub no_break_of_73 : cut (0xF3 ∷ []) ≡ NoPacket
unfolding rules
no_break_of_73 = refl

pub break_of_75 : cut (0xF5 ∷ []) ≡ Whole Break 1
unfolding rules
break_of_75 = refl

pub nothing_is_few : cut [] ≡ TooFew
unfolding rules
nothing_is_few = refl

-- Reading 115: "each break code after a reset's 0xF0 is a packet of its own".
pub reset_with_keys : pieces (0xF0 ∷ 0x82 ∷ 0x9E ∷ []) ≡ packet VersionOrBreak (0xF0 ∷ []) ∷ packet Break (0x82 ∷ []) ∷ packet Break (0x9E ∷ []) ∷ []
unfolding rules
reset_with_keys = refl

-- the longer kinds, one after the other; two bytes between start no packet, and the last packet is too few
pub each_kind :
    pieces
    (0x1E ∷ 0xF6 ∷ 8 ∷ 0 ∷ 0 ∷ 0 ∷ 0 ∷ 0 ∷ 0 ∷ 0xF7 ∷ 8 ∷ 0 ∷ 0xA0 ∷ 0 ∷ 0x64 ∷ 0x73 ∷ 0xF8 ∷ 3 ∷ 0xFE ∷ 0xFC ∷ 0x85 ∷ 1 ∷ 1 ∷ 0 ∷ 0 ∷ 0 ∷ 0
    ∷ 0xFD ∷ 0 ∷ 0x81 ∷ 0xFF ∷ 0x0F ∷ 0xFE ∷ [])
    ≡ packet Make (0x1E ∷ [])
    ∷ packet Status (0xF6 ∷ 8 ∷ 0 ∷ 0 ∷ 0 ∷ 0 ∷ 0 ∷ 0 ∷ [])
    ∷ packet MousePosition (0xF7 ∷ 8 ∷ 0 ∷ 0xA0 ∷ 0 ∷ 0x64 ∷ [])
    ∷ no_packet (0x73 ∷ [])
    ∷ packet MouseMotion (0xF8 ∷ 3 ∷ 0xFE ∷ [])
    ∷ packet Time (0xFC ∷ 0x85 ∷ 1 ∷ 1 ∷ 0 ∷ 0 ∷ 0 ∷ [])
    ∷ no_packet (0 ∷ [])
    ∷ packet BothSticks (0xFD ∷ 0 ∷ 0x81 ∷ [])
    ∷ packet StickEvent (0xFF ∷ 0x0F ∷ [])
    ∷ []
unfolding rules
each_kind = refl

pub few_are_left : left (0xFF ∷ 0x0F ∷ 0xFE ∷ []) ≡ 0xFE ∷ []
unfolding rules
few_are_left = refl
