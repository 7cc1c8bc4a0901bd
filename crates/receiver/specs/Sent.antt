-- A packet of the controller as a host sees it (document 02, A5).
use Rattle.std.specs.Prelude.{ℕ, cond, List, [], ◌∷◌, eqb, ltb}
use Rattle.output.specs.Packets.{Packet, scan, motion, position, time, sticks, stick, monitor, samples, status, version, bytes_of}
use Rattle.receiver.specs.declared.Kind.{Kind}
use Rattle.receiver.specs.declared.Kind.TheVariants.{Make, Break, VersionOrBreak, Status, MousePosition, MouseMotion, Time, BothSticks, StickEvent}
use Rattle.receiver.specs.Pieces.{Piece, packet, no_packet}

-- a scan code by itself: "0xF0 is named as both its meanings."
abbrev pub code_kind : ℕ → Kind
code_kind code = cond (ltb code 0x80) Make (cond (eqb code 0xF0) VersionOrBreak Break)

-- Kind and bytes of a packet. Those of the monitoring modes have no first byte of their own: no host can tell them.
abbrev pub piece_of : Packet → Piece
piece_of (scan code) = packet (code_kind code) (bytes_of (scan code))
piece_of (motion buttons x y) = packet MouseMotion (bytes_of (motion buttons x y))
piece_of (position latches x y) = packet MousePosition (bytes_of (position latches x y))
piece_of (time year month day hour minute second) = packet Time (bytes_of (time year month day hour minute second))
piece_of (sticks b0 b1) = packet BothSticks (bytes_of (sticks b0 b1))
piece_of (stick which byte) = packet StickEvent (bytes_of (stick which byte))
piece_of (monitor triggers positions) = no_packet (bytes_of (monitor triggers positions))
piece_of (samples byte) = no_packet (bytes_of (samples byte))
piece_of (status a b c d e f g) = packet Status (bytes_of (status a b c d e f g))
piece_of version = packet VersionOrBreak (bytes_of version)

-- among pieces no byte starts no packet
abbrev pub AllPackets : List Piece → Type 0
AllPackets [] = Unit {0}
AllPackets (packet kind bytes ∷ ps) = AllPackets ps
AllPackets (no_packet bytes ∷ ps) = ⊥
