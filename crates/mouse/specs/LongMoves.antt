-- What is promised of the packets in which held motion is sent (document 02, A6). In relative mode all that sends it, motion, a button or a resume, does so by `send_all`.
use Rattle.std.specs.Prelude.{ℕ, ◌≤◌, max, ◌≡◌, List, map, length}
use Rattle.output.specs.Packets.{Packet}
use Rattle.motion.specs.declared.Motion.{Motion}
use Rattle.motion.specs.declared.Axes.{Axes}
use Rattle.motion.specs.Motion.{value, OneSided}
use Rattle.motion.specs.LongMoves.{parts_from, AllFit}
use Rattle.mouse.specs.declared.Mouse.{Mouse}
use Rattle.mouse.specs.Reports.{packets_due, send_all}
use Rattle.mouse.specs.Sending.{packets_for}
use Rattle.mouse.specs.Totals.{Axis, along, says, said}

-- What the packets say along an axis are the parts of what is held along it: as many as the axis needs that needs the most, and `least` at least. "for buttons and resumed output too": these send by `send_all` as motion does, a button with 1 as the least.
abbrev pub PacketsCarry : Type 0
PacketsCarry = (a : Axis) (least : ℕ) (m : Mouse) →
    map (says a) (packets_due (send_all least m)) ≡ parts_from (max least (packets_for m.held)) (max least (packets_for m.held)) 0 (value (along a m.held))

-- "The fewest packets are sent": packets that say the same along both axes are as many at least
abbrev pub FewestPackets : Type 0
FewestPackets = (d : Axes Motion) (ps : List Packet) → ((a : Axis) → OneSided (along a d)) → ((a : Axis) → AllFit (map (says a) ps)) →
    ((a : Axis) → said a ps ≡ value (along a d)) → packets_for d ≤ length ps
