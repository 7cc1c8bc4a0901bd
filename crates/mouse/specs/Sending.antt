-- Held motion as it is sent: packets of motion, or arrow keys (document 01, "The mouse"; document 02, A6). When it is sent, and what else, is said elsewhere.
use Rattle.std.specs.Prelude.{ℕ, zero, suc, ◌+◌, ◌*◌, max, Bool, false, List, [], ◌∷◌, ◌++◌}
use Rattle.output.specs.ScanCodes.{arrow_right, arrow_left, arrow_up, arrow_down}
use Rattle.output.specs.Packets.{Packet, motion, pairs, bit}
use Rattle.motion.specs.declared.Motion.{Motion}
use Rattle.motion.specs.declared.Axes.{Axes}
use Rattle.motion.specs.Motion.{at_rest, value, part, byte, packets_needed}
use Rattle.mouse.specs.declared.Sending.{Sending}

-- "2·left + right", which a packet adds to 0xF8
abbrev pub buttons : Bool → Bool → ℕ
buttons left right = 2 * bit left + bit right

-- so many of n packets, from the k-th on: "the k-th, from 0, carries" its part of either total
unfoldable pub split_from : ℕ → ℕ → ℕ → ℕ → Axes Motion → List Packet
split_from zero n k levels d = []
split_from (suc rest) n k levels d = motion levels (byte (part n k (value d.x))) (byte (part n k (value d.y))) ∷ split_from rest n (k + 1) levels d

-- the n packets of held motion
abbrev pub split : ℕ → ℕ → Axes Motion → List Packet
split n levels d = split_from n n 0 levels d

-- "The fewest packets are sent"
abbrev pub packets_for : Axes Motion → ℕ
packets_for d = max (packets_needed d.x) (packets_needed d.y)

-- "a make and break pair, all X first: 0x4D right, 0x4B left, 0x48 up, 0x50 down"; of each axis one side is 0
unfoldable pub arrows : Axes Motion → List Packet
arrows d =
    pairs d.x.plus arrow_right ++ (pairs d.x.minus arrow_left
    ++ (pairs d.y.plus arrow_down ++ pairs d.y.minus arrow_up))

-- the packets that are sent of held motion, in the code's words for it: so many packets of motion, and these arrow keys
unfoldable pub packets_sent : Sending → List Packet
packets_sent s = split s.packets (buttons s.left s.right) s.held ++ arrows s.arrows

-- no packet and no arrow
abbrev pub nothing_sent : Sending
nothing_sent = record { packets = 0; left = false; right = false; held = at_rest; arrows = at_rest }
