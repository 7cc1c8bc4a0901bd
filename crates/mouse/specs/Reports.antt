-- What something that happens to the mouse leads to, and two things that it can be: all held motion sent, and the absolute report (document 01, "The mouse"),
-- which A7 parts from the clearing.
use Rattle.std.specs.Prelude.{ℕ, ◌+◌, ◌*◌, max, List, [], ◌∷◌, ◌++◌}
use Rattle.output.specs.Packets.{Packet, position, bit}
use Rattle.motion.specs.Motion.{at_rest}
use Rattle.mouse.specs.declared.Latches.{Latches}
use Rattle.mouse.specs.declared.Mouse.{Mouse}
use Rattle.mouse.specs.declared.Sending.{Sending}
use Rattle.mouse.specs.Mouse.{no_latches, with_latches, without_motion}
use Rattle.mouse.specs.Sending.{packets_for, packets_sent, nothing_sent}

-- what something that happens to the mouse leads to: what is sent of held motion, the packets that follow it, and the mouse afterwards
pub record MouseDue : Type 0 where
  pub sending : Sending
  pub others : List Packet
  pub mouse : Mouse

-- the packets that fall due, in order (document 01's "due")
abbrev pub packets_due : MouseDue → List Packet
packets_due d = packets_sent d.sending ++ d.others

-- nothing falls due; the mouse is as given, changed before or not ("An unchanged level does nothing", "motion is dropped")
abbrev pub quiet : Mouse → MouseDue
quiet m = record { sending = nothing_sent; others = []; mouse = m }

-- one packet falls due, and nothing of held motion
abbrev pub one_packet : Packet → Mouse → MouseDue
one_packet p m = record { sending = nothing_sent; others = p ∷ []; mouse = m }

-- "all is sent", with the levels as they are now, in `least` packets at least; it is then no longer held
unfoldable pub send_all : ℕ → Mouse → MouseDue
send_all least m = record {
  sending = record {
    packets = max least (packets_for m.held);
    left = m.left;
    right = m.right;
    held = m.held;
    arrows = at_rest;
  };
  others = [];
  mouse = without_motion m;
}

-- "latches (1 right down, 2 right up, 4 left down, 8 left up)"
abbrev pub latch_byte : Latches → ℕ
latch_byte l = bit l.rightdown + 2 * bit l.rightup + 4 * bit l.leftdown + 8 * bit l.leftup

-- "0xF7, latches ..., X, Y high byte first": what 0x0D and a button report, and what A7's look shows
unfoldable pub report : Mouse → Packet
report m = position (latch_byte m.latches) m.place.x m.place.y

-- A7: "a clearing, which only empties the latches"
abbrev pub cleared : Mouse → Mouse
cleared m = with_latches no_latches m
