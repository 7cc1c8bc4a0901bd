-- How far packets say that the mouse moved, and how far an event says so: what has to agree where no motion is lost or doubled (document 01, "The mouse").
use Rattle.std.specs.Prelude.{ℕ, Bool, cond, List, [], ◌∷◌, ℤ, pos, neg_ℤ, ◌+ℤ◌}
use Rattle.output.specs.Packets.{Packet, scan, motion, position, time, sticks, stick, monitor, samples, status, version}
use Rattle.motion.specs.declared.Motion.{Motion}
use Rattle.motion.specs.declared.Axes.{Axes}
use Rattle.motion.specs.Motion.{signed_byte}

-- the two axes ("either axis", "per axis"): each law is stated once, over either
pub data Axis : Type 0 where
  AlongX : Axis
  AlongY : Axis

-- the motion along an axis, as "held motion on an axis"
abbrev pub along : Axis → Axes Motion → Motion
along AlongX d = d.x
along AlongY d = d.y

-- the byte of a motion packet for an axis: "X, Y"
abbrev pub byte_along : Axis → ℕ → ℕ → ℕ
byte_along AlongX x y = x
byte_along AlongY x y = y

-- how far a packet says that the mouse moved along an axis: its X or Y "in two's complement"; packets of other kinds count 0
abbrev pub says : Axis → Packet → ℤ
says a (scan code) = pos 0
says a (motion levels x y) = signed_byte (byte_along a x y)
says a (position latches x y) = pos 0
says a (time year month day hour minute second) = pos 0
says a (sticks b0 b1) = pos 0
says a (stick which b) = pos 0
says a (monitor triggers positions) = pos 0
says a (samples b) = pos 0
says a (status c0 c1 c2 c3 c4 c5 c6) = pos 0
says a version = pos 0

-- how far packets together say that it moved: the sum
abbrev pub said : Axis → List Packet → ℤ
said a [] = pos 0
said a (p ∷ ps) = says a p +ℤ said a ps

-- what a motion event brings along an axis, outside keycode mode: "Origin bottom negates dy as the event comes in"
abbrev pub brings : Axis → Bool → ℤ → ℤ → ℤ
brings AlongX bottom dx dy = dx
brings AlongY bottom dx dy = cond bottom (neg_ℤ dy) dy
