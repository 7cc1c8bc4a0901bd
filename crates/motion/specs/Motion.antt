-- Motion along one axis (document 01, "The mouse"; the parts of packets: document 02, A6). A motion has two sides of which one is 0, and stands for the integer plus - minus.
-- What the two axes do together is said with the mouse.
use Rattle.std.specs.Prelude.{ℕ, suc, ◌+◌, ◌-◌, ◌/◌, ◌%◌, min, max, ◌≡◌, Bool, cond, leb, ltb, ℤ, pos, negsuc, ◌-ℤ◌, ◌*ℤ◌}
use Rattle.std.proofs.Math.IntN.{sub_ℕ}
use Rattle.motion.specs.declared.Motion.{Motion}
use Rattle.motion.specs.declared.Axes.{Axes}

-- the integer that a motion stands for
abbrev pub value : Motion → ℤ
value m = sub_ℕ m.plus m.minus

-- a representation fact: one side is 0
abbrev pub OneSided : Motion → Type 0
OneSided m = min m.plus m.minus ≡ 0

-- how far it is, either way
abbrev pub size : Motion → ℕ
size m = m.plus + m.minus

-- 0 along one axis: what "clear held motion" leaves of it
abbrev pub still : Motion
still = record { plus = 0; minus = 0 }

-- 0 along both: held motion at power-up ("all else zero"), after "all is sent" and after "clear held motion"
abbrev pub at_rest : Axes Motion
at_rest = record { x = still; y = still }

-- the motion of a signed number, as an event gives it
abbrev pub of_signed : ℤ → Motion
of_signed (pos n) = record { plus = n; minus = 0 }
of_signed (negsuc n) = record { plus = 0; minus = suc n }

-- "motion is added to the held motion"
abbrev pub sum : Motion → Motion → Motion
sum a b = record { plus = (a.plus + b.plus) - (a.minus + b.minus); minus = (a.minus + b.minus) - (a.plus + b.plus) }

-- "Origin bottom negates dy"
abbrev pub opposite : Motion → Motion
opposite m = record { plus = m.minus; minus = m.plus }

-- "reaches its threshold (and isn't 0)": thresholds, scales and deltas come as they act, 1 at least, and 0 does not reach 1
unfoldable pub reaches : Motion → ℕ → Bool
reaches m threshold = leb threshold (size m)

-- "divided by the scale toward zero"; also the whole deltas of keycode mode
unfoldable pub quotient : Motion → ℕ → Motion
quotient m scale = record { plus = m.plus / scale; minus = m.minus / scale }

-- "the remainder stays"
unfoldable pub remainder : Motion → ℕ → Motion
remainder m scale = record { plus = m.plus % scale; minus = m.minus % scale }

-- z / n, "rounded down", which is toward minus infinity: -1 / 2 is -1
abbrev pub down : ℤ → ℕ → ℤ
down (pos a) n = pos (a / n)
down (negsuc a) n = negsuc (a / n)

-- "of n packets the k-th, from 0, carries t·(k+1)/n less t·k/n, each division rounded down, for an axis total t"
unfoldable pub part : ℕ → ℕ → ℤ → ℤ
part n k t = down (t *ℤ pos (k + 1)) n -ℤ down (t *ℤ pos k) n

-- "X, Y in two's complement": the byte of an integer, which is that of every integer 256 away
unfoldable pub byte : ℤ → ℕ
byte (pos a) = a % 256
byte (negsuc a) = 255 - a % 256

-- "X, Y in two's complement": the integer that a byte says
abbrev pub signed_byte : ℕ → ℤ
signed_byte b = cond (ltb b 128) (pos b) (sub_ℕ b 256)

-- "The fewest packets are sent": how many one axis needs
unfoldable pub packets_needed : Motion → ℕ
packets_needed m = max ((m.plus + 126) / 127) ((m.minus + 127) / 128)

-- a coordinate once q has moved it: "Coordinates never pass 0 or the maximum"
unfoldable pub coordinate_after : ℕ → ℕ → Motion → ℕ
coordinate_after maximum c q = min maximum ((c + q.plus) - q.minus)
