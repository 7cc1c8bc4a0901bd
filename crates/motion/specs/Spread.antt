-- An axis total spread over n packets without a division for each (document 02, A6), as Bresenham draws a line: what the code keeps between two packets.
use Rattle.std.specs.Prelude.{ℕ, ◌+◌, ◌-◌, ◌*◌, ◌/◌, ◌%◌, ◌≤◌, ◌<◌, ◌≡◌, Bool, cond, leb}
use Rattle.motion.specs.declared.Motion.{Motion}
use Rattle.motion.specs.declared.Spread.{Spread}
use Rattle.motion.specs.Motion.{value, part, byte}

-- A total made natural: each of the n parts is 65,536 more, which its byte does not see.
abbrev pub raised : ℕ → Motion → ℕ
raised n m = (m.plus + 65536 * n) - m.minus

-- A total before the k-th of its n packets. Every packet carries the quotient by n, and 1 more whenever the rest that it leaves has added up to n; the error is what has added up since.
abbrev pub spread_at : ℕ → ℕ → Motion → Spread
spread_at n k m = record { packets = n; each = raised n m / n % 256; rest = raised n m % n; error = (raised n m * k) % n }

-- a representation fact: the rest and the error are less than the number of packets
abbrev pub IsSpread : Spread → Type 0
IsSpread s = (s.rest < s.packets) × (s.error < s.packets)

-- whether the next packet carries 1 more
abbrev pub adds_up : Spread → Bool
adds_up s = leb s.packets (s.error + s.rest)

-- X or Y of the next packet
abbrev pub next_byte : Spread → ℕ
next_byte s = cond (adds_up s) ((s.each + 1) % 256) s.each

-- one packet further
abbrev pub further : Spread → Spread
further s = record { packets = s.packets; each = s.each; rest = s.rest; error = cond (adds_up s) ((s.error + s.rest) - s.packets) (s.error + s.rest) }

-- that is the byte of the part that the packet carries,
abbrev pub SaysPart : Type 0
SaysPart = (n k : ℕ) (m : Motion) → 0 < n → m.minus ≤ 65535 → next_byte (spread_at n k m) ≡ byte (part n k (value m))

-- and then the total is before the packet after it
abbrev pub MovesOn : Type 0
MovesOn = (n k : ℕ) (m : Motion) → 0 < n → further (spread_at n k m) ≡ spread_at n (k + 1) m
