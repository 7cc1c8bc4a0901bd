-- The map at the ends of its words and of the keyboard, computed.
-- Assumes nothing.
use Prim.Native.Nat.{◌+◌, ◌-◌, ◌^◌}
use mathlib.Core.Path.{◌≡◌, refl}
use mathlib.Core.Bool.{true, false}
use mathlib.Core.List.{[], ◌∷◌}
use Rattle.output.specs.ScanCodes.{last_key}
use Rattle.output.specs.Packets.{bytes}
use Rattle.keys.specs.declared.Keys.{Keys}
use Rattle.keys.specs.Words.{has_bit, put}
use Rattle.keys.specs.Keys.{low_keys, has_key, struck, no_keys, those, keys_of, held, break_packets}

rules : Unit {0}
unfolding has_bit put has_key struck those keys_of held break_packets
rules = tt

-- four keys go down, the highest first
abbrev four : Keys
four = struck 0x01 true (struck 0x40 true (struck 0x41 true (struck 0x72 true no_keys)))

four_bits : four ≡ record { low = 2 ^ 63 + 1; high = 2 ^ 49 + 1 }
unfolding rules
four_bits = refl

four_breaks : bytes (break_packets four) ≡ 0x81 ∷ 0xC0 ∷ 0xC1 ∷ 0xF2 ∷ []
unfolding rules
four_breaks = refl

-- one goes up, twice, and one that was not down
three_left : keys_of (struck 0x02 false (struck 0x40 false (struck 0x40 false four))) ≡ 0x01 ∷ 0x41 ∷ 0x72 ∷ []
unfolding rules
three_left = refl

-- a key that is pressed again
pressed_again : struck 0x41 true four ≡ four
unfolding rules
pressed_again = refl

-- all of them
all_held : held (record { low = 2 ^ low_keys - 1; high = 2 ^ (last_key - low_keys) - 1 }) ≡ last_key
unfolding rules
all_held = refl

none_held : held no_keys ≡ 0
unfolding rules
none_held = refl
