-- Which keys are down (document 02, A1): the map, and what a press or a release does to it. When one counts is said in controller/Events, and when the
-- break codes are sent in controller/Host.
use Rattle.std.specs.Prelude.{ℕ, zero, suc, ◌-◌, ◌^◌, ◌<◌, Bool, cond, List, [], ◌∷◌, map, leb, length}
use Rattle.output.specs.ScanCodes.{first_key, last_key, break_of}
use Rattle.output.specs.Packets.{Packet, scan}
use Rattle.keys.specs.declared.Keys.{Keys}
use Rattle.keys.specs.Words.{has_bit, put}

-- how many keys have their bit in the low word: key 1 at its lowest; the keys after them are in the high word
abbrev pub low_keys : ℕ
low_keys = 64

-- whether a key is in the map
unfoldable pub has_key : ℕ → Keys → Bool
has_key k m = cond (leb k low_keys) (has_bit (k - 1) m.low) (has_bit (k - low_keys - 1) m.high)

-- "set on a press and cleared on a release"
unfoldable pub struck : ℕ → Bool → Keys → Keys
struck k down m =
    cond (leb k low_keys) (record { low = put (k - 1) down m.low; high = m.high })
    (record { low = m.low; high = put (k - low_keys - 1) down m.high })

-- no key is down: the map at power-up, where "all else" is zero
abbrev pub no_keys : Keys
no_keys = record { low = 0; high = 0 }

-- "a map of keys 1 to 0x72": no bit is set past the last key's
pub record IsKeys (m : Keys) : Type 0 where
  pub low : m.low < 2 ^ low_keys
  pub high : m.high < 2 ^ (last_key - low_keys)

-- the numbers that pass a test, lowest first, of n numbers from k on
unfoldable pub those : (ℕ → Bool) → ℕ → ℕ → List ℕ
those test k zero = []
those test k (suc n) = cond (test k) (k ∷ those test (suc k) n) (those test (suc k) n)

-- "each key in the map, lowest first": the last key is also how many there are
unfoldable pub keys_of : Keys → List ℕ
keys_of m = those (λ k. has_key k m) first_key last_key

-- "how many keys are held, counted from the map"
unfoldable pub held : Keys → ℕ
held m = length (keys_of m)

-- the break codes of these keys, one packet each
abbrev pub breaks : List ℕ → List Packet
breaks ks = map (λ k. scan (break_of k)) ks

-- "the break code of each key in the map, lowest first"
unfoldable pub break_packets : Keys → List Packet
break_packets m = breaks (keys_of m)
