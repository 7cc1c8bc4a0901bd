-- The map of the keys as digits.
use Rattle.std.specs.Prelude.{ℕ, zero, suc, ◌+◌, ◌-◌, ◌*◌, ◌/◌, ◌%◌, Bool, true, false, cond, ◌&&◌, ◌||◌, List, [], ◌∷◌, eqb, drop, Option, Some, None}
use Rattle.output.specs.ScanCodes.{first_key, last_key}
use Rattle.output.specs.Packets.{bit}
use Rattle.keys.specs.declared.Keys.{Keys}
use Rattle.keys.specs.Keys.{low_keys, has_key}
use Rattle.text.specs.Line.{tab}
use Rattle.text.specs.Output.{figure}

-- a digit for each of the n keys from k on: 1 for a key that is down
unfoldable pub key_digits : ℕ → ℕ → Keys → List ℕ
key_digits zero k m = []
key_digits (suc n) k m = figure (bit (has_key k m)) ∷ key_digits n (suc k) m

-- "114 digits 0 or 1, key 1 first": the last key is also how many there are
abbrev pub map_text : Keys → List ℕ
map_text m = key_digits last_key first_key m

-- For the contract of the private function that writes a word: its n lowest bits, lowest first
unfoldable pub word_digits : ℕ → ℕ → List ℕ
word_digits zero w = []
word_digits (suc n) w = figure (w % 2) ∷ word_digits n (w / 2)

-- whether the first n bytes of a text are such digits
unfoldable pub are_digits : ℕ → List ℕ → Bool
are_digits zero l = true
are_digits (suc n) [] = false
are_digits (suc n) (b ∷ l) = (eqb b (figure 0) || eqb b (figure 1)) && are_digits n l

-- the word whose n lowest bits such digits are, lowest first
unfoldable pub word_of : ℕ → List ℕ → ℕ
word_of zero l = 0
word_of (suc n) [] = 0
word_of (suc n) (b ∷ l) = (b - figure 0) + 2 * word_of n l

-- a word at the front of a text
unfoldable pub word_from : ℕ → List ℕ → Option ℕ
word_from n l = cond (are_digits n l) (Some (word_of n l)) None

-- whether a text begins with this byte
unfoldable pub begins_with : ℕ → List ℕ → Bool
begins_with b [] = false
begins_with b (c ∷ l) = eqb c b

-- the map whose digits stand at the front of a text
unfoldable pub map_of : List ℕ → Keys
map_of l = record { low = word_of low_keys l; high = word_of (last_key - low_keys) (drop low_keys l) }

-- whether a text begins with a map and its tab
unfoldable pub has_map : List ℕ → Bool
has_map l = are_digits last_key l && begins_with tab (drop last_key l)

-- the map at the front of a text
unfoldable pub map_from : List ℕ → Option Keys
map_from l = cond (has_map l) (Some (map_of l)) None
