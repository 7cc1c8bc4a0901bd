-- The bits of a word, lowest first, as the map of the keys uses them.
use Rattle.std.specs.Prelude.{ℕ, zero, suc, ◌+◌, ◌*◌, ◌/◌, ◌%◌, Bool, cond, List, [], ◌∷◌, eqb}
use Rattle.output.specs.Packets.{bit}

-- whether a bit of a word is set; bit 0 is the lowest
unfoldable pub has_bit : ℕ → ℕ → Bool
has_bit zero w = eqb (w % 2) 1
has_bit (suc b) w = has_bit b (w / 2)

-- a word with one of its bits set or cleared
unfoldable pub put : ℕ → Bool → ℕ → ℕ
put zero on w = w / 2 * 2 + bit on
put (suc b) on w = put b on (w / 2) * 2 + w % 2

-- For the contract of the private function that writes one word alone: the keys among the d lowest bits of a word, lowest first; the lowest bit is
-- key k
unfoldable pub keys_in : ℕ → ℕ → ℕ → List ℕ
keys_in zero k w = []
keys_in (suc d) k w = cond (has_bit 0 w) (k ∷ keys_in d (suc k) (w / 2)) (keys_in d (suc k) (w / 2))
