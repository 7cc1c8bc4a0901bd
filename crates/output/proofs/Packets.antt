-- Laws of packets and their bytes.
-- Assumes nothing.
use Prim.Native.Nat.{ℕ, zero, suc, ◌*◌}
use native.Mathlib.Omega.{arith}
use mathlib.Core.Path.{◌≡◌, refl, ap, ◌∙◌, sym}
use mathlib.Core.List.{List, [], ◌∷◌, ◌++◌, append_assoc}
use lib.ListN.{length}
use Rattle.output.specs.ScanCodes.{break_of}
use Rattle.output.specs.Packets.{Packet, bytes_of, bytes, pairs}

-- packets of two lists are those of one and then those of the other
pub bytes_append : (ps qs : List Packet) → bytes (ps ++ qs) ≡ bytes ps ++ bytes qs
bytes_append [] qs = refl
bytes_append (p ∷ ps) qs = ap (λ (l : List ℕ). bytes_of p ++ l) (bytes_append ps qs) ∙ sym (append_assoc (bytes_of p) (bytes ps) (bytes qs))

-- one pair more, at the end
pub pairs_more : (n make : ℕ) → bytes (pairs (suc n) make) ≡ bytes (pairs n make) ++ (make ∷ break_of make ∷ [])
unfolding pairs
pairs_more zero make = refl
pairs_more (suc n) make = ap (λ (l : List ℕ). make ∷ break_of make ∷ l) (pairs_more n make)

-- n pairs are 2·n bytes
pub pairs_length : (n make : ℕ) → length (bytes (pairs n make)) ≡ 2 * n
unfolding pairs
pairs_length zero make = refl
pairs_length (suc n) make = let h = pairs_length n make in omega arith
