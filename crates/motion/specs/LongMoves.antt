-- What is promised of motion that takes several packets (document 02, A6), over integers: the packets are the fewest, as before, and carry the whole evenly.
use Rattle.std.specs.Prelude.{ℕ, zero, suc, ◌+◌, ◌-◌, ◌≤◌, ◌<◌, ◌≡◌, List, [], ◌∷◌, length, ℤ, pos, negsuc, neg_ℤ, ◌+ℤ◌, ◌*ℤ◌, ◌≤ℤ◌, ◌<ℤ◌}
use Rattle.motion.specs.declared.Motion.{Motion}
use Rattle.motion.specs.Motion.{value, OneSided, down, part, byte, signed_byte, packets_needed}

-- "rounded down": the greatest integer that, taken n times, does not pass z
abbrev pub RoundsDown : Type 0
RoundsDown = (z : ℤ) (n : ℕ) → 0 < n → ((down z n *ℤ pos n) ≤ℤ z) × (z <ℤ ((down z n +ℤ pos 1) *ℤ pos n))

-- an integer that X or Y of a packet can be
pub record Fits (z : ℤ) : Type 0 where
  pub low : neg_ℤ (pos 128) ≤ℤ z
  pub high : z ≤ℤ pos 127

-- "Every part must still fit -128 to 127."
abbrev pub PartsFit : Type 0
PartsFit = (n k : ℕ) (m : Motion) → k < n → packets_needed m ≤ n → Fits (part n k (value m))

-- so the byte of a part says the part
abbrev pub BytesSay : Type 0
BytesSay = (n k : ℕ) (m : Motion) → k < n → packets_needed m ≤ n → signed_byte (byte (part n k (value m))) ≡ part n k (value m)

-- so many of n parts, from the k-th on
abbrev pub parts_from : ℕ → ℕ → ℕ → ℤ → List ℤ
parts_from zero n k t = []
parts_from (suc rest) n k t = part n k t ∷ parts_from rest n (k + 1) t

-- the sum
abbrev pub total : List ℤ → ℤ
total [] = pos 0
total (z ∷ zs) = z +ℤ total zs

-- "t·k/n", rounded down, is what the first k of n packets carry together: so the k-th carries what the request says, and no other
abbrev pub PartsSoFar : Type 0
PartsSoFar = (n k : ℕ) (t : ℤ) → 0 < n → total (parts_from k n 0 t) ≡ down (t *ℤ pos k) n

-- all n of them carry the total
abbrev pub PartsSum : Type 0
PartsSum = (n : ℕ) (t : ℤ) → 0 < n → total (parts_from n n 0 t) ≡ t

-- two parts, neighbours or not, differ by at most 1, so that the pointer neither leaps nor creeps
abbrev pub PartsEven : Type 0
PartsEven = (n j k : ℕ) (t : ℤ) → 0 < n → part n j t ≤ℤ (part n k t +ℤ pos 1)

-- integers that packets can say
pub data AllFit : List ℤ → Type 0 where
  none : AllFit []
  first : {z : ℤ} {zs : List ℤ} → Fits z → AllFit zs → AllFit (z ∷ zs)

-- "The fewest packets are sent": however a motion is split, it takes as many
abbrev pub NoFewer : Type 0
NoFewer = (m : Motion) (zs : List ℤ) → OneSided m → AllFit zs → total zs ≡ value m → packets_needed m ≤ length zs

-- what a packet left of a total by document 01's own rule: "each takes as much as -128 to 127 allows of what is left"
abbrev pub after_full : ℤ → ℤ
after_full (pos a) = pos (a - 127)
after_full (negsuc a) = neg_ℤ (pos (suc a - 128))

-- and what n of them left
abbrev pub left_after : ℕ → ℤ → ℤ
left_after zero t = t
left_after (suc n) t = left_after n (after_full t)

-- "Same number of packets": by that rule too, n packets were enough exactly where they are now
abbrev pub SameNumber : Type 0
SameNumber = (n : ℕ) (m : Motion) → OneSided m → (packets_needed m ≤ n → left_after n (value m) ≡ pos 0) × (left_after n (value m) ≡ pos 0 → packets_needed m ≤ n)
