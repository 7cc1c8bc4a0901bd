-- What is promised of cutting, beside the equation of `first_packet` (document 02, A5).
use Rattle.std.specs.Prelude.{ℕ, ◌≤◌, ◌<◌, ◌≡◌, Some, None, Bool, true, cond, ◌&&◌, ◌||◌, List, [], ◌∷◌, ◌++◌, eqb, leb, length, take, drop}
use Rattle.receiver.specs.declared.Kind.{Kind}
use Rattle.receiver.specs.declared.Cut.{Cut}
use Rattle.receiver.specs.declared.Cut.TheVariants.{Whole, TooFew, NoPacket}
use Rattle.receiver.specs.Cut.{start, cut, length_of, number}
use Rattle.receiver.specs.Pieces.{packet, no_packet, pieces, left}

-- The three that can be said of received bytes, each by the first byte and by how many there are.
pub data Says : List ℕ → Cut → Type 0 where
  -- a packet: its first byte tells kind and length, and that many bytes are there
  whole : {b n : ℕ} {l : List ℕ} {k : Kind} → start b ≡ Some (k, n) → n ≤ length (b ∷ l) → Says (b ∷ l) (Whole k n)
  -- "Empty input is too few."
  empty : Says [] TooFew
  -- "Too few bytes"
  few : {b n : ℕ} {l : List ℕ} {k : Kind} → start b ≡ Some (k, n) → length (b ∷ l) < n → Says (b ∷ l) TooFew
  -- "the first byte starts no packet"
  none : {b : ℕ} {l : List ℕ} → start b ≡ None → Says (b ∷ l) NoPacket

-- Of every byte string exactly one of the three is true, and the cut says which.
abbrev pub ExactlyOne : Type 0
ExactlyOne = (bytes : List ℕ) → Says bytes (cut bytes) × ((c : Cut) → Says bytes c → c ≡ cut bytes)

-- the bytes that start no packet: 00, 73, 76 to 80 and F3
abbrev pub starts_none : ℕ → Bool
starts_none b = (eqb b 0 || eqb b 0x73) || ((leb 0x76 b && leb b 0x80) || eqb b 0xF3)

-- "Refusals: 6, with length 0, exactly when the first byte starts no packet."
abbrev pub Refuses : Type 0
Refuses = (first : ℕ) (rest : List ℕ) → first ≤ 255 →
    (number (cut (first ∷ rest)) ≡ cond (starts_none first) 6 0) × (starts_none first ≡ true → length_of (cut (first ∷ rest)) ≡ 0)

-- the packet that these bytes begin with does not hang on what follows it, and no byte of it can be spared
pub record Decided (bytes : List ℕ) (k : Kind) (n : ℕ) : Type 0 where
  pub whatever_follows : (rest : List ℕ) → cut (take n bytes ++ rest) ≡ Whole k n
  pub none_spared : (m : ℕ) → m < n → cut (take m bytes) ≡ TooFew

-- whether it is a packet is decided by the bytes up to its length
abbrev pub DecidedByLength : Type 0
DecidedByLength = (bytes : List ℕ) (k : Kind) (n : ℕ) → cut bytes ≡ Whole k n → Decided bytes k n

-- What is cut off bytes, by their first packet. The three lines say all that there is to say of `pieces` and `left`.
pub record InTurn (bytes : List ℕ) : Type 0 where
  pub packets : (k : Kind) (n : ℕ) → cut bytes ≡ Whole k n →
      (pieces bytes ≡ packet k (take n bytes) ∷ pieces (drop n bytes)) × (left bytes ≡ left (drop n bytes))
  -- "goes on behind it"
  pub others : cut bytes ≡ NoPacket → (pieces bytes ≡ no_packet (take 1 bytes) ∷ pieces (drop 1 bytes)) × (left bytes ≡ left (drop 1 bytes))
  pub rest : cut bytes ≡ TooFew → (pieces bytes ≡ []) × (left bytes ≡ bytes)

-- "cutting": the first packet, then the first of what is behind it, and so on
abbrev pub CutInTurn : Type 0
CutInTurn = (bytes : List ℕ) → InTurn bytes

-- Bytes that come in parts are cut as those that come at once, where what is left of a part is put before the next.
abbrev pub InParts : Type 0
InParts = (a b : List ℕ) → (pieces (a ++ b) ≡ pieces a ++ pieces (left a ++ b)) × (left (a ++ b) ≡ left (left a ++ b))
