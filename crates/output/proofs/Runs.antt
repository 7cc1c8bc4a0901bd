-- Laws of short runs of bytes.
-- Assumes nothing.
use Prim.Native.Nat.{ℕ, suc, ◌+◌, ◌-◌, ◌≤◌, ◌<◌}
use native.Mathlib.Omega.{arith}
use mathlib.Core.Path.{◌≡◌}
use mathlib.Core.List.{List, [], ◌∷◌, ◌++◌, append_assoc}
use lib.ListN.{length, replicate, length-append, length-replicate}
use lib.Seq.{take-append_seam, set-append_seam}
use Rattle.output.specs.Short.{short_room, short_of, short_bytes, added, IsShort}

-- the bytes of a run of these bytes are these bytes
pub short_back : (bs : List ℕ) → short_bytes (short_of bs) ≡ bs
short_back bs = take-append_seam bs (replicate (short_room - length bs) 0)

-- a byte added to a run that is not full
pub short_added : (b : ℕ) (bs : List ℕ) → length bs < short_room → added b (short_of bs) ≡ short_of (bs ++ (b ∷ []))
short_added b bs h =
    let n : length (bs ++ (b ∷ [])) ≡ length bs + 1 = length-append bs (b ∷ []) in
    let e : short_room - length bs ≡ suc (short_room - (length bs + 1)) = omega arith in
    rw (n, e, set-append_seam, append_assoc)

-- few enough bytes make a short run
pub short_is : (bs : List ℕ) → length bs ≤ short_room → IsShort (short_of bs)
short_is bs h = record {
  len = h;
  room = simp (length-append, length-replicate) (omega arith);
}
