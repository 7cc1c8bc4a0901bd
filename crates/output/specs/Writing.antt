-- What a stage that writes into a lent buffer says of it: "a count of bytes written at the buffer's start"; "buffer bytes past the count stay".
use Rattle.std.specs.Prelude.{ℕ, ◌≡◌, List, ◌++◌, length, drop}

-- the buffer l with the bytes bs at its start
unfoldable pub over : List ℕ → List ℕ → List ℕ
over bs l = bs ++ drop (length bs) l

-- the bytes bs were written, and n is their count
pub record Wrote (bs : List ℕ) (n : ℕ) (before after : List ℕ) : Type 0 where
  pub count : n ≡ length bs
  pub buffer : after ≡ over bs before
