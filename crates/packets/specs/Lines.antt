-- What the lines of a text come to for `packets`: their rows, and the bytes that then wait for more.
use Rattle.std.specs.Prelude.{ℕ, suc, ◌+◌, ◌≤◌, ◌≡◌, List, [], ◌∷◌, ◌++◌, length, take}
use Rattle.session.specs.Session.{ended, rest}
use Rattle.listing.specs.Input.{line_of}
use Rattle.listing.specs.Rows.{left_row}
use Rattle.listing.specs.Listing.{printed, waiting_after, listing}
use Rattle.packets.specs.declared.Waiting.{Waiting}

-- what is printed for these lines, the first with the number n, where the bytes p wait
unfoldable pub printed_for : ℕ → List ℕ → List (List ℕ) → List ℕ
printed_for n p [] = []
printed_for n p (l ∷ ls) = printed n p (line_of l) ++ printed_for (suc n) (waiting_after p (line_of l)) ls

-- what then waits
unfoldable pub waiting_behind : List ℕ → List (List ℕ) → List ℕ
waiting_behind p [] = p
waiting_behind p (l ∷ ls) = waiting_behind (waiting_after p (line_of l)) ls

-- the bytes that wait
abbrev pub bytes_waiting : Waiting → List ℕ
bytes_waiting w = take w.waiting w.bytes

-- the first `used` bytes of the text t are whole lines, they are listed and taken, and no line ends in t where they are none
pub record ListsLines (w : Waiting) (t : List ℕ) (used : ℕ) (shown : List ℕ) (n : Waiting) : Type 0 where
  pub within : used ≤ length t
  pub whole : rest (take used t) ≡ []
  pub printed : shown ≡ printed_for w.number (bytes_waiting w) (ended (take used t))
  pub waits : bytes_waiting n ≡ waiting_behind (bytes_waiting w) (ended (take used t))
  pub number : n.number ≡ w.number + length (ended (take used t))
  pub most : used ≡ 0 → ended t ≡ []

-- With what is left at the end, a listing is that of all its lines.
abbrev pub ListsAll : Type 0
ListsAll = (n : ℕ) (p : List ℕ) (ls : List (List ℕ)) → listing n p ls ≡ printed_for n p ls ++ left_row (waiting_behind p ls)
