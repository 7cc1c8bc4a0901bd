-- A whole input of `packets`, line by line.
use Rattle.std.specs.Prelude.{ℕ, suc, ◌+◌, ◌*◌, ◌/◌, ◌≤◌, ◌<◌, ◌≡◌, ◌⊎◌, List, [], ◌∷◌, ◌++◌, length, take, drop}
use Rattle.output.specs.Writing.{Wrote}
use Rattle.receiver.specs.declared.Cut.{Cut}
use Rattle.receiver.specs.declared.Cut.TheVariants.{Whole, TooFew, NoPacket}
use Rattle.receiver.specs.Cut.{cut}
use Rattle.receiver.specs.Pieces.{off, pieces, left}
use Rattle.session.specs.Session.{ended, rest, last_line}
use Rattle.listing.specs.declared.rows.Rows.{Rows}
use Rattle.listing.specs.declared.Listed.{Listed}
use Rattle.listing.specs.Input.{Given, gives, bad, longest, line_of}
use Rattle.listing.specs.Rows.{header, rows, bad_row, left_row, row_room}

-- what is printed for a line, where the bytes p wait: its bytes come behind them
unfoldable pub printed : ℕ → List ℕ → Given → List ℕ
printed number p (gives bs) = rows (pieces (p ++ bs))
printed number p bad = bad_row number

-- what then waits; a bad line changes nothing
unfoldable pub waiting_after : List ℕ → Given → List ℕ
waiting_after p (gives bs) = left (p ++ bs)
waiting_after p bad = p

-- one line after the other, the first with number n, and what is left at the end
unfoldable pub listing : ℕ → List ℕ → List (List ℕ) → List ℕ
listing n p [] = left_row p
listing n p (l ∷ ls) = printed n p (line_of l) ++ listing (suc n) (waiting_after p (line_of l)) ls

-- a whole input; its last line may lack the line feed
unfoldable pub whole_listing : List ℕ → List ℕ
whole_listing input = header ++ listing 1 [] (ended input ++ last_line (rest input))

-- how many bytes are taken of those whose first packet is this; a byte that starts none is taken by itself
abbrev pub taken : Cut → ℕ
taken (Whole kind length) = length
taken TooFew = 0
taken NoPacket = 1

-- the row of the first packet, or of a byte that starts none
pub record ListsFirst (l : List ℕ) (r : Rows) (before after : List ℕ) : Type 0 where
  pub used : r.used ≡ taken (cut l)
  pub printed : Wrote (rows (off (cut l) (take (taken (cut l)) l))) r.count before after

-- The first `used` bytes are whole packets, and bytes that start none: their rows are printed, and nothing else is. They are as many as there is room
-- for: what follows is too few for a packet, or there might be no room for its row.
pub record Lists (l : List ℕ) (r : Rows) (before after : List ℕ) : Type 0 where
  pub within : r.used ≤ length l
  pub nothing_waits : left (take r.used l) ≡ []
  pub printed : Wrote (rows (pieces (take r.used l))) r.count before after
  pub most : (cut (drop r.used l) ≡ TooFew) ⊎ (length before < r.count + row_room)

-- too few bytes are at most these: one less than the longest packet has
abbrev pub most_left : ℕ
most_left = 7

-- room for the bytes of the longest line, and those that wait before it
abbrev pub most_bytes : ℕ
most_bytes = most_left + longest / 2 + 1

-- the most that a byte can have of a row: it is one by itself, with the longest name
abbrev pub most_row : ℕ
most_row = 23

-- room for the rows of n bytes, however they are cut
abbrev pub listing_room : ℕ → ℕ
listing_room n = most_row * n + row_room

-- one line, where the bytes p wait: what is printed, and what then waits at the start of `bytes`
pub record ListsLine (number : ℕ) (g : Given) (p : List ℕ) (r : Listed) (bytes before after : List ℕ) : Type 0 where
  pub printed : Wrote (printed number p g) r.count before after
  pub waits : take r.waiting bytes ≡ waiting_after p g
  pub few : cut (take r.waiting bytes) ≡ TooFew
  pub within : r.waiting ≤ most_left
