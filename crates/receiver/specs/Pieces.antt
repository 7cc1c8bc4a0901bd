-- "Cutting the joined output" (document 02, A5): received bytes, one packet cut off after the other as soon as it is whole.
use Rattle.std.specs.Prelude.{ℕ, List, [], ◌∷◌, ◌++◌}
use Rattle.receiver.specs.declared.Kind.{Kind}
use Rattle.receiver.specs.declared.Cut.{Cut}
use Rattle.receiver.specs.declared.Cut.TheVariants.{Whole, TooFew, NoPacket}
use Rattle.receiver.specs.Cut.{cut}

-- what is cut off: a packet with its kind, or a byte that starts none
pub data Piece : Type 0 where
  packet : Kind → List ℕ → Piece
  no_packet : List ℕ → Piece

-- what is cut off where the first packet of all bytes so far is this
abbrev pub off : Cut → List ℕ → List Piece
off (Whole kind length) bytes = packet kind bytes ∷ []
off TooFew bytes = []
off NoPacket bytes = no_packet bytes ∷ []

-- and what then waits for more
abbrev pub waiting : Cut → List ℕ → List ℕ
waiting (Whole kind length) bytes = []
waiting TooFew bytes = bytes
waiting NoPacket bytes = []

-- what comes off when a byte comes, and the bytes p wait
abbrev pub off_by : List ℕ → ℕ → List Piece
off_by p b = off (cut (p ++ (b ∷ []))) (p ++ (b ∷ []))

-- and what waits then
abbrev pub waiting_by : List ℕ → ℕ → List ℕ
waiting_by p b = waiting (cut (p ++ (b ∷ []))) (p ++ (b ∷ []))

-- the pieces of bytes that come where p waits
unfoldable pub pieces_from : List ℕ → List ℕ → List Piece
pieces_from p [] = []
pieces_from p (b ∷ l) = off_by p b ++ pieces_from (waiting_by p b) l

-- what waits in the end
unfoldable pub left_from : List ℕ → List ℕ → List ℕ
left_from p [] = p
left_from p (b ∷ l) = left_from (waiting_by p b) l

-- the pieces of received bytes; behind a byte that starts no packet it goes on with the next
abbrev pub pieces : List ℕ → List Piece
pieces l = pieces_from [] l

-- what is left at the end, "too few" for a packet
abbrev pub left : List ℕ → List ℕ
left l = left_from [] l
