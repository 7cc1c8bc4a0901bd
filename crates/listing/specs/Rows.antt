-- What `packets` prints: a header, and a row for each packet with the name of its kind and its bytes in hex.
use Rattle.std.specs.Prelude.{ℕ, ◌+◌, ◌*◌, List, [], ◌∷◌, ◌++◌}
use Rattle.text.specs.Line.{tab}
use Rattle.text.specs.Output.{text, decimal, shown}
use Rattle.receiver.specs.declared.Kind.{Kind}
use Rattle.receiver.specs.declared.Kind.TheVariants.{Make, Break, VersionOrBreak, Status, MousePosition, MouseMotion, Time, BothSticks, StickEvent}
use Rattle.receiver.specs.Pieces.{Piece, packet, no_packet}

-- the names of the columns
abbrev pub header : List ℕ
header = text "packet\tbytes\n"

-- the name of a kind; A5: "0xF0 is named as both its meanings."
abbrev pub name_of : Kind → List ℕ
name_of Make = text "make"
name_of Break = text "break"
name_of VersionOrBreak = text "version or break 70"
name_of Status = text "status"
name_of MousePosition = text "mouse position"
name_of MouseMotion = text "mouse motion"
name_of Time = text "time"
name_of BothSticks = text "both sticks"
name_of StickEvent = text "stick event"

-- what stands behind a name: a tab, bytes in hex or `-`, and a line feed
abbrev pub behind_name : List ℕ → List ℕ
behind_name bytes = (tab ∷ []) ++ shown bytes ++ text "\n"

-- a row: a name, and what stands behind it
unfoldable pub row : List ℕ → List ℕ → List ℕ
row name bytes = name ++ behind_name bytes

-- the row of a packet
abbrev pub packet_row : Kind → List ℕ → List ℕ
packet_row kind bytes = row (name_of kind) bytes

-- and of a byte that starts none
abbrev pub piece_row : Piece → List ℕ
piece_row (packet kind bytes) = packet_row kind bytes
piece_row (no_packet bytes) = row (text "no packet") bytes

-- one after the other
unfoldable pub rows : List Piece → List ℕ
rows [] = []
rows (p ∷ ps) = piece_row p ++ rows ps

-- the row of a bad line, by its number
unfoldable pub bad_row : ℕ → List ℕ
bad_row number = row (text "bad line " ++ decimal number) []

-- the row of what is left at the end, if anything is
unfoldable pub left_row : List ℕ → List ℕ
left_row [] = []
left_row (b ∷ l) = row (text "too few") (b ∷ l)

-- room for the row of any packet, or of a bad line with a number of 64 bits
abbrev pub row_room : ℕ
row_room = 40

-- room for the row of n bytes that are left
abbrev pub left_room : ℕ → ℕ
left_room n = 2 * n + 10
