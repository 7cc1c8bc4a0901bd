-- What goes out, in packets: a case for each kind, and the bytes of each. Which packets fall due, and when, is said elsewhere.
use Rattle.std.specs.Prelude.{ℕ, zero, suc, ◌+◌, ◌/◌, ◌%◌, Bool, cond, List, [], ◌∷◌, ◌++◌}
use Rattle.output.specs.ScanCodes.{break_of}

-- one bit of a byte
abbrev pub bit : Bool → ℕ
bit b = cond b 1 0

-- demand 2's packets, which "come whole": a case for each kind that document 01 says is sent
pub data Packet : Type 0 where
  -- a make or a break code
  scan : ℕ → Packet
  -- relative mouse motion: buttons, X, Y
  motion : ℕ → ℕ → ℕ → Packet
  -- absolute mouse position: latches, X, Y
  position : ℕ → ℕ → ℕ → Packet
  -- the clock: year, month, day, hour, minute, second, in BCD
  time : ℕ → ℕ → ℕ → ℕ → ℕ → ℕ → Packet
  -- both sticks, asked for
  sticks : ℕ → ℕ → Packet
  -- an event of stick 0 or 1: which, and its byte
  stick : ℕ → ℕ → Packet
  -- joystick monitoring: the triggers, and the positions
  monitor : ℕ → ℕ → Packet
  -- fire monitoring: eight samples
  samples : ℕ → Packet
  -- a status reply: the seven bytes of the command that would set it
  status : ℕ → ℕ → ℕ → ℕ → ℕ → ℕ → ℕ → Packet
  -- the controller's version, sent at a reset
  version : Packet

-- the bytes of a packet: headers and order as document 01 gives them, numbers of 16 bits "high byte first"
abbrev pub bytes_of : Packet → List ℕ
bytes_of (scan code) = code ∷ []
bytes_of (motion buttons x y) = (0xF8 + buttons) ∷ x ∷ y ∷ []
bytes_of (position latches x y) = 0xF7 ∷ latches ∷ x / 256 ∷ x % 256 ∷ y / 256 ∷ y % 256 ∷ []
bytes_of (time year month day hour minute second) = 0xFC ∷ year ∷ month ∷ day ∷ hour ∷ minute ∷ second ∷ []
bytes_of (sticks b0 b1) = 0xFD ∷ b0 ∷ b1 ∷ []
bytes_of (stick which byte) = (0xFE + which) ∷ byte ∷ []
bytes_of (monitor triggers positions) = triggers ∷ positions ∷ []
bytes_of (samples byte) = byte ∷ []
bytes_of (status a b c d e f g) = 0xF6 ∷ a ∷ b ∷ c ∷ d ∷ e ∷ f ∷ g ∷ []
bytes_of version = 0xF0 ∷ []

-- packets one after the other: "Packets come whole and in the order they fell due"
abbrev pub bytes : List Packet → List ℕ
bytes [] = []
bytes (p ∷ ps) = bytes_of p ++ bytes ps

-- a make and break pair of a key
abbrev pub pair : ℕ → List Packet
pair make = scan make ∷ scan (break_of make) ∷ []

-- n such pairs
unfoldable pub pairs : ℕ → ℕ → List Packet
pairs zero make = []
pairs (suc n) make = pair make ++ pairs n make
