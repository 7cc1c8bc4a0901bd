-- What a line is read as: its fields in order, each as it is written, and the state that they make. That this reads
-- every line that a state writes, and no other, is said in Promises.
use Prim.Native.Char.{code}
use Rattle.std.specs.Prelude.{ℕ, zero, suc, ◌+◌, ◌-◌, ◌*◌, ◌%◌, Bool, true, false, cond, ◌&&◌, ◌||◌, List, [], ◌∷◌, ◌++◌, eqb, leb, ltb, length, take, drop, bytes_eq, Option, Some, None}
use Rattle.output.specs.ScanCodes.{last_key}
use Rattle.keys.specs.declared.Keys.{Keys}
use Rattle.controller.specs.declared.State.{State}
use Rattle.controller.specs.State.{queue_room, queue_of}
use Rattle.text.specs.Line.{tab, minus, line_feed, hex_digit}
use Rattle.text.specs.Output.{shown}
use Rattle.mouse.specs.Mouse.{held_limit}
use Rattle.fields.specs.Ranges.{numbered, at, held_zero, all_fit}
use Rattle.fields.specs.States.{state_from}
use Rattle.saved.specs.Digits.{map_from}
use Rattle.saved.specs.Line.{signed}

-- what is made of something that could be read; nothing where it could not
abbrev pub then : {A B : Type 0} → Option A → (A → Option B) → Option B
then None make = None
then (Some x) make = make x

-- a decimal digit
abbrev pub is_digit : ℕ → Bool
is_digit b = leb (code "0") b && leb b (code "9")

-- "decimal numbers without leading zeros", of 16 bits: whether a byte is a digit that may follow those that made v
abbrev pub may_follow : Bool → ℕ → ℕ → Bool
may_follow first v b = is_digit b && ((first || ltb 0 v) && ltb (v * 10 + (b - code "0")) 65536)

-- the number that digits and a tab make, after those that made v, and the text behind the tab; `first` while there are no digits
unfoldable pub number_from : Bool → ℕ → List ℕ → Option (ℕ × List ℕ)
number_from first v [] = None
number_from first v (b ∷ l) =
    cond (eqb b tab) (cond first None (Some (v, l)))
    (cond (may_follow first v b) (number_from false (v * 10 + (b - code "0")) l) None)

-- held motion, to which its limit is added
abbrev pub forward : ℕ × List ℕ → Option (ℕ × List ℕ)
forward f = cond (leb f.0 held_limit) (Some (held_zero + f.0, f.1)) None

-- the same behind a minus, where no 0 stands
abbrev pub backward : ℕ × List ℕ → Option (ℕ × List ℕ)
backward f = cond (ltb 0 f.0 && leb f.0 held_limit) (Some (held_zero - f.0, f.1)) None

-- held motion at the front of a text
unfoldable pub motion_from : List ℕ → Option (ℕ × List ℕ)
motion_from [] = None
motion_from (b ∷ l) = cond (eqb b minus) (then (number_from true 0 l) backward) (then (number_from true 0 (b ∷ l)) forward)

-- field i + 1 at the front of a text
unfoldable pub field_from : ℕ → List ℕ → Option (ℕ × List ℕ)
field_from i l = cond (signed i) (motion_from l) (number_from true 0 l)

-- one number more before those
abbrev pub before_them : ℕ → List ℕ × List ℕ → Option (List ℕ × List ℕ)
before_them v r = Some (v ∷ r.0, r.1)

-- n fields, of which the first is field i + 1: their numbers, and the text behind them
unfoldable pub read_numbers : ℕ → ℕ → List ℕ → Option (List ℕ × List ℕ)
read_numbers zero i l = Some ([], l)
read_numbers (suc n) i l = then (field_from i l) (λ f. then (read_numbers n (suc i) f.1) (before_them f.0))

-- how many bytes the map and the tab after it have
abbrev pub map_width : ℕ
map_width = last_key + 1

-- two digits for each byte, up to a minus or a byte that stands alone; whether they are such digits is seen when they are written again
unfoldable pub read_queue : List ℕ → List ℕ
read_queue [] = []
read_queue (a ∷ []) = []
read_queue (a ∷ b ∷ l) = cond (eqb a minus) [] ((16 * hex_digit a + hex_digit b) % 256 ∷ read_queue l)

-- whether the queue bs is empty unless paused, has at most `room` bytes, and is what a text says, with nothing but a line feed behind it
unfoldable pub has_queue : ℕ → List ℕ → List ℕ → List ℕ → Bool
has_queue room a bs l = leb (length bs) (cond (eqb (at 23 a) 1) room 0) && bytes_eq (shown bs ++ (line_feed ∷ [])) l

-- the state that numbers, a map and the text of a queue make
unfoldable pub load_with : ℕ → List ℕ → Keys → List ℕ → Option State
load_with room a m tail =
    let bs = take queue_room (read_queue tail) in
    cond (has_queue room a bs tail) (Some (state_from a m (queue_of bs))) None

-- the state that a line is of, where the queue may have `room` bytes, and never more than `queue_room`: a board with a shorter queue than this one's reads
-- with its own room
unfoldable pub load : ℕ → List ℕ → Option State
load room l =
    then (read_numbers numbered 0 l) (λ r.
    cond (all_fit r.0) (then (map_from r.1) (λ m. load_with room r.0 m (drop map_width r.1))) None)

-- For the program that goes on from a line: whether it is a minus, with its line feed or without
unfoldable pub is_minus : List ℕ → Bool
is_minus l = bytes_eq (minus ∷ []) l || bytes_eq (minus ∷ line_feed ∷ []) l
