-- A state as one line of text: its numbers, the map of the keys, the queue, and a line feed.
use Rattle.std.specs.Prelude.{ℕ, suc, ◌-◌, Bool, cond, ◌||◌, List, [], ◌∷◌, ◌++◌, eqb, ltb}
use Rattle.protocol.specs.Reading.{AllBytes}
use Rattle.controller.specs.declared.State.{State}
use Rattle.controller.specs.State.{contents}
use Rattle.text.specs.Line.{tab, minus, line_feed}
use Rattle.text.specs.Output.{decimal, shown}
use Rattle.fields.specs.Ranges.{held_zero}
use Rattle.fields.specs.Numbers.{numbers}
use Rattle.saved.specs.Digits.{map_text}

-- fields 26 and 27, held motion, alone may have a minus: whether field i + 1 is one of them
abbrev pub signed : ℕ → Bool
signed i = eqb i 25 || eqb i 26

-- held motion, which stands in the numbers with its limit added
unfoldable pub motion_text : ℕ → List ℕ
motion_text x = cond (ltb x held_zero) (minus ∷ decimal (held_zero - x)) (decimal (x - held_zero))

-- "decimal numbers without leading zeros": field i + 1
unfoldable pub field_text : ℕ → ℕ → List ℕ
field_text i x = cond (signed i) (motion_text x) (decimal x)

-- "fields parted by tabs": those from i + 1 on, with a tab after each
unfoldable pub fields_text : ℕ → List ℕ → List ℕ
fields_text i [] = []
fields_text i (x ∷ a) = field_text i x ++ (tab ∷ fields_text (suc i) a)

-- "except that the map .. and the queue (hex, `-` if empty) come last, then a line feed"
unfoldable pub line_of : State → List ℕ
line_of s = fields_text 0 (numbers s) ++ (map_text s.keys ++ (tab ∷ (shown (contents s.queue) ++ (line_feed ∷ []))))

-- what the machine's types say of a state besides: the entries of its queue are bytes
abbrev pub InTypes : State → Type 0
InTypes s = AllBytes (contents s.queue)
