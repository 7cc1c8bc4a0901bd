-- What a line of `packets` gives. The program is for authors who want A5's reading at hand; no paper has its grammar. A line is bytes, two upper-case
-- hexadecimal digits each with nothing between, or `-` for none; or one that the text program prints, of which the last field counts.
use Rattle.std.specs.Prelude.{ℕ, suc, ◌+◌, ◌*◌, ◌≡◌, Bool, true, false, cond, ◌&&◌, Option, Some, None, List, [], ◌∷◌, leb, ltb, length, drop}
use Rattle.std.specs.Str.{bytes_eq}
use Rattle.output.specs.Writing.{over}
use Rattle.text.specs.Line.{hex_digit, digits}
use Rattle.text.specs.Fronts.{first}
use Rattle.text.specs.Output.{text}

-- what a line gives: bytes, or nothing where it is bad
pub data Given : Type 0 where
  gives : List ℕ → Given
  bad : Given

-- two upper-case digits for each byte, and nothing between
unfoldable pub is_hex : List ℕ → Bool
is_hex [] = true
is_hex (a ∷ []) = false
is_hex (a ∷ b ∷ l) = (ltb (hex_digit a) 16 && ltb (hex_digit b) 16) && is_hex l

-- the bytes that such digits spell
unfoldable pub spelt : List ℕ → List ℕ
spelt [] = []
spelt (a ∷ []) = []
spelt (a ∷ b ∷ l) = (16 * hex_digit a + hex_digit b) ∷ spelt l

-- one byte or more in such digits
abbrev pub spelt_bytes : List ℕ → Given
spelt_bytes [] = bad
spelt_bytes (a ∷ l) = cond (is_hex (a ∷ l)) (gives (spelt (a ∷ l))) bad

-- `-` is none
unfoldable pub field_bytes : List ℕ → Given
field_bytes f = cond (bytes_eq f (text "-")) (gives []) (spelt_bytes f)

-- one or more decimal digits
unfoldable pub is_number : List ℕ → Bool
is_number f = leb 1 (length f) && digits f

-- there is a tab
abbrev pub has_tab : List ℕ → Bool
has_tab l = ltb (length (first l)) (length l)

-- what stands behind the first tab
abbrev pub behind : List ℕ → List ℕ
behind l = drop (suc (length (first l))) l

-- a line that the text program prints: behind the number and its tab the answer, a tab, and the last field
unfoldable pub answer_bytes : List ℕ → Given
answer_bytes r = cond (has_tab r && is_number (first r)) (field_bytes (behind r)) bad

-- the number, a tab and that; or bytes alone
unfoldable pub fields_bytes : List ℕ → Given
fields_bytes l = cond (has_tab l) (cond (is_number (first l)) (answer_bytes (behind l)) bad) (field_bytes l)

-- the most bytes of a good line: a longer one is bad
abbrev pub longest : ℕ
longest = 32767

-- a line without its line feed; the text program's header gives nothing
unfoldable pub line_of : List ℕ → Given
line_of l = cond (ltb longest (length l)) bad (cond (bytes_eq l (text "line\tanswer\tbytes")) (gives []) (fields_bytes l))

-- the bytes of it: a bad line has none
abbrev pub bytes_given : Given → List ℕ
bytes_given (gives bs) = bs
bytes_given bad = []

-- how many they are
abbrev pub told : Given → Option ℕ
told (gives bs) = Some (length bs)
told bad = None

-- The bytes given are written at a buffer's start, and nothing else is.
pub record ReadsBytes (g : Given) (r : Option ℕ) (before after : List ℕ) : Type 0 where
  pub result : r ≡ told g
  pub buffer : after ≡ over (bytes_given g) before
