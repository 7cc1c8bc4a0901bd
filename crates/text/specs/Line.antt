-- What a line of the text program means, given its bytes without the line feed.
-- This is the grammar alone: a number outside its range makes a good line, and the step refuses it.
use Rattle.std.specs.Prelude.{ℕ, ◌+◌, ◌-◌, ◌*◌, Bool, true, false, cond, ◌&&◌, List, [], ◌∷◌, eqb, leb, ltb, length, ℤ, pos, neg_ℤ, Option, Some, None, option_map}
use Prim.Native.Char.{code}
use Rattle.mouse.specs.declared.Side.TheVariants.{Left, Right}
use Rattle.controller.specs.declared.Input.{Input}
use Rattle.controller.specs.declared.Input.TheVariants.{Byte, Key, Button, Move, Joystick, Sample, Tick}

-- what a line means: an input, or none where it is bad
pub data Line : Type 0 where
  Good : Input → Line
  Bad : Line

-- what ends a line
abbrev pub line_feed : ℕ
line_feed = code "\n"

-- what parts the fields of a line
abbrev pub tab : ℕ
tab = code "\t"

-- one byte more at the front of the first field
abbrev pub lengthened : ℕ → List (List ℕ) → List (List ℕ)
lengthened b [] = []
lengthened b (f ∷ fs) = (b ∷ f) ∷ fs

-- "tabs between fields": n tabs part n + 1 fields, empty ones too
unfoldable pub fields : List ℕ → List (List ℕ)
fields [] = [] ∷ []
fields (b ∷ l) = cond (eqb b tab) ([] ∷ fields l) (lengthened b (fields l))

-- the value of a hexadecimal digit in upper case, and 16 for any other byte
unfoldable pub hex_digit : ℕ → ℕ
hex_digit b =
    cond (leb (code "0") b && leb b (code "9")) (b - code "0")
    (cond (leb (code "A") b && leb b (code "F")) (b - code "A" + 10) 16)

-- "Hex is two upper-case digits"
unfoldable pub hex : List ℕ → Option ℕ
hex [] = None
hex (a ∷ []) = None
hex (a ∷ b ∷ []) = cond (ltb (hex_digit a) 16 && ltb (hex_digit b) 16) (Some (16 * hex_digit a + hex_digit b)) None
hex (a ∷ b ∷ c ∷ l) = None

-- decimal digits and nothing else
abbrev pub digits : List ℕ → Bool
digits [] = true
digits (b ∷ l) = (leb (code "0") b && leb b (code "9")) && digits l

-- the number that digits make, after those that made v
abbrev pub value : ℕ → List ℕ → ℕ
value v [] = v
value v (b ∷ l) = value (v * 10 + (b - code "0")) l

-- "1 to 4 decimal digits"
unfoldable pub natural : List ℕ → Option ℕ
natural f = cond (leb 1 (length f) && leb (length f) 4 && digits f) (Some (value 0 f)) None

-- what stands before the digits of a number below 0
abbrev pub minus : ℕ
minus = code "-"

-- "other numbers an optional minus and 1 to 4 decimal digits"
unfoldable pub number : List ℕ → Option ℤ
number [] = None
number (b ∷ f) = cond (eqb b minus) (option_map (λ n. neg_ℤ (pos n)) (natural f)) (option_map pos (natural (b ∷ f)))

-- "the last field of K, L and R is 0 or 1": that byte alone, 1 for down
unfoldable pub level : List ℕ → Option Bool
level [] = None
level (b ∷ []) = cond (eqb b (code "0")) (Some false) (cond (eqb b (code "1")) (Some true) None)
level (b ∷ c ∷ f) = None

-- what is made of a field that could be read; the line is bad where it could not
abbrev pub with : {A : Type 0} → Option A → (A → Line) → Line
with None make = Bad
with (Some x) make = make x

-- the line has no further field, as "T" has none
abbrev pub none_more : Input → List (List ℕ) → Line
none_more input [] = Good input
none_more input (f ∷ fs) = Bad

-- it has exactly one, read by a, as "B hex"
abbrev pub one_more : {A : Type 0} → (List ℕ → Option A) → (A → Input) → List (List ℕ) → Line
one_more a make [] = Bad
one_more a make (f ∷ fs) = with (a f) (λ x. none_more (make x) fs)

-- it has exactly two, read by a and b, as "M dx dy"
abbrev pub two_more : {A B : Type 0} → (List ℕ → Option A) → (List ℕ → Option B) → (A → B → Input) → List (List ℕ) → Line
two_more a b make [] = Bad
two_more a b make (f ∷ fs) = with (a f) (λ x. one_more b (make x) fs)

-- it has exactly three, as "S stick position trigger"
abbrev pub three_more : {A B C : Type 0} → (List ℕ → Option A) → (List ℕ → Option B) → (List ℕ → Option C) → (A → B → C → Input) → List (List ℕ) → Line
three_more a b c make [] = Bad
three_more a b c make (f ∷ fs) = with (a f) (λ x. two_more b c (make x) fs)

-- The kinds, by the byte that is their first field: "B hex; K hex 1/0; L or R 1/0; M dx dy; S stick position trigger; F bit; T."
unfoldable pub kind : ℕ → List (List ℕ) → Line
kind b fs =
    cond (eqb b (code "B")) (one_more hex Byte fs)
    (cond (eqb b (code "K")) (two_more hex level Key fs)
    (cond (eqb b (code "L")) (one_more level (Button Left) fs)
    (cond (eqb b (code "R")) (one_more level (Button Right) fs)
    (cond (eqb b (code "M")) (two_more number number Move fs)
    (cond (eqb b (code "S")) (three_more number number number Joystick fs)
    (cond (eqb b (code "F")) (one_more number Sample fs)
    (cond (eqb b (code "T")) (none_more Tick fs) Bad)))))))

-- "Any other line is bad."
unfoldable pub meaning : List (List ℕ) → Line
meaning [] = Bad
meaning ([] ∷ fs) = Bad
meaning ((b ∷ []) ∷ fs) = kind b fs
meaning ((b ∷ c ∷ f) ∷ fs) = Bad

-- what a line means, by its fields: the paragraph's first four sentences
unfoldable pub line_of : List ℕ → Line
line_of l = meaning (fields l)

-- the most bytes of a good line: `S` and three numbers with a minus and four digits, a tab before each
abbrev pub longest : ℕ
longest = 19
