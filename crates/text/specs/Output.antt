-- What the text program prints: "header, then input line number, answer (9 for a bad line, taken as
-- no input), bytes in hex or `-`".
use Prim.Native.Char.{code}
use Rattle.std.specs.Prelude.{ℕ, zero, suc, ◌+◌, ◌-◌, ◌*◌, ◌/◌, ◌%◌, cond, List, [], ◌∷◌, ◌++◌, ltb}
use Prim.Native.String.{String, [] as empty, ◌∷◌ as ◌then◌}
use Rattle.text.specs.Line.{tab}

-- the bytes of a text
abbrev pub text : String → List ℕ
text empty = []
text (c then s) = code c ∷ text s

-- "Output: header", as the example prints it
abbrev pub header : List ℕ
header = text "line\tanswer\tbytes\n"

-- a decimal digit
abbrev pub figure : ℕ → ℕ
figure d = code "0" + d

-- the digits of a number, without zeros in front; k is at least the count of its digits, as the next number is
unfoldable pub decimal_in : ℕ → ℕ → List ℕ
decimal_in zero n = []
decimal_in (suc k) n =
    let tenth = decimal_in k (n / 10) ++ (figure (n % 10) ∷ []) in
    cond (ltb n 10) (figure n ∷ []) tenth

-- a number in decimal, as "input line number" is printed
abbrev pub decimal : ℕ → List ℕ
decimal n = decimal_in (suc n) n

-- four digits of a number below 10,000, zeros in front too: what ends a longer number
abbrev pub four_figures : ℕ → List ℕ
four_figures n = figure (n / 1000) ∷ figure (n / 100 % 10) ∷ figure (n / 10 % 10) ∷ figure (n % 10) ∷ []

-- a hexadecimal digit, upper case
unfoldable pub hex_figure : ℕ → ℕ
hex_figure d = cond (ltb d 10) (code "0" + d) (code "A" + (d - 10))

-- two digits for each byte, and nothing between
unfoldable pub hex_bytes : List ℕ → List ℕ
hex_bytes [] = []
hex_bytes (b ∷ l) = hex_figure (b / 16) ∷ hex_figure (b % 16) ∷ hex_bytes l

-- "bytes in hex or `-`"
unfoldable pub shown : List ℕ → List ℕ
shown [] = text "-"
shown (b ∷ l) = hex_bytes (b ∷ l)

-- the line of output for a line of input: its number, the answer and the bytes written
unfoldable pub output_line : ℕ → ℕ → List ℕ → List ℕ
output_line number answer bytes = decimal number ++ (tab ∷ figure answer ∷ tab ∷ []) ++ shown bytes ++ text "\n"

-- room for the output line of n bytes, with a number of 64 bits
abbrev pub line_room : ℕ → ℕ
line_room n = 2 * n + 25
