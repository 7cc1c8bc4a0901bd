-- What is read at the front of a text: its first line, if that is good and has ended ("Lines, each ended by a line feed").
use Rattle.std.specs.Prelude.{ℕ, List, Option, Some, None}
use Rattle.controller.specs.declared.Input.{Input}
use Rattle.text.specs.Line.{Line, Good, Bad, line_feed, fields, meaning}
use Rattle.text.specs.Fronts.{until, upto}

-- the first line of a text: what stands up to its line feed
abbrev pub first_line : List ℕ → List ℕ
first_line t = until line_feed t

-- the input of a good line
abbrev pub input : Line → Option Input
input (Good i) = Some i
input Bad = None

-- the input of the first line of a text, whose fields mean that, and the text after the line
abbrev pub line_by : (List (List ℕ) → Line) → List ℕ → Option (Input × List ℕ)
line_by means t = upto (λ l. input (means (fields l))) line_feed t

-- the input of the line at the front of a text, and the text after the line
abbrev pub read_of : List ℕ → Option (Input × List ℕ)
read_of t = line_by meaning t
