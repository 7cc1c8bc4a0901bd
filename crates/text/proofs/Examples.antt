-- Lines of a session, and lines of each kind, good and bad, computed.
-- Assumes nothing.
use Prim.Native.Nat.{◌-◌, ◌^◌}
use Prim.Native.String.{String}
use mathlib.Core.Path.{◌≡◌, refl}
use mathlib.Core.Bool.{true, false}
use mathlib.Core.List.{List, [], ◌∷◌, ◌++◌, map}
use Rattle.std.specs.Prelude.{Some, None}
use lib.IntN.{pos, negsuc}
use lib.ListN.{length}
use Rattle.mouse.specs.declared.Side.TheVariants.{Left, Right}
use Rattle.controller.specs.declared.Input.TheVariants.{Byte, Key, Button, Move, Joystick, Sample, Tick}
use Rattle.text.specs.Line.{Line, Good, Bad, fields, hex_digit, hex, natural, number, level, kind, meaning, line_of, longest}
use Rattle.text.specs.Fronts.{until, upto}
use Rattle.text.specs.Reading.{read_of}
use Rattle.text.specs.Output.{text, header, decimal, decimal_in, hex_figure, hex_bytes, shown, output_line, line_room}

abbrev lines : List String → List Line
lines = map (λ (s : String). line_of (text s))

rules : Unit {0}
unfolding fields hex_digit hex natural number level kind meaning line_of until upto decimal_in hex_figure hex_bytes shown output_line
rules = tt

-- a session
session : lines ("K\t1E\t1" ∷ "M\t3\t-2" ∷ "B\t13" ∷ "K\t1E\t0" ∷ "B\t11" ∷ [])
    ≡ Good (Key 0x1E true) ∷ Good (Move (pos 3) (negsuc 1)) ∷ Good (Byte 0x13) ∷ Good (Key 0x1E false) ∷ Good (Byte 0x11) ∷ []
unfolding rules
session = refl

-- and what is printed for it
printed : header ++ output_line 1 0 (0x1E ∷ []) ++ output_line 2 0 (0xF8 ∷ 0x03 ∷ 0xFE ∷ []) ++ output_line 3 0 [] ++ output_line 4 0 [] ++ output_line 5 0 (0x9E ∷ [])
    ≡ text "line\tanswer\tbytes\n1\t0\t1E\n2\t0\tF803FE\n3\t0\t-\n4\t0\t-\n5\t0\t9E\n"
unfolding rules
printed = refl

-- a line of each kind
kinds : lines ("B\tA0" ∷ "K\t00\t1" ∷ "L\t1" ∷ "R\t0" ∷ "M\t-64\t64" ∷ "S\t1\t15\t0" ∷ "F\t1" ∷ "T" ∷ [])
    ≡ Good (Byte 0xA0) ∷ Good (Key 0 true) ∷ Good (Button Left true) ∷ Good (Button Right false) ∷ Good (Move (negsuc 63) (pos 64)) ∷ Good (Joystick (pos 1) (pos 15) (pos 0)) ∷ Good (Sample (pos 1)) ∷ Good Tick ∷ []
unfolding rules
kinds = refl

-- the last field of K, L and R is the one digit; in S and F every spelling is a number
last_fields : lines ("K\t1E\t01" ∷ "L\t-0" ∷ "K\t1E\t2" ∷ "R\t" ∷ "F\t2" ∷ "S\t0\t0\t2" ∷ "F\t01" ∷ "F\t-0" ∷ [])
    ≡ Bad ∷ Bad ∷ Bad ∷ Bad ∷ Good (Sample (pos 2)) ∷ Good (Joystick (pos 0) (pos 0) (pos 2)) ∷ Good (Sample (pos 1)) ∷ Good (Sample (pos 0)) ∷ []
unfolding rules
last_fields = refl

-- numbers outside their range make good lines
out_of_range : lines ("K\t73\t1" ∷ "S\t2\t0\t0" ∷ "F\t-1" ∷ "M\t65\t0" ∷ "M\t9999\t-9999" ∷ "M\t0007\t-0" ∷ [])
    ≡ Good (Key 0x73 true) ∷ Good (Joystick (pos 2) (pos 0) (pos 0)) ∷ Good (Sample (negsuc 0)) ∷ Good (Move (pos 65) (pos 0)) ∷ Good (Move (pos 9999) (negsuc 9998)) ∷ Good (Move (pos 7) (pos 0)) ∷ []
unfolding rules
out_of_range = refl

-- any other line is bad: no number, no such kind, a field too few or too many, lower case, a carriage return, spaces, a NUL byte
bad : lines ("M\t10000\t0" ∷ "M\t00064\t0" ∷ "M\t+1\t0" ∷ "M\t-\t0" ∷ "M\t\t0" ∷ "M\t1-\t0" ∷ "T\t" ∷ "T\t1" ∷ "" ∷ "b\t13" ∷ "K\t1e\t1" ∷ "B\t1" ∷ "B\t013" ∷ "B\t13\t" ∷ "B 13" ∷ "B\t13\r" ∷ "\tB\t13" ∷ "BB\t13" ∷ "X\t1" ∷ "S\t0\t0" ∷ "S\t0\t0\t0\t0" ∷ "T\0" ∷ [])
    ≡ Bad ∷ Bad ∷ Bad ∷ Bad ∷ Bad ∷ Bad ∷ Bad ∷ Bad ∷ Bad ∷ Bad ∷ Bad ∷ Bad ∷ Bad ∷ Bad ∷ Bad ∷ Bad ∷ Bad ∷ Bad ∷ Bad ∷ Bad ∷ Bad ∷ Bad ∷ []
unfolding rules
bad = refl

-- at the front of a text: a good line and what follows it, and nothing where the line has not ended or is bad
fronts : map (λ (s : String). read_of (text s)) ("K\t1E\t1\nT\n" ∷ "T\nB\t1" ∷ "M\t3\t-2\n" ∷ "B\t13" ∷ "B\t1\n3\n" ∷ "\nT\n" ∷ "" ∷ [])
    ≡ Some (Key 0x1E true, text "T\n") ∷ Some (Tick, text "B\t1") ∷ Some (Move (pos 3) (negsuc 1), []) ∷ None ∷ None ∷ None ∷ None ∷ []
unfolding rules
fronts = refl

-- a good line of the longest, and an output line that takes all of its room
longest_good : line_of (text "S\t-9999\t-9999\t-9999") ≡ Good (Joystick (negsuc 9998) (negsuc 9998) (negsuc 9998))
unfolding rules
longest_good = refl

longest_is : length (text "S\t-9999\t-9999\t-9999") ≡ longest
longest_is = refl

room_taken : length (output_line (2 ^ 64 - 1) 9 []) ≡ line_room 0
unfolding rules
room_taken = refl

-- numbers in decimal
numbers : map decimal (0 ∷ 7 ∷ 10 ∷ 99 ∷ 100 ∷ 1000000 ∷ 18446744073709551615 ∷ [])
    ≡ text "0" ∷ text "7" ∷ text "10" ∷ text "99" ∷ text "100" ∷ text "1000000" ∷ text "18446744073709551615" ∷ []
unfolding rules
numbers = refl
