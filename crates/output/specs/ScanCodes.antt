-- Scan codes: the keys, the arrows that stand for motion, and the codes of buttons and triggers (document 01, "The mouse").
use Rattle.std.specs.Prelude.{ℕ, ◌+◌, ◌-◌, Bool, cond, ◌&&◌, ◌||◌, eqb, leb}

-- the first of "code 1 to 0x72"
abbrev pub first_key : ℕ
first_key = 1

-- the last of "code 1 to 0x72"
abbrev pub last_key : ℕ
last_key = 0x72

-- "a break is the make plus 0x80"
abbrev pub break_of : ℕ → ℕ
break_of make = make + 0x80

-- "A key event sends its make when down, its break when up"
abbrev pub code_sent : ℕ → Bool → ℕ
code_sent make down = cond down make (break_of make)

-- "0x4D right": the first of "the mouse's arrow codes", which stick 0 gives too
abbrev pub arrow_right : ℕ
arrow_right = 0x4D

-- "0x4B left"
abbrev pub arrow_left : ℕ
arrow_left = 0x4B

-- "0x48 up": away from the user
abbrev pub arrow_up : ℕ
arrow_up = 0x48

-- "0x50 down": "toward the user"
abbrev pub arrow_down : ℕ
arrow_down = 0x50

-- the left button as a key, "0x74 left", and the trigger of "0x74 for stick 0"
abbrev pub key_left : ℕ
key_left = 0x74

-- the right button as a key, "0x75 right", and the trigger of "0x75 for stick 1"
abbrev pub key_right : ℕ
key_right = 0x75

-- A5: "1 to 0x72, 0x74, 0x75": what can come as a make, of a key, or of a button or a trigger that is a key
unfoldable pub is_make : ℕ → Bool
is_make code = (leb first_key code && leb code last_key) || (eqb code key_left || eqb code key_right)

-- A5: "the breaks of all these"; below 0x80 the difference is 0, which is no make
unfoldable pub is_break : ℕ → Bool
is_break code = is_make (code - 0x80)
