-- Document 01's "Sessions to prove": "From power-up, twelve, as one table under one statement."
use Rattle.std.specs.Prelude.{ℕ, zero, suc, ◌≡◌, List, [], ◌∷◌, ◌++◌, map, length, replicate, ℤ, pos, negsuc}
use Rattle.controller.specs.declared.State.{State}
use Rattle.controller.specs.declared.Input.{Input}
use Rattle.controller.specs.declared.Input.TheVariants.{Byte, Move, Joystick, Tick}
use Rattle.controller.specs.State.{power_up, most_due}
use Rattle.controller.specs.Sequences.{Turn, Done, history, after, all_written}

-- Inputs as document 01 writes them. Host bytes:
abbrev pub host : List ℕ → List Input
host bs = map (λ (b : ℕ). Byte b) bs

-- a number of a motion without a minus: the 5 of "M 0 5"
abbrev pub plus : ℕ → ℤ
plus n = pos n

-- a number of a motion with its minus: the -64 of "M -64 0"
abbrev pub minus : ℕ → ℤ
minus zero = pos zero
minus (suc n) = negsuc n

-- "M dx dy"
abbrev pub move : ℤ → ℤ → List Input
move dx dy = Move dx dy ∷ []

-- "S stick position trigger"
abbrev pub stick : ℕ → ℕ → ℕ → List Input
stick which position trigger = Joystick (pos which) (pos position) (pos trigger) ∷ []

-- one of "100 ticks", of "two ticks"
abbrev pub tick : List Input
tick = Tick ∷ []

-- "three times", "100 ticks"
abbrev pub times : ℕ → List Input → List Input
times zero is = []
times (suc n) is = is ++ times n is

-- A stretch of a session: its inputs, the answer that each of them gets, and the bytes that they write, joined.
pub record Stretch : Type 0 where
  pub inputs : List Input
  pub answer : ℕ
  pub bytes : List ℕ

-- every input is taken, and they write these bytes
abbrev pub gives : List Input → List ℕ → Stretch
gives is bs = record { inputs = is; answer = 0; bytes = bs }

-- "nothing": no byte is written
abbrev pub nothing : List ℕ
nothing = []

-- each input with a buffer of this length
abbrev pub turns : ℕ → List Input → List Turn
turns lent is = map (λ (i : Input). record { input = i; lent = lent }) is

-- the answers of a sequence, in order
abbrev pub answers : List Done → List ℕ
answers ds = map (λ (d : Done). d.out.answer) ds

-- a stretch, from a state: each input gets its answer, and together they write these bytes
abbrev pub Keeps : ℕ → State → Stretch → Type 0
Keeps lent s x =
    (answers (history s (turns lent x.inputs)) ≡ replicate (length x.inputs) x.answer)
    × (all_written (history s (turns lent x.inputs)) ≡ x.bytes)

-- stretches one after the other, each from the state that the one before it left
abbrev pub Goes : ℕ → State → List Stretch → Type 0
Goes lent s [] = Unit {0}
Goes lent s (x ∷ xs) = Keeps lent s x × Goes lent (after s (turns lent x.inputs)) xs

-- every session of a table, from power-up
abbrev pub AllGo : ℕ → List (List Stretch) → Type 0
AllGo lent [] = Unit {0}
AllGo lent (x ∷ xs) = Goes lent power_up x × AllGo lent xs

-- a session of one stretch
abbrev pub single : List Input → List ℕ → List Stretch
single is bs = gives is bs ∷ []

-- the twelve, "as one table under one statement", each under its line of document 01; 3 and 4 give what document 02, A6, has for them
unfoldable pub sessions : List (List Stretch)
sessions =
    -- 1. M 0 0: nothing.
    single (move (plus 0) (plus 0)) nothing
    -- 2. 0F, M 0 5: F8 00 FB.
    ∷ single (host (0x0F ∷ []) ++ move (plus 0) (plus 5)) (0xF8 ∷ 0x00 ∷ 0xFB ∷ [])
    -- 3. 13, M 64 0 three times, 11: "F8 60 00 twice" (02, A6).
    ∷ single (host (0x13 ∷ []) ++ times 3 (move (plus 64) (plus 0)) ++ host (0x11 ∷ []))
    (0xF8 ∷ 0x60 ∷ 0x00 ∷ 0xF8 ∷ 0x60 ∷ 0x00 ∷ [])
    -- 4. 13, M -64 0 three times, 11: "F8 A0 00 twice" (02, A6).
    ∷ single (host (0x13 ∷ []) ++ times 3 (move (minus 64) (plus 0)) ++ host (0x11 ∷ []))
    (0xF8 ∷ 0xA0 ∷ 0x00 ∷ 0xF8 ∷ 0xA0 ∷ 0x00 ∷ [])
    -- 5. 80 80 01: nothing; 80 01: F0.
    ∷ (gives (host (0x80 ∷ 0x80 ∷ 0x01 ∷ [])) nothing ∷ gives (host (0x80 ∷ 0x01 ∷ [])) (0xF0 ∷ []) ∷ [])
    -- 6. 09 01 3F 00 C7, M 64 -64 six times, 0D: F7 00 01 3F 00 00.
    ∷ single (host (0x09 ∷ 0x01 ∷ 0x3F ∷ 0x00 ∷ 0xC7 ∷ []) ++ times 6 (move (plus 64) (minus 64)) ++ host (0x0D ∷ []))
    (0xF7 ∷ 0x00 ∷ 0x01 ∷ 0x3F ∷ 0x00 ∷ 0x00 ∷ [])
    -- 7. 09 01 3F 00 C7, 88: F6 09 01 3F 00 C7 00 00.
    ∷ single (host (0x09 ∷ 0x01 ∷ 0x3F ∷ 0x00 ∷ 0xC7 ∷ []) ++ host (0x88 ∷ []))
    (0xF6 ∷ 0x09 ∷ 0x01 ∷ 0x3F ∷ 0x00 ∷ 0xC7 ∷ 0x00 ∷ 0x00 ∷ [])
    -- 8. 0A 04 02, M 9 -5: 4D CD 4D CD 48 C8 48 C8.
    ∷ single (host (0x0A ∷ 0x04 ∷ 0x02 ∷ []) ++ move (plus 9) (minus 5))
    (0x4D ∷ 0xCD ∷ 0x4D ∷ 0xCD ∷ 0x48 ∷ 0xC8 ∷ 0x48 ∷ 0xC8 ∷ [])
    -- 9. 1B 84 02 28 23 59 59, 100 ticks, 1C: FC 84 02 29 00 00 00.
    ∷ single (host (0x1B ∷ 0x84 ∷ 0x02 ∷ 0x28 ∷ 0x23 ∷ 0x59 ∷ 0x59 ∷ []) ++ times 100 tick ++ host (0x1C ∷ []))
    (0xFC ∷ 0x84 ∷ 0x02 ∷ 0x29 ∷ 0x00 ∷ 0x00 ∷ 0x00 ∷ [])
    -- 10. Same with 85: FC 85 03 01 00 00 00.
    ∷ single (host (0x1B ∷ 0x85 ∷ 0x02 ∷ 0x28 ∷ 0x23 ∷ 0x59 ∷ 0x59 ∷ []) ++ times 100 tick ++ host (0x1C ∷ []))
    (0xFC ∷ 0x85 ∷ 0x03 ∷ 0x01 ∷ 0x00 ∷ 0x00 ∷ 0x00 ∷ [])
    -- 11. 14, S 0 1 1: FE 81.
    ∷ single (host (0x14 ∷ []) ++ stick 0 1 1) (0xFE ∷ 0x81 ∷ [])
    -- 12. 17 02, S 1 8 0, S 0 1 1, two ticks: 02 18.
    ∷ single (host (0x17 ∷ 0x02 ∷ []) ++ stick 1 8 0 ++ stick 0 1 1 ++ times 2 tick) (0x02 ∷ 0x18 ∷ [])
    ∷ []

-- Each of the twelve gives its bytes from power-up; the buffer is the text program's, "8,264 bytes".
unfoldable pub Sessions : Type 0
Sessions = AllGo most_due sessions
