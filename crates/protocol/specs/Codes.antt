-- The command codes, what each means, and how many parameter bytes follow (document 01, "Reading commands").
use Rattle.std.specs.Prelude.{ℕ, cond, List, [], ◌∷◌, eqb}
use Rattle.protocol.specs.declared.MouseCommand.TheVariants.{SetAction, SetRelative, SetAbsolute, SetKeycode, SetThreshold, SetScale, ReportPosition, LoadPosition, OriginBottom, OriginTop}
use Rattle.protocol.specs.declared.StickCommand.TheVariants.{SetEvent, SetInterrogation, ReportSticks, SetMonitoring, SetFire, SetStickKeycode, SticksOff}
use Rattle.protocol.specs.declared.OtherCommand.TheVariants.{Resume, MouseOff, SetClock, ReportClock}
use Rattle.protocol.specs.declared.Inquiry.TheVariants.{AskAction, AskMouse, AskThreshold, AskScale, AskOrigin, AskMouseOff, AskStick, AskSticksOff}
use Rattle.protocol.specs.declared.Meaning.{Meaning}
use Rattle.protocol.specs.declared.Meaning.TheVariants.{Nothing, Memory, Pause, Reset, OfMouse, OfStick, OfOther, Inquire}

-- a line of the table of codes
pub record Entry : Type 0 where
  pub code : ℕ
  pub parameters : ℕ
  pub meaning : Meaning

-- such a line from its code, its count of parameter bytes and its meaning
abbrev pub entry : ℕ → ℕ → Meaning → Entry
entry b n m = record { code = b; parameters = n; meaning = m }

-- "Parameter bytes: 0x07 1; 0x09 4; ...": code, count, meaning. Of 0x20, the count is of those before its data.
unfoldable pub table : List Entry
table =
    entry 0x07 1 (OfMouse SetAction)
    ∷ entry 0x08 0 (OfMouse SetRelative)
    ∷ entry 0x09 4 (OfMouse SetAbsolute)
    ∷ entry 0x0A 2 (OfMouse SetKeycode)
    ∷ entry 0x0B 2 (OfMouse SetThreshold)
    ∷ entry 0x0C 2 (OfMouse SetScale)
    ∷ entry 0x0D 0 (OfMouse ReportPosition)
    ∷ entry 0x0E 5 (OfMouse LoadPosition)
    ∷ entry 0x0F 0 (OfMouse OriginBottom)
    ∷ entry 0x10 0 (OfMouse OriginTop)
    ∷ entry 0x11 0 (OfOther Resume)
    ∷ entry 0x12 0 (OfOther MouseOff)
    ∷ entry 0x13 0 Pause
    ∷ entry 0x14 0 (OfStick SetEvent)
    ∷ entry 0x15 0 (OfStick SetInterrogation)
    ∷ entry 0x16 0 (OfStick ReportSticks)
    ∷ entry 0x17 1 (OfStick SetMonitoring)
    ∷ entry 0x18 0 (OfStick SetFire)
    ∷ entry 0x19 6 (OfStick SetStickKeycode)
    ∷ entry 0x1A 0 (OfStick SticksOff)
    ∷ entry 0x1B 6 (OfOther SetClock)
    ∷ entry 0x1C 0 (OfOther ReportClock)
    ∷ entry 0x20 3 Memory
    ∷ entry 0x21 2 Memory
    ∷ entry 0x22 2 Memory
    ∷ entry 0x80 1 Reset
    ∷ entry 0x87 0 (Inquire AskAction)
    ∷ entry 0x88 0 (Inquire AskMouse)
    ∷ entry 0x89 0 (Inquire AskMouse)
    ∷ entry 0x8A 0 (Inquire AskMouse)
    ∷ entry 0x8B 0 (Inquire AskThreshold)
    ∷ entry 0x8C 0 (Inquire AskScale)
    ∷ entry 0x8F 0 (Inquire AskOrigin)
    ∷ entry 0x90 0 (Inquire AskOrigin)
    ∷ entry 0x92 0 (Inquire AskMouseOff)
    ∷ entry 0x94 0 (Inquire AskStick)
    ∷ entry 0x95 0 (Inquire AskStick)
    ∷ entry 0x96 0 (Inquire AskStick)
    ∷ entry 0x99 0 (Inquire AskStick)
    ∷ entry 0x9A 0 (Inquire AskSticksOff)
    ∷ []

-- the table's line for a code; "Other codes do nothing."
unfoldable pub find : List Entry → ℕ → Entry
find [] b = entry b 0 Nothing
find (e ∷ es) b = cond (eqb b e.code) e (find es b)

-- the line of a code in the "constant table of parameter counts by command code"
unfoldable pub line : ℕ → Entry
line b = find table b

-- "Parameter bytes": how many follow this code; of 0x20, those before its data
abbrev pub parameters_of : ℕ → ℕ
parameters_of b = (line b).parameters

-- which command or inquiry a code is; "Other codes do nothing."
abbrev pub meaning_of : ℕ → Meaning
meaning_of b = (line b).meaning

-- "0x20 3 and then as many as the third says": the one command with data
abbrev pub memory_load : ℕ
memory_load = 0x20
