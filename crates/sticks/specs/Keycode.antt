-- For the contracts of private functions alone: how the code hands on the keys of keycode mode, by their codes, if any.
use Rattle.std.specs.Prelude.{ℕ, ◌≤◌, List, [], ◌∷◌, Option, None, Some, unwrap_or, ⊤}
use Rattle.output.specs.declared.Run.{Run}
use Rattle.output.specs.ScanCodes.{break_of}
use Rattle.output.specs.Packets.{Packet, scan, pair}
use Rattle.output.specs.Short.{added, short_room}
use Rattle.sticks.specs.declared.AxisTold.{AxisTold}
use Rattle.sticks.specs.declared.Sticks.{Sticks}
use Rattle.sticks.specs.Sticks.{CountDue, SticksDue, horizontal, vertical}
use Rattle.sticks.specs.Events.{axis_turned, keys_sent}

-- an arrow's make and break
abbrev pub pair_of : Option ℕ → List Packet
pair_of None = []
pair_of (Some arrow) = pair arrow

-- one code
abbrev pub scan_of : Option ℕ → List Packet
scan_of None = []
scan_of (Some code) = scan code ∷ []

-- the code of an arrow where directions have 0 for none
abbrev pub code_of : Option ℕ → ℕ
code_of arrow = unwrap_or arrow 0

-- an arrow is a make code, and so never 0
abbrev pub IsArrow : Option ℕ → Type 0
IsArrow None = ⊤
IsArrow (Some arrow) = (1 ≤ arrow) × (arrow ≤ 0x7F)

-- a run of bytes with a pair at its end, where "a direction other than none gives a pair"
abbrev pub with_pair : Option ℕ → Run short_room → Run short_room
with_pair None r = r
with_pair (Some arrow) r = added (break_of arrow) (added arrow r)

-- a run of bytes with the code of "a changed trigger" at its end, "trigger last"
abbrev pub with_code : Option ℕ → Run short_room → Run short_room
with_code None r = r
with_code (Some code) r = added code r

-- what an axis comes to
abbrev pub due_of : AxisTold → CountDue
due_of r = record { packets = pair_of r.arrow; count = r.count }

-- stick 0 came from the position old to where it stands, with the code of its trigger
unfoldable pub stick_turned : ℕ → Option ℕ → Sticks → SticksDue
stick_turned old code s =
    keys_sent
    (axis_turned (horizontal old) (horizontal s.zero.position) s.x)
    (axis_turned (vertical old) (vertical s.zero.position) s.y)
    (scan_of code) s
