-- What executed commands do to the mouse's part of the state, and what they send of it (document 01, "Reading commands" and "The mouse").
use Rattle.std.specs.Prelude.{ℕ, min, List}
use Rattle.motion.specs.declared.Axes.{Axes}
use Rattle.protocol.specs.declared.MouseMode.{MouseMode}
use Rattle.protocol.specs.declared.MouseCommand.{MouseCommand}
use Rattle.protocol.specs.declared.MouseCommand.TheVariants.{SetAction, SetRelative, SetAbsolute, SetKeycode, SetThreshold, SetScale, ReportPosition, LoadPosition, OriginBottom, OriginTop}
use Rattle.protocol.specs.Commands.{point_at}
use Rattle.mouse.specs.declared.Mouse.{Mouse}
use Rattle.mouse.specs.Mouse.{origin, maximum_of, with_place, without_motion}
use Rattle.mouse.specs.Reports.{MouseDue, quiet, one_packet, report, cleared}

-- "0x08, 0x09, 0x0A ... clear held motion, zero the coordinates"
abbrev pub started_anew : Mouse → Mouse
started_anew m = with_place origin (without_motion m)

-- "0x0E is held to the maximum." Its first byte is a filler.
abbrev pub loaded : Axes ℕ → List ℕ → Mouse → Mouse
loaded maximum ps m = with_place (record { x = min maximum.x (point_at 1 ps).x; y = min maximum.y (point_at 1 ps).y }) m

-- "0x0D sends 0xF7, ... and clears the latches": A7's look and its clearing, "one after the other"
unfoldable pub commanded : MouseCommand → List ℕ → MouseMode → Mouse → MouseDue
commanded SetAction ps mode m = quiet m
commanded SetRelative ps mode m = quiet (started_anew m)
commanded SetAbsolute ps mode m = quiet (started_anew m)
commanded SetKeycode ps mode m = quiet (started_anew m)
commanded SetThreshold ps mode m = quiet m
commanded SetScale ps mode m = quiet m
commanded ReportPosition ps mode m = one_packet (report m) (cleared m)
commanded LoadPosition ps mode m = quiet (loaded (maximum_of mode) ps m)
commanded OriginBottom ps mode m = quiet m
commanded OriginTop ps mode m = quiet m

-- "0x12 turns the mouse off and clears held motion."
abbrev pub switched_off : Mouse → Mouse
switched_off m = without_motion m
