-- What executed commands do to the joysticks' part of the state, and what they send of it (document 01, "Reading commands").
use Rattle.std.specs.Prelude.{cond, [], ◌∷◌}
use Rattle.output.specs.Packets.{sticks}
use Rattle.protocol.specs.declared.StickMode.{StickMode}
use Rattle.protocol.specs.Settings.{monitors}
use Rattle.protocol.specs.declared.MouseCommand.{MouseCommand}
use Rattle.protocol.specs.declared.MouseCommand.TheVariants.{SetAction, SetRelative, SetAbsolute, SetKeycode, SetThreshold, SetScale, ReportPosition, LoadPosition, OriginBottom, OriginTop}
use Rattle.protocol.specs.declared.StickCommand.{StickCommand}
use Rattle.protocol.specs.declared.StickCommand.TheVariants.{SetEvent, SetInterrogation, ReportSticks, SetMonitoring, SetFire, SetStickKeycode, SticksOff}
use Rattle.sticks.specs.declared.Sticks.{Sticks}
use Rattle.sticks.specs.Sticks.{SticksDue, quiet, no_count, byte}

-- "0x14, 0x15, 0x17, 0x18, 0x19 ... clear repeat counts, monitoring ticks and samples"
abbrev pub cleared : Sticks → Sticks
cleared s = record { zero = s.zero; one = s.one; x = no_count; y = no_count; ticks = 0; samples = 0; bits = 0 }

-- "leaving a monitoring mode by another command clears the last two"
unfoldable pub monitoring_left : StickMode → Sticks → Sticks
monitoring_left mode s =
    cond (monitors mode) (record { zero = s.zero; one = s.one; x = s.x; y = s.y; ticks = 0; samples = 0; bits = 0 }) s

-- an executed command of the joysticks, from this mode; "0x16 sends 0xFD and both"
unfoldable pub commanded : StickCommand → StickMode → Sticks → SticksDue
commanded SetEvent mode s = quiet (cleared s)
commanded SetInterrogation mode s = quiet (cleared s)
commanded ReportSticks mode s = record { packets = sticks (byte s.zero) (byte s.one) ∷ []; sticks = s }
commanded SetMonitoring mode s = quiet (cleared s)
commanded SetFire mode s = quiet (cleared s)
commanded SetStickKeycode mode s = quiet (cleared s)
commanded SticksOff mode s = quiet (monitoring_left mode s)

-- an executed command of the mouse: 0x08, 0x09 and 0x0A leave a monitoring mode
unfoldable pub mouse_commanded : MouseCommand → StickMode → Sticks → Sticks
mouse_commanded SetAction mode s = s
mouse_commanded SetRelative mode s = monitoring_left mode s
mouse_commanded SetAbsolute mode s = monitoring_left mode s
mouse_commanded SetKeycode mode s = monitoring_left mode s
mouse_commanded SetThreshold mode s = s
mouse_commanded SetScale mode s = s
mouse_commanded ReportPosition mode s = s
mouse_commanded LoadPosition mode s = s
mouse_commanded OriginBottom mode s = s
mouse_commanded OriginTop mode s = s
