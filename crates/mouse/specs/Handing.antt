-- How the code hands on what happens to the mouse: held motion in its own words, any other packet as a short run of bytes.
use Rattle.output.specs.Packets.{bytes}
use Rattle.output.specs.declared.Run.{Run}
use Rattle.output.specs.Short.{short_of, short_room}
use Rattle.mouse.specs.declared.Mouse.{Mouse}
use Rattle.mouse.specs.declared.Moved.{Moved}
use Rattle.mouse.specs.declared.Pressed.{Pressed}
use Rattle.mouse.specs.declared.Commanded.{Commanded}
use Rattle.mouse.specs.Sending.{nothing_sent}
use Rattle.mouse.specs.Reports.{MouseDue}

-- motion, or a resume: nothing but held motion is sent
abbrev pub moved_of : MouseDue → Moved
moved_of d = record { sending = d.sending; mouse = d.mouse }

-- a button
abbrev pub pressed_of : MouseDue → Pressed
pressed_of d = record { sending = d.sending; short = short_of (bytes d.others); mouse = d.mouse }

-- a button that sends nothing but a short run of bytes
abbrev pub only_short : Run short_room → Mouse → Pressed
only_short short m = record { sending = nothing_sent; short = short; mouse = m }

-- a command: nothing of held motion is sent
abbrev pub commanded_of : MouseDue → Commanded
commanded_of d = record { short = short_of (bytes d.others); mouse = d.mouse }
