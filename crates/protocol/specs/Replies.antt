-- The status inquiries and their replies (document 01, "Inquiries and putting back").
use Rattle.std.specs.Prelude.{ℕ, ◌/◌, ◌%◌, cond, List, ◌++◌, drop}
use Rattle.output.specs.Packets.{Packet, status, bytes_of}
use Rattle.protocol.specs.declared.MouseMode.{MouseMode}
use Rattle.protocol.specs.declared.MouseMode.TheVariants.{Relative, Absolute, Keycode}
use Rattle.protocol.specs.declared.StickMode.{StickMode}
use Rattle.protocol.specs.declared.StickMode.TheVariants.{Event, Interrogation, Monitoring, Fire, StickKeycode}
use Rattle.protocol.specs.declared.Role.{Role}
use Rattle.protocol.specs.declared.Role.TheVariants.{ForMouse, ForJoystick}
use Rattle.protocol.specs.declared.Settings.{Settings}
use Rattle.protocol.specs.declared.Inquiry.{Inquiry}
use Rattle.protocol.specs.declared.Inquiry.TheVariants.{AskAction, AskMouse, AskThreshold, AskScale, AskOrigin, AskMouseOff, AskStick, AskSticksOff}

-- the code of each of the eight
abbrev pub code_of : Inquiry → ℕ
code_of AskAction = 0x87
code_of AskMouse = 0x88
code_of AskThreshold = 0x8B
code_of AskScale = 0x8C
code_of AskOrigin = 0x8F
code_of AskMouseOff = 0x92
code_of AskStick = 0x94
code_of AskSticksOff = 0x9A

-- "the order of the 0x09 command decides": X and then Y, high byte first
abbrev pub mouse_reply : MouseMode → Packet
mouse_reply Relative = status 0x08 0 0 0 0 0 0
mouse_reply (Absolute m) = status 0x09 (m.x / 256) (m.x % 256) (m.y / 256) (m.y % 256) 0 0
mouse_reply (Keycode d) = status 0x0A d.x d.y 0 0 0 0

-- the joystick mode; in the monitoring modes inquiries are ignored, so that these two cases are never sent
abbrev pub stick_reply : StickMode → Packet
stick_reply Event = status 0x14 0 0 0 0 0 0
stick_reply Interrogation = status 0x15 0 0 0 0 0 0
stick_reply (Monitoring rate) = status 0x17 rate 0 0 0 0 0
stick_reply Fire = status 0x18 0 0 0 0 0 0
stick_reply (StickKeycode x y) = status 0x19 x.breakpoint y.breakpoint x.before y.before x.after y.after

-- "A reply is 0xF6, then the command that would set it, filled with zeros to 8 bytes."
unfoldable pub reply : Inquiry → Settings → Packet
reply AskAction σ = status 0x07 σ.action 0 0 0 0 0
reply AskMouse σ = mouse_reply σ.mouse
reply AskThreshold σ = status 0x0B σ.threshold.x σ.threshold.y 0 0 0 0
reply AskScale σ = status 0x0C σ.scale.x σ.scale.y 0 0 0 0
reply AskOrigin σ = status (cond σ.bottom 0x0F 0x10) 0 0 0 0 0 0
reply AskMouseOff σ = status (cond σ.mouseon 0x00 0x12) 0 0 0 0 0 0
reply AskStick σ = stick_reply σ.stick
reply AskSticksOff σ = status (cond σ.stickson 0x00 0x1A) 0 0 0 0 0 0

-- "the seven after 0xF6 are copied and kept, zeros too"
abbrev pub kept_bytes : Inquiry → Settings → List ℕ
kept_bytes q σ = drop 1 (bytes_of (reply q σ))

-- "Put back: port 0 a mouse, sticks first and then mouse; port 0 a joystick, mouse first and then sticks; within each, the order above."
abbrev pub in_order : Role → (Inquiry → List ℕ) → List ℕ
in_order ForMouse kept =
    kept AskStick ++ (kept AskSticksOff
    ++ (kept AskAction ++ (kept AskMouse ++ (kept AskThreshold ++ (kept AskScale ++ (kept AskOrigin ++ kept AskMouseOff))))))
in_order ForJoystick kept =
    kept AskAction ++ (kept AskMouse ++ (kept AskThreshold ++ (kept AskScale ++ (kept AskOrigin ++ (kept AskMouseOff
    ++ (kept AskStick ++ kept AskSticksOff))))))
