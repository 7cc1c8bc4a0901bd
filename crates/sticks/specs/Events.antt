-- A stick event, in all five joystick modes (document 01, "Sticks, samples, clock").
use Rattle.std.specs.Prelude.{ℕ, Bool, cond, not, ◌&&◌, ◌||◌, List, [], ◌∷◌, ◌++◌, eqb}
use Rattle.output.specs.ScanCodes.{code_sent, key_left, key_right}
use Rattle.output.specs.Packets.{Packet, scan, stick, bit, pair}
use Rattle.protocol.specs.declared.StickMode.{StickMode}
use Rattle.protocol.specs.declared.StickMode.TheVariants.{Event, Interrogation, Monitoring, Fire, StickKeycode}
use Rattle.protocol.specs.declared.Settings.{Settings}
use Rattle.protocol.specs.Settings.{is_joystick}
use Rattle.sticks.specs.declared.Stick.{Stick}
use Rattle.sticks.specs.declared.Count.{Count}
use Rattle.sticks.specs.declared.Sticks.{Sticks}
use Rattle.sticks.specs.Sticks.{SticksDue, quiet, CountDue, unmoved, no_count, byte, stick_at, horizontal, vertical}

-- "A stick event always stores its byte"
abbrev pub stored : Bool → Stick → Sticks → Sticks
stored one new s = record {
  zero = cond one s.zero new;
  one = cond one new s.one;
  x = s.x;
  y = s.y;
  ticks = s.ticks;
  samples = s.samples;
  bits = s.bits;
}

-- "age and wait of each axis" put in place of those before; nothing else changes
abbrev pub with_counts : Count → Count → Sticks → Sticks
with_counts x y s = record { zero = s.zero; one = s.one; x = x; y = y; ticks = s.ticks; samples = s.samples; bits = s.bits }

-- which stick counts: "joysticks on ... and stick 1 or port 0 a joystick"
unfoldable pub heard : Settings → Bool → Bool
heard σ one = σ.stickson && (one || is_joystick σ.port0)

-- Event mode: "0xFE or 0xFF and the byte", where it is changed and the stick is heard (on)
unfoldable pub stick_reported : Bool → Bool → Stick → Stick → List Packet
stick_reported on one old new = cond (on && not (eqb (byte old) (byte new))) (stick (bit one) (byte new) ∷ []) []

-- "a changed trigger is a key, 0x74 for stick 0 if port 0 is a joystick, 0x75 for stick 1"; `on` says that the stick is heard
unfoldable pub trigger_keys : Bool → Bool → Bool → Bool → List Packet
trigger_keys on one old new =
    cond (on && not (cond old new (not new))) (scan (code_sent (cond one key_right key_left) new) ∷ []) []

-- "When an axis's direction changes ..., its age and wait become 0, and a direction other than none gives a pair"
unfoldable pub axis_turned : ℕ → ℕ → Count → CountDue
axis_turned old new c =
    cond (eqb old new) (unmoved c) (record { packets = cond (eqb new 0) [] (pair new); count = no_count })

-- one axis at a stick event: "for stick 0 while port 0 is a joystick; otherwise the counts stand still"
unfoldable pub axis_moved : Bool → Bool → (ℕ → ℕ) → Stick → Stick → Count → CountDue
axis_moved on one direction old new c =
    cond (on && not one) (axis_turned (direction old.position) (direction new.position) c) (unmoved c)

-- what two axes and a trigger come to in keycode mode: "Horizontal comes first, trigger last."
abbrev pub keys_sent : CountDue → CountDue → List Packet → Sticks → SticksDue
keys_sent x y trigger s =
    record { packets = x.packets ++ (y.packets ++ trigger); sticks = with_counts x.count y.count s }

-- keycode mode: a stick that is heard (on) gives the key of its trigger, and stick 0 arrows
unfoldable pub stick_keyed : Bool → Bool → Stick → Sticks → SticksDue
stick_keyed on one new s =
    let old = stick_at one s in
    keys_sent
    (axis_moved on one horizontal old new s.x)
    (axis_moved on one vertical old new s.y)
    (trigger_keys on one old.trigger new.trigger)
    (stored one new s)

-- a stick event by mode; "Both monitoring modes send nothing else for events", and interrogation mode waits to be asked
unfoldable pub stick_moved_in : StickMode → Bool → Bool → Stick → Sticks → SticksDue
stick_moved_in Event on one new s = record { packets = stick_reported on one (stick_at one s) new; sticks = stored one new s }
stick_moved_in Interrogation on one new s = quiet (stored one new s)
stick_moved_in (Monitoring rate) on one new s = quiet (stored one new s)
stick_moved_in Fire on one new s = quiet (stored one new s)
stick_moved_in (StickKeycode x y) on one new s = stick_keyed on one new s

-- an event of "Stick: 0 or 1, position 0 to 15, trigger", in the joystick mode that is set
unfoldable pub stick_moved : Settings → Bool → Stick → Sticks → SticksDue
stick_moved σ one new s = stick_moved_in σ.stick (heard σ one) one new s
