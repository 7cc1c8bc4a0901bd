-- The joysticks' part of the state: ranges, power-up, bytes and directions (document 01, "What the state holds" and "Sticks, samples, clock").
use Rattle.std.specs.Prelude.{ℕ, ◌+◌, ◌-◌, ◌*◌, ◌/◌, ◌%◌, ◌^◌, ◌≤◌, ◌<◌, Bool, true, false, cond, List, [], eqb}
use Rattle.output.specs.ScanCodes.{arrow_right, arrow_left, arrow_up, arrow_down}
use Rattle.output.specs.Packets.{Packet, bit, bytes}
use Rattle.output.specs.Short.{short_of}
use Rattle.protocol.specs.declared.StickMode.{StickMode}
use Rattle.protocol.specs.declared.StickMode.TheVariants.{Event, Interrogation, Monitoring, Fire, StickKeycode}
use Rattle.protocol.specs.Settings.{acts_as}
use Rattle.sticks.specs.declared.Stick.{Stick}
use Rattle.sticks.specs.declared.Count.{Count}
use Rattle.sticks.specs.declared.Sticks.{Sticks}
use Rattle.sticks.specs.declared.SticksTold.{SticksTold}
use Rattle.sticks.specs.declared.Which.{Which}
use Rattle.sticks.specs.declared.Which.TheVariants.{Zero, One}

-- "position 0 to 15"
abbrev pub most_position : ℕ
most_position = 15

-- "128·trigger + position": what the code asks of a position, that it leaves bit 7 to the trigger
abbrev pub below_trigger : ℕ
below_trigger = 0x7F

-- "age and wait of each axis, 0 to 2,551"
abbrev pub most_count : ℕ
most_count = 2551

-- "monitoring ticks (below the rate as it acts)"; "monitoring ticks and samples are 0 outside their mode"
abbrev pub most_ticks : StickMode → ℕ
most_ticks Event = 0
most_ticks Interrogation = 0
most_ticks (Monitoring rate) = acts_as rate - 1
most_ticks Fire = 0
most_ticks (StickKeycode x y) = 0

-- "samples (0 to 7 of them)"
abbrev pub most_samples : StickMode → ℕ
most_samples Event = 0
most_samples Interrogation = 0
most_samples (Monitoring rate) = 0
most_samples Fire = 7
most_samples (StickKeycode x y) = 0

-- "age and wait of each axis, 0 to 2,551": those of one axis
pub record IsCount (c : Count) : Type 0 where
  pub age : c.age ≤ most_count
  pub wait : c.wait ≤ most_count

-- ranges of the sticks' part: both positions, age and wait of both axes, monitoring ticks and samples as the mode has them
pub record IsSticks (mode : StickMode) (s : Sticks) : Type 0 where
  pub zero : s.zero.position ≤ most_position
  pub one : s.one.position ≤ most_position
  pub x : IsCount s.x
  pub y : IsCount s.y
  pub ticks : s.ticks ≤ most_ticks mode
  pub samples : s.samples ≤ most_samples mode

-- a representation fact: the bits of the samples so far are as many as the samples
abbrev pub OneSticks : Sticks → Type 0
OneSticks s = s.bits < 2 ^ s.samples

-- a stick at power-up ("all else zero"): nothing closed, trigger 0
abbrev pub centred : Stick
centred = record { position = 0; trigger = false }

-- age and wait of 0: at power-up, after "clear repeat counts", and where "its age and wait become 0"
abbrev pub no_count : Count
no_count = record { age = 0; wait = 0 }

-- "all else zero"
abbrev pub at_power_up : Sticks
at_power_up = record { zero = centred; one = centred; x = no_count; y = no_count; ticks = 0; samples = 0; bits = 0 }

-- what something that happens to the sticks leads to: the packets that fall due, in order, and the sticks afterwards
pub record SticksDue : Type 0 where
  pub packets : List Packet
  pub sticks : Sticks

-- nothing falls due; the sticks are as given, changed before or not ("samples elsewhere do nothing", "ticks move only the clock")
abbrev pub quiet : Sticks → SticksDue
quiet s = record { packets = []; sticks = s }

-- how the code hands it on
abbrev pub told_of : SticksDue → SticksTold
told_of d = record { short = short_of (bytes d.packets); sticks = d.sticks }

-- the same for the repeat counts of one axis
pub record CountDue : Type 0 where
  pub packets : List Packet
  pub count : Count

-- nothing falls due of an axis, and its age and wait are as given: "otherwise the counts stand still"
abbrev pub unmoved : Count → CountDue
unmoved c = record { packets = []; count = c }

-- "its byte (128·trigger + position)"
abbrev pub byte : Stick → ℕ
byte k = 128 * bit k.trigger + k.position

-- which stick the code names: stick 1 (true) or stick 0
abbrev pub is_one : Which → Bool
is_one Zero = false
is_one One = true

-- stick 1 (true) or stick 0
abbrev pub stick_at : Bool → Sticks → Stick
stick_at one s = cond one s.one s.zero

-- "bits 0 to 3 of the position are up, down, left, right (house)": the switch of weight w is closed
abbrev pub closed : ℕ → ℕ → Bool
closed w position = eqb (position / w % 2) 1

-- The direction of an axis, as its arrow's make code, and 0 for none: "opposite closures cancel to none".
abbrev pub direction : Bool → ℕ → Bool → ℕ → ℕ
direction a code_a b code_b = cond a (cond b 0 code_a) (cond b code_b 0)

-- left and right, bits 2 and 3 of the position; "Horizontal comes first"
unfoldable pub horizontal : ℕ → ℕ
horizontal position = direction (closed 4 position) arrow_left (closed 8 position) arrow_right

-- up and down, bits 0 and 1 of the position
unfoldable pub vertical : ℕ → ℕ
vertical position = direction (closed 1 position) arrow_up (closed 2 position) arrow_down
