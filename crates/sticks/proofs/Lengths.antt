-- How many bytes fall due at most when something happens to the joysticks.
-- Assumes nothing.
use Prim.Native.Nat.{ℕ, ◌+◌, ◌≤◌}
use native.Mathlib.Omega.{arith}
use mathlib.Core.Bool.{Bool}
use mathlib.Core.List.{List, ◌++◌}
use lib.ListN.{length, length-append}
use Rattle.output.specs.Packets.{Packet, bytes}
use Rattle.output.proofs.Packets.{bytes_append}
use Rattle.protocol.specs.declared.StickMode.{StickMode}
use Rattle.protocol.specs.declared.Settings.{Settings}
use Rattle.protocol.specs.declared.StickCommand.{StickCommand}
use Rattle.sticks.specs.declared.Stick.{Stick}
use Rattle.sticks.specs.declared.Sticks.{Sticks}
use Rattle.sticks.specs.Events.{stick_moved}
use Rattle.sticks.specs.Ticks.{ticked, sampled}
use Rattle.sticks.specs.Commands.{commanded}
use Rattle.sticks.proofs.Sends.{OfEach, of_stick_moved, of_ticked, of_sampled, of_commanded}

-- at most n bytes
record AtMost (n : ℕ) (ps : List Packet) : Type 0 where
  length_most : length (bytes ps) ≤ n

-- packets one after the other have the bytes of both
append_length : (m n : ℕ) (ps qs : List Packet) → AtMost m ps → AtMost n qs → AtMost (m + n) (ps ++ qs)
append_length m n ps qs p q = record { length_most = simp (bytes_append, length-append) (omega arith) }

lengths : (mode : StickMode) → OfEach mode AtMost
lengths mode = record {
  none = λ n. omega arith;
  joined = append_length;
  scan = λ code h. omega arith;
  stick = λ one b. omega arith;
  monitor = λ triggers positions h. omega arith;
  samples = λ b h. omega arith;
  sticks = λ b0 b1. omega arith;
}

-- a stick event sends at most two pairs and a key
pub stick_moved_length : (σ : Settings) (one : Bool) (new : Stick) (s : Sticks) → length (bytes (stick_moved σ one new s).packets) ≤ 5
stick_moved_length σ one new s = (of_stick_moved AtMost σ (lengths σ.stick) one new s).length_most

-- a tick sends at most two pairs
pub ticked_length : (paused : Bool) (σ : Settings) (s : Sticks) → length (bytes (ticked paused σ s).packets) ≤ 4
ticked_length paused σ s = (of_ticked AtMost σ (lengths σ.stick) paused s).length_most

-- a fire sample sends at most a byte
pub sampled_length : (paused : Bool) (σ : Settings) (b : ℕ) (s : Sticks) → length (bytes (sampled paused σ b s).packets) ≤ 1
sampled_length paused σ b s = (of_sampled AtMost σ (lengths σ.stick) paused b s).length_most

-- a command of the joysticks sends at most both sticks
pub commanded_length : (c : StickCommand) (mode : StickMode) (s : Sticks) → length (bytes (commanded c mode s).packets) ≤ 3
commanded_length c mode s = (of_commanded AtMost mode (lengths mode) c s).length_most
