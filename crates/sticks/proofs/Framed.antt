-- Outside the monitoring modes, each packet of the joysticks says itself where it ends.
-- Assumes nothing.
use Prim.Native.Nat.{ℕ, ◌≤◌}
use native.Mathlib.Omega.{arith}
use mathlib.Core.Path.{◌≡◌, sym, ◌∙◌}
use mathlib.Core.Bool.{Bool, true, false, true≢false}
use mathlib.Core.List.{List}
use Rattle.output.specs.Packets.{Packet, bit}
use Rattle.output.proofs.Framed.{AllFramed, framed_append}
use Rattle.protocol.specs.Settings.{monitors}
use Rattle.protocol.specs.declared.StickMode.{StickMode}
use Rattle.protocol.specs.declared.Settings.{Settings}
use Rattle.protocol.specs.declared.StickCommand.{StickCommand}
use Rattle.sticks.specs.declared.Stick.{Stick}
use Rattle.sticks.specs.declared.Sticks.{Sticks}
use Rattle.sticks.specs.Events.{stick_moved}
use Rattle.sticks.specs.Ticks.{ticked, sampled}
use Rattle.sticks.specs.Commands.{commanded}
use Rattle.sticks.proofs.Sends.{OfEach, of_stick_moved, of_ticked, of_sampled, of_commanded}

-- a bit is 0 or 1
pub bit_most : (b : Bool) → bit b ≤ 1
bit_most true = omega arith
bit_most false = omega arith

-- packets of which each does, however many bytes they have
record Ends (n : ℕ) (ps : List Packet) : Type 0 where
  framed : AllFramed ps

ends : (mode : StickMode) → monitors mode ≡ false → OfEach mode Ends
ends mode e = record {
  none = λ n. record { framed = tt };
  joined = λ m n ps qs p q. record { framed = framed_append ps qs p.framed q.framed };
  scan = λ code h. record { framed = (h, tt) };
  stick = λ one b. record { framed = (bit_most one, tt) };
  monitor = λ triggers positions m. absurd (true≢false (sym m ∙ e));
  samples = λ b m. absurd (true≢false (sym m ∙ e));
  sticks = λ b0 b1. record { framed = (tt, tt) };
}

module _ (σ : Settings) (e : monitors σ.stick ≡ false) where
  pub stick_moved_framed : (one : Bool) (new : Stick) (s : Sticks) → AllFramed (stick_moved σ one new s).packets
  stick_moved_framed one new s = (of_stick_moved Ends σ (ends σ.stick e) one new s).framed

  pub ticked_framed : (paused : Bool) (s : Sticks) → AllFramed (ticked paused σ s).packets
  ticked_framed paused s = (of_ticked Ends σ (ends σ.stick e) paused s).framed

  pub sampled_framed : (paused : Bool) (b : ℕ) (s : Sticks) → AllFramed (sampled paused σ b s).packets
  sampled_framed paused b s = (of_sampled Ends σ (ends σ.stick e) paused b s).framed

  pub commanded_framed : (c : StickCommand) (s : Sticks) → AllFramed (commanded c σ.stick s).packets
  commanded_framed c s = (of_commanded Ends σ.stick (ends σ.stick e) c s).framed
