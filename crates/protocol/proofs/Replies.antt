-- Replies: each is the packet of a status, and what holds of every such packet holds of every reply.
-- Assumes nothing.
use Prim.Native.Nat.{ℕ}
use mathlib.Core.Path.{◌≡◌, refl}
use lib.ListN.{length}
use Rattle.output.specs.Packets.{Packet, status, bytes_of}
use Rattle.output.proofs.Framed.{Framed}
use Rattle.protocol.specs.declared.MouseMode.{MouseMode}
use Rattle.protocol.specs.declared.MouseMode.TheVariants.{Relative, Absolute, Keycode}
use Rattle.protocol.specs.declared.StickMode.{StickMode}
use Rattle.protocol.specs.declared.StickMode.TheVariants.{Event, Interrogation, Monitoring, Fire, StickKeycode}
use Rattle.protocol.specs.declared.Settings.{Settings}
use Rattle.protocol.specs.declared.Inquiry.{Inquiry}
use Rattle.protocol.specs.declared.Inquiry.TheVariants.{AskAction, AskMouse, AskThreshold, AskScale, AskOrigin, AskMouseOff, AskStick, AskSticksOff}
use Rattle.protocol.specs.Replies.{mouse_reply, stick_reply, reply}

module _ (P : Packet → Type 0) (of : (a b c d e f g : ℕ) → P (status a b c d e f g)) where
  of_mouse_reply : (m : MouseMode) → P (mouse_reply m)
  of_mouse_reply Relative = of _ _ _ _ _ _ _
  of_mouse_reply (Absolute maximum) = of _ _ _ _ _ _ _
  of_mouse_reply (Keycode delta) = of _ _ _ _ _ _ _

  of_stick_reply : (m : StickMode) → P (stick_reply m)
  of_stick_reply Event = of _ _ _ _ _ _ _
  of_stick_reply Interrogation = of _ _ _ _ _ _ _
  of_stick_reply (Monitoring rate) = of _ _ _ _ _ _ _
  of_stick_reply Fire = of _ _ _ _ _ _ _
  of_stick_reply (StickKeycode x y) = of _ _ _ _ _ _ _

  pub of_reply : (q : Inquiry) (σ : Settings) → P (reply q σ)
  unfolding reply
  of_reply AskAction σ = of _ _ _ _ _ _ _
  of_reply AskMouse σ = of_mouse_reply σ.mouse
  of_reply AskThreshold σ = of _ _ _ _ _ _ _
  of_reply AskScale σ = of _ _ _ _ _ _ _
  of_reply AskOrigin σ = of _ _ _ _ _ _ _
  of_reply AskMouseOff σ = of _ _ _ _ _ _ _
  of_reply AskStick σ = of_stick_reply σ.stick
  of_reply AskSticksOff σ = of _ _ _ _ _ _ _

-- a reply is 8 bytes long
pub reply_length : (q : Inquiry) (σ : Settings) → length (bytes_of (reply q σ)) ≡ 8
reply_length = of_reply (λ (p : Packet). length (bytes_of p) ≡ 8) (λ a b c d e f g. refl)

-- and says itself where it ends
pub reply_framed : (q : Inquiry) (σ : Settings) → Framed (reply q σ)
reply_framed = of_reply Framed (λ a b c d e f g. tt)
