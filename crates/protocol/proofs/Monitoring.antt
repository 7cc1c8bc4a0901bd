-- The monitoring modes are those of 0x17 and 0x18 alone: no other command leads to one.
-- Assumes nothing.
use Prim.Native.Nat.{ℕ}
use mathlib.Core.Path.{◌≡◌, refl}
use mathlib.Core.Bool.{false}
use mathlib.Core.List.{List}
use Rattle.output.proofs.Cases.{both_ways}
use Rattle.protocol.specs.declared.StickMode.{StickMode}
use Rattle.protocol.specs.declared.Settings.{Settings}
use Rattle.protocol.specs.declared.MouseCommand.{MouseCommand}
use Rattle.protocol.specs.declared.MouseCommand.TheVariants.{SetAction, SetRelative, SetAbsolute, SetKeycode, SetThreshold, SetScale, ReportPosition, LoadPosition, OriginBottom, OriginTop}
use Rattle.protocol.specs.declared.StickCommand.{StickCommand}
use Rattle.protocol.specs.declared.StickCommand.TheVariants.{SetEvent, SetInterrogation, ReportSticks, SetMonitoring, SetFire, SetStickKeycode, SticksOff}
use Rattle.protocol.specs.declared.OtherCommand.{OtherCommand}
use Rattle.protocol.specs.declared.OtherCommand.TheVariants.{Resume, MouseOff, SetClock, ReportClock}
use Rattle.protocol.specs.declared.Meaning.{Meaning}
use Rattle.protocol.specs.declared.Meaning.TheVariants.{Nothing, Memory, Pause, Reset, OfMouse, OfStick, OfOther, Inquire}
use Rattle.protocol.specs.Settings.{monitors}
use Rattle.protocol.specs.Commands.{leave_monitoring, mouse_sets, stick_sets, other_sets, sets}

-- neither 0x17 nor 0x18
pub record NoMonitoring (m : Meaning) : Type 0 where
  pub monitoring : m ≡ OfStick SetMonitoring → ⊥
  pub fire : m ≡ OfStick SetFire → ⊥

-- no monitoring mode is set
abbrev pub Outside : Settings → Type 0
Outside σ = monitors σ.stick ≡ false

left : (k : StickMode) → monitors (leave_monitoring k) ≡ false
left k = both_ways (λ (m : StickMode). monitors m ≡ false) (monitors k) (λ _. refl) (λ e. e)

mouse_outside : (c : MouseCommand) (ps : List ℕ) (σ : Settings) → Outside σ → Outside (mouse_sets c ps σ)
unfolding mouse_sets
mouse_outside SetAction ps σ h = h
mouse_outside SetRelative ps σ h = left σ.stick
mouse_outside SetAbsolute ps σ h = left σ.stick
mouse_outside SetKeycode ps σ h = left σ.stick
mouse_outside SetThreshold ps σ h = h
mouse_outside SetScale ps σ h = h
mouse_outside ReportPosition ps σ h = h
mouse_outside LoadPosition ps σ h = h
mouse_outside OriginBottom ps σ h = h
mouse_outside OriginTop ps σ h = h

stick_outside : (c : StickCommand) (ps : List ℕ) (σ : Settings) → NoMonitoring (OfStick c) → Outside σ → Outside (stick_sets c ps σ)
unfolding stick_sets
stick_outside SetEvent ps σ n h = refl
stick_outside SetInterrogation ps σ n h = refl
stick_outside ReportSticks ps σ n h = h
stick_outside SetMonitoring ps σ n h = absurd (n.monitoring refl)
stick_outside SetFire ps σ n h = absurd (n.fire refl)
stick_outside SetStickKeycode ps σ n h = refl
stick_outside SticksOff ps σ n h = left σ.stick

other_outside : (c : OtherCommand) (σ : Settings) → Outside σ → Outside (other_sets c σ)
unfolding other_sets
other_outside Resume σ h = h
other_outside MouseOff σ h = h
other_outside SetClock σ h = h
other_outside ReportClock σ h = h

pub sets_outside : (m : Meaning) (ps : List ℕ) (σ : Settings) → NoMonitoring m → Outside σ → Outside (sets m ps σ)
unfolding sets
sets_outside Nothing ps σ n h = h
sets_outside Memory ps σ n h = h
sets_outside Pause ps σ n h = h
sets_outside Reset ps σ n h = refl
sets_outside (OfMouse c) ps σ n h = mouse_outside c ps σ h
sets_outside (OfStick c) ps σ n h = stick_outside c ps σ n h
sets_outside (OfOther c) ps σ n h = other_outside c σ h
sets_outside (Inquire q) ps σ n h = h
