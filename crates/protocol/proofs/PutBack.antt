-- Demand 3 over the settings and the half-received command alone: asking changes neither, and the kept bytes, sent in the
-- order for the role of port 0, make the settings again.
-- Assumes nothing.
use Prim.Native.Nat.{ℕ, ◌≤◌}
use mathlib.Core.Path.{◌≡◌, refl, sym, ap, ◌∙◌, subst}
use mathlib.Core.Bool.{Bool, true, false, cond, not, true≢false}
use mathlib.Core.List.{List, [], ◌∷◌, Memᴰ}
use lib.Dec.{eqb}
use borrow.Author.Tests.{eqb-true}
use Rattle.protocol.specs.declared.StickMode.{StickMode}
use Rattle.protocol.specs.declared.Role.{Role}
use Rattle.protocol.specs.declared.Role.TheVariants.{ForMouse, ForJoystick}
use Rattle.protocol.specs.declared.Settings.{Settings}
use Rattle.protocol.specs.declared.Inquiry.{Inquiry}
use Rattle.protocol.specs.declared.Inquiry.TheVariants.{AskAction, AskMouse, AskThreshold, AskScale, AskOrigin, AskMouseOff, AskStick, AskSticksOff}
use Rattle.protocol.specs.declared.Meaning.{Meaning}
use Rattle.protocol.specs.declared.Meaning.TheVariants.{Nothing, Memory, Pause, Reset, OfMouse, OfStick, OfOther, Inquire}
use Rattle.protocol.specs.Codes.{entry, table, find, line, parameters_of, meaning_of}
use Rattle.protocol.specs.Reading.{zeros, no_command, Between, whole, begin, feed, command_after}
use Rattle.protocol.specs.Settings.{most_action, monitors}
use Rattle.protocol.specs.Commands.{executed, leave_monitoring, settings_of, with_action, with_threshold, with_scale, with_origin, with_mouse, without_mouse, with_stick, without_sticks, with_role, sets, settings_then, settings_after}
use Rattle.protocol.specs.Replies.{code_of, kept_bytes, in_order}
use Rattle.protocol.proofs.Reading.{every, find_passes}
use Rattle.protocol.proofs.Core.{Core, eat, eats, eats_append}
use Rattle.protocol.proofs.Segments.{at_rest, eat_between, restored, segment}

-- outside the monitoring modes a command of the mouse leaves the joystick mode
stays : (m : StickMode) → monitors m ≡ false → leave_monitoring m ≡ m
stays m h = rw h

-- the settings τ with other values, equal to its own, for what goes by cases
same : (τ : Settings) {mo so : Bool} {st : StickMode} {r : Role} → mo ≡ τ.mouseon → so ≡ τ.stickson → st ≡ τ.stick → r ≡ τ.port0 →
    settings_of τ.mouse τ.action τ.threshold τ.scale τ.bottom mo st so r ≡ τ
same τ p q s r = λ i. settings_of τ.mouse τ.action τ.threshold τ.scale τ.bottom (p i) (s i) (q i) (r i)

-- what the replies of the mouse put back, and those of the sticks
abbrev mouse_part : Settings → Settings → Settings
mouse_part τ σ =
    restored AskMouseOff τ (restored AskOrigin τ (restored AskScale τ (restored AskThreshold τ (restored AskMouse τ (restored AskAction τ σ)))))

abbrev sticks_part : Settings → Settings → Settings
sticks_part τ σ = restored AskSticksOff τ (restored AskStick τ σ)

module _ (τ σ : Settings) (range : τ.action ≤ most_action) where
  sent_mouse : eats (at_rest σ) (in_order ForMouse (λ q. kept_bytes q τ)) ≡ at_rest (mouse_part τ (sticks_part τ σ))
  sent_mouse = simp (eats_append, segment)

  sent_joystick : eats (at_rest σ) (in_order ForJoystick (λ q. kept_bytes q τ)) ≡ at_rest (sticks_part τ (mouse_part τ σ))
  sent_joystick = simp (eats_append, segment)

-- in the order for its role, they make any settings τ
whole_mouse : (mo so : Bool) (τ σ : Settings) → mo ≡ τ.mouseon → so ≡ τ.stickson → leave_monitoring τ.stick ≡ τ.stick → ForMouse ≡ τ.port0 →
    let a = with_role ForJoystick (with_stick τ.stick σ) in
    let b = cond so a (with_role ForJoystick (without_sticks a)) in
    let c = with_role ForMouse (with_origin τ.bottom (with_scale τ.scale (with_threshold τ.threshold (with_mouse τ.mouse (with_action τ.action b))))) in
    cond mo c (without_mouse c) ≡ τ
whole_mouse true true τ σ m s l r = same τ m s l r
whole_mouse true false τ σ m s l r = same τ m s (ap leave_monitoring l ∙ l) r
whole_mouse false true τ σ m s l r = same τ m s l r
whole_mouse false false τ σ m s l r = same τ m s (ap leave_monitoring l ∙ l) r

whole_joystick : (mo so : Bool) (τ σ : Settings) → mo ≡ τ.mouseon → so ≡ τ.stickson → leave_monitoring τ.stick ≡ τ.stick → ForJoystick ≡ τ.port0 →
    let c = with_role ForMouse (with_origin τ.bottom (with_scale τ.scale (with_threshold τ.threshold (with_mouse τ.mouse (with_action τ.action σ))))) in
    let d = with_role ForJoystick (with_stick τ.stick (cond mo c (without_mouse c))) in
    cond so d (with_role ForJoystick (without_sticks d)) ≡ τ
whole_joystick true true τ σ m s l r = same τ m s refl r
whole_joystick true false τ σ m s l r = same τ m s l r
whole_joystick false true τ σ m s l r = same τ m s refl r
whole_joystick false false τ σ m s l r = same τ m s l r

sent : (r : Role) (τ σ : Settings) → r ≡ τ.port0 → τ.action ≤ most_action → monitors τ.stick ≡ false →
    (eats (at_rest σ) (in_order r (λ q. kept_bytes q τ))).settings ≡ τ
unfolding restored
sent ForMouse τ σ e range out =
    ap (λ (c : Core). c.settings) (sent_mouse τ σ range) ∙ whole_mouse τ.mouseon τ.stickson τ σ refl refl (stays τ.stick out) e
sent ForJoystick τ σ e range out =
    ap (λ (c : Core). c.settings) (sent_joystick τ σ range) ∙ whole_joystick τ.mouseon τ.stickson τ σ refl refl (stays τ.stick out) e

-- what the half-received command holds between commands does not matter
from_between : (c : Core) (bs : List ℕ) → Between c.command → (eats c bs).settings ≡ (eats (at_rest c.settings) bs).settings
from_between c [] h = refl
from_between c (b ∷ bs) h = ap (λ (d : Core). (eats d bs).settings) (eat_between c b h)

-- the kept bytes of all eight, in the order for the role of port 0, make the settings τ, whatever the settings were
pub put_back : (τ : Settings) (c : Core) → τ.action ≤ most_action → monitors τ.stick ≡ false → Between c.command →
    (eats c (in_order τ.port0 (λ q. kept_bytes q τ))).settings ≡ τ
put_back τ c range out between =
    from_between c (in_order τ.port0 (λ q. kept_bytes q τ)) between ∙ sent τ.port0 τ c.settings refl range out

-- the table's line of each of the eight
pub known : (q : Inquiry) → line (code_of q) ≡ entry (code_of q) 0 (Inquire q)
unfolding table find line
known AskAction = refl
known AskMouse = refl
known AskThreshold = refl
known AskScale = refl
known AskOrigin = refl
known AskMouseOff = refl
known AskStick = refl
known AskSticksOff = refl

-- an inquiry, or a code that does nothing
abbrev pub asks : Meaning → Bool
asks Nothing = true
asks Memory = false
asks Pause = false
asks Reset = false
asks (OfMouse m) = false
asks (OfStick k) = false
asks (OfOther o) = false
asks (Inquire q) = true

-- such a code has no parameters
pub asks_alone : (b : ℕ) → asks (meaning_of b) ≡ true → parameters_of b ≡ 0
unfolding every table line
asks_alone b h = eqb-true (parameters_of b) 0 (subst (λ (t : Bool). cond t (eqb (parameters_of b) 0) true ≡ true) h
    (find_passes (λ e. cond (asks e.meaning) (eqb e.parameters 0) true) table b refl refl))

-- and is whole at once
pub fed_alone : (b : ℕ) → parameters_of b ≡ 0 → feed no_command b ≡ whole b zeros
unfolding begin feed
fed_alone b h = rw h

either : (t : Bool) (σ : Settings) → cond t σ σ ≡ σ
either true σ = refl
either false σ = refl

-- it changes no setting
asks_only : (m : Meaning) (σ : Settings) → asks m ≡ true → settings_then m zeros σ ≡ σ
unfolding executed sets settings_then
asks_only Nothing σ h = refl
asks_only Memory σ h = refl
asks_only Pause σ h = refl
asks_only Reset σ h = refl
asks_only (OfMouse m) σ h = absurd (true≢false (sym h))
asks_only (OfStick k) σ h = absurd (true≢false (sym h))
asks_only (OfOther o) σ h = absurd (true≢false (sym h))
asks_only (Inquire q) σ h = either (not (monitors σ.stick)) σ

-- an inquiry or a code that does nothing changes neither the settings nor the place between commands
pub still : (b : ℕ) (σ : Settings) → asks (meaning_of b) ≡ true → eat (at_rest σ) b ≡ at_rest σ
unfolding settings_after command_after
still b σ h = rw (fed_alone b (asks_alone b h), asks_only (meaning_of b) σ h)

-- nor do several
pub quiet : (c : Core) (bs : List ℕ) → Between c.command → ((b : ℕ) → Memᴰ b bs → asks (meaning_of b) ≡ true) →
    ((eats c bs).settings ≡ c.settings) × Between (eats c bs).command
quiet c [] h only = (refl, h)
quiet c (b ∷ bs) h only =
    let e : eat c b ≡ at_rest c.settings = eat_between c b h ∙ still b c.settings (only b (Memᴰ.head refl)) in
    subst (λ (d : Core). ((eats d bs).settings ≡ c.settings) × Between (eats d bs).command) (sym e)
    (quiet (at_rest c.settings) bs refl (λ x m. only x (Memᴰ.tail m)))
