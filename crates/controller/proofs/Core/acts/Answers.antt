use Prim.Native.Nat.{ℕ}
use mathlib.Core.Path.{◌≡◌, refl, sym, ap, ◌∙◌}
use mathlib.Core.Logic.{◌⊎◌, inl, inr}
use mathlib.Core.List.{List, [], append-nil}
use Rattle.output.specs.Packets.{Packet, bytes, bytes_of}
use Rattle.output.specs.Short.{short_of}
use Rattle.protocol.specs.Replies.{reply}
use Rattle.mouse.specs.declared.Commanded.{Commanded}
use Rattle.mouse.specs.Commands.{commanded}
use Rattle.mouse.proofs.Dues.{others_due, commanded_sends}
use Rattle.protocol.specs.declared.Meaning.{Meaning}
use Rattle.protocol.specs.declared.Meaning.TheVariants.{Nothing, Memory, Pause, Reset}
use Rattle.sticks.specs.declared.SticksTold.{SticksTold}
use Rattle.controller.specs.declared.Acted.{Acted}
use Rattle.controller.specs.declared.Core.{Core}
use Rattle.controller.specs.Handing.{acted_of}
use Rattle.controller.specs.Host.{effect, mouse_effect, stick_effect}
use Rattle.controller.proofs.Core.acts.Goals as goal

-- codes that do nothing, and those that touch no part
silent_effect : (k : Core) (ps : List ℕ) {m : Meaning} → (m ≡ Nothing) ⊎ ((m ≡ Memory) ⊎ ((m ≡ Pause) ⊎ (m ≡ Reset))) →
    acted_of (effect m ps k.settings k.mouse k.sticks k.clock) ≡ record { short = short_of []; mouse = k.mouse; sticks = k.sticks; clock = k.clock }
unfolding effect
silent_effect k ps (inl e) = rw e refl
silent_effect k ps (inr (inl e)) = rw e refl
silent_effect k ps (inr (inr (inl e))) = rw e refl
silent_effect k ps (inr (inr (inr e))) = rw e refl

pub returns-in-OfMouse : goal.returns-in-OfMouse
unfolding effect mouse_effect
returns-in-OfMouse c =
    let k = c.args.self in
    let e = c.commanded-done.ensures in
    let d = commanded c.in-OfMouse.c c.args.params k.settings.mouse k.mouse in
    let o = others_due d (commanded_sends c.in-OfMouse.c c.args.params k.settings.mouse k.mouse) in
    let f = ap (λ (x : Commanded). x.short) e ∙ ap (λ (ps : List Packet). short_of (bytes ps)) (sym o) in
    rw c.in-OfMouse.is (λ i. record { short = f i; mouse = (e i).mouse; sticks = c.mouse_commanded.ensures i; clock = k.clock })

pub returns-in-OfStick : goal.returns-in-OfStick
unfolding effect stick_effect
returns-in-OfStick c =
    let e = c.commanded-done-in-OfStick.ensures in
    let z = c.sends.ensures in
    let f = ap (λ (x : Acted). x.short) z ∙ ap (λ (x : SticksTold). x.short) e in
    rw c.in-OfStick.is (λ i. record { short = f i; mouse = (z i).mouse; sticks = (e i).sticks; clock = (z i).clock })

pub returns-in-OfOther : goal.returns-in-OfOther
unfolding effect
returns-in-OfOther c = rw c.in-OfOther.is c.acts_otherwise.ensures

pub returns-in-Inquire : goal.returns-in-Inquire
unfolding effect
returns-in-Inquire c =
    let k = c.args.self in
    rw c.in-Inquire.is
    (c.sends-in-Inquire.ensures
    ∙ (λ i. record { short = (c.reply.ensures ∙ ap short_of (sym (append-nil (bytes_of (reply c.in-Inquire.q k.settings))))) i; mouse = k.mouse; sticks = k.sticks; clock = k.clock }))

pub returns-in-Nothing : goal.returns-in-Nothing
unfolding effect
returns-in-Nothing c =
    let k = c.args.self in
    c.sends-in-Nothing.ensures ∙ (λ i. record { short = c.of.ensures i; mouse = k.mouse; sticks = k.sticks; clock = k.clock }) ∙ sym (silent_effect k c.args.params c.in-Nothing.is)
