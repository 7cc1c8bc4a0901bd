use Prim.Native.Nat.{ℕ}
use mathlib.Core.Path.{sym, ap, ◌∙◌}
use mathlib.Core.Bool.{Bool, cond}
use mathlib.Core.List.{[], ◌∷◌}
use Rattle.output.specs.ScanCodes.{code_sent}
use Rattle.output.specs.Packets.{scan, bytes}
use Rattle.output.specs.Short.{short_of}
use Rattle.controller.specs.Events.{key_packets}
use Rattle.controller.proofs.event.key_bytes.Goals as goal

pub returns-then-is_monitoring : goal.returns-then-is_monitoring
unfolding key_packets
returns-then-is_monitoring c =
    let monitored = sym c.is_monitoring.ensures ∙ c.if-is_monitoring.true in
    c.of.ensures
    ∙ ap (λ (t : Bool). short_of (bytes (cond t [] (scan (code_sent c.args.code c.args.down) ∷ [])))) (sym monitored)

pub returns : goal.returns
unfolding key_packets
returns c =
    let heard = sym c.is_monitoring.ensures ∙ c.if-is_monitoring.false in
    c.of-2.ensures
    ∙ ap (λ (b : ℕ). short_of (b ∷ [])) c.code_sent.ensures
    ∙ ap (λ (t : Bool). short_of (bytes (cond t [] (scan (code_sent c.args.code c.args.down) ∷ [])))) (sym heard)
