use Prim.Native.Nat.{ℕ, ◌-◌, ◌^◌}
use mathlib.Core.Path.{sym, ap, ◌∙◌}
use mathlib.Core.Bool.{Bool}
use lib.Bits.{bit_and}
use Rattle.keys.specs.Words.{put}
use Rattle.keys.proofs.Words.{power_is, and_put}
use Rattle.keys.proofs.put.Goals as goal

pub returns-else-on : goal.returns-else-on
returns-else-on c =
    let a = c.args in
    let b = c.requires in
    ap (λ (p : ℕ). bit_and a.word (2 ^ 64 - 1 - p)) (power_is a.bit b)
    ∙ and_put 64 a.bit a.word b c.ranges.word.fits
    ∙ ap (λ (on : Bool). put a.bit on a.word) (sym c.if-on.false)
