use mathlib.Core.Path.{refl, ◌∙◌}
use lib.Seq.{take-length}
use Rattle.std.proofs.Common.{rules, ◌≡◌, length}
use Rattle.output.specs.Writing.{over}
use Rattle.output.proofs.Writing.{over_paste}
use Rattle.output.proofs.copy.Goals as goal

pub returns : goal.returns
returns c =
    let a = c.args in
    let e : c.loop-i.i ≡ length a.bytes.now = search rules in
    record {
      count = refl;
      buffer = rw (c.loop-i.invariant.0, e) (over_paste a.out.now a.bytes.now (length a.bytes.now) (search rules)
          ∙ (λ i. over (take-length a.bytes.now i) a.out.now));
    }
