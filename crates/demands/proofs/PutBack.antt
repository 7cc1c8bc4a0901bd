-- Demand 3: what the status replies say can be put back.
-- Assumes nothing.
use Prim.Native.Nat.{ℕ}
use mathlib.Core.Path.{ap, ◌∙◌, fun_ext}
use mathlib.Core.List.{List}
use Rattle.protocol.specs.Replies.{in_order}
use Rattle.protocol.proofs.Core.{Core, eats}
use Rattle.protocol.proofs.PutBack as protocol
use Rattle.demands.specs.Demand3.{Demand3}
use Rattle.demands.proofs.Core.{core, run_core}
use Rattle.demands.proofs.Asking.{kept_is}

-- demand 3
pub put_back : Demand3
put_back s asking kept t sending S T A B =
    ap (λ (c : Core). c.settings) (run_core t sending)
    ∙ ap (λ (bs : List ℕ). (eats (core t) bs).settings)
    (B.exactly ∙ ap (in_order s.settings.port0) (fun_ext (kept_is s asking kept A)))
    ∙ protocol.put_back s.settings (core t) S.ranges.settings.action A.outside B.between
