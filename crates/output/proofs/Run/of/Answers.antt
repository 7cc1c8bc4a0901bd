use mathlib.Core.Path.{refl}
use lib.ListN.{replicate}
use lib.Seq.{paste, take-length}
use Rattle.std.proofs.lemmas.List.{drop-replicate}
use Rattle.std.proofs.Common.{rules, ◌≡◌, ◌≤◌, ℕ, List, length}
use Rattle.output.specs.declared.Run.{Run}
use Rattle.output.specs.Short.{run_of}
use Rattle.output.specs.Writing.{over}
use Rattle.output.proofs.Writing.{over_paste}
use Rattle.output.proofs.Run.of.Goals as goal

-- zeros, and all of these bytes pasted at their start
pasted : (n m : ℕ) (bs : List ℕ) {made : List ℕ} {i : ℕ} → length bs ≡ m → m ≤ n → i ≡ m → made ≡ paste (replicate n 0) 0 bs i
    → ◌≡◌ {A = Run n} (record { bytes = made; len = m }) (run_of n bs)
unfolding over
pasted n m bs e h k made_is =
    rw (made_is, k, ← e, over_paste (replicate n 0) bs (length bs) (search rules), take-length, drop-replicate) refl

pub returns : goal.returns
returns g c = pasted g.row.N g.row.M c.args.some {i = c.loop-i.i} (search rules) c.requires (search rules) c.loop-i.invariant.1
