use Prim.Native.Nat.{ℕ, ◌≤◌}
use native.Mathlib.Omega.{arith}
use mathlib.Core.Path.{◌≡◌}
use mathlib.Core.List.{List, [], ◌∷◌}
use lib.ListN.{length, get_or, take, set}
use borrow.Author.Rules.{rules}
use Rattle.output.specs.Writing.{Wrote}
use Rattle.output.proofs.Writing.{stored}
use Rattle.output.proofs.Run.write.Goals as goal

-- a run of one byte
one-stored : (bytes l : List ℕ) {n : ℕ} → n ≡ 1 → 1 ≤ length bytes → 1 ≤ length l → Wrote (take n bytes) 1 l (set l 0 (get_or bytes 0 0))
one-stored [] l e h room = absurd (omega arith)
one-stored (b ∷ bytes) l e h room = rw e (stored b l room)

pub returns-then-self-eq1 : goal.returns-then-self-eq1
returns-then-self-eq1 g c =
    one-stored c.args.self.bytes c.args.out.now c.if-self-eq1.true (search rules) (omega (arith, c.requires, c.if-self-eq1.true))
