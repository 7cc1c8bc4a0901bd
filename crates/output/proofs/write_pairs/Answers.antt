use Rattle.std.proofs.Common.{rules}
use Prim.Native.Nat.{ℕ, ◌+◌, ◌*◌, ◌≤◌}
use native.Mathlib.Numerals.{add-one}
use native.Mathlib.Omega.{arith}
use mathlib.Core.Path.{◌≡◌, refl}
use mathlib.Core.List.{List, [], ◌∷◌}
use lib.ListN.{length, set, length-set}
use Rattle.output.specs.ScanCodes.{break_of}
use Rattle.output.specs.Packets.{bytes, pairs}
use Rattle.output.specs.Writing.{over}
use Rattle.output.proofs.Packets.{pairs_more, pairs_length}
use Rattle.output.proofs.Writing.{over_nil, over_more}
use Rattle.output.proofs.write_pairs.Goals as goal

-- a turn stores one pair past those that stand there
pair-stored : (l out : List ℕ) (i at make : ℕ) → out ≡ over (bytes (pairs i make)) l → at ≡ 2 * i → at + 2 ≤ length l
    → set (set out at make) (at + 1) (break_of make) ≡ over (bytes (pairs (i + 1) make)) l
pair-stored l out i at make e p room =
    let n : at ≡ length (bytes (pairs i make)) = omega (arith, pairs_length i make) in
    rw (e, n, add-one i, add-one (length (bytes (pairs i make))), pairs_more)
    (over_more (make ∷ break_of make ∷ []) (bytes (pairs i make)) l (omega arith))

pub loop-init : goal.loop-init
unfolding pairs
loop-init c = (refl, refl, over_nil c.args.out.now)

pub loop-preserved : goal.loop-preserved
loop-preserved c =
    let l = c.loop in
    let a = c.args in
    (omega arith, simp length-set l.invariant.1, pair-stored a.out.now l.out l.counter l.at a.make l.invariant.2 l.invariant.0 (search rules))

pub returns : goal.returns
returns c =
    let l = c.loop in
    let a = c.args in
    let e : l.counter ≡ a.n = search rules in
    record {
      count = omega (arith, pairs_length a.n a.make);
      buffer = rw (← e) l.invariant.2;
    }
