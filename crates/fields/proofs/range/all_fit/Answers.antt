use Prim.Native.Nat.{ℕ}
use mathlib.Core.Bool.{◌&&◌}
use mathlib.Core.Path.{refl}
use lib.Dec.{leb}
use lib.ListN.{get_or}
use borrow.Author.Rules.{rules}
use borrow.Author.Tests.{tests}
use Rattle.std.proofs.lemmas.Iterator.{YieldsList-from_range}
use Rattle.std.proofs.lemmas.Iterator.Search.{all_from_yields_List}
use Rattle.fields.specs.Ranges.{gap_free}
use Rattle.fields.proofs.Bounding.{all_tested}
use Rattle.fields.proofs.range.all_fit.Goals as goal

pub returns : goal.returns
returns c =
    let a = c.args.a in
    let least = c.lows-least.result in
    let most = c.highs-most.result in
    all_tested 55 a least most c.all.result c.lows-least.ensures c.highs-most.ensures
    (all_from_yields_List (λ (i : ℕ). leb (get_or least i 0) (get_or a i 0) && (leb (get_or a i 0) (get_or most i 0) && gap_free i (get_or a i 0))) _ _ _ c.all.ensures.ran (YieldsList-from_range 0 55 55 refl refl) (λ x b q k. search (rules, tests)))
