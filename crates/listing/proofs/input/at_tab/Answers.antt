use Rattle.std.proofs.Common.{rules}
use borrow.Author.Tests.{tests}
use lib.Dec.{eqb}
use Rattle.std.proofs.lemmas.Iterator.{YieldsList-from_slice}
use Rattle.std.proofs.lemmas.Iterator.Search.{position_from_yields_List}
use Rattle.text.specs.Line.{tab}
use Rattle.listing.proofs.Reading.{no_tab, parted}
use Rattle.listing.proofs.input.at_tab.Goals as goal

pub returns-in_err-tab : goal.returns-in_err-tab
returns-in_err-tab c = rw c.from_residual.ensures (no_tab c.args.text.now (position_from_yields_List (λ b. eqb b tab) _ _ c.position.result c.position.ensures.ran (YieldsList-from_slice c.args.text.now cc) (λ x b q k. search (rules, tests))) c.in_err-tab.was)

pub returns : goal.returns
returns c = parted _ (position_from_yields_List (λ b. eqb b tab) _ _ c.position.result c.position.ensures.ran (YieldsList-from_slice c.args.text.now cc) (λ x b q k. search (rules, tests))) c.in_ok-tab.was
