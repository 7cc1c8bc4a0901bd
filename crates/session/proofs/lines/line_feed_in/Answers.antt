use borrow.Author.Rules.{rules}
use borrow.Author.Tests.{tests}
use mathlib.Core.Path.{◌≡◌}
use Rattle.std.proofs.lemmas.Iterator.{IsFirst-from_position, YieldsList-from_slice}
use Rattle.text.specs.Line.{line_feed}
use Rattle.session.proofs.Ended.{first_feed}
use Rattle.session.proofs.lines.line_feed_in.Goals as goal

pub returns-clause-place : goal.returns-clause-place
returns-clause-place c =
    first_feed c.args.text.now c.position.result
    (IsFirst-from_position _ _ _ (λ b. b ≡ line_feed) (λ b. b ≡ line_feed → ⊥) c.position.ensures.ran (YieldsList-from_slice c.args.text.now c.iter.ensures.rest) (λ x q k. search (rules, tests)) (λ x q k. search (rules, tests)))
