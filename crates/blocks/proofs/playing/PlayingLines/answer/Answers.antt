-- By what feeding a text comes to.
use Rattle.std.proofs.Common.{◌≡◌, ℕ, length, take, subst, arith}
use Rattle.controller.specs.State.{most_due}
use Rattle.session.proofs.Feeding.{count_within, lines_few}
use Rattle.blocks.specs.Playing.{Plays}
use Rattle.blocks.proofs.Feeding.{plays}
use Rattle.blocks.proofs.playing.PlayingLines.answer.Goals as goal

pub returns-clause-within : goal.returns-clause-within
returns-clause-within c = (c.feed-fed.ensures.within, omega (arith, count_within c.feed-fed.ensures, c.feed-fed.auto.out))

pub returns-clause-numbered : goal.returns-clause-numbered
returns-clause-numbered c = lines_few c.feed-fed.ensures

pub returns-clause-answers : goal.returns-clause-answers
returns-clause-answers c =
    let long : length c.args.self.now.lent ≡ most_due = omega arith in
    let fed = c.feed-fed in
    subst (λ (n : ℕ). Plays n c.args.self.now.session c.args.text.now fed.result.used (take fed.result.count fed.new.out) fed.result.session) long
    (plays fed.ensures (omega arith))
