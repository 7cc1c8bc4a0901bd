-- One block behind the other, up to the end of the input.
use Rattle.std.proofs.Common.{rules, ◌≡◌, ℕ, ◌≤◌, ◌<◌, length, take, drop, [], ◌++◌, subst, arith}
use Rattle.std.proofs.lemmas.List.{length-take-le}
use Rattle.blocks.specs.Blocks.{Blocks, no_block, at_the_limit}
use Rattle.blocks.proofs.Known.{wrote_nothing, wrote_more, read_nothing, read_more, read_no_more}
use Rattle.blocks.proofs.Fronts.{none_came}
use Rattle.blocks.proofs.Turns.{one_more, ended}
use Rattle.blocks.proofs.run.Goals as goal

pub loop-block-init : goal.loop-block-init
loop-block-init g c = record {
  kept = c.requires.room.0;
  ready = c.requires.ready;
  numbered = omega arith;
  ran = ([], [], no_block, read_nothing (g.R.Read.remaining c.args.input.now), wrote_nothing (g.W.Write.contents c.args.output.now));
}

pub returns-then-n-kept-clause-ran : goal.returns-then-n-kept-clause-ran
returns-then-n-kept-clause-ran g c =
    let ran = c.loop-block.invariant.ran in
    let answered = c.in_ok-answer.ensures.answered in
    let none = none_came c.loop-block.kept c.read_on-n.result c.read_on-n.new.block c.if-n-kept.true in (
      ran.0,
      ran.1 ++ answered.0,
      ended _ _ _ _ c.args.most_blocks c.loop-block._block c.loop-block.kept c.finish-end.result c.in_ok-answer.field-0 _ _ _ c.loop-block.block c.read_on-n.new.block
          c.finish-end.new.block _ _ ran.2 c.read_on-n.ensures.keeps (omega arith) c.finish-end.ensures.whole answered.1,
      read_no_more _ _ _ _ _ ran.3 c.read_on-n.ensures.bytes none,
      wrote_more _ _ _ _ _ ran.4 answered.2,
    )

pub loop-block-preserved : goal.loop-block-preserved
loop-block-preserved g c =
    let i = c.loop-block.invariant in
    let read = c.read_on-n.ensures in
    let answered = c.in_ok-used.ensures in
    let there : c.read_on-n.result ≤ length c.read_on-n.new.block = omega arith in
    let some : c.loop-block.kept < c.read_on-n.result = omega arith in
    let left = rw c.MOST_KEPT.ensures at c.keep_most-kept.ensures in
    record {
      kept = left.few;
      ready = search rules;
      numbered = omega (arith, i.numbered, answered.numbered, answered.within, length-take-le c.read_on-n.result c.read_on-n.new.block there);
      ran = (
        i.ran.0 ++ drop c.loop-block.kept (take c.read_on-n.result c.read_on-n.new.block),
        i.ran.1 ++ answered.answered.0,
        one_more _ _ _ _ c.loop-block._block c.loop-block.kept c.read_on-n.result c.keep_most-kept.result c.in_ok-used.used _ _ _ c.loop-block.block c.read_on-n.new.block
            c.keep_most-kept.new.block _ _ i.ran.2 read.keeps some there answered.answered.1 left.kept,
        read_more _ _ _ _ _ i.ran.3 read.bytes,
        wrote_more _ _ _ _ _ i.ran.4 answered.answered.2,
      );
    }

pub returns-clause-ran : goal.returns-clause-ran
returns-clause-ran g c =
    let ran = c.loop-block.invariant.ran in
    let all : c.loop-block._block ≡ c.args.most_blocks = omega arith in
    let blocks = subst
    (λ (n : ℕ). Blocks g.L.Lines.answers g.L.Lines.MOST_KEPT c.args.lines.now (take c.args.kept c.args.block.now) n ran.0 ran.1 (take c.loop-block.kept c.loop-block.block) c.loop-block.lines)
    all ran.2 in
    (ran.0, ran.1, at_the_limit blocks, ran.3, ran.4)
