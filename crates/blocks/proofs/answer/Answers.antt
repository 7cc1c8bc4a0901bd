-- One part behind the other.
use Rattle.std.proofs.Common.{rules, ◌≡◌, ℕ, length, take, drop, [], ◌++◌, subst, sym, arith}
use Rattle.std.proofs.lemmas.List.{take_rest, length-drop}
use Rattle.blocks.specs.Blocks.{Parts, none_yet, part_then, Answered, to_the_end, none_follows}
use Rattle.blocks.proofs.Known.{wrote_nothing, wrote_more}
use Rattle.blocks.proofs.answer.Goals as goal

pub loop-from-init : goal.loop-from-init
loop-from-init g c = record {
  within = omega arith;
  ready = c.requires.ready;
  numbered = omega arith;
  answered = ([], none_yet, wrote_nothing (g.W.Write.contents c.args.output.now));
}

pub returns-then-part-eq0-clause-answered : goal.returns-then-part-eq0-clause-answered
returns-then-part-eq0-clause-answered g c =
    let done = c.loop-from.invariant.answered in
    let part = c.answer-part.ensures.answers in
    let printed = take c.answer-part.result.count c.answer-part.new.out in
    let none : g.L.Lines.answers c.loop-from.lines (drop c.loop-from.from c.args.block.now) 0 printed c.answer-part.new.self =
    rw (take_rest, c.if-part-eq0.true) at part in
    (done.0, none_follows done.1 none, done.2)

pub loop-from-preserved : goal.loop-from-preserved
loop-from-preserved g c =
    let i = c.loop-from.invariant in
    let part = c.answer-part.ensures in
    let printed = take c.answer-part.result.count c.answer-part.new.out in
    let some : g.L.Lines.answers c.loop-from.lines (drop c.loop-from.from c.args.block.now) c.answer-part.result.used printed c.answer-part.new.self =
    rw take_rest at part.answers in
    record {
      within = omega (arith, length-drop c.loop-from.from c.args.block.now, part.within);
      ready = search rules;
      numbered = omega (arith, i.numbered, part.numbered);
      answered = (i.answered.0 ++ printed, part_then i.answered.1 some (omega arith), wrote_more _ _ _ _ _ i.answered.2 c.in_ok-write_all.ensures.bytes);
    }

pub returns-clause-answered : goal.returns-clause-answered
returns-clause-answered g c =
    let done = c.loop-from.invariant.answered in
    let all : c.loop-from.from ≡ length c.args.block.now = omega arith in (
      done.0,
      subst (λ (n : ℕ). Answered g.L.Lines.answers c.args.lines.now c.args.block.now n done.0 c.loop-from.lines) (sym all)
          (to_the_end (subst (λ (n : ℕ). Parts g.L.Lines.answers c.args.lines.now c.args.block.now n done.0 c.loop-from.lines) all done.1)),
      done.2,
    )
