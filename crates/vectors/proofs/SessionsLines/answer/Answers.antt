-- The line ends within the text.
use Rattle.std.proofs.Common.{arith}
use Rattle.session.proofs.Feeding.{line_within}
use Rattle.vectors.proofs.SessionsLines.answer.Goals as goal

pub print-count-requires-clause-line : goal.print-count-requires-clause-line
print-count-requires-clause-line c =
    let within = line_within c.args.text.now 0 (omega arith) in
    (omega (arith, c.line_end-n.ensures), omega (arith, c.line_end-n.ensures, c.if-n-text.false, within))

pub print-count-requires-clause-numbered : goal.print-count-requires-clause-numbered
print-count-requires-clause-numbered c =
    omega (arith, c.requires.numbered, c.line_end-n.ensures, c.if-n-text.false, line_within c.args.text.now 0 (omega arith))

pub overflow_add-result : goal.overflow_add-result
overflow_add-result c =
    omega (arith, c.requires.numbered, c.line_end-n.ensures, c.if-n-text.false, line_within c.args.text.now 0 (omega arith))

pub returns-clause-within : goal.returns-clause-within
returns-clause-within c = (
  omega (arith, c.line_end-n.ensures, c.if-n-text.false, line_within c.args.text.now 0 (omega arith)),
  omega (arith, c.print-count.ensures.within),
)
