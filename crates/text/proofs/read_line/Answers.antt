use Prim.Native.Char.{code}
use Rattle.std.proofs.Common.{arith}
use Rattle.text.specs.Line.{kind}
use Rattle.text.proofs.Letters.{tick, by_kind}
use Rattle.text.proofs.read_line.Goals as goal

pub returns-in-84 : goal.returns-in-84
returns-in-84 c = tick c.args.text.now (omega arith) (omega arith) (omega arith)

pub returns-in-66 : goal.returns-in-66
unfolding kind
returns-in-66 c = by_kind c.args.text.now (omega arith) (omega arith) _ (code "B") (omega arith) (λ e. omega arith) c.byte_line.ensures

pub returns-in-75 : goal.returns-in-75
unfolding kind
returns-in-75 c = by_kind c.args.text.now (omega arith) (omega arith) _ (code "K") (omega arith) (λ e. omega arith) c.key_line.ensures

pub returns-in-76 : goal.returns-in-76
unfolding kind
returns-in-76 c = by_kind c.args.text.now (omega arith) (omega arith) _ (code "L") (omega arith) (λ e. omega arith) c.button_line.ensures

pub returns-in-82 : goal.returns-in-82
unfolding kind
returns-in-82 c = by_kind c.args.text.now (omega arith) (omega arith) _ (code "R") (omega arith) (λ e. omega arith) c.button_line-in-82.ensures

pub returns-in-77 : goal.returns-in-77
unfolding kind
returns-in-77 c = by_kind c.args.text.now (omega arith) (omega arith) _ (code "M") (omega arith) (λ e. omega arith) c.motion_line.ensures

pub returns-in-83 : goal.returns-in-83
unfolding kind
returns-in-83 c = by_kind c.args.text.now (omega arith) (omega arith) _ (code "S") (omega arith) (λ e. omega arith) c.stick_line.ensures

pub returns-in-70 : goal.returns-in-70
unfolding kind
returns-in-70 c = by_kind c.args.text.now (omega arith) (omega arith) _ (code "F") (omega arith) (λ e. omega arith) c.sample_line.ensures
