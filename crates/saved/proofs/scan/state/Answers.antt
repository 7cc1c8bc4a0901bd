use mathlib.Core.Path.{sym, ap, ◌∙◌}
use Rattle.std.specs.Prelude.{Some}
use Rattle.saved.proofs.Deciding.{no_numbers, unfit, no_map, too_long, queue_good, other_end, this_line}
use Rattle.saved.proofs.scan.state.Goals as goal

pub returns-in_err-numbers : goal.returns-in_err-numbers
returns-in_err-numbers c = c.from_residual.ensures ∙ no_numbers c.args.line.now c.in_err-numbers.ensures

pub returns-then-not-all_fit : goal.returns-then-not-all_fit
returns-then-not-all_fit c = unfit c.args.line.now c.in_ok-numbers.numbers c.in_ok-numbers.rest.now c.in_ok-numbers.ensures (sym c.all_fit.ensures ∙ c.if-not-all_fit.true)

pub returns-in_err-keys : goal.returns-in_err-keys
returns-in_err-keys c = c.from_residual-in_err-keys.ensures ∙ no_map c.args.line.now c.in_ok-numbers.numbers c.in_ok-numbers.rest.now c.in_ok-numbers.ensures (sym c.all_fit.ensures ∙ c.if-not-all_fit.false) c.in_err-keys.ensures

pub returns-then-most_queued-queue : goal.returns-then-most_queued-queue
returns-then-most_queued-queue c = too_long c.args.line.now c.in_ok-numbers.numbers c.in_ok-numbers.rest.now c.in_ok-numbers.ensures (sym c.all_fit.ensures ∙ c.if-not-all_fit.false) c.in_ok-keys.keys c.in_ok-keys.tail.now c.in_ok-keys.ensures c.queue-queue.result c.queue-queue.ensures c.most_queued.result c.most_queued.ensures c.if-most_queued-queue.true

pub is_queue-requires : goal.is_queue-requires
is_queue-requires c = queue_good c.args.line.now c.in_ok-numbers.numbers c.in_ok-numbers.rest.now c.in_ok-numbers.ensures (sym c.all_fit.ensures ∙ c.if-not-all_fit.false) c.in_ok-keys.keys c.in_ok-keys.tail.now c.in_ok-keys.ensures c.queue-queue.result c.queue-queue.ensures c.most_queued.result c.most_queued.ensures

pub returns-then-not-is_queue : goal.returns-then-not-is_queue
returns-then-not-is_queue c = other_end c.args.line.now c.in_ok-numbers.numbers c.in_ok-numbers.rest.now c.in_ok-numbers.ensures (sym c.all_fit.ensures ∙ c.if-not-all_fit.false) c.in_ok-keys.keys c.in_ok-keys.tail.now c.in_ok-keys.ensures c.queue-queue.result c.queue-queue.ensures c.most_queued.result c.most_queued.ensures c.if-most_queued-queue.false c.is_queue.result c.is_queue.ensures c.if-not-is_queue.true

pub returns : goal.returns
returns c = ap Some c.state_from.ensures ∙ this_line c.args.line.now c.in_ok-numbers.numbers c.in_ok-numbers.rest.now c.in_ok-numbers.ensures (sym c.all_fit.ensures ∙ c.if-not-all_fit.false) c.in_ok-keys.keys c.in_ok-keys.tail.now c.in_ok-keys.ensures c.queue-queue.result c.queue-queue.ensures c.most_queued.result c.most_queued.ensures c.if-most_queued-queue.false c.is_queue.result c.is_queue.ensures c.if-not-is_queue.false
