-- One line behind the other.
use native.Mathlib.Omega.{arith}
use Rattle.packets.proofs.Lines.{none_yet, number_most, end_within, no_more, line_lent, turn, none_printed, listed}
use Rattle.packets.proofs.WaitingLines.answer.Goals as goal

pub loop-out-init : goal.loop-out-init
loop-out-init c = record { so_far = none_yet _ _ _ c.requires.ready.1; waits = c.requires.ready.0 }

pub returns-then-end-text-clause-numbered : goal.returns-then-end-text-clause-numbered
returns-then-end-text-clause-numbered c = number_most _ _ _ c.loop-out.invariant.so_far

pub returns-then-end-text-clause-answers : goal.returns-then-end-text-clause-answers
returns-then-end-text-clause-answers c =
    let s = c.loop-out.invariant.so_far in
    listed _ _ _ s (no_more _ _ _ s c.line_end-end.ensures c.if-end-text.true)

pub slice_bounds-line-end : goal.slice_bounds-line-end
slice_bounds-line-end c = end_within _ _ _ c.loop-out.invariant.so_far c.line_end-end.ensures

pub overflow_add-self : goal.overflow_add-self
overflow_add-self c =
    let s = c.loop-out.invariant.so_far in
    let end = end_within _ _ _ s c.line_end-end.ensures in
    omega (arith, number_most _ _ _ s, c.requires.numbered, c.line_end-end.ensures, end, c.if-end-text.false)

pub loop-out-preserved : goal.loop-out-preserved
loop-out-preserved c =
    let s = c.loop-out.invariant.so_far in
    let end = end_within _ _ _ s c.line_end-end.ensures in
    let done = c.list_line-done.ensures in
    record {
      so_far =
          turn _ _ _ s c.line_end-end.ensures (omega (arith, end, c.if-end-text.false)) (line_lent c.args.text.now c.loop-out.part.used c.line_end-end.ensures)
          c.loop-out.auto.out done.lists_line done.fits;
      waits = omega (arith, done.lists_line.within);
    }

pub returns-clause-numbered : goal.returns-clause-numbered
returns-clause-numbered c = number_most _ _ _ c.loop-out.invariant.so_far

pub returns-clause-answers : goal.returns-clause-answers
returns-clause-answers c =
    let s = c.loop-out.invariant.so_far in
    listed _ _ _ s (λ z. absurd (omega (arith, none_printed _ _ _ s z, c.loop-out-test.false, c.requires.ready.2, c.loop-out.auto.out)))
