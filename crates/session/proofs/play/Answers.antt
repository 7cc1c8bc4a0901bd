use Prim.Native.Nat.{ℕ, ◌≤◌}
use native.Mathlib.Omega.{arith}
use mathlib.Core.List.{[]}
use mathlib.Core.Path.{sym, subst}
use lib.Seq.{length-take-le}
use Rattle.text.proofs.Readings.{whole_read, unread_bad}
use Rattle.text.proofs.Shown.{line_fits}
use Rattle.session.proofs.Playing.{answer_most, bad_printed, bad_state, count_fits, as_long, good_fits, good_printed, good_state}
use Rattle.session.proofs.play.Goals as goal

pub write_line-count-requires : goal.write_line-count-requires
write_line-count-requires c = (omega arith, line_fits _ _ 0 [] c.ranges.number.fits (omega arith) (omega (arith, c.requires.room)))

pub returns-in_default-clause-printed : goal.returns-in_default-clause-printed
returns-in_default-clause-printed c =
    let state = c.args.state in
    let number = c.args.number in
    let bad = unread_bad c.args.text.now c.in_default.ensures c.requires.line in bad_printed state number _ bad c.write_line-count.ensures

pub returns-in_default-clause-next : goal.returns-in_default-clause-next
returns-in_default-clause-next c =
    let state = c.args.state in
    let number = c.args.number in
    let bad = unread_bad c.args.text.now c.in_default.ensures c.requires.line in bad_state state number _ bad

pub slice_bounds-sent-end : goal.slice_bounds-sent-end
slice_bounds-sent-end c =
    let good = (whole_read c.args.text.now _ _ c.in-Some.ensures).2 in
    omega (arith, count_fits c.args.state c.args.number _ good c.step-done.ensures.did c.unwrap_or-written.ensures, as_long c.args.state c.args.number _ good c.step-done.ensures.did)

pub slice_bounds-sent-end-2 : goal.slice_bounds-sent-end-2
slice_bounds-sent-end-2 c =
    let good = (whole_read c.args.text.now _ _ c.in-Some.ensures).2 in
    sym (length-take-le _ _ (omega (arith, count_fits c.args.state c.args.number _ good c.step-done.ensures.did c.unwrap_or-written.ensures, as_long c.args.state c.args.number _ good c.step-done.ensures.did)))

pub write_line-count-requires-2 : goal.write_line-count-requires-2
write_line-count-requires-2 c =
    let state = c.args.state in
    let number = c.args.number in
    let good = (whole_read c.args.text.now _ _ c.in-Some.ensures).2 in
    (subst (λ (a : ℕ). a ≤ 9) (sym c.number-answer.ensures) (answer_most c.step-done.result.answer), good_fits state number _ good c.step-done.ensures.did c.unwrap_or-written.ensures _ c.ranges.number.fits c.requires.room)

pub returns-clause-printed : goal.returns-clause-printed
returns-clause-printed c =
    let state = c.args.state in
    let number = c.args.number in
    let good = (whole_read c.args.text.now _ _ c.in-Some.ensures).2 in
    let did = c.step-done.ensures in good_printed state number _ good did.did c.unwrap_or-written.ensures c.number-answer.ensures c.write_line-count-2.ensures

pub returns-clause-next : goal.returns-clause-next
returns-clause-next c =
    let state = c.args.state in
    let number = c.args.number in
    let good = (whole_read c.args.text.now _ _ c.in-Some.ensures).2 in
    let did = c.step-done.ensures in good_state state number _ good did.did
