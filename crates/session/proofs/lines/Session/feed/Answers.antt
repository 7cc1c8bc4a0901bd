use Prim.Native.Nat.{ℕ, suc, ◌+◌, ◌-◌, ◌^◌, ◌≤◌, ◌<◌}
use native.Mathlib.Omega.{arith}
use mathlib.Core.List.{[]}
use mathlib.Core.Path.{◌≡◌, sym, ap, ◌∙◌, subst}
use mathlib.Core.Logic.{inl, inr}
use lib.ListN.{length, drop, length-take, length-drop}
use lib.Seq.{length-take-le}
use borrow.Author.Rules.{rules}
use Rattle.controller.specs.State.{IsState}
use Rattle.controller.specs.Applying.{joined}
use Rattle.text.specs.Fronts.{until}
use Rattle.text.specs.Line.{line_feed}
use Rattle.text.proofs.Fields.{rest_of}
use Rattle.text.proofs.Readings.{whole_read, unread_bad}
use Rattle.text.proofs.Shown.{line_fits}
use Rattle.session.proofs.Playing.{answer_most, bad_printed, bad_state, count_fits, as_long, good_fits, good_printed, good_state}
use Rattle.session.proofs.Feeding.{reading_start, number_most, fewer, no_more, turn, fed, same_number, again, wrote_within}
use Rattle.session.proofs.lines.Session.feed.Goals.{else-loop-out-test, then-loop-out-test+in-None+in_default}
use Rattle.session.proofs.lines.Session.feed.Goals as goal

pub loop-out-init : goal.loop-out-init
loop-out-init c = (reading_start _ _ _ _ (subst (λ k. IsState (joined k c.self.inside.state.queue.bytes c.self.inside.state.queue.len)) (sym c.core-core.ensures) c.self.invariant), search rules)

-- ---- a good line

pub slice_bounds-write_line-end : goal.slice_bounds-write_line-end
slice_bounds-write_line-end c =
    let good = whole_read _ _ _ c.in-Some.ensures in
    let state = joined c.loop-out.core c.loop-out.queue c.loop-out.waiting in
    let did = c.apply-done.ensures.did in
    omega (arith, count_fits state c.loop-out.number _ good.2 did c.unwrap_or-written.ensures, as_long state c.loop-out.number _ good.2 did)

pub slice_bounds-write_line-end-in-Some : goal.slice_bounds-write_line-end-in-Some
slice_bounds-write_line-end-in-Some c =
    let good = whole_read _ _ _ c.in-Some.ensures in
    let state = joined c.loop-out.core c.loop-out.queue c.loop-out.waiting in
    let did = c.apply-done.ensures.did in
    sym (length-take-le _ _ (omega (arith, count_fits state c.loop-out.number _ good.2 did c.unwrap_or-written.ensures, as_long state c.loop-out.number _ good.2 did)))

pub write_line-at-requires : goal.write_line-at-requires
write_line-at-requires c =
    let r = c.loop-out.invariant.0 in
    let good = whole_read _ _ _ c.in-Some.ensures in
    let state = joined c.loop-out.core c.loop-out.queue c.loop-out.waiting in
    let did = c.apply-done.ensures.did in
    let fits = count_fits state c.loop-out.number _ good.2 did c.unwrap_or-written.ensures in (
      subst (λ (a : ℕ). a ≤ 9) (sym c.number-answer.ensures) (answer_most c.apply-done.result.answer),
      good_fits state c.loop-out.number _ good.2 did c.unwrap_or-written.ensures _ (omega (arith, number_most _ _ _ _ r, c.requires.numbered, same_number c.self.view_is))
          (simp (length-take, length-drop) (omega (arith, c.loop-out-test.true, c.line_room-room.ensures, fits, c.loop-out.invariant.1, r.room, r.same))),
    )

pub overflow_add-at : goal.overflow_add-at
overflow_add-at c =
    let small : length c.args.out.now < 2 ^ 63 = search rules in
    let r = c.loop-out.invariant.0 in
    omega (arith, wrote_within c.write_line-at.ensures, c.write_line-at.auto.out, length-take (length c.loop-out.out - c.loop-out.at) (drop c.loop-out.at c.loop-out.out), r.room, r.same, small)

pub overflow_add-number : goal.overflow_add-number
overflow_add-number c =
    let good = whole_read _ _ _ c.in-Some.ensures in
    omega (arith, good.1, number_most _ _ _ _ c.loop-out.invariant.0, c.requires.numbered, same_number c.self.view_is)

pub loop-out-smaller-in-Some : goal.loop-out-smaller-in-Some
loop-out-smaller-in-Some c =
    let good = whole_read _ _ _ c.in-Some.ensures in
    fewer _ _ _ _ c.loop-out.invariant.0 good.1 good.0

pub loop-out-preserved-in-Some : goal.loop-out-preserved-in-Some
loop-out-preserved-in-Some c =
    let r = c.loop-out.invariant.0 in
    let good = whole_read _ _ _ c.in-Some.ensures in
    let state = joined c.loop-out.core c.loop-out.queue c.loop-out.waiting in
    let did = c.apply-done.ensures.did in (
      turn _ _ _ _ r good.1 good.0 c.loop-out.invariant.1 (omega (arith, number_most _ _ _ _ r, c.requires.numbered, same_number c.self.view_is)) (omega (arith, c.loop-out-test.true, c.line_room-room.ensures))
          (good_printed state c.loop-out.number _ good.2 did c.unwrap_or-written.ensures c.number-answer.ensures c.write_line-at.ensures) (good_state state c.loop-out.number _ good.2 did) c.apply-done.ensures.keeps,
      as_long state c.loop-out.number _ good.2 did ∙ c.loop-out.invariant.1,
    )

-- ---- a bad line

pub write_line-at-requires-in-None : goal.write_line-at-requires-in-None
write_line-at-requires-in-None c =
    let r = c.loop-out.invariant.0 in (
      omega arith,
      line_fits _ _ 0 [] (omega (arith, number_most _ _ _ _ r, c.requires.numbered, same_number c.self.view_is)) (omega arith)
          (simp (length-take, length-drop) (omega (arith, c.loop-out-test.true, c.line_room-room.ensures, c.loop-out.invariant.1, r.room, r.same))),
    )

pub overflow_add-at-in-None : goal.overflow_add-at-in-None
overflow_add-at-in-None c =
    let small : length c.args.out.now < 2 ^ 63 = search rules in
    let r = c.loop-out.invariant.0 in
    omega (arith, wrote_within c.write_line-at-in-None.ensures, c.write_line-at-in-None.auto.out, length-take (length c.loop-out.out - c.loop-out.at) (drop c.loop-out.at c.loop-out.out), r.room, r.same, small)

pub overflow_add-number-in-None : goal.overflow_add-number-in-None
overflow_add-number-in-None c =
    let found = c.in-Some-line_feed_in.ensures in
    omega (arith, found.within, number_most _ _ _ _ c.loop-out.invariant.0, c.requires.numbered, same_number c.self.view_is)

pub loop-out-preserved : goal.loop-out-preserved
loop-out-preserved c =
    let r = c.loop-out.invariant.0 in
    let found = c.in-Some-line_feed_in.ensures in
    let left = c.loop-out.rest.now in
    let far : c.in-Some-line_feed_in.end + 1 ≡ suc (length (until line_feed left)) = omega (arith, found.place) in
    let behind = rest_of (c.in-Some-line_feed_in.end + 1) left ∙ ap (λ (k : ℕ). drop k left) far in
    let bad = unread_bad left c.in-None.ensures (omega (arith, found.place, found.within)) in
    let state = joined c.loop-out.core c.loop-out.queue c.loop-out.waiting in (
      turn _ _ _ _ r (omega (arith, found.place, found.within)) behind c.loop-out.invariant.1 (omega (arith, number_most _ _ _ _ r, c.requires.numbered, same_number c.self.view_is)) (omega (arith, c.loop-out-test.true, c.line_room-room.ensures))
          (bad_printed state c.loop-out.number (length c.loop-out.lent) bad c.write_line-at-in-None.ensures) (bad_state state c.loop-out.number (length c.loop-out.lent) bad) r.keeps,
      c.loop-out.invariant.1,
    )

-- ---- no line, or no room

pub returns : goal.returns
returns c =
    let r = c.loop-out.invariant.0 in
    again c.self.view_is c.core-core.ensures (elim c.loop-out-test.branch [
      | else-loop-out-test w ↦ fed _ _ _ _ r c.with_queue.ensures (inr (omega (arith, w.loop-out-test.false, c.line_room-room.ensures, r.room, r.same)))
      | then-loop-out-test+in-None+in_default w ↦ fed _ _ _ _ r c.with_queue.ensures (inl (no_more _ _ _ _ r (omega (arith, w.in_default.ensures.place))))
    ])
