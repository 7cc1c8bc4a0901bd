use native.Mathlib.Omega.{arith}
use mathlib.Core.Path.{◌≡◌, refl, sym, ◌∙◌}
use mathlib.Core.Bool.{true, false, true≢false}
use mir.Syntax.{w16}
use mir.ValLaws.{to_z-of_z}
use Rattle.mouse.specs.Handing.{moved_of}
use Rattle.controller.specs.declared.Input.TheVariants.{Move}
use Rattle.controller.specs.Events.{event, map_after}
use Rattle.controller.specs.Step.{due, in_range, too_far}
use Rattle.mouse.specs.Moves.{moves, overflows}
use Rattle.controller.proofs.Lengths.{event_most}
use Rattle.controller.proofs.Hosts.{within_limit}
use Rattle.controller.proofs.Applying.{Given, state_of, for_result, range_as, far_as, taken_as, refused_as, moved_comes, motion_fits}
use Rattle.controller.proofs.Core.motion.Goals as goal
use Rattle.controller.proofs.Core.motion.Goals.{else-self-via-then-self+else-overflows, else-self-via-else-self}

pub returns-then-not-move_in_range : goal.returns-then-not-move_in_range
unfolding due
returns-then-not-move_in_range c =
    let g : Given = record { core = c.args.self; waiting = c.args.waiting; queue = c.args.queue.now; out = c.args.out.now; good = c.requires } in
    let k = c.args.self in
    let x = to_z-of_z w16 c.args.dx (record { sfits = c.ranges.dx.sfits }) in
    let y = to_z-of_z w16 c.args.dy (record { sfits = c.ranges.dy.sfits }) in
    let range : c.move_in_range.result ≡ in_range (Move c.args.dx c.args.dy) = c.move_in_range.ensures ∙ (λ j. in_range (Move (x j) (y j))) in
    for_result g (Move c.args.dx c.args.dy) c.answers.ensures (range_as g (Move c.args.dx c.args.dy) (refl, tt) (sym range ∙ c.if-not-move_in_range.true))

pub overflows-requires : goal.overflows-requires
overflows-requires c =
    let g : Given = record { core = c.args.self; waiting = c.args.waiting; queue = c.args.queue.now; out = c.args.out.now; good = c.requires } in
    let k = c.args.self in
    within_limit (state_of g) c.requires

pub returns-then-overflows : goal.returns-then-overflows
unfolding due too_far
returns-then-overflows c =
    let g : Given = record { core = c.args.self; waiting = c.args.waiting; queue = c.args.queue.now; out = c.args.out.now; good = c.requires } in
    let k = c.args.self in
    let x = to_z-of_z w16 c.args.dx (record { sfits = c.ranges.dx.sfits }) in
    let y = to_z-of_z w16 c.args.dy (record { sfits = c.ranges.dy.sfits }) in
    let range : c.move_in_range.result ≡ in_range (Move c.args.dx c.args.dy) = c.move_in_range.ensures ∙ (λ j. in_range (Move (x j) (y j))) in
    for_result g (Move c.args.dx c.args.dy) c.answers-then-overflows.ensures
    (far_as g (Move c.args.dx c.args.dy) (refl, tt) (sym range ∙ c.if-not-move_in_range.false) c.if-self.true ((λ j. overflows k.settings (sym x j) (sym y j) k.mouse) ∙ sym c.overflows.ensures ∙ c.if-overflows.true))

pub moves-told-requires : goal.moves-told-requires
moves-told-requires c =
    let g : Given = record { core = c.args.self; waiting = c.args.waiting; queue = c.args.queue.now; out = c.args.out.now; good = c.requires } in
    let k = c.args.self in
    within_limit (state_of g) c.requires

pub send-answer-requires-clause-counted : goal.send-answer-requires-clause-counted
unfolding event
send-answer-requires-clause-counted c =
    let g : Given = record { core = c.args.self; waiting = c.args.waiting; queue = c.args.queue.now; out = c.args.out.now; good = c.requires } in
    let k = c.args.self in
    let x = to_z-of_z w16 c.args.dx (record { sfits = c.ranges.dx.sfits }) in
    let y = to_z-of_z w16 c.args.dy (record { sfits = c.ranges.dy.sfits }) in
    let range : c.move_in_range.result ≡ in_range (Move c.args.dx c.args.dy) = c.move_in_range.ensures ∙ (λ j. in_range (Move (x j) (y j))) in
    let told : c.moves-told.result ≡ moved_of (moves k.paused k.settings c.args.dx c.args.dy k.mouse) = c.moves-told.ensures ∙ (λ j. moved_of (moves k.paused k.settings (x j) (y j) k.mouse)) in
    let moved = moved_comes k.paused k.settings c.args.dx c.args.dy k.mouse k.sticks k.clock told in
    omega (arith, motion_fits moved (event_most (state_of g) (Move c.args.dx c.args.dy) c.requires (sym range ∙ c.if-not-move_in_range.false)))

pub returns-then-is_ok : goal.returns-then-is_ok
unfolding due event map_after too_far
returns-then-is_ok c =
    let g : Given = record { core = c.args.self; waiting = c.args.waiting; queue = c.args.queue.now; out = c.args.out.now; good = c.requires } in
    let k = c.args.self in
    let x = to_z-of_z w16 c.args.dx (record { sfits = c.ranges.dx.sfits }) in
    let y = to_z-of_z w16 c.args.dy (record { sfits = c.ranges.dy.sfits }) in
    let range : c.move_in_range.result ≡ in_range (Move c.args.dx c.args.dy) = c.move_in_range.ensures ∙ (λ j. in_range (Move (x j) (y j))) in
    let told : c.moves-told.result ≡ moved_of (moves k.paused k.settings c.args.dx c.args.dy k.mouse) = c.moves-told.ensures ∙ (λ j. moved_of (moves k.paused k.settings (x j) (y j) k.mouse)) in
    let near : k.paused ≡ true → too_far (Move c.args.dx c.args.dy) k.settings k.mouse ≡ false = (λ p.
    elim c.else-self.branch [ else-self-via-then-self+else-overflows w ↦ (λ j. overflows k.settings (sym x j) (sym y j) k.mouse) ∙ sym w.overflows.ensures ∙ w.if-overflows.false | else-self-via-else-self w ↦ absurd (true≢false (sym p ∙ w.if-self.false)) ]) in
    taken_as g (Move c.args.dx c.args.dy) (refl, tt) (sym range ∙ c.if-not-move_in_range.false) (moved_comes k.paused k.settings c.args.dx c.args.dy k.mouse k.sticks k.clock told) near c.send-answer.result c.send-answer.ensures (sym c.is_ok.ensures.value ∙ c.if-is_ok.true) (refl)

pub returns-else-is_ok : goal.returns-else-is_ok
unfolding due event map_after too_far
returns-else-is_ok c =
    let g : Given = record { core = c.args.self; waiting = c.args.waiting; queue = c.args.queue.now; out = c.args.out.now; good = c.requires } in
    let k = c.args.self in
    let x = to_z-of_z w16 c.args.dx (record { sfits = c.ranges.dx.sfits }) in
    let y = to_z-of_z w16 c.args.dy (record { sfits = c.ranges.dy.sfits }) in
    let range : c.move_in_range.result ≡ in_range (Move c.args.dx c.args.dy) = c.move_in_range.ensures ∙ (λ j. in_range (Move (x j) (y j))) in
    let told : c.moves-told.result ≡ moved_of (moves k.paused k.settings c.args.dx c.args.dy k.mouse) = c.moves-told.ensures ∙ (λ j. moved_of (moves k.paused k.settings (x j) (y j) k.mouse)) in
    let near : k.paused ≡ true → too_far (Move c.args.dx c.args.dy) k.settings k.mouse ≡ false = (λ p.
    elim c.else-self.branch [ else-self-via-then-self+else-overflows w ↦ (λ j. overflows k.settings (sym x j) (sym y j) k.mouse) ∙ sym w.overflows.ensures ∙ w.if-overflows.false | else-self-via-else-self w ↦ absurd (true≢false (sym p ∙ w.if-self.false)) ]) in
    refused_as g (Move c.args.dx c.args.dy) (refl, tt) (sym range ∙ c.if-not-move_in_range.false) (moved_comes k.paused k.settings c.args.dx c.args.dy k.mouse k.sticks k.clock told) near c.send-answer.result c.send-answer.ensures (sym c.is_ok.ensures.value ∙ c.if-is_ok.false)
