use native.Mathlib.Omega.{arith}
use mathlib.Core.Path.{refl, sym, ◌∙◌}
use Rattle.controller.specs.declared.Input.TheVariants.{Button}
use Rattle.controller.specs.Events.{event, map_after}
use Rattle.controller.specs.Step.{due, in_range, too_far}
use Rattle.controller.proofs.Lengths.{event_most}
use Rattle.controller.proofs.Applying.{Given, state_of, taken_as, refused_as, fired_comes, pressed_comes, motion_fits}
use Rattle.controller.proofs.Core.button.Goals as goal

pub returns-then-is_ok : goal.returns-then-is_ok
unfolding due in_range event too_far map_after
returns-then-is_ok c =
    let g : Given = record { core = c.args.self; waiting = c.args.waiting; queue = c.args.queue.now; out = c.args.out.now; good = c.requires } in
    let k = c.args.self in
    taken_as g (Button c.args.side c.args.down) (refl, tt) refl (fired_comes k.settings c.args.side c.args.down k.mouse k.sticks k.clock (sym c.gives_fire.ensures ∙ c.if-gives_fire.true) c.fire_told-told.ensures refl) (λ _. refl) c.send-answer.result c.send-answer.ensures (sym c.is_ok.ensures.value ∙ c.if-is_ok.true) (λ j. record { settings = k.settings; keys = k.keys; clock = k.clock; mouse = c.with_level-self.ensures j; paused = k.paused; command = k.command; sticks = c.fire_told-told.result.sticks })

pub returns-else-is_ok : goal.returns-else-is_ok
unfolding due in_range event too_far map_after
returns-else-is_ok c =
    let g : Given = record { core = c.args.self; waiting = c.args.waiting; queue = c.args.queue.now; out = c.args.out.now; good = c.requires } in
    let k = c.args.self in
    refused_as g (Button c.args.side c.args.down) (refl, tt) refl (fired_comes k.settings c.args.side c.args.down k.mouse k.sticks k.clock (sym c.gives_fire.ensures ∙ c.if-gives_fire.true) c.fire_told-told.ensures refl) (λ _. refl) c.send-answer.result c.send-answer.ensures (sym c.is_ok.ensures.value ∙ c.if-is_ok.false)

pub send-answer-requires-2-clause-counted : goal.send-answer-requires-2-clause-counted
unfolding event in_range
send-answer-requires-2-clause-counted c =
    let g : Given = record { core = c.args.self; waiting = c.args.waiting; queue = c.args.queue.now; out = c.args.out.now; good = c.requires } in
    let k = c.args.self in
    let comes = pressed_comes k.settings c.args.side c.args.down k.mouse k.sticks k.clock (sym c.gives_fire.ensures ∙ c.if-gives_fire.false) c.presses-told.ensures in
    omega (arith, motion_fits comes (event_most (state_of g) (Button c.args.side c.args.down) c.requires refl))

pub returns-then-is_ok-2 : goal.returns-then-is_ok-2
unfolding due in_range event too_far map_after
returns-then-is_ok-2 c =
    let g : Given = record { core = c.args.self; waiting = c.args.waiting; queue = c.args.queue.now; out = c.args.out.now; good = c.requires } in
    let k = c.args.self in
    taken_as g (Button c.args.side c.args.down) (refl, tt) refl (pressed_comes k.settings c.args.side c.args.down k.mouse k.sticks k.clock (sym c.gives_fire.ensures ∙ c.if-gives_fire.false) c.presses-told.ensures) (λ _. refl) c.send-answer-2.result c.send-answer-2.ensures (sym c.is_ok-2.ensures.value ∙ c.if-is_ok-2.true) (refl)

pub returns-else-is_ok-2 : goal.returns-else-is_ok-2
unfolding due in_range event too_far map_after
returns-else-is_ok-2 c =
    let g : Given = record { core = c.args.self; waiting = c.args.waiting; queue = c.args.queue.now; out = c.args.out.now; good = c.requires } in
    let k = c.args.self in
    refused_as g (Button c.args.side c.args.down) (refl, tt) refl (pressed_comes k.settings c.args.side c.args.down k.mouse k.sticks k.clock (sym c.gives_fire.ensures ∙ c.if-gives_fire.false) c.presses-told.ensures) (λ _. refl) c.send-answer-2.result c.send-answer-2.ensures (sym c.is_ok-2.ensures.value ∙ c.if-is_ok-2.false)
