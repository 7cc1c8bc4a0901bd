use mathlib.Core.Path.{refl, sym, ◌∙◌}
use Rattle.controller.specs.declared.Input.TheVariants.{Tick}
use Rattle.controller.specs.Events.{event, map_after}
use Rattle.controller.specs.Step.{due, in_range, too_far}
use Rattle.clock.specs.Clock.{tick}
use Rattle.sticks.specs.Ticks.{ticked}
use Rattle.controller.proofs.Applying.{Given, taken_as, refused_as, told_comes}
use Rattle.controller.proofs.Core.tick.Goals as goal

pub returns-then-is_ok : goal.returns-then-is_ok
unfolding due in_range event too_far map_after
returns-then-is_ok c =
    let g : Given = record { core = c.args.self; waiting = c.args.waiting; queue = c.args.queue.now; out = c.args.out.now; good = c.requires } in
    let k = c.args.self in
    taken_as g (Tick) (refl, tt) refl (told_comes (ticked k.paused k.settings k.sticks) k.mouse (tick k.clock) c.ticked-told.ensures) (λ _. refl) c.send-answer.result c.send-answer.ensures (sym c.is_ok.ensures.value ∙ c.if-is_ok.true) (λ j. record { settings = k.settings; keys = k.keys; clock = c.tick-self.ensures j; mouse = k.mouse; paused = k.paused; command = k.command; sticks = c.ticked-told.result.sticks })

pub returns-else-is_ok : goal.returns-else-is_ok
unfolding due in_range event too_far map_after
returns-else-is_ok c =
    let g : Given = record { core = c.args.self; waiting = c.args.waiting; queue = c.args.queue.now; out = c.args.out.now; good = c.requires } in
    let k = c.args.self in
    refused_as g (Tick) (refl, tt) refl (told_comes (ticked k.paused k.settings k.sticks) k.mouse (tick k.clock) c.ticked-told.ensures) (λ _. refl) c.send-answer.result c.send-answer.ensures (sym c.is_ok.ensures.value ∙ c.if-is_ok.false)
