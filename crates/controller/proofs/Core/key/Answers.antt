use mathlib.Core.Path.{refl, sym, ◌∙◌}
use mathlib.Core.Bool.{true}
use Rattle.controller.specs.declared.Input.TheVariants.{Key}
use Rattle.controller.specs.Events.{event, map_after}
use Rattle.controller.specs.Step.{due, in_range, too_far}
use Rattle.controller.proofs.Numbers.{key_small}
use Rattle.controller.proofs.Applying.{Given, for_result, range_as, taken_as, refused_as, key_comes}
use Rattle.controller.proofs.Core.key.Goals as goal

pub returns-then-not-key_in_range : goal.returns-then-not-key_in_range
unfolding due in_range too_far map_after
returns-then-not-key_in_range c =
    let g : Given = record { core = c.args.self; waiting = c.args.waiting; queue = c.args.queue.now; out = c.args.out.now; good = c.requires } in
    let k = c.args.self in
    for_result g (Key c.args.code c.args.down) c.answers.ensures (range_as g (Key c.args.code c.args.down) (refl, tt) (sym c.key_in_range.ensures ∙ c.if-not-key_in_range.true))

pub key_bytes-short-requires : goal.key_bytes-short-requires
key_bytes-short-requires c =
    let g : Given = record { core = c.args.self; waiting = c.args.waiting; queue = c.args.queue.now; out = c.args.out.now; good = c.requires } in
    let k = c.args.self in
    (key_small c.args.code true (sym c.key_in_range.ensures ∙ c.if-not-key_in_range.false)).1

pub struck-self-requires : goal.struck-self-requires
struck-self-requires c =
    let g : Given = record { core = c.args.self; waiting = c.args.waiting; queue = c.args.queue.now; out = c.args.out.now; good = c.requires } in
    let k = c.args.self in
    key_small c.args.code true (sym c.key_in_range.ensures ∙ c.if-not-key_in_range.false)

pub returns-then-is_ok : goal.returns-then-is_ok
unfolding due in_range event too_far map_after
returns-then-is_ok c =
    let g : Given = record { core = c.args.self; waiting = c.args.waiting; queue = c.args.queue.now; out = c.args.out.now; good = c.requires } in
    let k = c.args.self in
    taken_as g (Key c.args.code c.args.down) (refl, tt) (sym c.key_in_range.ensures ∙ c.if-not-key_in_range.false) (key_comes g c.args.code c.args.down c.key_bytes-short.ensures) (λ _. refl) c.send-answer.result c.send-answer.ensures (sym c.is_ok.ensures.value ∙ c.if-is_ok.true) (λ j. record { settings = k.settings; keys = c.struck-self.ensures j; clock = k.clock; mouse = k.mouse; paused = k.paused; command = k.command; sticks = k.sticks })

pub returns-else-is_ok : goal.returns-else-is_ok
unfolding due in_range event too_far map_after
returns-else-is_ok c =
    let g : Given = record { core = c.args.self; waiting = c.args.waiting; queue = c.args.queue.now; out = c.args.out.now; good = c.requires } in
    let k = c.args.self in
    refused_as g (Key c.args.code c.args.down) (refl, tt) (sym c.key_in_range.ensures ∙ c.if-not-key_in_range.false) (key_comes g c.args.code c.args.down c.key_bytes-short.ensures) (λ _. refl) c.send-answer.result c.send-answer.ensures (sym c.is_ok.ensures.value ∙ c.if-is_ok.false)
