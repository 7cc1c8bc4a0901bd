use native.Mathlib.Omega.{arith}
use mathlib.Core.Path.{refl, sym, ◌∙◌}
use mathlib.Core.Bool.{cond}
use lib.IntN.{nat_abs}
use mir.Syntax.{w16}
use mir.ValLaws.{to_z-of_z}
use Rattle.std.specs.Prelude.{Some, None}
use Rattle.sticks.specs.Sticks.{told_of}
use Rattle.sticks.specs.Ticks.{sampled}
use Rattle.sticks.proofs.States.{sample_byte}
use Rattle.controller.specs.declared.Input.TheVariants.{Sample}
use Rattle.controller.specs.Events.{event, map_after}
use Rattle.controller.specs.Step.{due, in_range, too_far}
use Rattle.controller.proofs.Numbers.{read_none, read_some, sample_small}
use Rattle.controller.proofs.Applying.{Given, for_result, range_as, taken_as, refused_as, told_comes}
use Rattle.controller.proofs.Core.sample.Goals as goal

pub returns-in_default : goal.returns-in_default
unfolding due
returns-in_default c =
    let g : Given = record { core = c.args.self; waiting = c.args.waiting; queue = c.args.queue.now; out = c.args.out.now; good = c.requires } in
    let z = to_z-of_z w16 c.args.b (record { sfits = c.ranges.b.sfits }) in
    let read = c.sample_read.ensures ∙ (λ j. cond (in_range (Sample (z j))) (Some (nat_abs (z j))) None) in
    for_result g (Sample c.args.b) c.answers.ensures (range_as g (Sample c.args.b) (refl, tt) (read_none (in_range (Sample c.args.b)) _ read c.in_default.is))

pub sampled-told-requires : goal.sampled-told-requires
sampled-told-requires c =
    let z = to_z-of_z w16 c.args.b (record { sfits = c.ranges.b.sfits }) in
    let read = c.sample_read.ensures ∙ (λ j. cond (in_range (Sample (z j))) (Some (nat_abs (z j))) None) in
    let (good, same) = read_some (in_range (Sample c.args.b)) read c.in-Some.is in
    sample_byte c.args.self.settings.stick c.in-Some.sample c.args.self.sticks (omega (arith, same, sample_small c.args.b good)) (record { ranges = c.requires.ranges.sticks; spelling = c.requires.spelling.sticks })

pub returns-then-is_ok : goal.returns-then-is_ok
unfolding due event too_far map_after
returns-then-is_ok c =
    let g : Given = record { core = c.args.self; waiting = c.args.waiting; queue = c.args.queue.now; out = c.args.out.now; good = c.requires } in
    let k = c.args.self in
    let z = to_z-of_z w16 c.args.b (record { sfits = c.ranges.b.sfits }) in
    let read = c.sample_read.ensures ∙ (λ j. cond (in_range (Sample (z j))) (Some (nat_abs (z j))) None) in
    let (good, same) = read_some (in_range (Sample c.args.b)) read c.in-Some.is in
    let told = c.sampled-told.ensures ∙ (λ j. told_of (sampled k.paused k.settings (same j) k.sticks)) in
    taken_as g (Sample c.args.b) (refl, tt) good (told_comes (sampled k.paused k.settings (nat_abs c.args.b) k.sticks) k.mouse k.clock told) (λ _. refl) c.send-answer.result c.send-answer.ensures (sym c.is_ok.ensures.value ∙ c.if-is_ok.true) (refl)

pub returns-else-is_ok : goal.returns-else-is_ok
unfolding due event too_far map_after
returns-else-is_ok c =
    let g : Given = record { core = c.args.self; waiting = c.args.waiting; queue = c.args.queue.now; out = c.args.out.now; good = c.requires } in
    let k = c.args.self in
    let z = to_z-of_z w16 c.args.b (record { sfits = c.ranges.b.sfits }) in
    let read = c.sample_read.ensures ∙ (λ j. cond (in_range (Sample (z j))) (Some (nat_abs (z j))) None) in
    let (good, same) = read_some (in_range (Sample c.args.b)) read c.in-Some.is in
    let told = c.sampled-told.ensures ∙ (λ j. told_of (sampled k.paused k.settings (same j) k.sticks)) in
    refused_as g (Sample c.args.b) (refl, tt) good (told_comes (sampled k.paused k.settings (nat_abs c.args.b) k.sticks) k.mouse k.clock told) (λ _. refl) c.send-answer.result c.send-answer.ensures (sym c.is_ok.ensures.value ∙ c.if-is_ok.false)
