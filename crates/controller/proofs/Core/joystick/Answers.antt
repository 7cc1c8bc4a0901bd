use native.Mathlib.Omega.{arith}
use mathlib.Core.Path.{◌≡◌, refl, sym, ap, ◌∙◌}
use mathlib.Core.Bool.{cond}
use lib.Dec.{eqb}
use lib.IntN.{nat_abs}
use mir.Syntax.{w16}
use mir.ValLaws.{to_z-of_z}
use Rattle.std.specs.Prelude.{Some, None}
use Rattle.sticks.specs.Sticks.{told_of, is_one}
use Rattle.sticks.specs.declared.Stick.{Stick}
use Rattle.sticks.specs.declared.Which.{Which}
use Rattle.sticks.specs.Events.{stick_moved}
use Rattle.sticks.proofs.States.{position_low}
use Rattle.controller.specs.declared.Input.TheVariants.{Joystick}
use Rattle.controller.specs.Events.{event, map_after, stick_of, which_of}
use Rattle.controller.specs.Step.{due, in_range, too_far}
use Rattle.controller.proofs.Numbers.{read_none, read_some, named_one, place_small}
use Rattle.controller.proofs.Applying.{Given, for_result, range_as, taken_as, refused_as, told_comes}
use Rattle.controller.proofs.Core.joystick.Goals as goal

pub returns-in_default : goal.returns-in_default
unfolding due
returns-in_default c =
    let g : Given = record { core = c.args.self; waiting = c.args.waiting; queue = c.args.queue.now; out = c.args.out.now; good = c.requires } in
    let k = c.args.self in
    let a = to_z-of_z w16 c.args.stick (record { sfits = c.ranges.stick.sfits }) in
    let p = to_z-of_z w16 c.args.position (record { sfits = c.ranges.position.sfits }) in
    let t = to_z-of_z w16 c.args.trigger (record { sfits = c.ranges.trigger.sfits }) in
    let read = c.stick_read.ensures ∙ (λ j. cond (in_range (Joystick (a j) (p j) (t j))) (Some (which_of (a j), stick_of (p j) (t j))) None) in
    for_result g (Joystick c.args.stick c.args.position c.args.trigger) c.answers.ensures (range_as g (Joystick c.args.stick c.args.position c.args.trigger) (refl, tt) (read_none (in_range (Joystick c.args.stick c.args.position c.args.trigger)) _ read c.in_default.is))

pub stick_moved-told-requires : goal.stick_moved-told-requires
stick_moved-told-requires c =
    let a = to_z-of_z w16 c.args.stick (record { sfits = c.ranges.stick.sfits }) in
    let p = to_z-of_z w16 c.args.position (record { sfits = c.ranges.position.sfits }) in
    let t = to_z-of_z w16 c.args.trigger (record { sfits = c.ranges.trigger.sfits }) in
    let read = c.stick_read.ensures ∙ (λ j. cond (in_range (Joystick (a j) (p j) (t j))) (Some (which_of (a j), stick_of (p j) (t j))) None) in
    let (good, same) = read_some (in_range (Joystick c.args.stick c.args.position c.args.trigger)) read c.in-Some.is in
    (position_low c.args.self.settings.stick (is_one c.in-Some.which) c.args.self.sticks c.requires.ranges.sticks, omega (arith, ap (λ (x : Which × Stick). x.1.position) same, place_small c.args.stick c.args.position c.args.trigger good))

pub returns-then-is_ok : goal.returns-then-is_ok
unfolding due event too_far map_after
returns-then-is_ok c =
    let g : Given = record { core = c.args.self; waiting = c.args.waiting; queue = c.args.queue.now; out = c.args.out.now; good = c.requires } in
    let k = c.args.self in
    let a = to_z-of_z w16 c.args.stick (record { sfits = c.ranges.stick.sfits }) in
    let p = to_z-of_z w16 c.args.position (record { sfits = c.ranges.position.sfits }) in
    let t = to_z-of_z w16 c.args.trigger (record { sfits = c.ranges.trigger.sfits }) in
    let read = c.stick_read.ensures ∙ (λ j. cond (in_range (Joystick (a j) (p j) (t j))) (Some (which_of (a j), stick_of (p j) (t j))) None) in
    let (good, same) = read_some (in_range (Joystick c.args.stick c.args.position c.args.trigger)) read c.in-Some.is in
    let due = stick_moved k.settings (eqb (nat_abs c.args.stick) 1) (stick_of c.args.position c.args.trigger) k.sticks in
    let told : c.stick_moved-told.result ≡ told_of due =
    c.stick_moved-told.ensures ∙ (λ j. told_of (stick_moved k.settings (is_one (same j).0) (same j).1 k.sticks))
    ∙ (λ j. told_of (stick_moved k.settings (named_one c.args.stick j) (stick_of c.args.position c.args.trigger) k.sticks)) in
    taken_as g (Joystick c.args.stick c.args.position c.args.trigger) (refl, tt) good (told_comes due k.mouse k.clock told) (λ _. refl) c.send-answer.result c.send-answer.ensures (sym c.is_ok.ensures.value ∙ c.if-is_ok.true) (refl)

pub returns-else-is_ok : goal.returns-else-is_ok
unfolding due event too_far map_after
returns-else-is_ok c =
    let g : Given = record { core = c.args.self; waiting = c.args.waiting; queue = c.args.queue.now; out = c.args.out.now; good = c.requires } in
    let k = c.args.self in
    let a = to_z-of_z w16 c.args.stick (record { sfits = c.ranges.stick.sfits }) in
    let p = to_z-of_z w16 c.args.position (record { sfits = c.ranges.position.sfits }) in
    let t = to_z-of_z w16 c.args.trigger (record { sfits = c.ranges.trigger.sfits }) in
    let read = c.stick_read.ensures ∙ (λ j. cond (in_range (Joystick (a j) (p j) (t j))) (Some (which_of (a j), stick_of (p j) (t j))) None) in
    let (good, same) = read_some (in_range (Joystick c.args.stick c.args.position c.args.trigger)) read c.in-Some.is in
    let due = stick_moved k.settings (eqb (nat_abs c.args.stick) 1) (stick_of c.args.position c.args.trigger) k.sticks in
    let told : c.stick_moved-told.result ≡ told_of due =
    c.stick_moved-told.ensures ∙ (λ j. told_of (stick_moved k.settings (is_one (same j).0) (same j).1 k.sticks))
    ∙ (λ j. told_of (stick_moved k.settings (named_one c.args.stick j) (stick_of c.args.position c.args.trigger) k.sticks)) in
    refused_as g (Joystick c.args.stick c.args.position c.args.trigger) (refl, tt) good (told_comes due k.mouse k.clock told) (λ _. refl) c.send-answer.result c.send-answer.ensures (sym c.is_ok.ensures.value ∙ c.if-is_ok.false)
