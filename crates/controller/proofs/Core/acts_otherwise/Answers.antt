use mathlib.Core.Path.{◌∙◌, sym, ap}
use mathlib.Core.List.{append-nil}
use Rattle.output.specs.Packets.{bytes_of}
use Rattle.output.specs.Short.{short_of}
use Rattle.clock.specs.Setting.{report}
use Rattle.clock.proofs.Laws.{two_digits}
use Rattle.controller.specs.declared.Acted.{Acted}
use Rattle.controller.specs.Host.{other_effect}
use Rattle.controller.proofs.Core.acts_otherwise.Goals as goal

pub report-requires : goal.report-requires
report-requires c = two_digits c.args.self.clock c.requires

pub returns-in-Resume : goal.returns-in-Resume
unfolding other_effect
returns-in-Resume c =
    let k = c.args.self in
    rw c.in-Resume.is (c.sends.ensures ∙ (λ i. record { short = c.of.ensures i; mouse = k.mouse; sticks = k.sticks; clock = k.clock }))

pub returns-in-MouseOff : goal.returns-in-MouseOff
unfolding other_effect
returns-in-MouseOff c =
    let e = c.sends-in-MouseOff.ensures in
    rw c.in-MouseOff.is (λ i. record { short = (ap (λ (x : Acted). x.short) e ∙ c.of-in-MouseOff.ensures) i; mouse = c.switched_off.ensures i; sticks = (e i).sticks; clock = (e i).clock })

pub returns-in-SetClock : goal.returns-in-SetClock
unfolding other_effect
returns-in-SetClock c =
    let e = c.sends-in-SetClock.ensures in
    rw c.in-SetClock.is (λ i. record { short = (ap (λ (x : Acted). x.short) e ∙ c.of-in-SetClock.ensures) i; mouse = (e i).mouse; sticks = (e i).sticks; clock = c.set_to.ensures i })

pub returns-in-ReportClock : goal.returns-in-ReportClock
unfolding other_effect
returns-in-ReportClock c =
    let k = c.args.self in
    rw c.in-ReportClock.is
    (c.sends-in-ReportClock.ensures
    ∙ (λ i. record { short = (c.report.ensures ∙ ap short_of (sym (append-nil (bytes_of (report k.clock))))) i; mouse = k.mouse; sticks = k.sticks; clock = k.clock }))
