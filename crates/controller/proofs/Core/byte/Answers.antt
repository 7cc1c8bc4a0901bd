use Prim.Native.Nat.{◌≤◌}
use native.Mathlib.Omega.{arith}
use mathlib.Core.Path.{refl, sym, ◌∙◌}
use Rattle.controller.specs.declared.Input.TheVariants.{Byte}
use Rattle.controller.proofs.Hosts.{Completes, Acts, half_did, ignored_did, paused_did}
use Rattle.controller.proofs.Applying.{Given, state_of, for_result, applied, flush_lengths, flushed_as, kept_as, reset_as, reset_kept_as, reset_lengths, reset_flushed}
use Rattle.controller.proofs.Core.byte.Goals as goal

pub returns-in_default : goal.returns-in_default
returns-in_default c =
    let g : Given = record { core = c.args.self; waiting = c.args.waiting; queue = c.args.queue.now; out = c.args.out.now; good = c.requires } in
    let x : c.args.b ≤ 255 = omega (arith, c.ranges.b.fits) in
    for_result g (Byte c.args.b) c.answers.ensures (applied g (Byte c.args.b) x (half_did (state_of g) c.args.b c.feed-got.result g.good c.feed-got.ensures c.in_default.is refl))

pub returns-then-not-executes : goal.returns-then-not-executes
returns-then-not-executes c =
    let g : Given = record { core = c.args.self; waiting = c.args.waiting; queue = c.args.queue.now; out = c.args.out.now; good = c.requires } in
    let x : c.args.b ≤ 255 = omega (arith, c.ranges.b.fits) in
    let got = c.feed-got.result in
    let read = c.in-Some.whole in
    let m = c.meaning_of-meaning.result in
    let completes : Completes (state_of g) c.args.b got read m = record { fed = c.feed-got.ensures; complete = c.in-Some.is; means = c.meaning_of-meaning.ensures } in
    for_result g (Byte c.args.b) c.answers-then-not-executes.ensures (applied g (Byte c.args.b) x (ignored_did (state_of g) c.args.b got read m g.good completes (sym c.executes.ensures ∙ c.if-not-executes.true) refl))

pub returns-in-Pause : goal.returns-in-Pause
returns-in-Pause c =
    let g : Given = record { core = c.args.self; waiting = c.args.waiting; queue = c.args.queue.now; out = c.args.out.now; good = c.requires } in
    let x : c.args.b ≤ 255 = omega (arith, c.ranges.b.fits) in
    let got = c.feed-got.result in
    let read = c.in-Some.whole in
    let m = c.meaning_of-meaning.result in
    let completes : Completes (state_of g) c.args.b got read m = record { fed = c.feed-got.ensures; complete = c.in-Some.is; means = c.meaning_of-meaning.ensures } in
    let does = sym c.executes.ensures ∙ c.if-not-executes.false in
    for_result g (Byte c.args.b) c.answers-in-Pause.ensures (applied g (Byte c.args.b) x (paused_did (state_of g) c.args.b got read m g.good completes does c.in-Pause.is refl))

pub returns-then-is_ok : goal.returns-then-is_ok
returns-then-is_ok c =
    let g : Given = record { core = c.args.self; waiting = c.args.waiting; queue = c.args.queue.now; out = c.args.out.now; good = c.requires } in
    let x : c.args.b ≤ 255 = omega (arith, c.ranges.b.fits) in
    let got = c.feed-got.result in
    let read = c.in-Some.whole in
    let m = c.meaning_of-meaning.result in
    let completes : Completes (state_of g) c.args.b got read m = record { fed = c.feed-got.ensures; complete = c.in-Some.is; means = c.meaning_of-meaning.ensures } in
    let does = sym c.executes.ensures ∙ c.if-not-executes.false in
    reset_as g c.args.b x got read m completes does c.in-Reset.is c.replace-answer.result (reset_flushed g c.of.ensures c.replace-answer.ensures) (sym c.is_ok.ensures.value ∙ c.if-is_ok.true) c.reset_but-self.ensures

pub returns-else-is_ok : goal.returns-else-is_ok
returns-else-is_ok c =
    let g : Given = record { core = c.args.self; waiting = c.args.waiting; queue = c.args.queue.now; out = c.args.out.now; good = c.requires } in
    let x : c.args.b ≤ 255 = omega (arith, c.ranges.b.fits) in
    let got = c.feed-got.result in
    let read = c.in-Some.whole in
    let m = c.meaning_of-meaning.result in
    let completes : Completes (state_of g) c.args.b got read m = record { fed = c.feed-got.ensures; complete = c.in-Some.is; means = c.meaning_of-meaning.ensures } in
    let does = sym c.executes.ensures ∙ c.if-not-executes.false in
    reset_kept_as g c.args.b x got read m completes does c.in-Reset.is c.replace-answer.result (reset_flushed g c.of.ensures c.replace-answer.ensures) (sym c.is_ok.ensures.value ∙ c.if-is_ok.false)

pub flush-answer-requires : goal.flush-answer-requires
flush-answer-requires c =
    let g : Given = record { core = c.args.self; waiting = c.args.waiting; queue = c.args.queue.now; out = c.args.out.now; good = c.requires } in
    let x : c.args.b ≤ 255 = omega (arith, c.ranges.b.fits) in
    let got = c.feed-got.result in
    let read = c.in-Some.whole in
    let m = c.meaning_of-meaning.result in
    let completes : Completes (state_of g) c.args.b got read m = record { fed = c.feed-got.ensures; complete = c.in-Some.is; means = c.meaning_of-meaning.ensures } in
    let does = sym c.executes.ensures ∙ c.if-not-executes.false in
    let acts-so : Acts (state_of g) read.params m c.resumes-moved.result c.acts-acted.result = (record {
      no_pause = c.in_default-meaning.not-Pause;
      no_reset = c.in_default-meaning.not-Reset;
      moved = c.resumes-moved.ensures;
      done = c.acts-acted.ensures;
    }) in
    let l = flush_lengths g c.args.b x got read m completes does c.resumes-moved.result c.acts-acted.result acts-so in
    record { due = (tt, l.0); counted = l.1.0; waiting_le_queue_room = l.1.1 }

pub returns-then-is_ok-2 : goal.returns-then-is_ok-2
returns-then-is_ok-2 c =
    let g : Given = record { core = c.args.self; waiting = c.args.waiting; queue = c.args.queue.now; out = c.args.out.now; good = c.requires } in
    let x : c.args.b ≤ 255 = omega (arith, c.ranges.b.fits) in
    let got = c.feed-got.result in
    let read = c.in-Some.whole in
    let m = c.meaning_of-meaning.result in
    let completes : Completes (state_of g) c.args.b got read m = record { fed = c.feed-got.ensures; complete = c.in-Some.is; means = c.meaning_of-meaning.ensures } in
    let does = sym c.executes.ensures ∙ c.if-not-executes.false in
    let acts-so : Acts (state_of g) read.params m c.resumes-moved.result c.acts-acted.result = (record {
      no_pause = c.in_default-meaning.not-Pause;
      no_reset = c.in_default-meaning.not-Reset;
      moved = c.resumes-moved.ensures;
      done = c.acts-acted.ensures;
    }) in
    flushed_as g c.args.b x got read m completes does c.resumes-moved.result c.acts-acted.result acts-so
    c.flush-answer.result c.after-self.result c.flush-answer.ensures (sym c.is_ok-in_default-meaning.ensures.value ∙ c.if-is_ok-2.true) c.after-self.ensures

pub returns-else-is_ok-2 : goal.returns-else-is_ok-2
returns-else-is_ok-2 c =
    let g : Given = record { core = c.args.self; waiting = c.args.waiting; queue = c.args.queue.now; out = c.args.out.now; good = c.requires } in
    let x : c.args.b ≤ 255 = omega (arith, c.ranges.b.fits) in
    let got = c.feed-got.result in
    let read = c.in-Some.whole in
    let m = c.meaning_of-meaning.result in
    let completes : Completes (state_of g) c.args.b got read m = record { fed = c.feed-got.ensures; complete = c.in-Some.is; means = c.meaning_of-meaning.ensures } in
    let does = sym c.executes.ensures ∙ c.if-not-executes.false in
    let acts-so : Acts (state_of g) read.params m c.resumes-moved.result c.acts-acted.result = (record {
      no_pause = c.in_default-meaning.not-Pause;
      no_reset = c.in_default-meaning.not-Reset;
      moved = c.resumes-moved.ensures;
      done = c.acts-acted.ensures;
    }) in
    kept_as g c.args.b x got read m completes does c.resumes-moved.result c.acts-acted.result acts-so c.flush-answer.result c.flush-answer.ensures (sym c.is_ok-in_default-meaning.ensures.value ∙ c.if-is_ok-2.false)

pub replace-answer-requires : goal.replace-answer-requires
replace-answer-requires c =
    let g : Given = record { core = c.args.self; waiting = c.args.waiting; queue = c.args.queue.now; out = c.args.out.now; good = c.requires } in
    let l = reset_lengths g c.of.ensures in
    record { due = (l.0, c.requires.ranges.keys); counted = l.1.0; waiting_in_bounds = l.1.1 }
