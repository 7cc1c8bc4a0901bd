use native.Mathlib.Omega.{arith}
use mathlib.Core.Path.{refl, sym}
use lib.ListN.{length-take, length-drop}
use lib.Seq.{length-take-le, take_at}
use Rattle.listing.proofs.Turns.{inside}
use Rattle.listing.proofs.WholeLine.{few_waits, joined_within, line_listed, line_refused, within_taken}
use Rattle.listing.proofs.list_line.Goals as goal

pub read_bytes-requires : goal.read_bytes-requires
read_bytes-requires c =
    let waits = few_waits _ _ c.requires.few.0 c.requires.few.1 in
    simp (length-take, length-drop) (omega (arith, waits, c.requires.room.0))

pub overflow_add-all : goal.overflow_add-all
overflow_add-all c = omega (arith, joined_within c.args.bytes.now c.args.waiting c.requires.few.0 c.read_bytes.ensures c.read_bytes.auto.out c.in-Some.is, c.well_formed)

pub slice_bounds-list-end : goal.slice_bounds-list-end
slice_bounds-list-end c = omega (arith, joined_within c.args.bytes.now c.args.waiting c.requires.few.0 c.read_bytes.ensures c.read_bytes.auto.out c.in-Some.is)

pub slice_bounds-list-end-2 : goal.slice_bounds-list-end-2
slice_bounds-list-end-2 c = sym (length-take-le _ _ (omega (arith, joined_within c.args.bytes.now c.args.waiting c.requires.few.0 c.read_bytes.ensures c.read_bytes.auto.out c.in-Some.is)))

pub keep_most-requires : goal.keep_most-requires
keep_most-requires c =
    let all = joined_within c.args.bytes.now c.args.waiting c.requires.few.0 c.read_bytes.ensures c.read_bytes.auto.out c.in-Some.is in
    let listed = c.list-done.ensures.within in
    (within_taken _ _ listed, omega (arith, all))

pub returns-clause-lists_line : goal.returns-clause-lists_line
returns-clause-lists_line c =
    let kept = c.keep_most in
    let listed = c.list-done in line_listed _ _ c.requires.few.0 c.read_bytes.ensures c.read_bytes.auto.out c.in-Some.is refl c.requires.room.1 listed.ensures kept.ensures.few kept.ensures.kept

pub returns-clause-fits : goal.returns-clause-fits
returns-clause-fits c =
    let listed = c.list-done in inside listed.ensures.printed c.list-done.auto.out

pub returns-in_default-clause-lists_line : goal.returns-in_default-clause-lists_line
returns-in_default-clause-lists_line c = line_refused _ _ c.requires.few.0 c.requires.few.1 c.read_bytes.ensures c.in_default.is (take_at _ _ _ (length-take-le _ _ c.requires.few.0)) c.write_bad.ensures

pub returns-in_default-clause-fits : goal.returns-in_default-clause-fits
returns-in_default-clause-fits c = inside c.write_bad.ensures c.write_bad.auto.out
