-- The line of an answer alone has its room.
use Rattle.std.proofs.Common.{[], sym}
use native.Mathlib.Omega.{arith}
use lib.Seq.{length-take-le}
use Rattle.text.proofs.Shown.{line_fits}
use Rattle.session.proofs.Feeding.{wrote_within}
use Rattle.saved.proofs.Bounds.{load_small}
use Rattle.resume.proofs.tell.Goals as goal

pub write_line-n-requires : goal.write_line-n-requires
write_line-n-requires g c =
    (omega (arith, c.load_number.ensures, load_small c.args.answer), line_fits 0 c.load_number.result 0 [] (omega arith) (omega arith) c.requires)

pub slice_bounds-write_all-end : goal.slice_bounds-write_all-end
slice_bounds-write_all-end g c = wrote_within c.write_line-n.ensures

pub slice_bounds-write_all-end-2 : goal.slice_bounds-write_all-end-2
slice_bounds-write_all-end-2 g c = sym (length-take-le _ _ (wrote_within c.write_line-n.ensures))
