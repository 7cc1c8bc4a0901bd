-- The saved line that was written is within its buffer, and a line of output has room for it.
use Rattle.std.proofs.Common.{◌≤◌, length}
use native.Mathlib.Omega.{arith}
use Rattle.text.proofs.Shown.{line_fits}
use Rattle.session.proofs.Feeding.{wrote_within}
use Rattle.saved.proofs.Bounds.{count_most, save_small}
use Rattle.vectors.proofs.tell_saved.Goals as goal

pub write_line-requires : goal.write_line-requires
write_line-requires c =
    let few = count_most c.write-saved.ensures in
    let there : c.unwrap_or-n.result ≤ length c.write-saved.new.out = omega (arith, few, c.unwrap_or-n.ensures, c.write-saved.auto.out) in
    (omega (arith, c.save_number.ensures, save_small c.write-saved.result), line_fits _ _ _ _ c.ranges.number.fits there (omega (arith, few, c.unwrap_or-n.ensures, c.requires.room)))

pub slice_bounds-write_line-end : goal.slice_bounds-write_line-end
slice_bounds-write_line-end c = omega (arith, count_most c.write-saved.ensures, c.unwrap_or-n.ensures, c.write-saved.auto.out)

pub returns : goal.returns
returns c = omega (arith, wrote_within c.write_line.ensures, c.write_line.auto.out)
