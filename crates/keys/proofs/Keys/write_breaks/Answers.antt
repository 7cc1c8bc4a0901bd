use native.Mathlib.Omega.{arith}
use Rattle.output.proofs.Writing.{both}
use Rattle.keys.proofs.Maps.{held_most}
use Rattle.keys.proofs.Writing.{rest_room, all_count, both_words}
use Rattle.keys.proofs.Keys.write_breaks.Goals as goal

pub slice_bounds-write_word-count : goal.slice_bounds-write_word-count
slice_bounds-write_word-count c = (rest_room c.args.self c.requires.keys c.args.out.now c.requires.self_in_bounds c.write_word-low.ensures).0

pub slice_bounds-write_word-start : goal.slice_bounds-write_word-start
slice_bounds-write_word-start c = ((rest_room c.args.self c.requires.keys c.args.out.now c.requires.self_in_bounds c.write_word-low.ensures).0)

pub overflow_add-result : goal.overflow_add-result
overflow_add-result c = omega (arith, all_count c.args.self c.requires.keys c.args.out.now c.requires.self_in_bounds c.write_word-low.ensures c.write_word-high.ensures, held_most c.args.self)

pub returns : goal.returns
returns c = both_words c.args.self c.requires.keys (both c.write_word-low.ensures c.write_word-high.ensures)
