use Prim.Native.Nat.{◌+◌, ◌≤◌}
use native.Mathlib.Omega.{arith}
use mathlib.Core.Path.{◌≡◌, ◌∙◌}
use mathlib.Core.List.{[], ◌∷◌}
use lib.ListN.{length}
use Rattle.output.proofs.Writing.{both, kept, stored_after}
use Rattle.keys.specs.Keys.{low_keys}
use Rattle.text.specs.Line.{tab}
use Rattle.saved.specs.Load.{map_width}
use Rattle.saved.proofs.Digits.{map_wrote, word_length}
use Rattle.saved.proofs.put.put_map.Goals as goal

pub slice_bounds-put_word-count : goal.slice_bounds-put_word-count
slice_bounds-put_word-count c =
    let low_count : c.put_word-low.result ≡ low_keys = c.put_word-low.ensures.count ∙ word_length low_keys _ in
    let room : map_width ≤ length c.args.out.now = c.requires in
    omega (arith, low_count, kept c.put_word-low.ensures (omega (arith, low_count, room)), room)

pub slice_bounds-put_word-start : goal.slice_bounds-put_word-start
slice_bounds-put_word-start c =
    let low_count : c.put_word-low.result ≡ low_keys = c.put_word-low.ensures.count ∙ word_length low_keys _ in
    let room : map_width ≤ length c.args.out.now = c.requires in
    (omega (arith, low_count, kept c.put_word-low.ensures (omega (arith, low_count, room)), room))

pub put_word-requires : goal.put_word-requires
put_word-requires c =
    let low_count : c.put_word-low.result ≡ low_keys = c.put_word-low.ensures.count ∙ word_length low_keys _ in
    let room : map_width ≤ length c.args.out.now = c.requires in
    omega (arith, low_count, kept c.put_word-low.ensures (omega (arith, low_count, room)), room)

pub overflow_add-n : goal.overflow_add-n
overflow_add-n c =
    let low_count : c.put_word-low.result ≡ low_keys = c.put_word-low.ensures.count ∙ word_length low_keys _ in
    let both-count : c.put_word-low.result + c.put_word.result + 1 ≡ map_width = omega (arith, low_count, c.put_word.ensures.count, word_length 50 c.args.keys.high) in
    omega (arith, both-count)

pub bounds-out-n : goal.bounds-out-n
bounds-out-n c =
    let low_count : c.put_word-low.result ≡ low_keys = c.put_word-low.ensures.count ∙ word_length low_keys _ in
    let both-count : c.put_word-low.result + c.put_word.result + 1 ≡ map_width = omega (arith, low_count, c.put_word.ensures.count, word_length 50 c.args.keys.high) in
    let room : map_width ≤ length c.args.out.now = c.requires in
    omega (arith, both-count, (kept (both c.put_word-low.ensures c.put_word.ensures) (omega (arith, both-count, room))), room)

pub overflow_add-result : goal.overflow_add-result
overflow_add-result c =
    let low_count : c.put_word-low.result ≡ low_keys = c.put_word-low.ensures.count ∙ word_length low_keys _ in
    let both-count : c.put_word-low.result + c.put_word.result + 1 ≡ map_width = omega (arith, low_count, c.put_word.ensures.count, word_length 50 c.args.keys.high) in
    omega (arith, both-count)

pub returns : goal.returns
returns c =
    let low_count : c.put_word-low.result ≡ low_keys = c.put_word-low.ensures.count ∙ word_length low_keys _ in
    let both-count : c.put_word-low.result + c.put_word.result + 1 ≡ map_width = omega (arith, low_count, c.put_word.ensures.count, word_length 50 c.args.keys.high) in
    let room : map_width ≤ length c.args.out.now = c.requires in
    map_wrote _ (tab ∷ []) (stored_after tab (both c.put_word-low.ensures c.put_word.ensures) (omega (arith, both-count, room)))
