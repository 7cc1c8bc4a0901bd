use Prim.Native.Nat.{◌+◌, ◌*◌, ◌≤◌}
use native.Mathlib.Omega.{arith}
use mathlib.Core.List.{[], ◌∷◌}
use lib.ListN.{length, length-append}
use Rattle.output.proofs.Writing.{both, kept}
use Rattle.text.specs.Line.{tab}
use Rattle.fields.specs.Ranges.{numbered}
use Rattle.saved.specs.Digits.{map_text}
use Rattle.saved.specs.Load.{map_width}
use Rattle.saved.specs.Answers.{field_width, line_room}
use Rattle.saved.proofs.Digits.{map_length}
use Rattle.saved.proofs.Putting.{line_whole}
use Rattle.saved.proofs.put.put_line.Goals as goal

pub overflow_add-at : goal.overflow_add-at
overflow_add-at c =
    let front-count : c.put_fields-at.result + c.put_map-at.result ≤ field_width * numbered + map_width = (let m = c.args.state.keys in
    omega (arith, c.put_fields-at.ensures.1, c.put_map-at.ensures.count, map_length m, length-append (map_text m) (tab ∷ []))) in
    omega (arith, front-count)

pub slice_bounds-put_queue-count : goal.slice_bounds-put_queue-count
slice_bounds-put_queue-count c =
    let front-count : c.put_fields-at.result + c.put_map-at.result ≤ field_width * numbered + map_width = (let m = c.args.state.keys in
    omega (arith, c.put_fields-at.ensures.1, c.put_map-at.ensures.count, map_length m, length-append (map_text m) (tab ∷ []))) in
    let room : line_room ≤ length c.args.out.now = c.requires.room in
    omega (arith, front-count, (kept (both c.put_fields-at.ensures.0 c.put_map-at.ensures) (omega (arith, front-count, room))), room)

pub slice_bounds-put_queue-start : goal.slice_bounds-put_queue-start
slice_bounds-put_queue-start c =
    let front-count : c.put_fields-at.result + c.put_map-at.result ≤ field_width * numbered + map_width = (let m = c.args.state.keys in
    omega (arith, c.put_fields-at.ensures.1, c.put_map-at.ensures.count, map_length m, length-append (map_text m) (tab ∷ []))) in
    let room : line_room ≤ length c.args.out.now = c.requires.room in
    (omega (arith, front-count, (kept (both c.put_fields-at.ensures.0 c.put_map-at.ensures) (omega (arith, front-count, room))), room))

pub put_queue-requires-clause-room : goal.put_queue-requires-clause-room
put_queue-requires-clause-room c =
    let front-count : c.put_fields-at.result + c.put_map-at.result ≤ field_width * numbered + map_width = (let m = c.args.state.keys in
    omega (arith, c.put_fields-at.ensures.1, c.put_map-at.ensures.count, map_length m, length-append (map_text m) (tab ∷ []))) in
    let room : line_room ≤ length c.args.out.now = c.requires.room in
    omega (arith, front-count, kept (both c.put_fields-at.ensures.0 c.put_map-at.ensures) (omega (arith, front-count, room)), room)

pub overflow_add-result : goal.overflow_add-result
overflow_add-result c =
    let front-count : c.put_fields-at.result + c.put_map-at.result ≤ field_width * numbered + map_width = (let m = c.args.state.keys in
    omega (arith, c.put_fields-at.ensures.1, c.put_map-at.ensures.count, map_length m, length-append (map_text m) (tab ∷ []))) in
    omega (arith, front-count, c.put_queue.ensures.1)

pub returns : goal.returns
returns c =
    let front-count : c.put_fields-at.result + c.put_map-at.result ≤ field_width * numbered + map_width = (let m = c.args.state.keys in
    omega (arith, c.put_fields-at.ensures.1, c.put_map-at.ensures.count, map_length m, length-append (map_text m) (tab ∷ []))) in (
      line_whole c.args.state _ c.numbers-a.ensures (both (both c.put_fields-at.ensures.0 c.put_map-at.ensures) c.put_queue.ensures.0),
      omega (arith, front-count, c.put_queue.ensures.1),
    )
