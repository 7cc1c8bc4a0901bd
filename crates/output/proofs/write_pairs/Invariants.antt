use Rattle.std.proofs.Common.{◌≡◌, ◌*◌, length}
use Rattle.output.specs.Packets.{bytes, pairs}
use Rattle.output.specs.Writing.{over}
use Rattle.output.proofs.write_pairs.Given as goal

abbrev pub invariant-loop : goal.invariant-loop
invariant-loop l = (l.at ≡ 2 * l.counter) × (length l.out ≡ length l.initial.out) × (l.out ≡ over (bytes (pairs l.counter l.make)) l.initial.out)
