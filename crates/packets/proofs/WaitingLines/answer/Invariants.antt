-- The lines before `used` are listed.
use Rattle.std.proofs.Common.{◌-◌, ◌≤◌, length}
use Rattle.listing.specs.Listing.{most_bytes}
use Rattle.packets.proofs.Lines.{SoFar}
use Rattle.packets.proofs.WaitingLines.answer.Given as goal

abbrev pub invariant-loop-out : goal.invariant-loop-out
invariant-loop-out l = record {
  so_far : SoFar l.fn.self l.text l.fn.out l.part.used l.part.count l.self l.out;
  waits : l.self.waiting ≤ most_bytes;
}

abbrev pub decreases-loop-out : goal.decreases-loop-out
decreases-loop-out l = length l.text - l.part.used
