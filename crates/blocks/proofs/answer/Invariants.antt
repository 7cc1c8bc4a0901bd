-- The first `from` bytes are answered, and what is printed for them is written.
use Rattle.std.proofs.Common.{length, ◌-◌, ℕ, List, ◌+◌, ◌≤◌}
use Rattle.std.specs.Io.KnownBytes.{Appends}
use Rattle.blocks.specs.Blocks.{Parts}
use Rattle.blocks.proofs.answer.Given as goal

abbrev pub invariant-loop-from : goal.invariant-loop-from
invariant-loop-from g l = record {
  within : l.from ≤ length l.block;
  ready : g.L.Lines.is_ready l.lines (length l.out);
  numbered : g.L.Lines.number l.lines ≤ g.L.Lines.number l.initial.lines + l.from;
  answered : (printed : List ℕ) × Parts g.L.Lines.answers l.initial.lines l.block l.from printed l.lines
      × Appends (g.W.Write.contents l.initial.output) (g.W.Write.contents l.output) printed;
}

abbrev pub decreases-loop-from : goal.decreases-loop-from
decreases-loop-from g l = length l.block - l.from
