-- The blocks before this one are answered.
use Rattle.std.proofs.Common.{length, ℕ, List, ◌+◌, ◌*◌, ◌≤◌, take}
use Rattle.std.specs.Io.KnownBytes.{Appends, Consumes}
use Rattle.blocks.specs.Blocks.{Blocks}
use Rattle.blocks.proofs.run.Given as goal

abbrev pub invariant-loop-block : goal.invariant-loop-block
invariant-loop-block g l = record {
  kept : l.kept ≤ g.L.Lines.MOST_KEPT;
  ready : g.L.Lines.is_ready l.lines (length l.out);
  numbered : g.L.Lines.number l.lines ≤ g.L.Lines.number l.initial.lines + l._block * 65536;
  ran : (given : List ℕ) × (printed : List ℕ)
      × Blocks g.L.Lines.answers g.L.Lines.MOST_KEPT l.initial.lines (take l.initial.kept l.initial.block) l._block given printed (take l.kept l.block) l.lines
      × Consumes (g.R.Read.remaining l.initial.input) (g.R.Read.remaining l.input) given
      × Appends (g.W.Write.contents l.initial.output) (g.W.Write.contents l.output) printed;
}
