-- What is read stands behind what was kept.
use Rattle.std.proofs.Common.{◌≡◌, length, take, arith}
use Rattle.std.proofs.lemmas.List.{length-take-le}
use Rattle.blocks.proofs.Fronts.{came}
use Rattle.blocks.proofs.read_on.Goals as goal

pub returns-in-Ok-clause-bytes : goal.returns-in-Ok-clause-bytes
returns-in-Ok-clause-bytes g c =
    let kept : length (take c.args.kept c.args.block.now) ≡ c.args.kept = length-take-le c.args.kept c.args.block.now (omega arith) in
    rw (came c.args.kept c.in-Ok.got (take c.args.kept c.args.block.now) c.read.new.buf _ kept c.in-Ok.ensures.bound.0) c.in-Ok.ensures.bytes.0
