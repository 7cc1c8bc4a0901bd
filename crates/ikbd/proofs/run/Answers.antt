-- In whatever blocks the input of a session comes, the output is that of the whole input.
use Rattle.std.proofs.Common.{◌≡◌, ◌++◌, List, ℕ, ◌∙◌, subst}
use Rattle.std.proofs.lemmas.Result.{on_ok_weaker}
use Rattle.std.specs.Io.KnownBytes.{Appends}
use Rattle.text.specs.Output.{header}
use Rattle.session.specs.Session.{at_start}
use Rattle.blocks.specs.declared.playing.Playing.{Playing}
use Rattle.blocks.proofs.Known.{wrote_more}
use Rattle.blocks.proofs.Fronts.{written}
use Rattle.ikbd.proofs.Whole.{ran_whole}
use Rattle.ikbd.proofs.run.Goals as goal

pub returns : goal.returns
returns g c =
    let begun : c.new-playing.result.session ≡ at_start = c.new-playing.ensures ∙ c.start.ensures in
    let first : Appends (g.W.Write.contents c.args.output.now) (g.W.Write.contents c.write_all.new.self) header =
    subst (λ (bs : List ℕ). Appends (g.W.Write.contents c.args.output.now) (g.W.Write.contents c.write_all.new.self) bs) (written c.write_header-n.ensures) c.in_ok-write_all.ensures.bytes in
    on_ok_weaker c.run.result
    (λ ran. (ran.0, header ++ ran.1, ran.3, wrote_more _ _ _ _ _ first ran.4, λ few. ran_whole (λ (p : Playing). p.session) begun ran.2 few))
    c.run.ensures.ran
