use Prim.Native.Nat.{ℕ, ◌≤◌}
use native.Mathlib.Omega.{arith}
use mathlib.Core.Path.{◌≡◌, sym, ap, ◌∙◌}
use mathlib.Core.List.{List}
use lib.ListN.{length, take}
use lib.Seq.{length-take-le}
use Rattle.output.specs.Writing.{Wrote}
use Rattle.std.specs.Prelude.{Result, Ok, Err}
use Rattle.controller.specs.declared.look.LookRefusal.{LookRefusal}
use Rattle.controller.specs.declared.look.LookRefusal.TheVariants.{NotAbsolute, BufferShort}
use Rattle.controller.specs.Look.{look_number}
use Rattle.controller.proofs.Looking.{looked_answer, looked_bytes, looked_within, looked_as_long}
use Rattle.text.specs.Output.{output_line}
use Rattle.text.proofs.Shown.{line_fits}
use Rattle.session.proofs.ask.tell_look.Goals as goal

-- an answer is one figure
one_figure : (a : Result ℕ LookRefusal) → look_number a ≤ 9
one_figure (Ok count) = omega arith
one_figure (Err NotAbsolute) = omega arith
one_figure (Err BufferShort) = omega arith

-- the same line in another spelling
tells : (number : ℕ) {a b n : ℕ} {bs cs l l' : List ℕ} → a ≡ b → bs ≡ cs → Wrote (output_line number a bs) n l l' → Wrote (output_line number b cs) n l l'
tells number e f w = rw (sym e, sym f) w

pub slice_bounds-write_line-end : goal.slice_bounds-write_line-end
slice_bounds-write_line-end c = let p = c.look-seen.ensures in omega (arith, c.unwrap_or-count.ensures, looked_within c.args.state p, looked_as_long c.args.state p)

pub slice_bounds-write_line-end-2 : goal.slice_bounds-write_line-end-2
slice_bounds-write_line-end-2 c =
    let p = c.look-seen.ensures in
    sym (length-take-le _ _ (omega (arith, c.unwrap_or-count.ensures, looked_within c.args.state p, looked_as_long c.args.state p)))

pub write_line-requires : goal.write_line-requires
write_line-requires c =
    let p = c.look-seen.ensures in
    let within = looked_within c.args.state p in
    let there : c.unwrap_or-count.result ≤ length c.look-seen.new.out = omega (arith, c.unwrap_or-count.ensures, within, looked_as_long c.args.state p) in (
      omega (arith, c.look_number-answer.ensures, one_figure c.look-seen.result),
      line_fits _ _ _ _ c.ranges.number.fits there (omega (arith, c.unwrap_or-count.ensures, within, c.requires)),
    )

pub returns : goal.returns
returns c =
    let p = c.look-seen.ensures in
    tells c.args.number (c.look_number-answer.ensures ∙ looked_answer c.args.state p) (ap (λ (n : ℕ). take n c.look-seen.new.out) c.unwrap_or-count.ensures ∙ looked_bytes c.args.state p) c.write_line.ensures
