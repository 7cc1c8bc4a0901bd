use Rattle.std.proofs.Common.{rules}
use native.Mathlib.Omega.{arith}
use mathlib.Core.Path.{sym, ap, ◌∙◌}
use Rattle.listing.specs.Input.{is_number, answer_bytes}
use Rattle.listing.proofs.Lines.{read_none, read_bad, read_as, line_header, line_field, line_answer, line_bad}
use Rattle.listing.proofs.input.read_bytes.Goals as goal

pub returns-then-eq : goal.returns-then-eq
returns-then-eq c = read_none (line_header _ (omega arith) (search rules))

pub returns-in_default : goal.returns-in_default
returns-in_default c = read_as (line_field _ (omega arith) (search rules) c.in_default.ensures) c.field_bytes.ensures

pub returns-then-not-is_number : goal.returns-then-not-is_number
returns-then-not-is_number c =
    let parts = c.in-Some.ensures in
    read_bad (line_bad _ (omega arith) (search rules) parts.0 (ap is_number (sym parts.1) ∙ sym c.is_number.ensures ∙ search rules))

pub returns : goal.returns
returns c =
    let parts = c.in-Some.ensures in
    read_as
    (line_answer _ (omega arith) (search rules) parts.0 (ap is_number (sym parts.1) ∙ sym c.is_number.ensures ∙ search rules)
    ∙ ap answer_bytes (sym parts.2))
    c.answer_bytes.ensures
