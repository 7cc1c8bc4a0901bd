use Rattle.std.proofs.Common.{rules}
use borrow.Author.Tests.{tests}
use Rattle.std.proofs.lemmas.Iterator.{YieldsList-from_slice}
use Rattle.std.proofs.lemmas.Iterator.Search.{all_from_yields_List}
use Rattle.listing.proofs.Reading.{is_hex_digit, digit_is_some, even_digits, odd_digits}
use Rattle.listing.proofs.input.is_hex.Goals as goal

pub returns-then-field-eq0 : goal.returns-then-field-eq0
returns-then-field-eq0 c = even_digits _ c.if-field-eq0.true (all_from_yields_List is_hex_digit _ _ _ c.all.ensures.ran (YieldsList-from_slice c.args.field.now cc) (λ x b q k. search (rules, tests, digit_is_some)))

pub returns-else-field-eq0 : goal.returns-else-field-eq0
returns-else-field-eq0 c = odd_digits _ c.if-field-eq0.false
