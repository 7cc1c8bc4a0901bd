-- A session that is fed a text answers its lines.
-- Assumes nothing.
use Rattle.std.proofs.Common.{◌≡◌, ℕ, ◌+◌, ◌≤◌, ◌<◌, List, [], length, take, drop, sym, ap, ◌∙◌, arith}
use mathlib.Core.Logic.{◌⊎◌, inl, inr}
use Rattle.session.specs.declared.lines.Session.{Session}
use Rattle.session.specs.declared.lines.Fed.{Fed}
use Rattle.session.specs.Session.{ended, ended_from, printout, Feeds}
use Rattle.text.specs.Output.{line_room}
use Rattle.blocks.specs.Playing.{Plays}
use Rattle.blocks.proofs.Fronts.{written}

module _ {lent : ℕ} {s : Session} {t : List ℕ} {r : Fed} {before after : List ℕ} (f : Feeds s lent t r before after) (room : line_room lent ≤ length before) where
  -- without a line that is taken nothing is printed
  none_printed : r.used ≡ 0 → r.count ≡ 0
  unfolding ended_from printout
  none_printed e = f.printed.count ∙ ap (λ (n : ℕ). length (printout s.state lent s.number (ended (take n t)))) e

  none_ends : r.used ≡ 0 → ended t ≡ []
  none_ends e = go f.most
    where
      go : (ended (drop r.used t) ≡ []) ⊎ (length before < r.count + line_room lent) → ended t ≡ []
      go (inl none) = ap (λ (n : ℕ). ended (drop n t)) (sym e) ∙ none
      go (inr full) = absurd (omega (arith, none_printed e, full, room))

  pub plays : Plays lent s t r.used (take r.count after) r.session
  plays = record {
    within = f.within;
    whole = f.whole;
    printed = written f.printed;
    state = f.state;
    number = f.number;
    most = none_ends;
  }
