-- One block behind the others, and the end of the input behind them, as the buffer has them.
-- Assumes nothing.
use Rattle.std.proofs.Common.{◌≡◌, ℕ, ◌+◌, ◌≤◌, ◌<◌, List, ◌++◌, length, take, drop, sym, ap, ◌∙◌, subst, arith}
use Rattle.output.specs.Writing.{Wrote}
use Rattle.session.specs.Session.{finished}
use Rattle.blocks.specs.Blocks.{Answered, Blocks, block_then, Ran, at_the_end}
use Rattle.blocks.proofs.Fronts.{written, kept_and_came, some_came}

module _ {S : Type 0} (answers : S → List ℕ → ℕ → List ℕ → S → Type 0) (most : ℕ) (s : S) (begun : List ℕ) where
  -- `k` bytes were kept, and `n` are there
  pub one_more : (count k n left used : ℕ) (input printed more before there after : List ℕ) (now next : S)
      → Blocks answers most s begun count input printed (take k before) now
      → take k there ≡ take k before → k < n → n ≤ length there
      → Answered answers now (take n there) used more next
      → Wrote (take most (drop used (take n there))) left there after
      → Blocks answers most s begun (count + 1) (input ++ drop k (take n there)) (printed ++ more) (take left after) next
  one_more count k n left used input printed more before there after now next b same some room a w =
      let got = drop k (take n there) in
      let all : take k before ++ got ≡ take n there = ap (λ (l : List ℕ). l ++ got) (sym same) ∙ kept_and_came k n there (omega arith) in
      subst (λ (l : List ℕ). Blocks answers most s begun (count + 1) (input ++ got) (printed ++ more) l next)
      (ap (λ (l : List ℕ). take most (drop used l)) all ∙ sym (written w))
      (block_then got b (some_came k n there some room) (subst (λ (l : List ℕ). Answered answers now l used more next) (sym all) a))

  -- no more bytes are there: what was kept is the last line
  pub ended : (limit count k left used : ℕ) (input printed more before there after : List ℕ) (now next : S)
      → Blocks answers most s begun count input printed (take k before) now
      → take k there ≡ take k before → count < limit
      → Wrote (finished (take k there)) left there after
      → Answered answers now (take left after) used more next
      → Ran answers most limit s begun input (printed ++ more) next
  ended limit count k left used input printed more before there after now next b same few w a =
      at_the_end b few (subst (λ (l : List ℕ). Answered answers now l used more next) (written w ∙ ap finished same) a)
