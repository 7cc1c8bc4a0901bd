-- What becomes of an input that comes in blocks, by what its reader and its writer hold and by how the lines of a text are answered: from s,
-- the first `used` bytes of the text t are lines, `printed` is printed for them, and it goes on from n, where `answers s t used printed n`.
use Rattle.std.specs.Prelude.{ℕ, ◌+◌, ◌<◌, List, [], ◌++◌, length, take, drop}
use Rattle.session.specs.Session.{finished}

-- some lines of the block t, one part behind the other: the first `from` bytes are answered, and `printed` is printed
pub data Parts {S : Type 0} (answers : S → List ℕ → ℕ → List ℕ → S → Type 0) (s : S) (t : List ℕ) : ℕ → List ℕ → S → Type 0 where
  none_yet : Parts answers s t 0 [] s
  part_then : {from used : ℕ} {printed more : List ℕ} {now next : S} → Parts answers s t from printed now
      → answers now (drop from t) used more next → 0 < used → Parts answers s t (from + used) (printed ++ more) next

-- all lines that end in the block t: behind them there is nothing, or nothing that the lines take
pub data Answered {S : Type 0} (answers : S → List ℕ → ℕ → List ℕ → S → Type 0) (s : S) (t : List ℕ) : ℕ → List ℕ → S → Type 0 where
  to_the_end : {printed : List ℕ} {now : S} → Parts answers s t (length t) printed now → Answered answers s t (length t) printed now
  none_follows : {from : ℕ} {printed more : List ℕ} {now next : S} → Parts answers s t from printed now
      → answers now (drop from t) 0 more next → Answered answers s t from printed next

-- the first blocks of an input, from s with `begun` of a line in hand: after `count` reads, which gave the bytes `input`, `kept` of a line is
-- in hand. Each block is answered with what was kept before it, and of a line that it leaves at most `most` bytes are kept.
pub data Blocks {S : Type 0} (answers : S → List ℕ → ℕ → List ℕ → S → Type 0) (most : ℕ) (s : S) (begun : List ℕ)
    : ℕ → List ℕ → List ℕ → List ℕ → S → Type 0 where
  no_block : Blocks answers most s begun 0 [] [] begun s
  block_then : {count used : ℕ} {input kept printed : List ℕ} (got : List ℕ) {more : List ℕ} {now next : S}
      → Blocks answers most s begun count input printed kept now → 0 < length got → Answered answers now (kept ++ got) used more next
      → Blocks answers most s begun (count + 1) (input ++ got) (printed ++ more) (take most (drop used (kept ++ got))) next

-- a whole input of fewer than `limit` blocks, whose last line may lack its line feed; or the first `limit` blocks of a longer one
pub data Ran {S : Type 0} (answers : S → List ℕ → ℕ → List ℕ → S → Type 0) (most limit : ℕ) (s : S) (begun : List ℕ)
    : List ℕ → List ℕ → S → Type 0 where
  at_the_end : {count used : ℕ} {input kept printed more : List ℕ} {now next : S} → Blocks answers most s begun count input printed kept now
      → count < limit → Answered answers now (finished kept) used more next → Ran answers most limit s begun input (printed ++ more) next
  at_the_limit : {input kept printed : List ℕ} {now : S} → Blocks answers most s begun limit input printed kept now
      → Ran answers most limit s begun input printed now
