-- What stands at the front of a text, up to a byte that ends it: a tab, or, of the last field, the line feed.
use Rattle.std.specs.Prelude.{ℕ, suc, cond, List, [], ◌∷◌, eqb, ltb, length, drop, Option, Some, None, option_map}
use Rattle.std.specs.Borrow.{Bor}
use Rattle.text.specs.Line.{tab}

-- the bytes of a text up to the first one that is `stop`, or all of them
unfoldable pub until : ℕ → List ℕ → List ℕ
until stop [] = []
until stop (b ∷ l) = cond (eqb b stop) [] (b ∷ until stop l)

-- the first of the fields of a line
abbrev pub first : List ℕ → List ℕ
first l = until tab l

-- what was read, and the text r after it
abbrev pub followed : {A : Type 0} → List ℕ → Option A → Option (A × List ℕ)
followed r None = None
followed r (Some x) = Some (x, r)

-- what stands up to `stop`, as `a` reads it, and the text after the stop; nothing where no `stop` stands there
unfoldable pub upto : {A : Type 0} → (List ℕ → Option A) → ℕ → List ℕ → Option (A × List ℕ)
upto a stop l = cond (ltb (length (until stop l)) (length l)) (followed (drop (suc (length (until stop l))) l) (a (until stop l))) None

-- what was read, with the text behind the reference
abbrev pub seen : {A : Type 0} → Option (A × Bor (List ℕ)) → Option (A × List ℕ)
seen r = option_map (λ p. (p.0, p.1.now)) r
