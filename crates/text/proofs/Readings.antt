-- What it says of a text that a line was read at its front, or none.
-- Assumes nothing.
use Prim.Native.Nat.{ℕ, suc, ◌<◌}
use Rattle.std.specs.Prelude.{Option, Some, None}
use mathlib.Core.Path.{◌≡◌, refl, sym, ap}
use mathlib.Core.Bool.{Bool, true, false, cond}
use mathlib.Core.List.{List}
use lib.Dec.{ltb}
use lib.ListN.{length, drop}
use borrow.Author.Tests.{ltb-true, lt-ltb}
use Rattle.controller.specs.declared.Input.{Input}
use Rattle.text.specs.Line.{Line, Good, Bad, line_feed, line_of}
use Rattle.text.specs.Fronts.{until, followed, upto}
use Rattle.text.specs.Reading.{input, read_of}

-- a good line was read: it has ended, means that input, and the text goes on behind it
pub whole_read : (t : List ℕ) (i : Input) (r : List ℕ) → Some (i, r) ≡ read_of t → (r ≡ drop (suc (length (until line_feed t))) t) × (length (until line_feed t) < length t) × (line_of (until line_feed t) ≡ Good i)
unfolding upto line_of
whole_read t i r = at (ltb (length (until line_feed t)) (length t)) (ltb-true (length (until line_feed t)) (length t)) (line_of (until line_feed t))
  where
    at : (b : Bool) → (b ≡ true → length (until line_feed t) < length t) → (m : Line) → Some (i, r) ≡ cond b (followed (drop (suc (length (until line_feed t))) t) (input m)) None → (r ≡ drop (suc (length (until line_feed t))) t) × (length (until line_feed t) < length t) × (m ≡ Good i)
    at true h (Good j) e =
        let p : ◌≡◌ {A = Input × List ℕ} (i, r) (j, drop (suc (length (until line_feed t))) t) = cc in
        (ap (λ (q : Input × List ℕ). q.1) p, h refl, ap (λ (q : Input × List ℕ). Good q.0) (sym p))
    at true h Bad e = absurd cc
    at false h m e = absurd cc

-- nothing was read of a line that has ended: it is bad
pub unread_bad : (t : List ℕ) → None ≡ read_of t → length (until line_feed t) < length t → line_of (until line_feed t) ≡ Bad
unfolding upto line_of
unread_bad t e h = at (line_of (until line_feed t)) (rw (lt-ltb (length (until line_feed t)) (length t) h) at e)
  where
    at : (m : Line) → ◌≡◌ {A = Option (Input × List ℕ)} None (followed (drop (suc (length (until line_feed t))) t) (input m)) → m ≡ Bad
    at (Good j) e = absurd cc
    at Bad e = refl
