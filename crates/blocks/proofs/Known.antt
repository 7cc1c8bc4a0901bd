-- What a reader gave and what a writer took, in two steps.
-- Assumes nothing.
use Rattle.std.proofs.Common.{◌≡◌, List, [], ◌++◌, ℕ, refl, sym, ap, subst, ◌∙◌, append_assoc}
use mathlib.Core.List.{append-nil}
use Rattle.std.specs.declared.option.Option.{Option}
use Rattle.std.specs.Prelude.{None, Some}
use Rattle.std.specs.Io.KnownBytes.{Keeps, Appends, Consumes}

-- nothing was written
pub wrote_nothing : (w : Option (List ℕ)) → Appends w w []
wrote_nothing None = tt
wrote_nothing (Some xs) = sym (append-nil xs)

-- more was written
pub wrote_more : (a b c : Option (List ℕ)) (xs ys : List ℕ) → Appends a b xs → Appends b c ys → Appends a c (xs ++ ys)
wrote_more None b c xs ys p q = tt
wrote_more (Some a) None c xs ys p q = absurd p
wrote_more (Some a) (Some b) None xs ys p q = absurd q
wrote_more (Some a) (Some b) (Some c) xs ys p q = rw (q, p) (append_assoc a xs ys)

-- nothing was read
pub read_nothing : (r : Option (List ℕ)) → Consumes r r []
read_nothing None = tt
read_nothing (Some xs) = refl

pub keeps_all : (a b : Option (List ℕ)) → Keeps a b → Consumes a b []
keeps_all None b p = tt
keeps_all (Some a) None p = absurd p
keeps_all (Some a) (Some b) p = sym p

-- more was read
pub read_more : (a b c : Option (List ℕ)) (xs ys : List ℕ) → Consumes a b xs → Consumes b c ys → Consumes a c (xs ++ ys)
read_more None b c xs ys p q = tt
read_more (Some a) None c xs ys p q = absurd p
read_more (Some a) (Some b) None xs ys p q = absurd q
read_more (Some a) (Some b) (Some c) xs ys p q = rw (p, q) (sym (append_assoc xs ys c))

-- what was read last is nothing
pub read_no_more : (a b c : Option (List ℕ)) (xs ys : List ℕ) → Consumes a b xs → Consumes b c ys → ys ≡ [] → Consumes a c xs
read_no_more a b c xs ys p q e =
    subst (λ (l : List ℕ). Consumes a c l) (ap (λ (l : List ℕ). xs ++ l) e ∙ append-nil xs) (read_more a b c xs ys p q)
