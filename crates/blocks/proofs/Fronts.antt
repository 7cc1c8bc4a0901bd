-- The bytes at a block's start.
-- Assumes nothing.
use Rattle.std.proofs.Common.{◌≡◌, ◌+◌, ◌-◌, ◌≤◌, ◌<◌, List, [], ◌++◌, ℕ, length, take, drop, sym, ap, ◌∙◌, subst, arith}
use Rattle.std.proofs.Math.Seq.{take-append-add, take-append_seam, drop-append_seam, take-add}
use Rattle.std.proofs.Math.ListN.{drop_of_length-le}
use Rattle.std.proofs.lemmas.List.{take-append-le, length-take-le, length-take, length-drop, drop-take}
use Rattle.output.specs.Writing.{over, Wrote}

-- what came behind the first k bytes
pub came : (k got : ℕ) (front bytes back : List ℕ) → length front ≡ k → got ≤ length bytes
    → drop k (take (k + got) (front ++ (bytes ++ back))) ≡ take got bytes
came k got front bytes back e h =
    subst (λ (j : ℕ). drop j (take (j + got) (front ++ (bytes ++ back))) ≡ take got bytes) e
    (ap (drop (length front)) (take-append-add front (bytes ++ back) got)
    ∙ drop-append_seam front (take got (bytes ++ back))
    ∙ take-append-le got bytes back h)

-- what was written there
pub written : {bs before after : List ℕ} {n : ℕ} → Wrote bs n before after → take n after ≡ bs
unfolding over
written {bs} {before} w = rw (w.buffer, w.count) (take-append_seam bs (drop (length bs) before))

-- what was kept, and what came behind it
pub kept_and_came : (k n : ℕ) (l : List ℕ) → k ≤ n → take k l ++ drop k (take n l) ≡ take n l
kept_and_came k n l h =
    let all : k + (n - k) ≡ n = omega arith in
    subst (λ (j : ℕ). take k l ++ drop k (take j l) ≡ take j l) all
    (ap (λ (r : List ℕ). take k l ++ r) (drop-take k (n - k) l) ∙ sym (take-add k (n - k) l))

-- nothing came
pub none_came : (k n : ℕ) (l : List ℕ) → n ≡ k → drop k (take n l) ≡ []
none_came k n l e = drop_of_length-le (take n l) (rw length-take (omega arith))

-- something came
pub some_came : (k n : ℕ) (l : List ℕ) → k < n → n ≤ length l → 0 < length (drop k (take n l))
some_came k n l h b = rw (length-drop, length-take-le) (omega arith)
