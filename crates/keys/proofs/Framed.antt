-- Each break code that a reset sends says itself where it ends: the map is of keys alone.
-- Assumes nothing.
use Prim.Native.Nat.{ℕ, zero, suc, ◌+◌, ◌≤◌}
use native.Mathlib.Omega.{arith}
use mathlib.Core.Bool.{Bool, false}
use mathlib.Core.List.{List}
use Rattle.output.specs.ScanCodes.{first_key, last_key}
use Rattle.output.proofs.Cases.{both_ways}
use Rattle.output.proofs.Framed.{AllFramed, key_makes, sent_framed}
use Rattle.keys.specs.declared.Keys.{Keys}
use Rattle.keys.specs.Keys.{has_key, those, keys_of, breaks, break_packets}

-- of the n keys from k on
those_framed : (test : ℕ → Bool) (k n : ℕ) → first_key ≤ k → k + n ≤ last_key + 1 → AllFramed (breaks (those test k n))
unfolding those
those_framed test k zero low high = tt
those_framed test k (suc n) low high =
    let rest = those_framed test (suc k) n (omega arith) (omega arith) in
    both_ways (λ (ks : List ℕ). AllFramed (breaks ks)) (test k)
    (λ _. (sent_framed k false (key_makes k low (omega arith)), rest))
    (λ _. rest)

pub breaks_framed : (m : Keys) → AllFramed (break_packets m)
unfolding break_packets keys_of
breaks_framed m = those_framed (λ k. has_key k m) first_key last_key (omega arith) (omega arith)
