-- Laws of the map: what a press or a release of a key does to this key and to any other, its range, and its keys by their words.
-- Assumes nothing.
use Prim.Native.Nat.{ℕ, zero, suc, ◌+◌, ◌-◌, ◌/◌, ◌^◌, ◌≤◌, ◌<◌}
use native.Mathlib.Omega.{arith}
use native.Mathlib.Nat.{pow-suc}
use mathlib.Core.Path.{◌≡◌, refl, sym, ap, ap₂, ◌∙◌}
use mathlib.Core.Bool.{Bool, true, false, cond}
use mathlib.Core.List.{List, [], ◌∷◌, ◌++◌, map}
use lib.Dec.{leb}
use lib.ListN.{length, length-append, length-map}
use lib.Pow.{pow_pos}
use lib.Count.{ones}
use borrow.Author.Tests.{le-leb, lt-leb, leb-true, leb-false}
use Rattle.output.specs.ScanCodes.{first_key, last_key, break_of}
use Rattle.output.specs.Packets.{bytes}
use Rattle.output.proofs.Cases.{both_ways}
use Rattle.keys.specs.declared.Keys.{Keys}
use Rattle.keys.specs.Words.{has_bit, put, keys_in}
use Rattle.keys.specs.Keys.{low_keys, has_key, struck, no_keys, IsKeys, those, keys_of, held, breaks, break_packets}
use Rattle.keys.proofs.Words.{has_put, has_other, put_same, put_lt, keys_none, keys_count}

-- ---- a press or a release of a key

-- the map after it, and whether a key is in a map, by the word that has the key's bit
abbrev struck_in : Bool → ℕ → Bool → Keys → Keys
struck_in low k down m = cond low (record { low = put (k - 1) down m.low; high = m.high }) (record { low = m.low; high = put (k - low_keys - 1) down m.high })

abbrev has_in : Bool → ℕ → Keys → Bool
has_in low k m = cond low (has_bit (k - 1) m.low) (has_bit (k - low_keys - 1) m.high)

module _ (k : ℕ) (down : Bool) (m : Keys) where
  -- "set on a press and cleared on a release"
  pub has_struck : has_key k (struck k down m) ≡ down
  unfolding has_key struck
  has_struck = by (leb k low_keys)
    where
      by : (low : Bool) → has_in low k (struck_in low k down m) ≡ down
      by true = has_put (k - 1) down m.low
      by false = has_put (k - low_keys - 1) down m.high

  -- no other key changes
  pub has_others : (j : ℕ) → first_key ≤ j → first_key ≤ k → (j ≡ k → ⊥) → has_key j (struck k down m) ≡ has_key j m
  unfolding has_key struck
  has_others j a b n = by (leb j low_keys) (leb k low_keys) (λ e. leb-false j low_keys e) (λ e. leb-false k low_keys e)
    where
      by : (p q : Bool) → (p ≡ false → low_keys < j) → (q ≡ false → low_keys < k) → has_in p j (struck_in q k down m) ≡ has_in p j m
      by true true f g = has_other (j - 1) (k - 1) down m.low (λ (e : j - 1 ≡ k - 1). n (omega arith))
      by true false f g = refl
      by false true f g = refl
      by false false f g =
          let above = f refl in
          let over = g refl in
          has_other (j - low_keys - 1) (k - low_keys - 1) down m.high (λ (e : j - low_keys - 1 ≡ k - low_keys - 1). n (omega arith))

  -- "repeats changing nothing"
  pub struck_again : has_key k m ≡ down → struck k down m ≡ m
  unfolding has_key struck
  struck_again h = by (leb k low_keys) h
    where
      by : (low : Bool) → has_in low k m ≡ down → struck_in low k down m ≡ m
      by true e = ap {B = Keys} (λ (w : ℕ). record { low = w; high = m.high }) (put_same (k - 1) down m.low e)
      by false e = ap {B = Keys} (λ (w : ℕ). record { low = m.low; high = w }) (put_same (k - low_keys - 1) down m.high e)

  -- it stays a map of the keys
  pub struck_is : first_key ≤ k → k ≤ last_key → IsKeys m → IsKeys (struck k down m)
  unfolding struck
  struck_is a b h =
      both_ways IsKeys (leb k low_keys)
      (λ (e : leb k low_keys ≡ true). let low = leb-true k low_keys e in record { low = put_lt low_keys (k - 1) down m.low (omega arith) h.low; high = h.high })
      (λ (e : leb k low_keys ≡ false). let high = leb-false k low_keys e in record { low = h.low; high = put_lt (last_key - low_keys) (k - low_keys - 1) down m.high (omega arith) h.high })

pub no_keys_is : IsKeys no_keys
no_keys_is = record { low = pow_pos low_keys; high = pow_pos (last_key - low_keys) }

-- ---- the keys in the map, by their words

those_append : (test : ℕ → Bool) (k n r : ℕ) → those test k (n + r) ≡ those test k n ++ those test (k + n) r
unfolding those
those_append test k zero r = let e : k + 0 ≡ k = omega arith in let z : 0 + r ≡ r = omega arith in rw (e, z) refl
those_append test k (suc n) r =
    let e : k + suc n ≡ suc k + n = omega arith in
    let z : suc n + r ≡ suc (n + r) = omega arith in
    rw (e, z, those_append test (suc k) n r) (by (test k))
  where
    by : (t : Bool) → cond t (k ∷ (those test (suc k) n ++ those test (suc k + n) r)) (those test (suc k) n ++ those test (suc k + n) r)
        ≡ cond t (k ∷ those test (suc k) n) (those test (suc k) n) ++ those test (suc k + n) r
    by true = refl
    by false = refl

-- no more than there are numbers
those_most : (test : ℕ → Bool) (k n : ℕ) → length (those test k n) ≤ n
unfolding those
those_most test k zero = omega arith
those_most test k (suc n) =
    let h = those_most test (suc k) n in
    both_ways (λ (l : List ℕ). length l ≤ suc n) (test k) (λ _. omega arith) (λ _. omega arith)

-- tests that agree pass the same numbers
pub those_same : (f g : ℕ → Bool) (k n : ℕ) → ((j : ℕ) → k ≤ j → f j ≡ g j) → those f k n ≡ those g k n
unfolding those
those_same f g k zero h = refl
those_same f g k (suc n) h = rw (h k (omega arith), those_same f g (suc k) n (λ j l. h j (omega arith))) refl

-- a test that looks at the bits of a word
those_in : (d k w : ℕ) (test : ℕ → Bool) → ((j : ℕ) → j < d → test (k + j) ≡ has_bit j w) → those test k d ≡ keys_in d k w
unfolding those keys_in has_bit
those_in zero k w test h = refl
those_in (suc d) k w test h =
    let here : test k ≡ has_bit 0 w = (let e : k ≡ k + 0 = omega arith in ap test e ∙ h 0 (omega arith)) in
    let rest : those test (suc k) d ≡ keys_in d (suc k) (w / 2) =
    those_in d (suc k) (w / 2) test (λ j l. (let e : suc k + j ≡ k + suc j = omega arith in ap test e ∙ h (suc j) (omega arith))) in
    rw (here, rest) refl

-- no bit is set past a bound of the word
keys_short : (d e k w : ℕ) → w < 2 ^ d → keys_in (d + e) k w ≡ keys_in d k w
unfolding keys_in has_bit
keys_short zero e k w h = let z : w ≡ 0 = omega arith in rw (z, keys_none (0 + e) k) refl
keys_short (suc d) e k w h =
    let p = pow-suc 2 d in
    let z : suc d + e ≡ suc (d + e) = omega arith in
    rw (z, keys_short d e (suc k) (w / 2) (omega arith)) refl

module _ (m : Keys) (h : IsKeys m) where
  -- those of the low word, and then those of the high word
  pub keys_are : keys_of m ≡ keys_in 64 first_key m.low ++ keys_in 64 (low_keys + 1) m.high
  unfolding keys_of has_key
  keys_are =
      those_append (λ k. has_key k m) first_key low_keys (last_key - low_keys)
      ∙ ap₂ ◌++◌ (those_in low_keys first_key m.low (λ k. has_key k m) in_low)
      (those_in (last_key - low_keys) (low_keys + 1) m.high (λ k. has_key k m) in_high ∙ sym (keys_short (last_key - low_keys) 14 (low_keys + 1) m.high h.high))
    where
      in_low : (j : ℕ) → j < low_keys → has_key (first_key + j) m ≡ has_bit j m.low
      in_low j l =
          let t : leb (first_key + j) low_keys ≡ true = le-leb (first_key + j) low_keys (omega arith) in
          let z : first_key + j - 1 ≡ j = omega arith in
          rw (t, z) refl

      in_high : (j : ℕ) → j < last_key - low_keys → has_key (low_keys + 1 + j) m ≡ has_bit j m.high
      in_high j l =
          let t : leb (low_keys + 1 + j) low_keys ≡ false = lt-leb (low_keys + 1 + j) low_keys (omega arith) in
          let z : low_keys + 1 + j - low_keys - 1 ≡ j = omega arith in
          rw (t, z) refl

  -- as many as there are ones in both words
  pub held_is : held m ≡ ones m.low + ones m.high
  unfolding held
  held_is =
      let wide : m.high < 2 ^ 64 = (let b = h.high in omega arith) in
      let l = keys_count 64 first_key m.low h.low in
      let r = keys_count 64 (low_keys + 1) m.high wide in
      ap length keys_are ∙ length-append (keys_in 64 first_key m.low) (keys_in 64 (low_keys + 1) m.high) ∙ ap₂ ◌+◌ l r

-- ---- their break codes

pub break_codes : (ks : List ℕ) → bytes (breaks ks) ≡ map break_of ks
break_codes [] = refl
break_codes (k ∷ ks) = ap (λ (l : List ℕ). break_of k ∷ l) (break_codes ks)

pub breaks_append : (ks js : List ℕ) → bytes (breaks (ks ++ js)) ≡ bytes (breaks ks) ++ bytes (breaks js)
breaks_append [] js = refl
breaks_append (k ∷ ks) js = ap (λ (l : List ℕ). break_of k ∷ l) (breaks_append ks js)

-- one byte for each key
pub breaks_length : (ks : List ℕ) → length (bytes (breaks ks)) ≡ length ks
breaks_length ks = ap length (break_codes ks) ∙ length-map ks break_of

pub packets_length : (m : Keys) → length (bytes (break_packets m)) ≡ held m
unfolding break_packets held
packets_length m = breaks_length (keys_of m)

-- no more than there are keys
pub held_most : (m : Keys) → held m ≤ last_key
unfolding held keys_of
held_most m = those_most (λ k. has_key k m) first_key last_key
