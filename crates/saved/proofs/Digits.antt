-- Laws of the map as digits: by its words, how long it is, and that it is read as it was written.
-- Assumes nothing.
use Prim.Native.Nat.{ℕ, zero, suc, ◌+◌, ◌-◌, ◌*◌, ◌/◌, ◌%◌, ◌^◌, ◌≤◌, ◌<◌}
use native.Mathlib.Omega.{arith}
use native.Mathlib.Numerals.{add-one}
use native.Mathlib.Nat.{pow-suc, pow-succ', pow-le-pow_right, mul_left_comm}
use native.Mathlib.Decide.{dec_lt}
use mathlib.Core.Path.{◌≡◌, refl, sym, ap, ap₂, ◌∙◌, subst}
use mathlib.Core.Bool.{Bool, true, false, cond, ◌&&◌, ◌||◌, true≢false}
use mathlib.Core.List.{List, [], ◌∷◌, ◌++◌, append_assoc}
use Rattle.std.specs.Prelude.{Option, None, Some, option_map}
use Rattle.std.proofs.lemmas.Nat.{shl_whole}
use lib.Dec.{eqb}
use lib.ListN.{length, take, drop, set, get_or, length-append, length-drop}
use lib.Seq.{drop-drop, drop-append_seam, take_all}
use borrow.Author.Tests.{le-leb, lt-leb, eqb-true, eq-eqb, ne_eqb}
use Rattle.output.specs.ScanCodes.{first_key, last_key}
use Rattle.output.specs.Packets.{bit}
use Rattle.output.specs.Writing.{Wrote}
use Rattle.output.proofs.Cases.{and_true}
use Rattle.output.proofs.Writing.{none as nothing, stored_after, kept}
use Rattle.keys.specs.declared.Keys.{Keys}
use Rattle.keys.specs.Words.{has_bit}
use Rattle.keys.specs.Keys.{low_keys, has_key, IsKeys}
use Rattle.text.specs.Line.{tab}
use Rattle.text.specs.Output.{figure}
use Rattle.saved.specs.Load.{then, map_width}
use Rattle.saved.specs.Digits.{key_digits, map_text, word_digits, are_digits, word_of, word_from, begins_with, map_of, has_map, map_from}

-- ---- the digits of the keys are those of the words

key_append : (n r k : ℕ) (m : Keys) → key_digits (n + r) k m ≡ key_digits n k m ++ key_digits r (k + n) m
unfolding key_digits
key_append zero r k m = let e : k + 0 ≡ k = omega arith in let z : 0 + r ≡ r = omega arith in rw (e, z) refl
key_append (suc n) r k m =
    let e : suc n + r ≡ suc (n + r) = omega arith in
    let f : suc k + n ≡ k + suc n = omega arith in
    rw e (ap (λ (l : List ℕ). figure (bit (has_key k m)) ∷ l) (key_append n r (suc k) m ∙ rw f refl))

-- the digits of n bits of a word from bit j on
bit_digits : ℕ → ℕ → ℕ → List ℕ
bit_digits zero j w = []
bit_digits (suc n) j w = figure (bit (has_bit j w)) ∷ bit_digits n (suc j) w

halved : (n j w : ℕ) → bit_digits n (suc j) w ≡ bit_digits n j (w / 2)
unfolding bit_digits has_bit
halved zero j w = refl
halved (suc n) j w = ap (λ (l : List ℕ). figure (bit (has_bit j (w / 2))) ∷ l) (halved n (suc j) w)

odd : (x : ℕ) → x < 2 → bit (eqb x 1) ≡ x
odd zero h = refl
odd (suc zero) h = refl
odd (suc (suc x)) h = absurd (omega arith)

by_bits : (n w : ℕ) → bit_digits n 0 w ≡ word_digits n w
unfolding bit_digits has_bit word_digits
by_bits zero w = refl
by_bits (suc n) w = rw (odd (w % 2) (omega arith)) (ap (λ (l : List ℕ). figure (w % 2) ∷ l) (halved n 0 w ∙ by_bits n (w / 2)))

low_digits : (n k : ℕ) (m : Keys) → k + n ≤ low_keys → key_digits n (suc k) m ≡ bit_digits n k m.low
unfolding key_digits bit_digits has_key
low_digits zero k m h = refl
low_digits (suc n) k m h =
    let e : suc k - 1 ≡ k = omega arith in
    rw (le-leb (suc k) low_keys (omega arith), e) (ap (λ (l : List ℕ). figure (bit (has_bit k m.low)) ∷ l) (low_digits n (suc k) m (omega arith)))

high_digits : (n k : ℕ) (m : Keys) → key_digits n (low_keys + suc k) m ≡ bit_digits n k m.high
unfolding key_digits bit_digits has_key
high_digits zero k m = refl
high_digits (suc n) k m =
    let e : low_keys + suc k - low_keys - 1 ≡ k = omega arith in
    let f : suc (low_keys + suc k) ≡ low_keys + suc (suc k) = omega arith in
    rw (lt-leb (low_keys + suc k) low_keys (omega arith), e, f) (ap (λ (l : List ℕ). figure (bit (has_bit k m.high)) ∷ l) (high_digits n (suc k) m))

pub map_words : (m : Keys) → map_text m ≡ word_digits low_keys m.low ++ word_digits (last_key - low_keys) m.high
map_words m =
    key_append low_keys (last_key - low_keys) first_key m
    ∙ ap₂ (λ (a b : List ℕ). a ++ b) (low_digits low_keys 0 m (omega arith) ∙ by_bits low_keys m.low)
    (high_digits (last_key - low_keys) 0 m ∙ by_bits (last_key - low_keys) m.high)

-- written word by word
pub map_wrote : (m : Keys) (rest : List ℕ) {n : ℕ} {l X : List ℕ} → Wrote ((word_digits low_keys m.low ++ word_digits (last_key - low_keys) m.high) ++ rest) n l X → Wrote (map_text m ++ rest) n l X
map_wrote m rest {n} {l} {X} w = subst (λ (t : List ℕ). Wrote (t ++ rest) n l X) (sym (map_words m)) w

pub word_length : (n w : ℕ) → length (word_digits n w) ≡ n
unfolding word_digits
word_length zero w = refl
word_length (suc n) w = ap suc (word_length n (w / 2))

key_length : (n k : ℕ) (m : Keys) → length (key_digits n k m) ≡ n
unfolding key_digits
key_length zero k m = refl
key_length (suc n) k m = ap suc (key_length n (suc k) m)

pub map_length : (m : Keys) → length (map_text m) ≡ last_key
map_length m = key_length last_key first_key m

-- ---- what is written is read

one_digit : (x : ℕ) → x < 2 → figure x - figure 0 ≡ x
one_digit zero h = refl
one_digit (suc zero) h = refl
one_digit (suc (suc x)) h = absurd (omega arith)

word_back : (n w : ℕ) (l : List ℕ) → w < 2 ^ n → word_of n (word_digits n w ++ l) ≡ w
unfolding word_digits word_of
word_back zero w l h = omega arith
word_back (suc n) w l h =
    let p = pow-suc 2 n in
    let e = word_back n (w / 2) l (omega arith) in
    rw (one_digit (w % 2) (omega arith), e) (omega arith)

pub map_back : (m : Keys) (l : List ℕ) → IsKeys m → map_of (map_text m ++ l) ≡ m
unfolding map_of
map_back m l h =
    let low = word_digits low_keys m.low in
    let high = word_digits (last_key - low_keys) m.high in
    let e : map_text m ++ l ≡ low ++ (high ++ l) = ap (λ (t : List ℕ). t ++ l) (map_words m) ∙ append_assoc low high l in
    let d : drop low_keys (low ++ (high ++ l)) ≡ high ++ l = ap (λ (n : ℕ). drop n (low ++ (high ++ l))) (sym (word_length low_keys m.low)) ∙ drop-append_seam low (high ++ l) in
    rw (e, d, word_back low_keys m.low (high ++ l) h.low, word_back (last_key - low_keys) m.high l h.high)

-- ---- what is read was written so

digit_cases : (b : ℕ) → (eqb b (figure 0) || eqb b (figure 1)) ≡ true → (b - figure 0 < 2) × (figure (b - figure 0) ≡ b)
digit_cases b h = go (eqb b (figure 0)) refl h
  where
    go : (t : Bool) → eqb b (figure 0) ≡ t → (t || eqb b (figure 1)) ≡ true → (b - figure 0 < 2) × (figure (b - figure 0) ≡ b)
    go true e k = let z = eqb-true b (figure 0) e in omega arith
    go false e k = let z = eqb-true b (figure 1) k in omega arith

pub word_there : (n : ℕ) (l : List ℕ) → are_digits n l ≡ true → l ≡ word_digits n (word_of n l) ++ drop n l
unfolding are_digits word_digits word_of
word_there zero l h = refl
word_there (suc n) [] h = absurd (true≢false (sym h))
word_there (suc n) (b ∷ l) h =
    let u = and_true (eqb b (figure 0) || eqb b (figure 1)) (are_digits n l) h in
    let r = word_of n l in
    let c = digit_cases b u.0 in
    let d = c.0 in
    let o : ((b - figure 0) + 2 * r) % 2 ≡ b - figure 0 = omega arith in
    let e : ((b - figure 0) + 2 * r) / 2 ≡ r = omega arith in
    rw (o, e, c.1) (ap (λ (t : List ℕ). b ∷ t) (word_there n l u.1))

pub word_less : (n : ℕ) (l : List ℕ) → are_digits n l ≡ true → word_of n l < 2 ^ n
unfolding word_of are_digits
word_less zero l h = omega arith
word_less (suc n) [] h = absurd (true≢false (sym h))
word_less (suc n) (b ∷ l) h =
    let u = and_true (eqb b (figure 0) || eqb b (figure 1)) (are_digits n l) h in
    let c = digit_cases b u.0 in
    let p = pow-suc 2 n in
    let q = word_less n l u.1 in
    omega (arith, c.0)

digit_passes : (x : ℕ) → x < 2 → (eqb (figure x) (figure 0) || eqb (figure x) (figure 1)) ≡ true
digit_passes zero h = refl
digit_passes (suc zero) h = refl
digit_passes (suc (suc x)) h = absurd (omega arith)

word_passes : (n w : ℕ) (l : List ℕ) → are_digits n (word_digits n w ++ l) ≡ true
unfolding are_digits word_digits
word_passes zero w l = refl
word_passes (suc n) w l = rw (digit_passes (w % 2) (omega arith), word_passes n (w / 2) l)

are_both : (n m : ℕ) (l : List ℕ) → are_digits (n + m) l ≡ (are_digits n l && are_digits m (drop n l))
unfolding are_digits
are_both zero m l = let e : 0 + m ≡ m = omega arith in rw e refl
are_both (suc n) m [] = let e : suc n + m ≡ suc (n + m) = omega arith in rw e refl
are_both (suc n) m (b ∷ l) =
    let e : suc n + m ≡ suc (n + m) = omega arith in
    rw (e, are_both n m l) (sym (and_assoc (eqb b (figure 0) || eqb b (figure 1)) (are_digits n l) (are_digits m (drop n l))))
  where
    and_assoc : (a b c : Bool) → ((a && b) && c) ≡ (a && (b && c))
    and_assoc true b c = refl
    and_assoc false b c = refl

abbrev high_keys : ℕ
high_keys = last_key - low_keys

first_byte : (b : ℕ) (l : List ℕ) → begins_with b l ≡ true → l ≡ b ∷ drop 1 l
unfolding begins_with
first_byte b [] h = absurd (true≢false (sym h))
first_byte b (c ∷ l) h = rw (eqb-true c b h) refl

pub map_there : (l : List ℕ) → has_map l ≡ true → l ≡ map_text (map_of l) ++ (tab ∷ drop map_width l)
unfolding has_map map_of
map_there l h =
    let u = and_true (are_digits last_key l) (begins_with tab (drop last_key l)) h in
    let v = and_true (are_digits low_keys l) (are_digits high_keys (drop low_keys l)) (sym (are_both low_keys high_keys l) ∙ u.0) in
    let low = word_digits low_keys (word_of low_keys l) in
    let high = word_digits high_keys (word_of high_keys (drop low_keys l)) in
    let d : drop high_keys (drop low_keys l) ≡ drop last_key l = drop-drop high_keys low_keys l in
    let t : drop last_key l ≡ tab ∷ drop map_width l = first_byte tab (drop last_key l) u.1 ∙ ap (λ (x : List ℕ). tab ∷ x) (drop-drop 1 last_key l) in
    word_there low_keys l v.0
    ∙ ap (λ (x : List ℕ). low ++ x) (word_there high_keys (drop low_keys l) v.1 ∙ ap (λ (x : List ℕ). high ++ x) (d ∙ t))
    ∙ sym (append_assoc low high (tab ∷ drop map_width l))
    ∙ ap (λ (x : List ℕ). x ++ (tab ∷ drop map_width l)) (sym (map_words (map_of l)))

pub map_passes : (m : Keys) (l : List ℕ) → has_map (map_text m ++ (tab ∷ l)) ≡ true
unfolding has_map begins_with
map_passes m l =
    let low = word_digits low_keys m.low in
    let high = word_digits high_keys m.high in
    let rest = high ++ (tab ∷ l) in
    let e : map_text m ++ (tab ∷ l) ≡ low ++ rest = ap (λ (t : List ℕ). t ++ (tab ∷ l)) (map_words m) ∙ append_assoc low high (tab ∷ l) in
    let d : drop low_keys (low ++ rest) ≡ rest = ap (λ (n : ℕ). drop n (low ++ rest)) (sym (word_length low_keys m.low)) ∙ drop-append_seam low rest in
    let a : are_digits last_key (low ++ rest) ≡ true = are_both low_keys high_keys (low ++ rest) ∙ rw (d, word_passes low_keys m.low rest, word_passes high_keys m.high (tab ∷ l)) refl in
    let b : drop last_key (map_text m ++ (tab ∷ l)) ≡ tab ∷ l = ap (λ (n : ℕ). drop n (map_text m ++ (tab ∷ l))) (sym (map_length m)) ∙ drop-append_seam (map_text m) (tab ∷ l) in
    rw (b, e, a) refl

-- a text with a map is as long
pub map_long : (l : List ℕ) → has_map l ≡ true → map_width ≤ length l
map_long l h =
    let m = map_text (map_of l) in
    let e : length l ≡ length (m ++ (tab ∷ drop map_width l)) = ap length (map_there l h) in
    omega (arith, e, length-append m (tab ∷ drop map_width l), map_length (map_of l))

pub no_map_short : (l : List ℕ) → length l < map_width → false ≡ has_map l
no_map_short l h = go (has_map l) refl
  where
    go : (t : Bool) → has_map l ≡ t → false ≡ has_map l
    go true e = absurd (let m = map_long l e in omega arith)
    go false e = sym e

-- and it is a map of the keys
pub map_is : (l : List ℕ) → has_map l ≡ true → IsKeys (map_of l)
unfolding has_map map_of
map_is l h =
    let u = and_true (are_digits last_key l) (begins_with tab (drop last_key l)) h in
    let v = and_true (are_digits low_keys l) (are_digits high_keys (drop low_keys l)) (sym (are_both low_keys high_keys l) ∙ u.0) in
    record { low = word_less low_keys l v.0; high = word_less high_keys (drop low_keys l) v.1 }

-- ---- the map, word by word

word_taken : (n : ℕ) (l : List ℕ) → (are_digits n (take n l) ≡ are_digits n l) × (word_of n (take n l) ≡ word_of n l)
unfolding are_digits word_of
word_taken zero l = (refl, refl)
word_taken (suc n) [] = (refl, refl)
word_taken (suc n) (b ∷ l) = let e = word_taken n l in (rw e.0 refl, rw e.1 refl)

pub word_front : (n : ℕ) (l : List ℕ) → word_from n (take n l) ≡ word_from n l
unfolding word_from
word_front n l = let e = word_taken n l in rw (e.0, e.1) refl

-- the map as two words and a tab
abbrev pub by_words : List ℕ → Option (Keys × List ℕ)
by_words l =
    then {B = Keys × List ℕ} (word_from low_keys l) (λ low.
    then {B = Keys × List ℕ} (word_from high_keys (drop low_keys l)) (λ high.
    cond (begins_with tab (drop last_key l)) (Some (record { low = low; high = high }, drop map_width l)) None))

pub map_by_words : (l : List ℕ) → by_words l ≡ option_map {U = Keys × List ℕ} (λ (m : Keys). (m, drop map_width l)) (map_from l)
unfolding word_from map_from has_map map_of
map_by_words l =
    rw (are_both low_keys high_keys l)
    (go (are_digits low_keys l) (are_digits high_keys (drop low_keys l)) (begins_with tab (drop last_key l)) (word_of low_keys l) (word_of high_keys (drop low_keys l)) (drop map_width l))
  where
    go : (s t u : Bool) (low high : ℕ) (r : List ℕ)
        → then {B = Keys × List ℕ} (cond s (Some low) None) (λ (a : ℕ). then {B = Keys × List ℕ} (cond t (Some high) None) (λ (b : ℕ). cond u (Some (record { low = a; high = b }, r)) None))
        ≡ option_map {U = Keys × List ℕ} (λ (m : Keys). (m, r)) (cond ((s && t) && u) (Some (record { low = low; high = high })) None)
    go true true true low high r = refl
    go true true false low high r = refl
    go true false u low high r = refl
    go false t u low high r = refl

no_tab : (t : List ℕ) → (1 ≤ length t → get_or t 0 0 ≡ tab → ⊥) → begins_with tab t ≡ false
unfolding begins_with
no_tab [] h = refl
no_tab (b ∷ t) h = ne_eqb b tab (h (omega arith))

a_tab : (t : List ℕ) → 1 ≤ length t → get_or t 0 0 ≡ tab → begins_with tab t ≡ true
unfolding begins_with
a_tab [] h e = absurd (omega arith)
a_tab (b ∷ t) h e = eq-eqb b tab e

pub map_short : (l : List ℕ) → length l < map_width → None ≡ option_map {U = Keys × List ℕ} (λ (m : Keys). (m, drop map_width l)) (map_from l)
unfolding map_from
map_short l h = rw (sym (no_map_short l h)) refl

-- the parts of a text as the code takes them
module _ (l low rest high left : List ℕ) (a : low ≡ take low_keys l) (b : rest ≡ drop low_keys l) (c : high ≡ take high_keys rest) (d : left ≡ drop high_keys rest)
    (m : length low ≡ low_keys) (n : length high ≡ high_keys) where
  low_is : word_from (length low) low ≡ word_from low_keys l
  low_is = rw (m, a) (word_front low_keys l)

  high_is : word_from (length high) high ≡ word_from high_keys (drop low_keys l)
  high_is = rw (n, c, b) (word_front high_keys (drop low_keys l))

  left_is : left ≡ drop last_key l
  left_is = d ∙ ap (drop high_keys) b ∙ drop-drop high_keys low_keys l

  pub map_low : None ≡ word_from (length low) low → None ≡ option_map {U = Keys × List ℕ} (λ (k : Keys). (k, drop map_width l)) (map_from l)
  map_low e = rw (← (e ∙ low_is)) refl ∙ map_by_words l

  module _ (x : ℕ) (p : Some x ≡ word_from (length low) low) where
    pub map_high : None ≡ word_from (length high) high → None ≡ option_map {U = Keys × List ℕ} (λ (k : Keys). (k, drop map_width l)) (map_from l)
    map_high e = rw (← (p ∙ low_is), ← (e ∙ high_is)) refl ∙ map_by_words l

    module _ (y : ℕ) (q : Some y ≡ word_from (length high) high) where
      by_tab : (t : Bool) → begins_with tab left ≡ t → cond t (Some (record { low = x; high = y }, drop map_width l)) None ≡ option_map {U = Keys × List ℕ} (λ (k : Keys). (k, drop map_width l)) (map_from l)
      by_tab t e = rw (← e, left_is) (rw (← (p ∙ low_is), ← (q ∙ high_is)) refl ∙ map_by_words l)

      pub map_other : (1 ≤ length left → get_or left 0 0 ≡ tab → ⊥) → None ≡ option_map {U = Keys × List ℕ} (λ (k : Keys). (k, drop map_width l)) (map_from l)
      map_other t = by_tab false (no_tab left t)

      pub map_whole : 1 ≤ length left → get_or left 0 0 ≡ tab → Some (record { low = x; high = y }, take (length left - 1) (drop 1 left)) ≡ option_map {U = Keys × List ℕ} (λ (k : Keys). (k, drop map_width l)) (map_from l)
      map_whole h t = ap (λ (r : List ℕ). Some (record { low = x; high = y }, r)) behind ∙ by_tab true (a_tab left h t)
        where
          behind : take (length left - 1) (drop 1 left) ≡ drop map_width l
          behind = take_all (length left - 1) (drop 1 left) (simp length-drop (omega arith)) ∙ ap (drop 1) left_is ∙ drop-drop 1 last_key l

-- ---- the loop that writes a word

-- what is left of a word after i bits
pub rest_of : ℕ → ℕ → ℕ
rest_of zero w = w
rest_of (suc i) w = rest_of i (w / 2)

rest_half : (i w : ℕ) → rest_of (suc i) w ≡ rest_of i w / 2
unfolding rest_of
rest_half zero w = refl
rest_half (suc i) w = rest_half i (w / 2)

word_more : (i w : ℕ) → word_digits (suc i) w ≡ word_digits i w ++ (figure (rest_of i w % 2) ∷ [])
unfolding word_digits rest_of
word_more zero w = refl
word_more (suc i) w = ap (λ (l : List ℕ). figure (w % 2) ∷ l) (word_more i (w / 2))

-- the first i digits are written
pub record Spelling (w n : ℕ) (l X : List ℕ) (i rest : ℕ) : Type 0 where
  pub inside : i ≤ n
  pub left : rest ≡ rest_of i w
  pub wrote : Wrote (word_digits i w) i l X
  pub same : length X ≡ length l

module _ (w n : ℕ) (l : List ℕ) (room : n ≤ length l) where
  pub spelling_start : Spelling w n l l 0 w
  unfolding word_digits rest_of
  spelling_start = record { inside = omega arith; left = refl; wrote = nothing l; same = refl }

  module _ {X : List ℕ} {i rest : ℕ} (s : Spelling w n l X i rest) where
    pub spelling_on : (b : ℕ) → i < n → b ≡ figure (rest % 2) → Spelling w n l (set X i b) (i + 1) (rest / 2)
    spelling_on b h e =
        let d : word_digits i w ++ (b ∷ []) ≡ word_digits (i + 1) w =
        ap (λ (x : ℕ). word_digits i w ++ (x ∷ [])) (e ∙ ap (λ (r : ℕ). figure (r % 2)) s.left) ∙ sym (word_more i w) ∙ ap (λ (k : ℕ). word_digits k w) (sym (add-one i))
        in
        let v = subst (λ (t : List ℕ). Wrote t (i + 1) l (set X i b)) d (stored_after b s.wrote (omega arith)) in
        record {
          inside = omega arith;
          left = ap (λ (r : ℕ). r / 2) s.left ∙ sym (rest_half i w) ∙ ap (λ (k : ℕ). rest_of k w) (sym (add-one i));
          wrote = v;
          same = kept v (omega arith);
        }

-- ---- the loop that reads one

digit_more : (i : ℕ) (l : List ℕ) → i < length l → are_digits (suc i) l ≡ (are_digits i l && (eqb (get_or l i 0) (figure 0) || eqb (get_or l i 0) (figure 1)))
unfolding are_digits
digit_more i [] h = absurd (omega arith)
digit_more zero (b ∷ l) h = and_last (eqb b (figure 0) || eqb b (figure 1))
  where
    and_last : (t : Bool) → (t && true) ≡ (true && t)
    and_last true = refl
    and_last false = refl
digit_more (suc i) (b ∷ l) h =
    rw (digit_more i l (omega arith)) (and_both (eqb b (figure 0) || eqb b (figure 1)) (are_digits i l) (eqb (get_or l i 0) (figure 0) || eqb (get_or l i 0) (figure 1)))
  where
    and_both : (t u v : Bool) → (t && (u && v)) ≡ ((t && u) && v)
    and_both true u v = refl
    and_both false u v = refl

bit_more : (i : ℕ) (l : List ℕ) → i < length l → word_of (suc i) l ≡ word_of i l + (get_or l i 0 - figure 0) * 2 ^ i
unfolding word_of
bit_more i [] h = absurd (omega arith)
bit_more zero (b ∷ l) h = omega arith
bit_more (suc i) (b ∷ l) h =
    let d = get_or l i 0 - figure 0 in
    let e = bit_more i l (omega arith) in
    let q : d * 2 ^ suc i ≡ 2 * (d * 2 ^ i) = ap (λ (x : ℕ). d * x) (pow-succ' 2 i) ∙ mul_left_comm d 2 (2 ^ i) in
    omega (arith, e, q)

-- the first i digits are read
pub record Reckoning (l : List ℕ) (i word : ℕ) : Type 0 where
  pub digits : are_digits i l ≡ true
  pub value : word ≡ word_of i l

pub reckoning_start : (l : List ℕ) → Reckoning l 0 0
unfolding word_of are_digits
reckoning_start l = record { digits = refl; value = refl }

-- a digit in its place is below a word's end
placed : (d i : ℕ) → d ≤ 1 → i < 64 → (d * 2 ^ i % 18446744073709551616 ≡ d * 2 ^ i) × (d * 2 ^ i ≤ 2 ^ i)
placed d i h l = (shl_whole d 1 i 64 (omega arith) (omega arith), at_most d (2 ^ i) h)
  where
    at_most : (d x : ℕ) → d ≤ 1 → d * x ≤ x
    at_most zero x h = omega arith
    at_most (suc zero) x h = omega arith
    at_most (suc (suc d)) x h = absurd (omega arith)

module _ (l : List ℕ) (i word : ℕ) (r : Reckoning l i word) (h : i < length l) where
  pub reckoning_stop : (get_or l i 0 ≡ figure 0 → ⊥) → (get_or l i 0 ≡ figure 1 → ⊥) → None ≡ word_from (length l) l
  unfolding word_from
  reckoning_stop a b =
      let k : suc i + (length l - suc i) ≡ length l = omega arith in
      let bad : are_digits (suc i) l ≡ false = digit_more i l h ∙ rw (r.digits, ne_eqb (get_or l i 0) (figure 0) a, ne_eqb (get_or l i 0) (figure 1) b) refl in
      let all : are_digits (length l) l ≡ false = ap (λ (m : ℕ). are_digits m l) (sym k) ∙ are_both (suc i) (length l - suc i) l ∙ rw bad refl in
      rw all refl

  module _ (d : ℕ) (e : d ≡ get_or l i 0 - figure 0) (low : figure 0 ≤ get_or l i 0) (high : get_or l i 0 ≤ figure 1) (small : length l ≤ 64) where
    in_place : (d * 2 ^ i % 18446744073709551616 ≡ d * 2 ^ i) × (d * 2 ^ i ≤ 2 ^ i)
    in_place = placed d i (omega arith) (omega arith)

    pub reckoning_small : word + d * 2 ^ i % 18446744073709551616 < 18446744073709551616
    reckoning_small =
        let q = word_less i l r.digits in
        let p : 2 ^ suc i ≤ 2 ^ 64 = (let z : 0 < 2 = omega arith in let y : suc i ≤ 64 = omega arith in pow-le-pow_right z y) in
        omega (arith, q, p, r.value, pow-succ' 2 i, in_place.0, in_place.1)

    pub reckoning_on : Reckoning l (i + 1) (word + d * 2 ^ i % 18446744073709551616)
    reckoning_on =
        let b : (eqb (get_or l i 0) (figure 0) || eqb (get_or l i 0) (figure 1)) ≡ true = between (get_or l i 0) low high in
        record {
          digits = rw (add-one i) (digit_more i l h ∙ rw (r.digits, b) refl);
          value = rw (add-one i, in_place.0, e) (ap (λ (x : ℕ). x + (get_or l i 0 - figure 0) * 2 ^ i) r.value ∙ sym (bit_more i l h));
        }
      where
        between : (b : ℕ) → figure 0 ≤ b → b ≤ figure 1 → (eqb b (figure 0) || eqb b (figure 1)) ≡ true
        between b low high =
            elim (dec_lt (figure 0) b) [
              | yes more ↦ (let e : b ≡ figure 1 = omega arith in rw e refl)
              | no more ↦ (let e : b ≡ figure 0 = omega arith in rw e refl)
            ]

pub reckoning_end : (l : List ℕ) (i word : ℕ) → Reckoning l i word → length l ≡ i → Some word ≡ word_from (length l) l
unfolding word_from
reckoning_end l i word r e = rw (e, r.digits) (ap Some r.value)
