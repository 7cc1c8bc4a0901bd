-- Laws of reading a line, for the code.
-- Assumes nothing.
use Prim.Native.Char.{code}
use Prim.Native.Nat.{ℕ, suc, ◌+◌, ◌-◌, ◌*◌, ◌%◌, ◌≤◌, ◌<◌}
use native.Mathlib.Omega.{arith}
use native.Mathlib.Numerals.{add-one}
use mathlib.Core.Path.{◌≡◌, refl, sym, ap, ◌∙◌}
use mathlib.Core.Bool.{Bool, true, false, cond, ◌&&◌}
use mathlib.Core.List.{List, [], ◌∷◌, ◌++◌, append_assoc, append-nil}
use Rattle.std.specs.Prelude.{Option, None, Some}
use lib.Dec.{eqb, leb, ltb}
use lib.ListN.{length, take, drop, set, get_or, replicate, length-drop, length-set, drop_of_length-le, take-append-drop}
use lib.Seq.{drop-cons, take_all, take-suc-set, drop-set-lt, drop-drop, length-take-le, take-nil}
use borrow.Author.Tests.{eq-eqb, ne_eqb, le-leb, lt-leb, leb-true, lt-ltb, ltb-true}
use Rattle.output.specs.declared.Run.{Run}
use Rattle.controller.specs.State.{queue_room, queue_of}
use Rattle.text.specs.Line.{tab, minus, hex_digit}
use Rattle.mouse.specs.Mouse.{held_limit}
use Rattle.fields.specs.Ranges.{numbered}
use Rattle.saved.specs.Load.{then, may_follow, number_from, forward, backward, motion_from, field_from, before_them, read_numbers, read_queue}

-- what stands behind the first n bytes of a text, as the code has it
pub rest_of : (n : ℕ) (l : List ℕ) → take (length l - n) (drop n l) ≡ drop n l
rest_of n l = take_all (length l - n) (drop n l) (simp length-drop (omega arith))

next_is : (l : List ℕ) (at : ℕ) → at < length l → drop at l ≡ get_or l at 0 ∷ drop (at + 1) l
next_is l at h = drop-cons l at 0 h ∙ ap (λ (n : ℕ). get_or l at 0 ∷ drop n l) (sym (add-one at))

-- ---- a number

-- one digit and a tab
pub single : (l : List ℕ) (v : ℕ) → 2 ≤ length l → get_or l 1 0 ≡ tab → code "0" ≤ get_or l 0 0 → get_or l 0 0 ≤ code "9" → v ≡ get_or l 0 0 - code "0"
    → ◌≡◌ {A = Option (ℕ × List ℕ)} (Some (v, take (length l - 2) (drop 2 l))) (number_from true 0 l)
unfolding number_from
single [] v h t low high e = absurd (omega arith)
single (b ∷ []) v h t low high e = absurd (omega arith)
single (b ∷ c ∷ l) v h t low high e =
    let s : 0 * 10 + (b - code "0") < 65536 = omega arith in
    let z : 0 * 10 + (b - code "0") ≡ v = omega arith in
    sym (rw (t, ne_eqb b tab (λ y. omega arith), le-leb (code "0") b low, le-leb b (code "9") high, lt-ltb (0 * 10 + (b - code "0")) 65536 s, z) (ap (λ (x : List ℕ). Some (v, x)) (sym (rest_of 2 (b ∷ c ∷ l)))))

-- the first i bytes are digits
pub record Numbering (l : List ℕ) (i v : ℕ) : Type 0 where
  pub alike : number_from (eqb i 0) v (drop i l) ≡ number_from true 0 l

module _ (l : List ℕ) (i v : ℕ) (n : Numbering l i v) where
  pub numbering_end : length l ≤ i → None ≡ number_from true 0 l
  unfolding number_from
  numbering_end h = sym (sym n.alike ∙ rw (drop_of_length-le l {i = i} h) refl)

  module _ (h : i < length l) where
    pub numbering_none : get_or l i 0 ≡ tab → i ≡ 0 → None ≡ number_from true 0 l
    unfolding number_from
    numbering_none t e = sym (sym n.alike ∙ rw (next_is l i h, t, eq-eqb i 0 e) refl)

    pub numbering_tab : get_or l i 0 ≡ tab → (i ≡ 0 → ⊥) → ◌≡◌ {A = Option (ℕ × List ℕ)} (Some (v, take (length l - (i + 1)) (drop (i + 1) l))) (number_from true 0 l)
    unfolding number_from
    numbering_tab t p = sym (sym n.alike ∙ rw (next_is l i h, t, ne_eqb i 0 p, rest_of (i + 1) l) refl)

    module _ (t : get_or l i 0 ≡ tab → ⊥) where
      pub numbering_stop : may_follow (eqb i 0) v (get_or l i 0) ≡ false → None ≡ number_from true 0 l
      unfolding number_from
      numbering_stop m = sym (sym n.alike ∙ rw (next_is l i h, ne_eqb (get_or l i 0) tab t, m) refl)

      pub numbering_on : (d : ℕ) → d ≡ get_or l i 0 - code "0" → may_follow (eqb i 0) v (get_or l i 0) ≡ true → Numbering l (i + 1) (v * 10 + d)
      unfolding number_from
      numbering_on d e m =
          let s : number_from (eqb i 0) v (drop i l) ≡ number_from false (v * 10 + (get_or l i 0 - code "0")) (drop (i + 1) l) = rw (next_is l i h, ne_eqb (get_or l i 0) tab t, m) refl in
          let k : eqb (i + 1) 0 ≡ false = ne_eqb (i + 1) 0 (λ z. omega arith) in
          record { alike = rw (k, e) (sym s ∙ n.alike) }

-- ---- held motion

module _ (l : List ℕ) (h : 1 ≤ length l) (e : get_or l 0 0 ≡ minus) where
  pub behind_minus : motion_from l ≡ then (number_from true 0 (take (length l - 1) (drop 1 l))) backward
  unfolding motion_from
  behind_minus = rw (rest_of 1 l) (at l h e)
    where
      at : (t : List ℕ) → 1 ≤ length t → get_or t 0 0 ≡ minus → motion_from t ≡ then (number_from true 0 (drop 1 t)) backward
      at [] h e = absurd (omega arith)
      at (b ∷ t) h e = rw (eq-eqb b minus e) refl

  pub minus_none : None ≡ number_from true 0 (take (length l - 1) (drop 1 l)) → None ≡ motion_from l
  minus_none f = sym (behind_minus ∙ rw (← f) refl)

  module _ (n : ℕ) (r : List ℕ) (f : Some (n, r) ≡ number_from true 0 (take (length l - 1) (drop 1 l))) where
    pub minus_some : 0 < n → n ≤ held_limit → Some (held_limit - n, r) ≡ motion_from l
    minus_some p q = sym (behind_minus ∙ rw (← f, lt-ltb 0 n p, le-leb n held_limit q) refl)

    pub minus_bad : (0 < n → n ≤ held_limit → ⊥) → None ≡ motion_from l
    minus_bad p = sym (behind_minus ∙ rw (← f) (go (ltb 0 n) (leb n held_limit) refl refl))
      where
        go : (t u : Bool) → ltb 0 n ≡ t → leb n held_limit ≡ u → cond {A = Option (ℕ × List ℕ)} (t && u) (Some (held_limit - n, r)) None ≡ None
        go true true a b = absurd (p (ltb-true 0 n a) (leb-true n held_limit b))
        go true false a b = refl
        go false u a b = refl

module _ (l : List ℕ) (h : 1 ≤ length l → get_or l 0 0 ≡ minus → ⊥) where
  pub no_minus : motion_from l ≡ then (number_from true 0 l) forward
  unfolding motion_from number_from
  no_minus = at l h
    where
      at : (t : List ℕ) → (1 ≤ length t → get_or t 0 0 ≡ minus → ⊥) → motion_from t ≡ then (number_from true 0 t) forward
      at [] h = refl
      at (b ∷ t) h = rw (ne_eqb b minus (h (omega arith))) refl

  pub plain_none : None ≡ number_from true 0 l → None ≡ motion_from l
  plain_none f = sym (no_minus ∙ rw (← f) refl)

  module _ (n : ℕ) (r : List ℕ) (f : Some (n, r) ≡ number_from true 0 l) where
    pub plain_some : n ≤ held_limit → Some (held_limit + n, r) ≡ motion_from l
    plain_some q = sym (no_minus ∙ rw (← f, le-leb n held_limit q) refl)

    pub plain_bad : held_limit < n → None ≡ motion_from l
    plain_bad q = sym (no_minus ∙ rw (← f, lt-leb n held_limit q) refl)

-- ---- the numbers

abbrev joined_to : List ℕ → Option (List ℕ × List ℕ) → Option (List ℕ × List ℕ)
joined_to p o = then {B = List ℕ × List ℕ} o (λ r. Some (p ++ r.0, r.1))

joined_none : (o : Option (List ℕ × List ℕ)) → joined_to [] o ≡ o
joined_none None = refl
joined_none (Some r) = refl

joined_more : (p : List ℕ) (v : ℕ) (o : Option (List ℕ × List ℕ)) → joined_to p (then o (before_them v)) ≡ joined_to (p ++ (v ∷ [])) o
joined_more p v None = refl
joined_more p v (Some r) = ap (λ (t : List ℕ). Some (t, r.1)) (sym (append_assoc p (v ∷ []) r.0))

-- the first i numbers are read
pub record Scanning (l a : List ℕ) (i : ℕ) (rest : List ℕ) : Type 0 where
  pub size : length a ≡ numbered
  pub alike : joined_to (take i a) (read_numbers (numbered - i) i rest) ≡ read_numbers numbered 0 l

module _ (l a : List ℕ) (i : ℕ) (rest : List ℕ) (s : Scanning l a i rest) where
  module _ (h : i < numbered) where
    one_field : read_numbers (numbered - i) i rest ≡ then (field_from i rest) (λ x. then (read_numbers (numbered - (i + 1)) (i + 1) x.1) (before_them x.0))
    unfolding read_numbers
    one_field =
        let k : numbered - i ≡ suc (numbered - (i + 1)) = omega arith in
        rw (k, add-one i) refl

    pub scanning_stop : None ≡ field_from i rest → None ≡ read_numbers numbered 0 l
    scanning_stop e =
        let z : read_numbers (numbered - i) i rest ≡ None = one_field ∙ rw (← e) refl in
        sym (sym s.alike ∙ ap (joined_to (take i a)) z)

    pub scanning_on : (v : ℕ) (left : List ℕ) → Some (v, left) ≡ field_from i rest → Scanning l (set a i v) (i + 1) left
    scanning_on v left e =
        let more = read_numbers (numbered - (i + 1)) (i + 1) left in
        let z : read_numbers (numbered - i) i rest ≡ then more (before_them v) = one_field ∙ rw (← e) refl in
        let t : take (i + 1) (set a i v) ≡ take i a ++ (v ∷ []) = ap (λ (n : ℕ). take n (set a i v)) (add-one i) ∙ take-suc-set a i v (omega (arith, s.size)) in
        record {
          size = length-set a i v ∙ s.size;
          alike = ap (λ (p : List ℕ). joined_to p more) t ∙ sym (joined_more (take i a) v more) ∙ ap (joined_to (take i a)) (sym z) ∙ s.alike;
        }

  pub scanning_end : numbered ≤ i → Some (a, rest) ≡ read_numbers numbered 0 l
  unfolding read_numbers
  scanning_end h =
      let k : numbered - i ≡ 0 = omega arith in
      let z : read_numbers (numbered - i) i rest ≡ Some ([], rest) = rw k refl in
      let t : take i a ++ [] ≡ a = append-nil (take i a) ∙ take_all i a (omega (arith, s.size)) in
      sym (sym s.alike ∙ ap (joined_to (take i a)) z ∙ ap (λ (p : List ℕ). Some (p, rest)) t)

-- ---- the queue

-- what ends a queue
read_few : (t : List ℕ) → length t < 2 → read_queue t ≡ []
unfolding read_queue
read_few [] h = refl
read_few (a ∷ []) h = refl
read_few (a ∷ b ∷ t) h = absurd (omega arith)

read_minus : (t : List ℕ) → 2 ≤ length t → get_or t 0 0 ≡ minus → read_queue t ≡ []
unfolding read_queue
read_minus [] h e = refl
read_minus (a ∷ []) h e = refl
read_minus (a ∷ b ∷ t) h e = rw (eq-eqb a minus e) refl

-- and a byte more
read_byte : (v : ℕ) (t : List ℕ) → 2 ≤ length t → (get_or t 0 0 ≡ minus → ⊥) → v ≡ (16 * hex_digit (get_or t 0 0) + hex_digit (get_or t 1 0)) % 256 → read_queue t ≡ v ∷ read_queue (take (length t - 2) (drop 2 t))
unfolding read_queue
read_byte v [] h e d = absurd (omega arith)
read_byte v (a ∷ []) h e d = absurd (omega arith)
read_byte v (a ∷ b ∷ t) h e d = rw (ne_eqb a minus e, ← d) (ap (λ (x : List ℕ). v ∷ read_queue x) (sym (rest_of 2 (a ∷ b ∷ t))))

-- the first n bytes are read
pub record Queueing (l bytes : List ℕ) (n : ℕ) (rest : List ℕ) : Type 0 where
  pub size : length bytes ≡ queue_room
  pub zeros : drop n bytes ≡ replicate (queue_room - n) 0
  pub alike : take n bytes ++ take (queue_room - n) (read_queue rest) ≡ take queue_room (read_queue l)

module _ (l bytes : List ℕ) (n : ℕ) (rest : List ℕ) (q : Queueing l bytes n rest) where
  queueing_done : n ≤ queue_room → take (queue_room - n) (read_queue rest) ≡ [] → record { bytes = bytes; len = n } ≡ queue_of {n = queue_room} (take queue_room (read_queue l))
  unfolding queue_of
  queueing_done c z =
      let e : take queue_room (read_queue l) ≡ take n bytes = sym q.alike ∙ ap (λ (t : List ℕ). take n bytes ++ t) z ∙ append-nil (take n bytes) in
      let m : length (take n bytes) ≡ n = length-take-le n bytes (omega (arith, q.size)) in
      let b : take n bytes ++ replicate (queue_room - n) 0 ≡ bytes = ap (λ (t : List ℕ). take n bytes ++ t) (sym q.zeros) ∙ take-append-drop n bytes in
      rw (e, m, b)

  pub queueing_short : n ≤ queue_room → length rest < 2 → record { bytes = bytes; len = n } ≡ queue_of {n = queue_room} (take queue_room (read_queue l))
  queueing_short c h = queueing_done c (ap (take (queue_room - n)) (read_few rest h) ∙ take-nil (queue_room - n))

  pub queueing_minus : n ≤ queue_room → 2 ≤ length rest → get_or rest 0 0 ≡ minus → record { bytes = bytes; len = n } ≡ queue_of {n = queue_room} (take queue_room (read_queue l))
  queueing_minus c h e = queueing_done c (ap (take (queue_room - n)) (read_minus rest h e) ∙ take-nil (queue_room - n))

  pub queueing_full : n ≡ queue_room → record { bytes = bytes; len = queue_room } ≡ queue_of {n = queue_room} (take queue_room (read_queue l))
  queueing_full h =
      let z : queue_room - n ≡ 0 = omega arith in
      let e : ◌≡◌ {A = Run queue_room} (record { bytes = bytes; len = queue_room }) (record { bytes = bytes; len = n }) = ap (λ (k : ℕ). record { bytes = bytes; len = k }) (sym h) in
      e ∙ queueing_done (omega arith) (ap (λ (k : ℕ). take k (read_queue rest)) z)

  pub queueing_on : (v : ℕ) → n < queue_room → 2 ≤ length rest → (get_or rest 0 0 ≡ minus → ⊥) → v ≡ (16 * hex_digit (get_or rest 0 0) + hex_digit (get_or rest 1 0)) % 256 → Queueing l (set bytes n v) (n + 1) (take (length rest - 2) (drop 2 rest))
  queueing_on v c h e d =
      let r = read_queue (take (length rest - 2) (drop 2 rest)) in
      let z : read_queue rest ≡ v ∷ r = read_byte v rest h e d in
      let k : queue_room - n ≡ suc (queue_room - (n + 1)) = omega arith in
      let t : take (n + 1) (set bytes n v) ≡ take n bytes ++ (v ∷ []) = ap (λ (m : ℕ). take m (set bytes n v)) (add-one n) ∙ take-suc-set bytes n v (omega (arith, q.size)) in
      let more = take (queue_room - (n + 1)) r in
      let on : take (queue_room - n) (read_queue rest) ≡ v ∷ more = ap (λ (m : ℕ). take m (read_queue rest)) k ∙ ap (take (suc (queue_room - (n + 1)))) z in
      record {
        size = length-set bytes n v ∙ q.size;
        zeros =
            drop-set-lt (n + 1) bytes n v (omega arith)
            ∙ sym (drop-drop 1 n bytes)
            ∙ ap (drop 1) (q.zeros ∙ ap (λ (m : ℕ). replicate m 0) k);
        alike = ap (λ (b : List ℕ). b ++ more) t ∙ append_assoc (take n bytes) (v ∷ []) more ∙ ap (λ (b : List ℕ). take n bytes ++ b) (sym on) ∙ q.alike;
      }
