-- Laws of lines whose fields have one length: two hexadecimal digits, and a byte that says down or up.
-- Assumes nothing.
use Prim.Native.Char.{code}
use Prim.Native.Nat.{ℕ, suc, ◌+◌, ◌-◌, ◌*◌, ◌≤◌, ◌<◌}
use native.Mathlib.Decide.{ℕ_discrete, dec_lt}
use native.Mathlib.Omega.{arith}
use mathlib.Core.Path.{◌≡◌, refl, sym, ap, ◌∙◌}
use mathlib.Core.Bool.{Bool, true, false, cond, ◌&&◌}
use mathlib.Core.List.{List, [], ◌∷◌}
use Rattle.std.specs.Prelude.{Option, None, Some, option_map, option_and_then}
use lib.Dec.{eqb, ltb}
use lib.ListN.{length, take, drop, get_or}
use borrow.Author.Tests.{lt-leb, eq-eqb, ne_eqb, ltb-true}
use Rattle.output.proofs.Cases.{and_true}
use Rattle.mouse.specs.declared.Side.{Side}
use Rattle.controller.specs.declared.Input.{Input}
use Rattle.controller.specs.declared.Input.TheVariants.{Byte, Key, Button}
use Rattle.text.specs.Line.{Line, Good, Bad, line_feed, tab, fields, hex_digit, hex, level, one_more, two_more}
use Rattle.text.specs.Fronts.{until, first}
use Rattle.text.specs.Reading.{line_by}
use Rattle.text.proofs.Fields.{one_unread, one_last, two_unread, two_next}
use Rattle.text.proofs.Lengths.{hex_length, level_length, hex_level_length}
use Rattle.text.proofs.FirstLines.{by, unended, wrong, right}

-- ---- down or up, at the end of a line
module _ (make : Bool → Input) (d : ℕ) where
  goes_down : d ≡ code "1" → one_more level make (fields (d ∷ [])) ≡ Good (make true)
  unfolding fields level
  goes_down e = rw (ne_eqb d tab (omega arith), ne_eqb d (code "0") (omega arith), eq-eqb d (code "1") e) refl

  goes_up : d ≡ code "0" → one_more level make (fields (d ∷ [])) ≡ Good (make false)
  unfolding fields level
  goes_up e = rw (ne_eqb d tab (omega arith), eq-eqb d (code "0") e) refl

  goes_neither : (d ≡ code "1" → ⊥) → (d ≡ code "0" → ⊥) → one_more level make (fields (d ∷ [])) ≡ Bad
  unfolding fields level
  goes_neither n m =
      elim (ℕ_discrete d tab) [
        | yes e ↦ rw (eq-eqb d tab e) refl
        | no t ↦ rw (ne_eqb d tab t, ne_eqb d (code "0") m, ne_eqb d (code "1") n) refl
      ]

-- ---- two digits at the front

-- a digit is no tab, and no line feed
digit_byte : (a : ℕ) → hex_digit a ≤ 15 → code "0" ≤ a
unfolding hex_digit
digit_byte a h =
    elim (dec_lt a (code "0")) [
      | yes l ↦ absurd (omega (arith, rw (lt-leb (code "0") a l, lt-leb (code "A") a (omega arith)) at h))
      | no l ↦ omega arith
    ]

hex_taken : (t : Bool) (x v : ℕ) → cond t (Some x) None ≡ Some v → t ≡ true
hex_taken true x v e = refl
hex_taken false x v e = absurd cc

digit_bytes : (a b v : ℕ) → hex (a ∷ b ∷ []) ≡ Some v → (code "0" ≤ a) × (code "0" ≤ b)
unfolding hex
digit_bytes a b v e =
    let t = and_true (ltb (hex_digit a) 16) (ltb (hex_digit b) 16) (hex_taken (ltb (hex_digit a) 16 && ltb (hex_digit b) 16) (16 * hex_digit a + hex_digit b) v e) in
    (digit_byte a (omega (arith, ltb-true (hex_digit a) 16 t.0)), digit_byte b (omega (arith, ltb-true (hex_digit b) 16 t.1)))

hex_none : (a b : ℕ) → hex (a ∷ b ∷ []) ≡ None → (s t : Bool) → hex (cond s [] (a ∷ cond t [] (b ∷ []))) ≡ None
unfolding hex
hex_none a b e true t = refl
hex_none a b e false true = refl
hex_none a b e false false = e

module _ (a b : ℕ) (r : List ℕ) (ends : first r ≡ []) where
  first_two : first (a ∷ b ∷ r) ≡ cond (eqb a tab) [] (a ∷ cond (eqb b tab) [] (b ∷ []))
  unfolding until
  first_two = rw ends refl

  neither : hex (a ∷ b ∷ []) ≡ None → hex (first (a ∷ b ∷ r)) ≡ None
  neither e = ap hex first_two ∙ hex_none a b e (eqb a tab) (eqb b tab)

  both : (v : ℕ) → hex (a ∷ b ∷ []) ≡ Some v → (hex (first (a ∷ b ∷ r)) ≡ Some v) × (length (first (a ∷ b ∷ r)) ≡ 2)
  both v h =
      let (m, n) = digit_bytes a b v h in
      let e : first (a ∷ b ∷ r) ≡ a ∷ b ∷ [] = first_two ∙ rw (ne_eqb a tab (λ e. omega arith), ne_eqb b tab (λ e. omega arith)) refl in
      (ap hex e ∙ h, ap length e)

-- ---- the first bytes of a text that has so many

one_byte : (s : List ℕ) → 1 ≤ length s → take 1 s ≡ get_or s 0 0 ∷ []
one_byte [] h = absurd (omega arith)
one_byte (a ∷ s) h = refl

two_bytes : (s : List ℕ) → 2 ≤ length s → take 2 s ≡ get_or s 0 0 ∷ get_or s 1 0 ∷ []
two_bytes [] h = absurd (omega arith)
two_bytes (a ∷ s) h = ap (λ (l : List ℕ). a ∷ l) (one_byte s (omega arith))

abbrev four : List ℕ → List ℕ
four s = get_or s 0 0 ∷ get_or s 1 0 ∷ get_or s 2 0 ∷ get_or s 3 0 ∷ []

four_bytes : (s : List ℕ) → 4 ≤ length s → take 4 s ≡ four s
four_bytes [] h = absurd (omega arith)
four_bytes (a ∷ []) h = absurd (omega arith)
four_bytes (a ∷ b ∷ s) h = ap (λ (l : List ℕ). a ∷ b ∷ l) (two_bytes s (omega arith))

-- what stands past the first k bytes, as a call is lent it
abbrev rest : ℕ → List ℕ → List ℕ
rest k s = take (length s - k) (drop k s)

-- ---- down or up alone

abbrev level_line : (Bool → Input) → List ℕ → Line
level_line make l = one_more level make (fields l)

module _ (make : Bool → Input) (s : List ℕ) where
  pub level_open : (1 < length s → get_or s 1 0 ≡ line_feed → ⊥) → None ≡ by (level_line make) s
  level_open n = unended 1 (level_line make) (level_length make) s n

  pub level_neither : (get_or s 0 0 ≡ code "1" → ⊥) → (get_or s 0 0 ≡ code "0" → ⊥) → None ≡ by (level_line make) s
  level_neither d u = wrong 1 (level_line make) (level_length make) s (λ h. ap (level_line make) (one_byte s h) ∙ goes_neither make (get_or s 0 0) d u)

  module _ (long : 1 < length s) (ends : get_or s 1 0 ≡ line_feed) where
    level_right : (i : Input) → code "0" ≤ get_or s 0 0 → level_line make (get_or s 0 0 ∷ []) ≡ Good i → Some (i, rest 2 s) ≡ by (level_line make) s
    unfolding until
    level_right i h e =
        right 1 (level_line make) (level_length make) s long ends
        (rw (one_byte s (omega arith), ne_eqb (get_or s 0 0) line_feed (λ e. omega arith)) refl)
        i (ap (level_line make) (one_byte s (omega arith)) ∙ e)

    pub level_down : get_or s 0 0 ≡ code "1" → Some (make true, rest 2 s) ≡ by (level_line make) s
    level_down e = level_right (make true) (omega arith) (goes_down make (get_or s 0 0) e)

    pub level_up : get_or s 0 0 ≡ code "0" → Some (make false, rest 2 s) ≡ by (level_line make) s
    level_up e = level_right (make false) (omega arith) (goes_up make (get_or s 0 0) e)

-- ---- two digits alone

abbrev byte_line : (ℕ → Input) → List ℕ → Line
byte_line make l = one_more hex make (fields l)

none_there : first [] ≡ []
unfolding until
none_there = refl

module _ (make : ℕ → Input) (s : List ℕ) where
  pub byte_open : (2 < length s → get_or s 2 0 ≡ line_feed → ⊥) → None ≡ by (byte_line make) s
  byte_open n = unended 2 (byte_line make) (hex_length make) s n

  byte_wrong : hex (first (get_or s 0 0 ∷ get_or s 1 0 ∷ [])) ≡ None → None ≡ by (byte_line make) s
  byte_wrong e = wrong 2 (byte_line make) (hex_length make) s (λ h. ap (byte_line make) (two_bytes s h) ∙ one_unread hex (get_or s 0 0 ∷ get_or s 1 0 ∷ []) e make)

  pub byte_none : hex (get_or s 0 0 ∷ get_or s 1 0 ∷ []) ≡ None → None ≡ by (byte_line make) s
  byte_none e = byte_wrong (neither (get_or s 0 0) (get_or s 1 0) [] none_there e)

  pub byte_good : 2 < length s → get_or s 2 0 ≡ line_feed → (v : ℕ) → hex (get_or s 0 0 ∷ get_or s 1 0 ∷ []) ≡ Some v → Some (make v, rest 3 s) ≡ by (byte_line make) s
  unfolding until
  byte_good long ends v h =
      let a = get_or s 0 0 in
      let b = get_or s 1 0 in
      let (m, n) = digit_bytes a b v h in
      let r = both a b [] none_there v h in
      right 2 (byte_line make) (hex_length make) s long ends
      (rw (two_bytes s (omega arith), ne_eqb a line_feed (λ e. omega arith), ne_eqb b line_feed (λ e. omega arith)) refl)
      (make v) (ap (byte_line make) (two_bytes s (omega arith)) ∙ one_last hex (a ∷ b ∷ []) v r.0 (omega (arith, r.1)) make)

-- ---- two digits, a tab, and down or up

abbrev key_line : (ℕ → Bool → Input) → List ℕ → Line
key_line make l = two_more hex level make (fields l)

no_part : (a b c : ℕ) (r : List ℕ) → (c ≡ tab → ⊥) → hex (first (a ∷ b ∷ c ∷ r)) ≡ None
unfolding until hex
no_part a b c r n = rw (ne_eqb c tab n) (at (eqb a tab) (eqb b tab))
  where
    at : (u v : Bool) → hex (cond u [] (a ∷ cond v [] (b ∷ c ∷ first r))) ≡ None
    at true v = refl
    at false true = refl
    at false false = refl

module _ (make : ℕ → Bool → Input) (s : List ℕ) where
  pub key_open : (4 < length s → get_or s 4 0 ≡ line_feed → ⊥) → None ≡ by (key_line make) s
  key_open n = unended 4 (key_line make) (hex_level_length make) s n

  key_wrong : key_line make (four s) ≡ Bad → None ≡ by (key_line make) s
  key_wrong e = wrong 4 (key_line make) (hex_level_length make) s (λ h. ap (key_line make) (four_bytes s h) ∙ e)

  pub key_parted : (get_or s 2 0 ≡ tab → ⊥) → None ≡ by (key_line make) s
  key_parted n = key_wrong (two_unread hex (four s) (no_part (get_or s 0 0) (get_or s 1 0) (get_or s 2 0) (get_or s 3 0 ∷ []) n) level make)

  module _ (t : get_or s 2 0 ≡ tab) where
    parted : first (get_or s 2 0 ∷ get_or s 3 0 ∷ []) ≡ []
    unfolding until
    parted = rw (eq-eqb (get_or s 2 0) tab t) refl

    pub key_none : hex (get_or s 0 0 ∷ get_or s 1 0 ∷ []) ≡ None → None ≡ by (key_line make) s
    key_none e = key_wrong (two_unread hex (four s) (neither (get_or s 0 0) (get_or s 1 0) (get_or s 2 0 ∷ get_or s 3 0 ∷ []) parted e) level make)

    module _ (v : ℕ) (h : hex (get_or s 0 0 ∷ get_or s 1 0 ∷ []) ≡ Some v) where
      last : key_line make (four s) ≡ level_line (make v) (get_or s 3 0 ∷ [])
      last =
          let r = both (get_or s 0 0) (get_or s 1 0) (get_or s 2 0 ∷ get_or s 3 0 ∷ []) parted v h in
          two_next hex (four s) v r.0 (omega (arith, r.1)) level make ∙ ap (λ (m : ℕ). level_line (make v) (drop (suc m) (four s))) r.1

      pub key_neither : (get_or s 3 0 ≡ code "1" → ⊥) → (get_or s 3 0 ≡ code "0" → ⊥) → None ≡ by (key_line make) s
      key_neither d u = key_wrong (last ∙ goes_neither (make v) (get_or s 3 0) d u)

      module _ (long : 4 < length s) (ends : get_or s 4 0 ≡ line_feed) where
        key_right : (i : Input) → code "0" ≤ get_or s 3 0 → level_line (make v) (get_or s 3 0 ∷ []) ≡ Good i → Some (i, rest 5 s) ≡ by (key_line make) s
        unfolding until
        key_right i d e =
            let (m, n) = digit_bytes (get_or s 0 0) (get_or s 1 0) v h in
            right 4 (key_line make) (hex_level_length make) s long ends
            (rw (four_bytes s (omega arith), ne_eqb (get_or s 0 0) line_feed (λ e. omega arith), ne_eqb (get_or s 1 0) line_feed (λ e. omega arith), ne_eqb (get_or s 2 0) line_feed (λ e. omega arith), ne_eqb (get_or s 3 0) line_feed (λ e. omega arith)) refl)
            i (ap (key_line make) (four_bytes s (omega arith)) ∙ last ∙ e)

        pub key_down : get_or s 3 0 ≡ code "1" → Some (make v true, rest 5 s) ≡ by (key_line make) s
        key_down e = key_right (make v true) (omega arith) (goes_down (make v) (get_or s 3 0) e)

        pub key_up : get_or s 3 0 ≡ code "0" → Some (make v false, rest 5 s) ≡ by (key_line make) s
        key_up e = key_right (make v false) (omega arith) (goes_up (make v) (get_or s 3 0) e)

-- ---- as the code reads them

pub button_bad : (side : Side) (s : List ℕ) → (2 ≤ length s → get_or s 1 0 ≡ line_feed → ⊥) → None ≡ line_by (one_more level (Button side)) s
button_bad side s n = level_open (Button side) s (λ h e. n (omega arith) e)

pub button_is : (side : Side) (s : List ℕ) → 2 ≤ length s → get_or s 1 0 ≡ line_feed → line_by (one_more level (Button side)) s ≡ option_map (λ d. (Button side d, rest 2 s)) (level (get_or s 0 0 ∷ []))
unfolding level
button_is side s h e =
    elim (ℕ_discrete (get_or s 0 0) (code "0")) [
      | yes u ↦ sym (level_up (Button side) s (omega arith) e u) ∙ rw (eq-eqb (get_or s 0 0) (code "0") u) refl
      | no m ↦
          elim (ℕ_discrete (get_or s 0 0) (code "1")) [
            | yes d ↦ sym (level_down (Button side) s (omega arith) e d) ∙ rw (ne_eqb (get_or s 0 0) (code "0") m, eq-eqb (get_or s 0 0) (code "1") d) refl
            | no n ↦ sym (level_neither (Button side) s n m) ∙ rw (ne_eqb (get_or s 0 0) (code "0") m, ne_eqb (get_or s 0 0) (code "1") n) refl
          ]
    ]

pub byte_bad : (s : List ℕ) → (3 ≤ length s → get_or s 2 0 ≡ line_feed → ⊥) → None ≡ line_by (one_more hex Byte) s
byte_bad s n = byte_open Byte s (λ h e. n (omega arith) e)

pub byte_is : (s : List ℕ) → 3 ≤ length s → get_or s 2 0 ≡ line_feed → line_by (one_more hex Byte) s ≡ option_map (λ v. (Byte v, rest 3 s)) (hex (get_or s 0 0 ∷ get_or s 1 0 ∷ []))
byte_is s h e = at (hex (get_or s 0 0 ∷ get_or s 1 0 ∷ [])) refl
  where
    at : (o : Option ℕ) → hex (get_or s 0 0 ∷ get_or s 1 0 ∷ []) ≡ o → line_by (one_more hex Byte) s ≡ option_map (λ v. (Byte v, rest 3 s)) o
    at None g = sym (byte_none Byte s g)
    at (Some v) g = sym (byte_good Byte s (omega arith) e v g)

pub key_bad : (s : List ℕ) → (5 ≤ length s → get_or s 2 0 ≡ tab → get_or s 4 0 ≡ line_feed → ⊥) → None ≡ line_by (two_more hex level Key) s
key_bad s n =
    elim (ℕ_discrete (get_or s 2 0) tab) [
      | yes t ↦ key_open Key s (λ h e. n (omega arith) t e)
      | no t ↦ key_parted Key s t
    ]

pub key_is : (s : List ℕ) → 5 ≤ length s → get_or s 2 0 ≡ tab → get_or s 4 0 ≡ line_feed → line_by (two_more hex level Key) s ≡ option_and_then (λ v. option_map (λ d. (Key v d, rest 5 s)) (level (get_or s 3 0 ∷ []))) (hex (get_or s 0 0 ∷ get_or s 1 0 ∷ []))
unfolding level
key_is s h t e = at (hex (get_or s 0 0 ∷ get_or s 1 0 ∷ [])) refl
  where
    at : (o : Option ℕ) → hex (get_or s 0 0 ∷ get_or s 1 0 ∷ []) ≡ o → line_by (two_more hex level Key) s ≡ option_and_then (λ v. option_map (λ d. (Key v d, rest 5 s)) (level (get_or s 3 0 ∷ []))) o
    at None g = sym (key_none Key s t g)
    at (Some v) g =
        elim (ℕ_discrete (get_or s 3 0) (code "0")) [
          | yes u ↦ sym (key_up Key s t v g (omega arith) e u) ∙ rw (eq-eqb (get_or s 3 0) (code "0") u) refl
          | no m ↦
              elim (ℕ_discrete (get_or s 3 0) (code "1")) [
                | yes d ↦ sym (key_down Key s t v g (omega arith) e d) ∙ rw (ne_eqb (get_or s 3 0) (code "0") m, eq-eqb (get_or s 3 0) (code "1") d) refl
                | no n ↦ sym (key_neither Key s t v g n m) ∙ rw (ne_eqb (get_or s 3 0) (code "0") m, ne_eqb (get_or s 3 0) (code "1") n) refl
              ]
        ]
