-- What is written is read, and what is read was written so: numbers, the queue.
-- Assumes nothing.
use Prim.Native.Char.{code}
use Prim.Native.Nat.{ℕ, zero, suc, ◌+◌, ◌-◌, ◌*◌, ◌/◌, ◌%◌, ◌^◌, ◌≤◌, ◌<◌}
use native.Mathlib.Omega.{arith}
use native.Mathlib.Nat.{pow-succ'}
use native.Mathlib.Decide.{dec_lt}
use mathlib.Core.Path.{◌≡◌, refl, sym, ap, ◌∙◌, subst}
use mathlib.Core.Bool.{Bool, true, false, cond, ◌&&◌, ◌||◌, true≢false}
use mathlib.Core.List.{List, [], ◌∷◌, ◌++◌, append_assoc}
use Rattle.std.specs.Prelude.{Option, None, Some}
use lib.Dec.{eqb, leb, ltb}
use lib.ListN.{length}
use borrow.Author.Tests.{ne_eqb, eqb-true, lt-ltb, le-ltb, le-leb, lt-leb, leb-true, ltb-true}
use Rattle.output.proofs.Cases.{both_ways, and_true}
use Rattle.protocol.specs.Reading.{AllBytes}
use Rattle.text.specs.Line.{tab, minus, line_feed, hex_digit}
use Rattle.text.specs.Output.{figure, decimal, hex_figure, hex_bytes, shown}
use Rattle.text.proofs.Counting.{one_figure, decimal_ten}
use Rattle.mouse.specs.Mouse.{held_limit}
use Rattle.fields.specs.Ranges.{held_zero}
use Rattle.saved.specs.Line.{signed, motion_text, field_text, fields_text}
use Rattle.saved.specs.Load.{then, may_follow, number_from, forward, backward, motion_from, field_from, before_them, read_numbers, read_queue}

-- ---- something could be read

pub absurd_none : {A : Type 0} {x : A} → ◌≡◌ {A = Option A} None (Some x) → ⊥
absurd_none e = let z : ◌≡◌ {A = ℕ} 0 1 = cc in omega arith

pub some_same : {A : Type 0} {x y : A} → ◌≡◌ {A = Option A} (Some x) (Some y) → x ≡ y
some_same e = cc

-- both parts could
pub then_some : {A B : Type 0} (o : Option A) (make : A → Option B) (y : B) → then o make ≡ Some y → (x : A) × (o ≡ Some x) × (make x ≡ Some y)
then_some None make y e = absurd (absurd_none e)
then_some (Some x) make y e = (x, refl, e)

-- a test was passed
pub cond_some : {A : Type 0} (t : Bool) (o : Option A) (y : A) → cond t o None ≡ Some y → (t ≡ true) × (o ≡ Some y)
cond_some true o y e = (refl, e)
cond_some false o y e = absurd (absurd_none e)

-- ---- what is written is read

fits_digit : (first : Bool) (v d : ℕ) → d < 10 → v * 10 + d < 65536 → (first ≡ false → 0 < v) → may_follow first v (figure d) ≡ true
fits_digit first v d h s p =
    let e : figure d - code "0" ≡ d = omega arith in
    rw (le-leb (code "0") (figure d) (omega arith), le-leb (figure d) (code "9") (omega arith), e, lt-ltb (v * 10 + d) 65536 s) (go first p)
  where
    go : (t : Bool) → (t ≡ false → 0 < v) → ((t || ltb 0 v) && true) ≡ true
    go true p = refl
    go false p = rw (lt-ltb 0 v (p refl)) refl

-- a digit more
digit_on : (first : Bool) (v d : ℕ) (t : List ℕ) → d < 10 → v * 10 + d < 65536 → (first ≡ false → 0 < v) → number_from first v (figure d ∷ t) ≡ number_from false (v * 10 + d) t
unfolding number_from
digit_on first v d t h s p =
    let e : figure d - code "0" ≡ d = omega arith in
    rw (ne_eqb (figure d) tab (λ x. omega arith), fits_digit first v d h s p, e) refl

-- the digits of a number
digits_on : (k n : ℕ) (t : List ℕ) → n < 65536 → n < 10 ^ suc k → number_from true 0 (decimal n ++ t) ≡ number_from false n t
digits_on zero n t s h = let e : 0 * 10 + n ≡ n = omega arith in rw (one_figure n n (omega arith)) (digit_on true 0 n t (omega arith) (omega arith) (λ x. absurd (true≢false x)) ∙ ap (λ (v : ℕ). number_from false v t) e)
digits_on (suc k) n t s h =
    elim (dec_lt n 10) [
      | yes l ↦ (let e : 0 * 10 + n ≡ n = omega arith in rw (one_figure n n l) (digit_on true 0 n t l (omega arith) (λ x. absurd (true≢false x)) ∙ ap (λ (v : ℕ). number_from false v t) e))
      | no l ↦
          let p = pow-succ' 10 (suc k) in
          let f = figure (n % 10) in
          let e : n / 10 * 10 + n % 10 ≡ n = omega arith in
          rw (decimal_ten n (omega arith))
          (ap (number_from true 0) (append_assoc (decimal (n / 10)) (f ∷ []) t)
          ∙ digits_on k (n / 10) (f ∷ t) (omega arith) (omega arith)
          ∙ digit_on false (n / 10) (n % 10) t (omega arith) (omega arith) (λ _. omega arith)
          ∙ ap (λ (v : ℕ). number_from false v t) e)
    ]

number_back : (n : ℕ) (l : List ℕ) → n < 65536 → number_from true 0 (decimal n ++ (tab ∷ l)) ≡ Some (n, l)
unfolding number_from
number_back n l h = digits_on 4 n (tab ∷ l) h (omega arith)

-- the first digit is no minus
first_digit : (k n : ℕ) → n < 10 ^ suc k → (d : ℕ) × (r : List ℕ) × (decimal n ≡ figure d ∷ r)
first_digit zero n h = (n, [], one_figure n n (omega arith))
first_digit (suc k) n h =
    elim (dec_lt n 10) [
      | yes l ↦ (n, [], one_figure n n l)
      | no l ↦
          let p = pow-succ' 10 (suc k) in
          let i = first_digit k (n / 10) (omega arith) in
          (i.0, i.1 ++ (figure (n % 10) ∷ []), decimal_ten n (omega arith) ∙ ap (λ (t : List ℕ). t ++ (figure (n % 10) ∷ [])) i.2)
    ]

motion_back : (x : ℕ) (l : List ℕ) → x ≤ held_zero + held_limit → motion_from (motion_text x ++ (tab ∷ l)) ≡ Some (x, l)
unfolding motion_text motion_from
motion_back x l h =
    elim (dec_lt x held_zero) [
      | yes b ↦
          let e : held_zero - (held_zero - x) ≡ x = omega arith in
          rw (lt-ltb x held_zero b, number_back (held_zero - x) l (omega arith), lt-ltb 0 (held_zero - x) (omega arith), le-leb (held_zero - x) held_limit (omega arith), e) refl
      | no b ↦
          let n = x - held_zero in
          let i = first_digit 4 n (omega arith) in
          let d = i.0 in
          let r = i.1 in
          let c : decimal n ++ (tab ∷ l) ≡ figure d ∷ (r ++ (tab ∷ l)) = ap (λ (t : List ℕ). t ++ (tab ∷ l)) i.2 in
          let e : held_zero + n ≡ x = omega arith in
          rw (le-ltb x held_zero (omega arith), c, ne_eqb (figure d) minus (λ z. omega arith), ← c, number_back n l (omega arith), le-leb n held_limit (omega arith), e) refl
    ]

-- how large a field may be: 16 bits, or held motion
abbrev pub Sized : ℕ → List ℕ → Type 0
Sized i [] = Unit {0}
Sized i (x ∷ a) = (x ≤ cond (signed i) (held_zero + held_limit) 65535) × Sized (suc i) a

pub sized_both : (i j : ℕ) (a b : List ℕ) → i + length a ≡ j → Sized i a → Sized j b → Sized i (a ++ b)
sized_both i j [] b e p q = let z : j ≡ i = omega arith in subst (λ (n : ℕ). Sized n b) z q
sized_both i j (x ∷ a) b e p q = (p.0, sized_both (suc i) j a b (omega arith) p.1 q)

field_back : (i x : ℕ) (l : List ℕ) → x ≤ cond (signed i) (held_zero + held_limit) 65535 → field_from i (field_text i x ++ (tab ∷ l)) ≡ Some (x, l)
unfolding field_from field_text
field_back i x l h = go (signed i) h
  where
    go : (t : Bool) → x ≤ cond t (held_zero + held_limit) 65535 → let f = cond t (motion_text x) (decimal x) ++ (tab ∷ l) in cond t (motion_from f) (number_from true 0 f) ≡ Some (x, l)
    go true h = motion_back x l h
    go false h = number_back x l (omega arith)

pub numbers_back : (i : ℕ) (a l : List ℕ) → Sized i a → read_numbers (length a) i (fields_text i a ++ l) ≡ Some (a, l)
unfolding read_numbers fields_text
numbers_back i [] l z = refl
numbers_back i (x ∷ a) l z =
    let rest = fields_text (suc i) a ++ l in
    rw (append_assoc (field_text i x) (tab ∷ fields_text (suc i) a) l, field_back i x rest z.0, numbers_back (suc i) a l z.1) refl

-- ---- what is read was written so

pub digit_told : (first : Bool) (v b : ℕ) → may_follow first v b ≡ true → (code "0" ≤ b) × (b ≤ code "9") × ((first ≡ false) → 0 < v) × (v * 10 + (b - code "0") < 65536)
digit_told first v b h =
    let u = and_true (leb (code "0") b && leb b (code "9")) ((first || ltb 0 v) && ltb (v * 10 + (b - code "0")) 65536) h in
    let w = and_true (leb (code "0") b) (leb b (code "9")) u.0 in
    let x = and_true (first || ltb 0 v) (ltb (v * 10 + (b - code "0")) 65536) u.1 in
    (leb-true (code "0") b w.0, leb-true b (code "9") w.1, some_before first x.0, ltb-true (v * 10 + (b - code "0")) 65536 x.1)
  where
    some_before : (t : Bool) → t || ltb 0 v ≡ true → t ≡ false → 0 < v
    some_before true e z = absurd (true≢false z)
    some_before false e z = ltb-true 0 v e

-- so it is with what follows
abbrev Later : List ℕ → ℕ × List ℕ → Type 0
Later l f = (n : ℕ) → number_from false n l ≡ Some f → decimal n ++ l ≡ decimal f.0 ++ (tab ∷ f.1)

more_there : (l : List ℕ) (v : ℕ) (f : ℕ × List ℕ) → number_from false v l ≡ Some f → decimal v ++ l ≡ decimal f.0 ++ (tab ∷ f.1)
unfolding number_from
more_there [] v f e = absurd (absurd_none e)
more_there (b ∷ l) v f e = by (eqb b tab) refl e (λ n k. more_there l n f k)
  where
    digit : Later l f → may_follow false v b ≡ true → number_from false (v * 10 + (b - code "0")) l ≡ Some f → decimal v ++ (b ∷ l) ≡ decimal f.0 ++ (tab ∷ f.1)
    digit later m e =
        let u = digit_told false v b m in
        let low = u.0 in
        let high = u.1 in
        let pos = u.2 refl in
        let n = v * 10 + (b - code "0") in
        let q : n / 10 ≡ v = omega arith in
        let r : figure (n % 10) ≡ b = omega arith in
        let d : decimal n ≡ decimal v ++ (b ∷ []) = decimal_ten n (omega arith) ∙ rw (q, r) refl in
        sym (append_assoc (decimal v) (b ∷ []) l) ∙ ap (λ (t : List ℕ). t ++ l) (sym d) ∙ later n e

    by : (t : Bool) → eqb b tab ≡ t → cond t (Some (v, l)) (cond (may_follow false v b) (number_from false (v * 10 + (b - code "0")) l) None) ≡ Some f → Later l f → decimal v ++ (b ∷ l) ≡ decimal f.0 ++ (tab ∷ f.1)
    by true k e later = let z = some_same e in let w = eqb-true b tab k in rw (w, ← z) refl
    by false k e later = let u = cond_some (may_follow false v b) (number_from false (v * 10 + (b - code "0")) l) f e in digit later u.0 u.1

number_there : (l : List ℕ) (f : ℕ × List ℕ) → number_from true 0 l ≡ Some f → l ≡ decimal f.0 ++ (tab ∷ f.1)
unfolding number_from
number_there [] f e = absurd (absurd_none e)
number_there (b ∷ l) f e = by (eqb b tab) e
  where
    digit : may_follow true 0 b ≡ true → number_from false (0 * 10 + (b - code "0")) l ≡ Some f → b ∷ l ≡ decimal f.0 ++ (tab ∷ f.1)
    digit m e =
        let u = digit_told true 0 b m in
        let low = u.0 in
        let high = u.1 in
        let n = 0 * 10 + (b - code "0") in
        let r : figure n ≡ b = omega arith in
        let d : decimal n ≡ b ∷ [] = one_figure n n (omega arith) ∙ ap (λ (x : ℕ). x ∷ []) r in
        ap (λ (t : List ℕ). t ++ l) (sym d) ∙ more_there l n f e

    by : (t : Bool) → cond t None (cond (may_follow true 0 b) (number_from false (0 * 10 + (b - code "0")) l) None) ≡ Some f → b ∷ l ≡ decimal f.0 ++ (tab ∷ f.1)
    by true e = absurd (absurd_none e)
    by false e = let u = cond_some (may_follow true 0 b) (number_from false (0 * 10 + (b - code "0")) l) f e in digit u.0 u.1

motion_there : (l : List ℕ) (f : ℕ × List ℕ) → motion_from l ≡ Some f → l ≡ motion_text f.0 ++ (tab ∷ f.1)
unfolding motion_from motion_text
motion_there [] f e = absurd (absurd_none e)
motion_there (b ∷ l) f e = by (eqb b minus) refl e
  where
    by : (t : Bool) → eqb b minus ≡ t → cond t (then (number_from true 0 l) backward) (then (number_from true 0 (b ∷ l)) forward) ≡ Some f
        → b ∷ l ≡ cond (ltb f.0 held_zero) (minus ∷ decimal (held_zero - f.0)) (decimal (f.0 - held_zero)) ++ (tab ∷ f.1)
    by true k e =
        let u = then_some (number_from true 0 l) backward f e in
        let g = u.0 in
        let w = cond_some (ltb 0 g.0 && leb g.0 held_limit) (Some (held_zero - g.0, g.1)) f u.2 in
        let x = and_true (ltb 0 g.0) (leb g.0 held_limit) w.0 in
        let pos = ltb-true 0 g.0 x.0 in
        let most = leb-true g.0 held_limit x.1 in
        let z = some_same w.1 in
        let v : held_zero - (held_zero - g.0) ≡ g.0 = omega arith in
        rw (← z, lt-ltb (held_zero - g.0) held_zero (omega arith), v, eqb-true b minus k) (ap (λ (t : List ℕ). minus ∷ t) (number_there l g u.1))
    by false k e =
        let u = then_some (number_from true 0 (b ∷ l)) forward f e in
        let g = u.0 in
        let w = cond_some (leb g.0 held_limit) (Some (held_zero + g.0, g.1)) f u.2 in
        let z = some_same w.1 in
        let v : held_zero + g.0 - held_zero ≡ g.0 = omega arith in
        rw (← z, le-ltb (held_zero + g.0) held_zero (omega arith), v) (number_there (b ∷ l) g u.1)

field_there : (i : ℕ) (l : List ℕ) (f : ℕ × List ℕ) → field_from i l ≡ Some f → l ≡ field_text i f.0 ++ (tab ∷ f.1)
unfolding field_from field_text
field_there i l f e = go (signed i) e
  where
    go : (t : Bool) → cond t (motion_from l) (number_from true 0 l) ≡ Some f → l ≡ cond t (motion_text f.0) (decimal f.0) ++ (tab ∷ f.1)
    go true e = motion_there l f e
    go false e = number_there l f e

-- as many numbers as were asked for, and their text
pub record Spelt (n i : ℕ) (l : List ℕ) (r : List ℕ × List ℕ) : Type 0 where
  pub count : length r.0 ≡ n
  pub spelling : l ≡ fields_text i r.0 ++ r.1

pub numbers_there : (n i : ℕ) (l : List ℕ) (r : List ℕ × List ℕ) → read_numbers n i l ≡ Some r → Spelt n i l r
unfolding read_numbers fields_text
numbers_there zero i l r e = let z = some_same e in subst (Spelt zero i l) z (record { count = refl; spelling = refl })
numbers_there (suc n) i l r e =
    let u = then_some (field_from i l) (λ f. then (read_numbers n (suc i) f.1) (before_them f.0)) r e in
    let f = u.0 in
    let v = then_some (read_numbers n (suc i) f.1) (before_them f.0) r u.2 in
    let q = v.0 in
    let s = numbers_there n (suc i) f.1 q v.1 in
    let z = some_same v.2 in
    subst (Spelt (suc n) i l) z
    (record {
      count = ap suc s.count;
      spelling =
          field_there i l f u.1
          ∙ ap (λ (t : List ℕ). field_text i f.0 ++ (tab ∷ t)) s.spelling
          ∙ sym (append_assoc (field_text i f.0) (tab ∷ fields_text (suc i) q.0) q.1);
    })

-- ---- the queue

figure_back : (d : ℕ) → d ≤ 15 → (hex_digit (hex_figure d) ≡ d) × (minus < hex_figure d)
unfolding hex_digit hex_figure
figure_back d h =
    elim (dec_lt d 10) [
      | yes l ↦ rw (lt-ltb d 10 l, le-leb (code "0") (code "0" + d) (omega arith), le-leb (code "0" + d) (code "9") (omega arith)) (omega arith)
      | no l ↦
          rw (le-ltb d 10 (omega arith), le-leb (code "0") (code "A" + (d - 10)) (omega arith), lt-leb (code "A" + (d - 10)) (code "9") (omega arith), le-leb (code "A") (code "A" + (d - 10)) (omega arith), le-leb (code "A" + (d - 10)) (code "F") (omega arith))
          (omega arith)
    ]

hex_read : (bs : List ℕ) → AllBytes bs → read_queue (hex_bytes bs ++ (line_feed ∷ [])) ≡ bs
unfolding hex_bytes read_queue
hex_read [] h = refl
hex_read (b ∷ bs) h =
    let small = h.0 in
    let p = figure_back (b / 16) (omega arith) in
    let q = figure_back (b % 16) (omega arith) in
    let e : (16 * (b / 16) + b % 16) % 256 ≡ b = omega arith in
    rw (ne_eqb (hex_figure (b / 16)) minus (λ e. omega (arith, p.1)), p.0, q.0, e, hex_read bs h.1)

pub queue_back : (bs : List ℕ) → AllBytes bs → read_queue (shown bs ++ (line_feed ∷ [])) ≡ bs
unfolding shown read_queue
queue_back [] h = refl
queue_back (b ∷ bs) h = hex_read (b ∷ bs) h

-- what is read is bytes
pub queue_bytes : (l : List ℕ) → AllBytes (read_queue l)
unfolding read_queue
queue_bytes [] = tt
queue_bytes (a ∷ []) = tt
queue_bytes (a ∷ b ∷ l) = both_ways AllBytes (eqb a minus) (λ _. tt) (λ _. (omega arith, queue_bytes l))
