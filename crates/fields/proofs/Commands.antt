-- A half-received command and its fields.
-- Assumes nothing.
use Prim.Native.Nat.{ℕ, zero, suc, ◌+◌, ◌-◌, ◌≤◌}
use native.Mathlib.Omega.{arith}
use mathlib.Core.Path.{◌≡◌, refl, sym, ap, ◌∙◌, subst}
use mathlib.Core.Bool.{Bool, true, false, cond, ◌&&◌, ◌||◌}
use mathlib.Core.List.{List, [], ◌∷◌}
use lib.Dec.{eqb, leb, ltb}
use lib.ListN.{get_or, length, drop, replicate, length-drop, length-replicate}
use lib.Seq.{get_or-drop, ext_get_or}
use borrow.Author.Tests.{leb-true, eqb-true, eqb-false, ne_eqb, ltb-true, ltb-false, lt-ltb, le-ltb}
use Rattle.output.proofs.Cases.{both_ways, and_true}
use Rattle.protocol.specs.declared.Command.{Command}
use Rattle.protocol.specs.Codes.{Entry, table, find, line, parameters_of, memory_load}
use Rattle.protocol.specs.Reading.{IsCommand, OneCommand}
use Rattle.protocol.proofs.Reading.{every, find_passes, getD_byte}
use Rattle.fields.specs.Ranges.{most_come}

-- the line that is found for a code is of that code
find_code : (es : List Entry) (b : ℕ) → (find es b).code ≡ b
unfolding find
find_code [] b = refl
find_code (e ∷ es) b = both_ways (λ (x : Entry). x.code ≡ b) (eqb b e.code) (λ t. sym (eqb-true b e.code t)) (λ t. find_code es b)

small : Entry → Bool
small e = eqb e.parameters 0 || leb e.code 255

-- a code with parameters is a byte
pub code_byte : (b : ℕ) → 1 ≤ parameters_of b → b ≤ 255
unfolding every table line small
code_byte b h =
    let f : (eqb (parameters_of b) 0 || leb (find table b).code 255) ≡ true = find_passes small table b refl refl in
    let g : leb (find table b).code 255 ≡ true = rw (ne_eqb (parameters_of b) 0 (λ z. omega arith)) at f in
    rw (find_code table b) at (leb-true (find table b).code 255 g)

-- the command's facts, over its numbers and the tests z: code 0, m: a memory load, three: three have come
known_code : (P come pending x : ℕ) (z l : Bool) → (l ≡ true → come ≡ 3) → come ≤ P → cond z 0 1 ≤ (P - come) + pending → pending ≤ cond l x 0 → (z || ltb 0 P) ≡ true
known_code P come pending x true l t w k p = refl
known_code P come pending x false true t w k p = lt-ltb 0 P (let e = t refl in omega arith)
known_code P come pending x false false t w k p = lt-ltb 0 P (omega arith)

come_most : (P come pending x : ℕ) (m three z : Bool) → (m ≡ true → P ≡ 3) → (z ≡ true → P ≡ 0) → come ≤ P → cond z 0 1 ≤ (P - come) + pending → pending ≤ cond (m && three) x 0 → come ≤ cond m 3 (P - 1)
come_most P come pending x true three z f g w k p = let e = f refl in omega arith
come_most P come pending x false three true f g w k p = let e = g refl in omega arith
come_most P come pending x false three false f g w k p = omega arith

least_load : (pending x : ℕ) (l : Bool) → (l ≡ true → 1 ≤ pending) → pending ≤ cond l x 0 → (cond l 1 0 ≤ pending) × (cond l 1 0 ≤ x)
least_load pending x true f p = let e = f refl in omega arith
least_load pending x false f p = omega arith

lacking : (P come pending : ℕ) (z m three : Bool) → (z || ltb 0 P) ≡ true → (m ≡ true → P ≡ 3) → (three ≡ false → come ≡ 3 → ⊥) → come ≤ cond m 3 (P - 1) → cond (m && three) 1 0 ≤ pending → cond z 0 1 ≤ (P - come) + pending
lacking P come pending true m three k f g c p = omega arith
lacking P come pending false true true k f g c p = omega arith
lacking P come pending false true false k f g c p = let e = f refl in let n = g refl in omega arith
lacking P come pending false false three k f g c p = let e = ltb-true 0 P k in omega arith

within_count : (P come : ℕ) (m : Bool) → (m ≡ true → P ≡ 3) → come ≤ cond m 3 (P - 1) → come ≤ P
within_count P come true f c = let e = f refl in omega arith
within_count P come false f c = omega arith

load_count : (code : ℕ) → eqb code memory_load ≡ true → parameters_of code ≡ 3
unfolding table find line
load_count code e = ap parameters_of (eqb-true code memory_load e)

none_count : (code : ℕ) → eqb code 0 ≡ true → parameters_of code ≡ 0
unfolding table find line
none_count code e = ap parameters_of (eqb-true code 0 e)

getD_zeros : (m i : ℕ) → ◌≡◌ {A = ℕ} (get_or (replicate m 0) i 0) 0
getD_zeros zero i = refl
getD_zeros (suc m) zero = refl
getD_zeros (suc m) (suc i) = getD_zeros m i

-- a number of a list whose numbers from n on are 0
past_zero : (p : List ℕ) (n m k : ℕ) → drop n p ≡ replicate m 0 → n ≤ k → get_or p k 0 ≡ 0
past_zero p n m k e h =
    let d : n + (k - n) ≡ k = omega arith in
    ap (λ (j : ℕ). get_or p j 0) (sym d) ∙ sym (get_or-drop n p (k - n) 0) ∙ ap (λ (l : List ℕ). get_or l (k - n) 0) e ∙ getD_zeros m (k - n)

zeros_past : (p : List ℕ) (n : ℕ) → ((k : ℕ) → n ≤ k → get_or p k 0 ≡ 0) → drop n p ≡ replicate (length p - n) 0
zeros_past p n h =
    ext_get_or 0 (drop n p) (replicate (length p - n) 0) (length-drop n p ∙ sym (length-replicate (length p - n) 0))
    (λ i l. get_or-drop n p i 0 ∙ h (n + i) (omega arith) ∙ sym (getD_zeros (length p - n) i))

module _ (c : Command) (i : IsCommand c) (o : OneCommand c) where
  load_told : (eqb c.code memory_load && eqb c.come 3) ≡ true → (eqb c.code memory_load ≡ true) × (c.come ≡ 3)
  load_told e = let b = and_true (eqb c.code memory_load) (eqb c.come 3) e in (b.0, eqb-true c.come 3 b.1)

  pub code_fits : (eqb c.code 0 || ltb 0 (parameters_of c.code)) ≡ true
  code_fits = known_code (parameters_of c.code) c.come c.pending _ (eqb c.code 0) (eqb c.code memory_load && eqb c.come 3) (λ e. (load_told e).1) i.within i.lacks i.told

  pub code_most : c.code ≤ 255
  code_most = go (eqb c.code 0) refl code_fits
    where
      go : (z : Bool) → eqb c.code 0 ≡ z → (z || ltb 0 (parameters_of c.code)) ≡ true → c.code ≤ 255
      go true e k = let z = eqb-true c.code 0 e in omega (arith, z)
      go false e k = code_byte c.code (ltb-true 0 (parameters_of c.code) k)

  pub come_fits : c.come ≤ most_come c.code
  unfolding most_come
  come_fits = come_most (parameters_of c.code) c.come c.pending _ (eqb c.code memory_load) (eqb c.come 3) (eqb c.code 0) (load_count c.code) (none_count c.code) i.within i.lacks i.told

  pub params_fit : (k : ℕ) → get_or c.params k 0 ≤ cond (ltb k c.come) 255 0
  params_fit k =
      both_ways (λ (n : ℕ). get_or c.params k 0 ≤ n) (ltb k c.come) (λ e. getD_byte c.params k i.known)
      (λ e. let z = past_zero c.params c.come (6 - c.come) k o (ltb-false k c.come e) in omega (arith, z))

  pub load_fits : let l = eqb c.code memory_load && eqb c.come 3 in (cond l 1 0 ≤ c.pending) × (cond l 1 0 ≤ get_or c.params 2 0)
  unfolding table find line
  load_fits =
      least_load c.pending (get_or c.params 2 0) (eqb c.code memory_load && eqb c.come 3)
      (λ e.
      let b = load_told e in
      let n = subst (λ (n : ℕ). cond (eqb n 0) 0 1 ≤ (parameters_of n - c.come) + c.pending) (eqb-true c.code memory_load b.0) i.lacks in
      let t = b.1 in
      omega (arith, n, t))
      i.told

-- numbers that fit make a half-received command
module _ (code come x0 x1 x2 x3 x4 x5 pending : ℕ) where
  abbrev made : Command
  made = record { code = code; come = come; params = x0 ∷ x1 ∷ x2 ∷ x3 ∷ x4 ∷ x5 ∷ []; pending = pending }

  pub record CommandFits : Type 0 where
    pub code_known : (eqb code 0 || ltb 0 (parameters_of code)) ≡ true
    pub come_most : come ≤ most_come code
    pub param0 : x0 ≤ cond (ltb 0 come) 255 0
    pub param1 : x1 ≤ cond (ltb 1 come) 255 0
    pub param2 : x2 ≤ cond (ltb 2 come) 255 0
    pub param3 : x3 ≤ cond (ltb 3 come) 255 0
    pub param4 : x4 ≤ cond (ltb 4 come) 255 0
    pub param5 : x5 ≤ cond (ltb 5 come) 255 0
    pub least : cond (eqb code memory_load && eqb come 3) 1 0 ≤ pending
    pub most : pending ≤ cond (eqb code memory_load && eqb come 3) x2 0

  byte_only : {x : ℕ} (t : Bool) → x ≤ cond t 255 0 → x ≤ 255
  byte_only true h = h
  byte_only false h = omega arith

  unused : {x : ℕ} (k : ℕ) → x ≤ cond (ltb k come) 255 0 → come ≤ k → x ≡ 0
  unused {x} k h l = let z : x ≤ 0 = subst (λ (t : Bool). x ≤ cond t 255 0) (le-ltb k come l) h in omega arith

  pub command_is : CommandFits → IsCommand made
  unfolding most_come
  command_is f = record {
    places = refl;
    known = (byte_only (ltb 0 come) f.param0, (byte_only (ltb 1 come) f.param1, (byte_only (ltb 2 come) f.param2, (byte_only (ltb 3 come) f.param3, (byte_only (ltb 4 come) f.param4, (byte_only (ltb 5 come) f.param5, tt))))));
    within = within_count (parameters_of code) come (eqb code memory_load) (load_count code) f.come_most;
    lacks = lacking (parameters_of code) come pending (eqb code 0) (eqb code memory_load) (eqb come 3) f.code_known (load_count code) (eqb-false come 3) f.come_most f.least;
    told = f.most;
  }

  pub command_one : CommandFits → OneCommand made
  command_one f = zeros_past made.params come zero_at
    where
      zero_at : (k : ℕ) → come ≤ k → get_or made.params k 0 ≡ 0
      zero_at zero l = unused 0 f.param0 l
      zero_at (suc zero) l = unused 1 f.param1 l
      zero_at (suc (suc zero)) l = unused 2 f.param2 l
      zero_at (suc (suc (suc zero))) l = unused 3 f.param3 l
      zero_at (suc (suc (suc (suc zero)))) l = unused 4 f.param4 l
      zero_at (suc (suc (suc (suc (suc zero))))) l = unused 5 f.param5 l
      zero_at (suc (suc (suc (suc (suc (suc k)))))) l = refl
