-- Reading keeps the ranges of a half-received command, and a whole one comes with six bytes.
-- Assumes nothing.
use Prim.Native.Nat.{ℕ, zero, suc, ◌+◌, ◌-◌, ◌≤◌, ◌<◌}
use native.Mathlib.Omega.{arith}
use mathlib.Core.Path.{◌≡◌, refl, sym, ap, ◌∙◌, subst}
use mathlib.Core.Bool.{Bool, true, false, cond, ◌&&◌}
use mathlib.Core.List.{List, [], ◌∷◌}
use lib.Dec.{eqb, leb, ltb}
use lib.ListN.{length, get_or, set, drop, replicate, length-set}
use lib.Seq.{drop-set-lt, drop-drop, get_or-set_same}
use borrow.Author.Tests.{ltb-true, ltb-false, leb-true, eqb-true, eqb-false, eq-eqb, ne_eqb}
use Rattle.protocol.specs.declared.Command.{Command}
use Rattle.protocol.specs.declared.Meaning.TheVariants.{Nothing}
use Rattle.protocol.specs.Codes.{Entry, entry, table, find, line, parameters_of, memory_load}
use Rattle.protocol.specs.Reading.{most_parameters, zeros, no_command, Fed, half, whole, begin, take_parameter, take_data, feed, command_after, AllBytes, missing, data_told, IsCommand, OneCommand}

-- both ways of a test, each with what it tells
both_ways : {A : Type 0} (P : A → Type 0) (t : Bool) {a b : A} → (t ≡ true → P a) → (t ≡ false → P b) → P (cond t a b)
both_ways P true f g = f refl
both_ways P false f g = g refl

both_left : (a b : Bool) → (a && b) ≡ true → a ≡ true
both_left true b e = refl
both_left false b e = e

both_right : (a b : Bool) → (a && b) ≡ true → b ≡ true
both_right true b e = e
both_right false b e = absurd (let z : ◌≡◌ {A = ℕ} 0 1 = cc in omega arith)

-- a test that passes at each line of a list of lines
unfoldable pub every : (Entry → Bool) → List Entry → Bool
every test [] = true
every test (e ∷ es) = test e && every test es

-- such a test passes at the line that is found
pub find_passes : (test : Entry → Bool) (es : List Entry) (b : ℕ) → every test es ≡ true → test (entry b 0 Nothing) ≡ true → test (find es b) ≡ true
unfolding every find
find_passes test [] b h n = n
find_passes test (e ∷ es) b h n =
    both_ways (λ (x : Entry). test x ≡ true) (eqb b e.code) (λ t. both_left (test e) (every test es) h)
    (λ t. find_passes test es b (both_right (test e) (every test es) h) n)

-- no command has more than six parameters
pub parameters_small : (b : ℕ) → parameters_of b ≤ most_parameters
unfolding every table line
parameters_small b = leb-true (parameters_of b) most_parameters (find_passes (λ e. leb e.parameters most_parameters) table b refl refl)

-- a number of a list of bytes is a byte
pub getD_byte : (l : List ℕ) (i : ℕ) → AllBytes l → get_or l i 0 ≤ 255
getD_byte [] i h = omega arith
getD_byte (b ∷ bs) zero h = h.0
getD_byte (b ∷ bs) (suc i) h = getD_byte bs i h.1

-- a byte put into a list of bytes leaves one
pub set_bytes : (l : List ℕ) (i b : ℕ) → AllBytes l → b ≤ 255 → AllBytes (set l i b)
set_bytes [] i b h hb = tt
set_bytes (x ∷ l) zero b h hb = (hb, h.1)
set_bytes (x ∷ l) (suc i) b h hb = (h.0, set_bytes l i b h.1 hb)

zeros_bytes : AllBytes zeros
zeros_bytes = omega arith

-- no command half received is within the ranges
pub no_command_is : IsCommand no_command
unfolding table find line
no_command_is = record { places = refl; known = zeros_bytes; within = omega arith; lacks = omega arith; told = omega arith }

-- and has one spelling
pub no_command_one : OneCommand no_command
no_command_one = refl

-- what a byte may come to: a half-received command within its ranges, or a whole one with six bytes
abbrev pub Fine : Fed → Type 0
Fine (half c) = IsCommand c × OneCommand c
Fine (whole code ps) = (length ps ≡ most_parameters) × AllBytes ps

-- what is asked of a command that is half received is at most one byte
one_byte : (t : Bool) → cond t 0 1 ≤ 1
one_byte true = omega arith
one_byte false = omega arith

begun : (b : ℕ) → Fine (begin b)
unfolding begin
begun b =
    both_ways Fine (eqb (parameters_of b) 0) (λ t. (refl, zeros_bytes)) (λ t.
    let n = eqb-false (parameters_of b) 0 t in
    (record { places = refl; known = zeros_bytes; within = omega arith; lacks = omega (arith, one_byte (eqb b 0)); told = omega arith }, refl))

-- one place fewer past the count
fewer : (come : ℕ) (params : List ℕ) (b : ℕ) → come < most_parameters → drop come params ≡ replicate (most_parameters - come) 0 →
    drop (come + 1) (set params come b) ≡ replicate (most_parameters - (come + 1)) 0
fewer come params b h one =
    let e : most_parameters - come ≡ suc (most_parameters - (come + 1)) = omega arith in
    drop-set-lt (come + 1) params come b (omega arith)
    ∙ sym (drop-drop 1 come params)
    ∙ ap (drop 1) (one ∙ ap (λ (n : ℕ). replicate n 0) e)

load_parameters : parameters_of memory_load ≡ 3
unfolding table find line
load_parameters = refl

-- the third byte of a memory load, as it has come, tells how much data follows
told_data : (code come b : ℕ) (params : List ℕ) → length params ≡ most_parameters → code ≡ memory_load → come ≡ 2 →
    b ≤ data_told (record { code = code; come = come + 1; params = set params come b; pending = b })
told_data code come b params l e f =
    rw (eq-eqb code memory_load e, eq-eqb (come + 1) 3 (omega arith), f) (omega (arith, get_or-set_same params 2 b 0 (omega arith)))

parameter_taken : (c : Command) (b : ℕ) → IsCommand c → OneCommand c → b ≤ 255 → c.come < parameters_of c.code → Fine (take_parameter c b)
unfolding take_parameter
parameter_taken c b C one hb h =
    let small : c.come < most_parameters = omega (arith, parameters_small c.code) in
    let places : length (set c.params c.come b) ≡ most_parameters = length-set c.params c.come b ∙ C.places in
    let known : AllBytes (set c.params c.come b) = set_bytes c.params c.come b C.known hb in
    let past = fewer c.come c.params b small one in
    both_ways Fine (ltb (c.come + 1) (parameters_of c.code))
    (λ t.
    let m = ltb-true (c.come + 1) (parameters_of c.code) t in
    (record { places = places; known = known; within = omega arith; lacks = omega (arith, one_byte (eqb c.code 0)); told = omega arith }, past))
    (λ t.
    let last = ltb-false (c.come + 1) (parameters_of c.code) t in
    both_ways Fine (eqb c.code memory_load && ltb 0 b)
    (λ d.
    let e = eqb-true c.code memory_load (both_left (eqb c.code memory_load) (ltb 0 b) d) in
    let more = ltb-true 0 b (both_right (eqb c.code memory_load) (ltb 0 b) d) in
    let two : c.come ≡ 2 = omega (arith, ap parameters_of e ∙ load_parameters) in (
      record {
        places = places;
        known = known;
        within = omega arith;
        lacks = omega (arith, one_byte (eqb c.code 0));
        told = told_data c.code c.come b c.params C.places e two;
      },
      past,
    ))
    (λ d. (places, known)))

data_taken : (c : Command) → IsCommand c → OneCommand c → 0 < c.pending → Fine (take_data c)
unfolding take_data
data_taken c C one h =
    both_ways Fine (eqb c.pending 1) (λ t. (C.places, C.known))
    (λ t.
    let n = eqb-false c.pending 1 t in (
      record {
        places = C.places;
        known = C.known;
        within = C.within;
        lacks = omega (arith, one_byte (eqb c.code 0));
        told = omega (arith, C.told);
      },
      one,
    ))

-- a command without data still to come lacks a parameter
lacking : (c : Command) → IsCommand c → eqb c.code 0 ≡ false → c.pending ≤ 0 → c.come < parameters_of c.code
lacking c C f p =
    let l : 1 ≤ missing c = subst (λ (t : Bool). cond t 0 1 ≤ missing c) f C.lacks in
    omega arith

-- so that its next parameter has a place
pub next_placed : (c : Command) → IsCommand c → (c.code ≡ 0 → ⊥) → c.pending ≤ 0 → c.come < most_parameters
next_placed c C f p = omega (arith, lacking c C (ne_eqb c.code 0 f) p, parameters_small c.code)

-- a byte comes to a half-received command within its ranges, or to a whole one with six bytes
pub fed_is : (c : Command) (b : ℕ) → IsCommand c → OneCommand c → b ≤ 255 → Fine (feed c b)
unfolding feed
fed_is c b C one hb =
    both_ways Fine (eqb c.code 0) (λ t. begun b)
    (λ f. both_ways Fine (ltb 0 c.pending) (λ p. data_taken c C one (ltb-true 0 c.pending p)) (λ p. parameter_taken c b C one hb (lacking c C f (ltb-false 0 c.pending p))))

-- what is then half received is within the ranges
pub command_is : (f : Fed) → Fine f → IsCommand (command_after f) × OneCommand (command_after f)
unfolding command_after
command_is (half c) h = h
command_is (whole code ps) h = (no_command_is, no_command_one)
