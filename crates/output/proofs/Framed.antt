-- Packets that say themselves where they end (A5): their first byte is one of their kind, whatever numbers they carry. Those of the monitoring modes are none.
-- Assumes nothing.
use Prim.Native.Nat.{ℕ, zero, suc, ◌+◌, ◌-◌, ◌≤◌}
use native.Mathlib.Omega.{arith}
use mathlib.Core.Path.{◌≡◌}
use mathlib.Core.Bool.{Bool, true, false, ◌||◌, or-true}
use mathlib.Core.List.{List, [], ◌∷◌, ◌++◌}
use borrow.Author.Tests.{le-leb}
use Rattle.output.specs.ScanCodes.{first_key, last_key, break_of, code_sent, is_make, is_break}
use Rattle.output.specs.Packets.{Packet, scan, motion, position, time, sticks, stick, monitor, samples, status, version, pairs}

abbrev pub Framed : Packet → Type 0
Framed (scan code) = (is_make code || is_break code) ≡ true
Framed (motion buttons x y) = buttons ≤ 3
Framed (position latches x y) = Unit {0}
Framed (time year month day hour minute second) = Unit {0}
Framed (sticks b0 b1) = Unit {0}
Framed (stick which byte) = which ≤ 1
Framed (monitor triggers positions) = ⊥
Framed (samples byte) = ⊥
Framed (status a b c d e f g) = Unit {0}
Framed version = Unit {0}

abbrev pub AllFramed : List Packet → Type 0
AllFramed [] = Unit {0}
AllFramed (p ∷ ps) = Framed p × AllFramed ps

-- packets of two lists, one after the other
pub framed_append : (ps qs : List Packet) → AllFramed ps → AllFramed qs → AllFramed (ps ++ qs)
framed_append [] qs f g = g
framed_append (p ∷ ps) qs (h, f) g = (h, framed_append ps qs f g)

-- a list in two parts
pub framed_parts : (ps qs : List Packet) → AllFramed (ps ++ qs) → AllFramed ps × AllFramed qs
framed_parts [] qs f = (tt, f)
framed_parts (p ∷ ps) qs (h, f) = let r = framed_parts ps qs f in ((h, r.0), r.1)

-- the keys of the keyboard are makes
pub key_makes : (k : ℕ) → first_key ≤ k → k ≤ last_key → is_make k ≡ true
unfolding is_make
key_makes k a b = rw (le-leb first_key k a, le-leb k last_key b)

-- the break of a make
break_breaks : (make : ℕ) → is_make make ≡ true → is_break (break_of make) ≡ true
unfolding is_break
break_breaks make h = let e : make + 0x80 - 0x80 ≡ make = omega arith in rw (e, h)

-- the code that is sent of a make: itself, or its break
pub sent_framed : (make : ℕ) (down : Bool) → is_make make ≡ true → (is_make (code_sent make down) || is_break (code_sent make down)) ≡ true
sent_framed make true h = rw h
sent_framed make false h = rw (break_breaks make h) (or-true (is_make (break_of make)))

-- pairs of a make
pub pairs_framed : (n make : ℕ) → is_make make ≡ true → AllFramed (pairs n make)
unfolding pairs
pairs_framed zero make h = tt
pairs_framed (suc n) make h = (sent_framed make true h, (sent_framed make false h, pairs_framed n make h))
