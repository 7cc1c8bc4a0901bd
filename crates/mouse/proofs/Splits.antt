-- Held motion in packets: they say the parts of it, and together the whole.
-- Assumes nothing.
use Prim.Native.Nat.{ℕ, zero, suc, ◌+◌, ◌≤◌, max}
use native.Mathlib.Omega.{arith}
use mathlib.Core.Path.{◌≡◌, refl, sym, ap, ap₂, ◌∙◌}
use mathlib.Core.List.{List, [], ◌∷◌, map}
use lib.ListN.{length, length-map}
use lib.IntN.{ℤ, pos, ◌+ℤ◌}
use Rattle.output.specs.Packets.{Packet}
use Rattle.motion.specs.declared.Motion.{Motion}
use Rattle.motion.specs.declared.Axes.{Axes}
use Rattle.motion.specs.Motion.{value, packets_needed}
use Rattle.motion.specs.LongMoves.{parts_from, total}
use Rattle.motion.proofs.LongMoves.{bytes_say, parts_sum, no_fewer}
use Rattle.motion.proofs.Difference.{plain, equal}
use Rattle.motion.proofs.Integers.{stands}
use Rattle.mouse.specs.Sending.{split_from, split, packets_for}
use Rattle.mouse.specs.Totals.{Axis, AlongX, AlongY, along, says, said}
use Rattle.mouse.specs.LongMoves.{PacketsCarry, FewestPackets}
use Rattle.mouse.proofs.Dues.{all_due}

-- enough packets say the parts that they carry
from_says : (a : Axis) (rest n k levels : ℕ) (d : Axes Motion) → k + rest ≡ n → packets_needed (along a d) ≤ n →
    map (says a) (split_from rest n k levels d) ≡ parts_from rest n k (value (along a d))
unfolding split_from
from_says a zero n k levels d c h = refl
from_says AlongX (suc rest) n k levels d c h = ap₂ ◌∷◌ (bytes_say n k d.x (omega arith) h) (from_says AlongX rest n (k + 1) levels d (omega arith) h)
from_says AlongY (suc rest) n k levels d c h = ap₂ ◌∷◌ (bytes_say n k d.y (omega arith) h) (from_says AlongY rest n (k + 1) levels d (omega arith) h)

said_total : (a : Axis) (ps : List Packet) → said a ps ≡ total (map (says a) ps)
said_total a [] = refl
said_total a (p ∷ ps) = ap (λ (z : ℤ). says a p +ℤ z) (said_total a ps)

-- no packet is enough for no motion alone
none_needed : (m : Motion) → packets_needed m ≤ 0 → value m ≡ pos 0
unfolding packets_needed
none_needed m h = equal (stands m) (plain 0) (omega arith)

-- and together the whole motion
whole : (n : ℕ) (m : Motion) → packets_needed m ≤ n → total (parts_from n n 0 (value m)) ≡ value m
whole zero m h = sym (none_needed m h)
whole (suc n) m h = parts_sum (suc n) (value m) (omega arith)

pub split_says : (a : Axis) (n levels : ℕ) (d : Axes Motion) → packets_needed (along a d) ≤ n → said a (split n levels d) ≡ value (along a d)
split_says a n levels d h = said_total a (split n levels d) ∙ ap total (from_says a n n 0 levels d (omega arith) h) ∙ whole n (along a d) h

-- the axis that needs the most packets gives the other enough
pub enough : (a : Axis) (least : ℕ) (d : Axes Motion) → packets_needed (along a d) ≤ max least (packets_for d)
enough AlongX least d = omega arith
enough AlongY least d = omega arith

pub packets_carry : PacketsCarry
packets_carry a least m = ap (map (says a)) (all_due least m) ∙ from_says a _ _ 0 _ m.held (omega arith) (enough a least m.held)

-- as many as each axis needs
pub fewest_packets : FewestPackets
fewest_packets d ps o f e =
    let axis : (a : Axis) → packets_needed (along a d) ≤ length (map (says a) ps) = λ a. no_fewer (along a d) (map (says a) ps) (o a) (f a) (sym (said_total a ps) ∙ e a) in
    omega (arith, axis AlongX, axis AlongY, length-map ps (says AlongX), length-map ps (says AlongY))
