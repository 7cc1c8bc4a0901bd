-- What the controller sends outside the monitoring modes is cut back into its packets.
-- Assumes nothing.
use Prim.Native.Nat.{ℕ, ◌+◌, ◌-◌, ◌≤◌, ◌<◌}
use native.Mathlib.Omega.{arith}
use mathlib.Core.Path.{◌≡◌, refl, sym, ap, ap₂, ◌∙◌}
use mathlib.Core.Bool.{Bool, true, false, ◌&&◌, ◌||◌, true≢false}
use mathlib.Core.List.{List, [], ◌∷◌, ◌++◌, map}
use lib.Dec.{eqb, leb, ltb}
use lib.ListN.{length, length-append}
use lib.Seq.{take-append_seam, drop-append_seam}
use borrow.Author.Tests.{lt-ltb, le-ltb, ltb-true, ltb-false, leb-true, eqb-true}
use Rattle.std.specs.Prelude.{Some}
use Rattle.output.specs.ScanCodes.{is_make, is_break}
use Rattle.output.specs.Packets.{Packet, scan, motion, position, time, sticks, stick, monitor, samples, status, version, bytes_of, bytes}
use Rattle.output.proofs.Cases.{and_true}
use Rattle.output.proofs.Computed.{all_alike}
use Rattle.output.proofs.Framed.{Framed, AllFramed}
use Rattle.receiver.specs.declared.Kind.{Kind}
use Rattle.receiver.specs.declared.Kind.TheVariants.{VersionOrBreak, Status, MousePosition, MouseMotion, Time, BothSticks, StickEvent}
use Rattle.receiver.specs.declared.Cut.TheVariants.{Whole}
use Rattle.receiver.specs.Cut.{start, cut}
use Rattle.receiver.specs.Pieces.{Piece, packet, pieces_from, left_from, pieces, left}
use Rattle.receiver.specs.Promises.{whole}
use Rattle.receiver.specs.Sent.{code_kind, piece_of, AllPackets}
use Rattle.receiver.proofs.Firsts.{is_cut}
use Rattle.receiver.proofs.Pieces.{cut_in_turn}

-- a packet's first byte and the others, and that they are cut off as that packet
record CutAs (p : Packet) : Type 0 where
  kind : Kind
  first : ℕ
  others : List ℕ
  all : bytes_of p ≡ first ∷ others
  starts : start first ≡ Some (kind, length (first ∷ others))
  told : packet kind (bytes_of p) ≡ piece_of p

-- a make is below 0x80
make_low : (code : ℕ) → is_make code ≡ true → code < 0x80
unfolding is_make
make_low code h = at (leb 1 code && leb code 0x72) refl h
  where
    key : (t : Bool) → eqb code 0x74 ≡ t → (t || eqb code 0x75) ≡ true → code < 0x80
    key true e h = let c = eqb-true code 0x74 e in omega arith
    key false e h = let c = eqb-true code 0x75 h in omega arith

    at : (t : Bool) → (leb 1 code && leb code 0x72) ≡ t → (t || (eqb code 0x74 || eqb code 0x75)) ≡ true → code < 0x80
    at true e h = let c = leb-true code 0x72 (and_true (leb 1 code) (leb code 0x72) e).1 in omega arith
    at false e h = key (eqb code 0x74) refl h

-- and a break is not
break_high : (code : ℕ) → is_break code ≡ true → 0x80 ≤ code
unfolding is_break is_make
break_high code h = at (ltb code 0x80) refl
  where
    at : (t : Bool) → ltb code 0x80 ≡ t → 0x80 ≤ code
    at true e =
        let low = ltb-true code 0x80 e in
        let none : code - 0x80 ≡ 0 = omega arith in
        absurd (true≢false (sym h ∙ ap is_make none))
    at false e = ltb-false code 0x80 e

-- a scan code starts a packet by itself
scan_starts : (code : ℕ) → (is_make code || is_break code) ≡ true → start code ≡ Some (code_kind code, 1)
unfolding start
scan_starts code h = at (is_make code) refl h
  where
    break : is_make code ≡ false → is_break code ≡ true → (t : Bool) → eqb code 0xF0 ≡ t → start code ≡ Some (code_kind code, 1)
    break m b true e = rw (m, e, le-ltb code 0x80 (break_high code b))
    break m b false e = rw (m, e, b, le-ltb code 0x80 (break_high code b))

    at : (t : Bool) → is_make code ≡ t → (t || is_break code) ≡ true → start code ≡ Some (code_kind code, 1)
    at true e h = rw (e, lt-ltb code 0x80 (make_low code e))
    at false e h = break e h (eqb code 0xF0) refl

-- a packet of which the first byte is known
cut_as : {p : Packet} (k : Kind) (first : ℕ) (others : List ℕ) → bytes_of p ≡ first ∷ others → start first ≡ Some (k, length (first ∷ others)) →
    packet k (bytes_of p) ≡ piece_of p → CutAs p
cut_as k first others a s t = record { kind = k; first = first; others = others; all = a; starts = s; told = t }

framed_cut : (p : Packet) → Framed p → CutAs p
unfolding start is_make is_break
framed_cut (scan code) h = cut_as (code_kind code) code [] refl (scan_starts code h) refl
framed_cut (motion buttons x y) h =
    cut_as MouseMotion (0xF8 + buttons) (x ∷ y ∷ []) refl
    (sym (all_alike start (Some (MouseMotion, 3)) 0xF8 4 (refl, (refl, (refl, (refl, tt)))) (0xF8 + buttons) (omega arith) (omega arith))) refl
framed_cut (position latches x y) h = cut_as MousePosition 0xF7 _ refl refl refl
framed_cut (time year month day hour minute second) h = cut_as Time 0xFC _ refl refl refl
framed_cut (sticks b0 b1) h = cut_as BothSticks 0xFD _ refl refl refl
framed_cut (stick which byte) h =
    cut_as StickEvent (0xFE + which) (byte ∷ []) refl
    (sym (all_alike start (Some (StickEvent, 2)) 0xFE 2 (refl, (refl, tt)) (0xFE + which) (omega arith) (omega arith))) refl
framed_cut (monitor triggers positions) h = absurd h
framed_cut (samples byte) h = absurd h
framed_cut (status a b c d e f g) h = cut_as Status 0xF6 _ refl refl refl
framed_cut version h = cut_as VersionOrBreak 0xF0 [] refl refl refl

-- its bytes, whatever follows them, are cut off as that packet
first_off : (p : Packet) (rest : List ℕ) → Framed p →
    (pieces (bytes_of p ++ rest) ≡ piece_of p ∷ pieces rest) × (left (bytes_of p ++ rest) ≡ left rest)
first_off p rest h =
    let c = framed_cut p h in
    let l = c.first ∷ c.others in
    let n = length l in
    let e : cut (l ++ rest) ≡ Whole c.kind n =
    sym (is_cut (l ++ rest) (Whole c.kind n) (whole c.starts (omega (arith, length-append c.others rest)))) in
    let t = (cut_in_turn (l ++ rest)).packets c.kind n e in
    let joined = ap (λ (q : List ℕ). q ++ rest) c.all in
    let behind = drop-append_seam l rest in (
      ap pieces joined ∙ t.0 ∙ ap₂ (λ (a b : List ℕ). packet c.kind a ∷ pieces b) (take-append_seam l rest ∙ sym c.all) behind
          ∙ ap (λ (q : Piece). q ∷ pieces rest) c.told,
      ap left joined ∙ t.1 ∙ ap left behind,
    )

-- no byte among them starts no packet
pub all_packets : (ps : List Packet) → AllFramed ps → AllPackets (map piece_of ps)
all_packets [] h = tt
all_packets (scan code ∷ ps) (h, f) = all_packets ps f
all_packets (motion buttons x y ∷ ps) (h, f) = all_packets ps f
all_packets (position latches x y ∷ ps) (h, f) = all_packets ps f
all_packets (time year month day hour minute second ∷ ps) (h, f) = all_packets ps f
all_packets (sticks b0 b1 ∷ ps) (h, f) = all_packets ps f
all_packets (stick which byte ∷ ps) (h, f) = all_packets ps f
all_packets (monitor triggers positions ∷ ps) (h, f) = absurd h
all_packets (samples byte ∷ ps) (h, f) = absurd h
all_packets (status a b c d e f g ∷ ps) (h, k) = all_packets ps k
all_packets (version ∷ ps) (h, f) = all_packets ps f

-- packets one after the other, and nothing is left
pub cut_back : (ps : List Packet) → AllFramed ps → (pieces (bytes ps) ≡ map piece_of ps) × (left (bytes ps) ≡ [])
unfolding pieces_from left_from
cut_back [] h = (refl, refl)
cut_back (p ∷ ps) (h, f) =
    let one = first_off p (bytes ps) h in
    let more = cut_back ps f in
    (one.0 ∙ ap (λ (q : List Piece). piece_of p ∷ q) more.0, one.1 ∙ more.1)
