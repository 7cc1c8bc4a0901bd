-- Writing break codes: a word from its lowest key on, and one word after the other.
-- Assumes nothing.
use Prim.Native.Nat.{ℕ, ◌+◌, ◌-◌, ◌^◌, ◌≤◌, ◌<◌}
use native.Mathlib.Omega.{arith}
use mathlib.Core.Path.{◌≡◌, refl, sym, ap, ◌∙◌, subst}
use mathlib.Core.Bool.{false}
use mathlib.Core.List.{List, [], ◌∷◌, ◌++◌, append-nil, append_assoc}
use lib.ListN.{length, set, length-append, length-set}
use lib.Count.{count_trailing_zeros}
use Rattle.output.specs.ScanCodes.{first_key, break_of}
use Rattle.output.specs.Packets.{bytes}
use Rattle.output.specs.Writing.{over, Wrote}
use Rattle.output.proofs.Writing.{over_nil, over_more, kept}
use Rattle.keys.specs.Words.{put, keys_in}
use Rattle.keys.specs.declared.Keys.{Keys}
use Rattle.keys.specs.Keys.{low_keys, IsKeys, held, breaks, break_packets}
use Rattle.keys.proofs.Words.{lowest_under, cleared_less, keys_none, keys_next}
use Rattle.keys.proofs.Maps.{keys_are, breaks_length, breaks_append}

-- the break codes of the keys in a word
abbrev codes : ℕ → ℕ → List ℕ
codes first w = bytes (breaks (keys_in 64 first w))

-- the break codes of w, with those of `rest` still to come: the others stand at the start of the buffer
pub record Breaking (first w : ℕ) (before out : List ℕ) (rest at : ℕ) : Type 0 where
  pub stand : List ℕ
  pub all : stand ++ codes first rest ≡ codes first w
  pub count : at ≡ length stand
  pub buffer : out ≡ over stand before
  pub same : length out ≡ length before
  pub room : length (codes first w) ≤ length before
  pub less : rest ≤ w

pub begin : (first w : ℕ) (out : List ℕ) → length (keys_in 64 first w) ≤ length out → Breaking first w out out w 0
begin first w out h = record {
  stand = [];
  all = refl;
  count = refl;
  buffer = over_nil out;
  same = refl;
  room = omega (arith, breaks_length (keys_in 64 first w));
  less = omega arith;
}

module _ {first w : ℕ} {before out : List ℕ} {rest at : ℕ} (b : Breaking first w before out rest at) (n : rest ≡ 0 → ⊥) where
  -- the lowest key of the rest is one of the word
  pub lowest_in : (t : ℕ) → w < 2 ^ t → count_trailing_zeros 64 rest < t
  lowest_in t h = let l = b.less in lowest_under 64 t rest (omega arith) (omega arith)

  module _ (fits : w < 2 ^ 64) where
    next : codes first rest ≡ break_of (first + count_trailing_zeros 64 rest) ∷ codes first (put (count_trailing_zeros 64 rest) false rest)
    next = ap (λ (ks : List ℕ). bytes (breaks ks)) (keys_next 64 first rest (lowest_in 64 fits))

    pub fits_in : at < length out
    fits_in = omega (arith, b.room, b.same, b.count, ap length b.all, length-append b.stand (codes first rest), ap length next)

    pub falls : {rest' : ℕ} → rest' ≡ put (count_trailing_zeros 64 rest) false rest → rest' < rest
    falls e = let l = cleared_less 64 rest (lowest_in 64 fits) in omega arith

    -- one code more
    pub again : {rest' code : ℕ} → code ≡ break_of (first + count_trailing_zeros 64 rest) → rest' ≡ put (count_trailing_zeros 64 rest) false rest →
        Breaking first w before (set out at code) rest' (at + 1)
    again {rest'} {code} ec er =
        let all : (b.stand ++ (code ∷ [])) ++ codes first rest' ≡ codes first w =
        append_assoc b.stand (code ∷ []) (codes first rest') ∙ rw (ec, er) (ap (λ (l : List ℕ). b.stand ++ l) (sym next) ∙ b.all) in
        let room : length b.stand + 1 ≤ length before = omega (arith, fits_in, b.same, b.count) in
        record {
          stand = b.stand ++ (code ∷ []);
          all = all;
          count = omega (arith, b.count, length-append b.stand (code ∷ []));
          buffer = rw (b.buffer, b.count) (over_more (code ∷ []) b.stand before room);
          same = length-set out at code ∙ b.same;
          room = b.room;
          less = omega (arith, falls er, b.less);
        }

pub done : {first w : ℕ} {before out : List ℕ} {rest at : ℕ} → Breaking first w before out rest at → rest ≡ 0 → Wrote (codes first w) at before out
done {first} {w} {before} {out} {rest} {at} b e =
    let none : codes first rest ≡ [] = ap (λ (x : ℕ). codes first x) e ∙ ap (λ (ks : List ℕ). bytes (breaks ks)) (keys_none 64 first) in
    let whole : b.stand ≡ codes first w = sym (append-nil b.stand) ∙ ap (λ (l : List ℕ). b.stand ++ l) (sym none) ∙ b.all in
    record { count = b.count ∙ ap length whole; buffer = b.buffer ∙ ap (λ (l : List ℕ). over l before) whole }

-- ---- both words of a map, one after the other

module _ (m : Keys) (h : IsKeys m) where
  packets_are : bytes (break_packets m) ≡ codes first_key m.low ++ codes (low_keys + 1) m.high
  unfolding break_packets
  packets_are =
      ap (λ (ks : List ℕ). bytes (breaks ks)) (keys_are m h) ∙ breaks_append (keys_in 64 first_key m.low) (keys_in 64 (low_keys + 1) m.high)

  -- the low word's keys and the high word's are all
  both_held : length (keys_in 64 first_key m.low) + length (keys_in 64 (low_keys + 1) m.high) ≡ held m
  unfolding held
  both_held = sym (ap length (keys_are m h) ∙ length-append (keys_in 64 first_key m.low) (keys_in 64 (low_keys + 1) m.high))

  module _ (before : List ℕ) (room : held m ≤ length before) where
    pub low_room : length (keys_in 64 first_key m.low) ≤ length before
    low_room = omega (arith, both_held)

    module _ {n : ℕ} {out : List ℕ} (w : Wrote (codes first_key m.low) n before out) where
      low_count : n ≡ length (keys_in 64 first_key m.low)
      low_count = w.count ∙ breaks_length (keys_in 64 first_key m.low)

      -- the low word was written: the rest of the buffer has room for the high one
      pub rest_room : (n ≤ length out) × (length (keys_in 64 (low_keys + 1) m.high) ≤ length out - n)
      rest_room =
          let c = low_count in
          let all = both_held in
          let same = kept w (omega arith) in
          (omega arith, omega arith)

      -- both counts are those of all keys
      pub all_count : {k : ℕ} {rest rest' : List ℕ} → Wrote (codes (low_keys + 1) m.high) k rest rest' → n + k ≡ held m
      all_count v = omega (arith, low_count, v.count, breaks_length (keys_in 64 (low_keys + 1) m.high), both_held)

  pub both_words : {n : ℕ} {before out : List ℕ} → Wrote (codes first_key m.low ++ codes (low_keys + 1) m.high) n before out → Wrote (bytes (break_packets m)) n before out
  both_words {n} {before} {out} w = subst (λ (bs : List ℕ). Wrote bs n before out) (sym packets_are) w
