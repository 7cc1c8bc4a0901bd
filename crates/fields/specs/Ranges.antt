-- The 55 fields of a saved state that are numbers, in the order of document 01's state list, and the range of each, given the fields before it
-- (document 02, A2; docs/SAVED.md numbers them). The map of the keys and the queue stand beside them.
use Rattle.std.specs.Prelude.{ℕ, zero, suc, ◌+◌, ◌-◌, ◌%◌, ◌^◌, min, Bool, true, cond, not, ◌&&◌, ◌||◌, List, [], ◌∷◌, map, eqb, leb, ltb, get_or}
use Rattle.clock.specs.Clock.{month_length}
use Rattle.protocol.specs.Codes.{parameters_of, memory_load}
use Rattle.protocol.specs.Settings.{acts_as, most_action}
use Rattle.mouse.specs.Mouse.{held_limit, held_usual}
use Rattle.protocol.specs.declared.StickMode.TheVariants.{Fire}
use Rattle.sticks.specs.Sticks.{most_count, most_position, most_samples, below_trigger}

-- how many fields are numbers
abbrev pub numbered : ℕ
numbered = 55

-- field n of a list of them, "numbers the 57 fields from 1"
abbrev pub at : ℕ → List ℕ → ℕ
at n a = get_or a (n - 1) 0

-- the least and the most that a field may be
pub record Range : Type 0 where
  pub low : ℕ
  pub high : ℕ

-- 0 to n
abbrev pub upto : ℕ → Range
upto n = record { low = 0; high = n }

-- 1 to n
abbrev pub from_one : ℕ → Range
from_one n = record { low = 1; high = n }

-- "each mode's numbers have their own fields"; "Unused fields are written as 0."
abbrev pub only : Bool → ℕ → Range
only used n = upto (cond used n 0)

-- "only while paused with the mouse live in relative or keycode mode": paused, mouse on, port 0 a mouse, neither monitoring mode, not absolute
unfoldable pub gathers : List ℕ → Bool
gathers a = eqb (at 23 a) 1 && (eqb (at 12 a) 1 && (eqb (at 22 a) 0 && (not (eqb (at 13 a) 2) && (not (eqb (at 13 a) 3) && not (eqb (at 1 a) 1)))))

-- "held motion is -254 to 254, and beyond that, to 2,032 either way, only while" that
unfoldable pub held_most : List ℕ → ℕ
held_most a = cond (gathers a) held_limit held_usual

-- held motion stands in the list with this much more, so that its range is one of natural numbers
abbrev pub held_zero : ℕ
held_zero = held_limit

-- the range of held motion, in the list
abbrev pub held_range : List ℕ → Range
held_range a = record { low = held_zero - held_most a; high = held_zero + held_most a }

-- "samples (0 to 7 of them)": the most that the bits of so many are as one number
unfoldable pub most_bits : ℕ → ℕ
most_bits samples = 2 ^ min samples (most_samples Fire) - 1

-- "a half-received command lacks at least one byte": the most parameters that have come; of 0x20 all three, while its data come
unfoldable pub most_come : ℕ → ℕ
most_come code = cond (eqb code memory_load) 3 (parameters_of code - 1)

-- "once three bytes of a 0x20 have come"
unfoldable pub loading : List ℕ → Bool
loading a = eqb (at 47 a) memory_load && eqb (at 48 a) 3

-- the parameter byte after k others: a byte if it has come, else unused
abbrev pub parameter : ℕ → List ℕ → Range
parameter k a = only (ltb k (at 48 a)) 255

-- the third: while data of a 0x20 come it has told how many, so at least 1
unfoldable pub third : List ℕ → Range
third a = record { low = cond (loading a) 1 0; high = cond (ltb 2 (at 48 a)) 255 0 }

-- "the data bytes of 0x20 still to come": at least 1, at most what the third byte told
unfoldable pub pending : List ℕ → Range
pending a = record { low = cond (loading a) 1 0; high = cond (loading a) (at 51 a) 0 }

-- The one list: the range of each field, given the fields before it. A range that has a gap is completed by `gap_free`.
unfoldable pub ranges : List ℕ → List Range
ranges a =
    -- 1 mouse mode: relative, absolute, keycode; 2, 3 maximum X, Y; 4, 5 deltas X, Y
    upto 2 ∷ only (eqb (at 1 a) 1) 65535 ∷ only (eqb (at 1 a) 1) 65535 ∷ only (eqb (at 1 a) 2) 255 ∷ only (eqb (at 1 a) 2) 255
    -- 6 button action; 7, 8 thresholds; 9, 10 scales; 11 origin: top, bottom; 12 mouse off, on
    ∷ upto most_action ∷ upto 255 ∷ upto 255 ∷ upto 255 ∷ upto 255 ∷ upto 1 ∷ upto 1
    -- 13 joystick mode: event, interrogation, monitoring, fire monitoring, keycode; 14 rate; 15 to 20 RX RY TX TY VX VY
    ∷ upto 4 ∷ only (eqb (at 13 a) 2) 255
    ∷ only (eqb (at 13 a) 4) 255 ∷ only (eqb (at 13 a) 4) 255 ∷ only (eqb (at 13 a) 4) 255
    ∷ only (eqb (at 13 a) 4) 255 ∷ only (eqb (at 13 a) 4) 255 ∷ only (eqb (at 13 a) 4) 255
    -- 21 joysticks off, on; 22 port 0: mouse, joystick; 23 paused
    ∷ upto 1 ∷ upto 1 ∷ upto 1
    -- 24, 25 coordinates; 26, 27 held motion; 28, 29 left and right level; 30 latches
    ∷ upto (at 2 a) ∷ upto (at 3 a) ∷ held_range a ∷ held_range a ∷ upto 1 ∷ upto 1 ∷ upto 15
    -- 31, 32 sticks 0 and 1; 33 to 36 age and wait of X and of Y; 37 monitoring ticks; 38 samples; 39 their bits
    ∷ upto (below_trigger + 1 + most_position) ∷ upto (below_trigger + 1 + most_position) ∷ upto most_count ∷ upto most_count ∷ upto most_count ∷ upto most_count
    ∷ upto (acts_as (at 14 a) - 1) ∷ only (eqb (at 13 a) 3) (most_samples Fire) ∷ upto (most_bits (at 38 a))
    -- 40 to 46 year, month, day, hour, minute, second, hundredths
    ∷ upto 99 ∷ from_one 12 ∷ from_one (month_length (at 40 a) (at 41 a)) ∷ upto 23 ∷ upto 59 ∷ upto 59 ∷ upto 99
    -- 47 code of a half-received command; 48 how many parameters have come; 49 to 54 those; 55 data still to come
    ∷ upto 255 ∷ upto (most_come (at 47 a))
    ∷ parameter 0 a ∷ parameter 1 a ∷ third a ∷ parameter 3 a ∷ parameter 4 a ∷ parameter 5 a
    ∷ pending a
    ∷ []

-- the least of each field
abbrev pub lows : List ℕ → List ℕ
lows a = map (λ (r : Range). r.low) (ranges a)

-- and the most
abbrev pub highs : List ℕ → List ℕ
highs a = map (λ (r : Range). r.high) (ranges a)

-- the least of field i + 1
abbrev pub low : ℕ → List ℕ → ℕ
low i a = get_or (lows a) i 0

-- and the most
abbrev pub high : ℕ → List ℕ → ℕ
high i a = get_or (highs a) i 0

-- whether field i + 1 is not in a gap of its range: a stick's byte has bits 0 to 3 and 7 alone, and a half-received command has parameters
unfoldable pub gap_free : ℕ → ℕ → Bool
gap_free i x =
    cond (eqb i 30 || eqb i 31) (leb (x % (below_trigger + 1)) most_position)
    (cond (eqb i 46) (eqb x 0 || ltb 0 (parameters_of x)) true)

-- whether a number is in the range of field i + 1, given the fields before it
unfoldable pub fits : ℕ → List ℕ → ℕ → Bool
fits i a x = leb (low i a) x && (leb x (high i a) && gap_free i x)

-- whether the next n fields from i + 1 on are in range
unfoldable pub fit_from : ℕ → ℕ → List ℕ → Bool
fit_from zero i a = true
fit_from (suc n) i a = fits i a (get_or a i 0) && fit_from n (suc i) a

-- whether all are
abbrev pub all_fit : List ℕ → Bool
all_fit a = fit_from numbered 0 a
