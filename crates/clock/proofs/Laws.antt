-- The clock always shows a date and time that exist: at power-up, after each tick and after each setting.
-- Assumes nothing.
use Prim.Native.Nat.{ℕ, ◌+◌, ◌/◌, ◌%◌, ◌≤◌, ◌<◌}
use native.Mathlib.Omega.{arith}
use mathlib.Core.Path.{◌≡◌, refl}
use mathlib.Core.Bool.{Bool, true, false, cond, ◌&&◌, ◌||◌}
use mathlib.Core.List.{List}
use lib.Dec.{eqb, leb, ltb}
use lib.ListN.{get_or}
use borrow.Author.Tests.{ltb-true, leb-true}
use Rattle.output.proofs.Cases.{both_ways, and_true}
use Rattle.clock.specs.declared.Clock.{Clock}
use Rattle.clock.specs.Clock.{IsClock, month_length, first_day, next_year, next_month, next_day, next_hour, next_minute, next_second, tick}
use Rattle.clock.specs.Setting.{to_bcd, from_bcd, field, set_to, TwoDigits}

-- a number between two others
record Between (least most n : ℕ) : Type 0 where
  from_least : least ≤ n
  to_most : n ≤ most

-- a clock chosen by whether one number is below another
clock_below : (m n : ℕ) {a b : Clock} → (m < n → IsClock a) → IsClock b → IsClock (cond (ltb m n) a b)
clock_below m n f g = both_ways IsClock (ltb m n) (λ e. f (ltb-true m n e)) (λ _. g)

-- the four lengths of months
month_cases : (february leap short : Bool) → Between 28 31 (cond february (cond leap 29 28) (cond short 30 31))
month_cases true true short = omega arith
month_cases true false short = omega arith
month_cases false leap true = omega arith
month_cases false leap false = omega arith

-- every month has 28 to 31 days
pub month_bounds : (year month : ℕ) → (28 ≤ month_length year month) × (month_length year month ≤ 31)
unfolding month_length
month_bounds year month =
    let h : Between 28 31 (month_length year month) =
    month_cases (eqb month 2) (eqb (year % 4) 0) (eqb month 4 || eqb month 6 || eqb month 9 || eqb month 11)
    in
    (h.from_least, h.to_most)

-- a date and time that exist have two digits in each field
pub two_digits : (c : Clock) → IsClock c → TwoDigits c
two_digits c h = omega (arith, month_bounds c.year c.month)

-- power-up's date exists
pub first_is : IsClock first_day
unfolding month_length
first_is = omega arith

-- the year after a year is one
year_after : (year : ℕ) → cond (ltb year 99) (year + 1) 0 ≤ 99
year_after year = both_ways (λ (n : ℕ). n ≤ 99) (ltb year 99) (λ e. omega (arith, ltb-true year 99 e)) (λ _. omega arith)

-- the years go on
pub next_year_is : (c : Clock) → IsClock c → IsClock (next_year c)
unfolding next_year
next_year_is c h = omega (arith, year_after c.year, month_bounds (next_year c).year 1)

-- the months go on
pub next_month_is : (c : Clock) → IsClock c → IsClock (next_month c)
unfolding next_month
next_month_is c h =
    clock_below c.month 12
    (λ e. omega (arith, month_bounds c.year (c.month + 1)))
    (next_year_is c h)

-- the days go on
pub next_day_is : (c : Clock) → IsClock c → IsClock (next_day c)
unfolding next_day
next_day_is c h =
    clock_below c.day (month_length c.year c.month) (λ e. omega arith) (next_month_is c h)

-- the hours go on
pub next_hour_is : (c : Clock) → IsClock c → IsClock (next_hour c)
unfolding next_hour
next_hour_is c h = clock_below c.hour 23 (λ e. omega arith) (next_day_is _ (omega arith))

-- the minutes go on
pub next_minute_is : (c : Clock) → IsClock c → IsClock (next_minute c)
unfolding next_minute
next_minute_is c h = clock_below c.minute 59 (λ e. omega arith) (next_hour_is _ (omega arith))

-- the seconds go on
pub next_second_is : (c : Clock) → IsClock c → IsClock (next_second c)
unfolding next_second
next_second_is c h = clock_below c.second 59 (λ e. omega arith) (next_minute_is _ (omega arith))

-- a tick of a clock that exists gives one that exists
pub tick_is : (c : Clock) → IsClock c → IsClock (tick c)
unfolding tick
tick_is c h = clock_below c.hundredth 99 (λ e. omega arith) (next_second_is _ (omega arith))

-- a number that is taken only where it is in range, whatever else is asked
taken_between : (digits : Bool) (least most old n : ℕ) → least ≤ old → old ≤ most → Between least most (cond (digits && leb least n && leb n most) n old)
taken_between digits least most old n l m = by (digits && leb least n && leb n most) refl
  where
    by : (t : Bool) → (digits && leb least n && leb n most) ≡ t → Between least most (cond t n old)
    by true e =
        let upper = and_true (digits && leb least n) (leb n most) e in
        let lower = and_true digits (leb least n) upper.0 in
        omega (arith, leb-true least n lower.1, leb-true n most upper.1)
    by false e = omega arith

-- a field that is set stays in its range
pub field_between : (least most old b : ℕ) → least ≤ old → old ≤ most → (least ≤ field least most old b) × (field least most old b ≤ most)
unfolding field
field_between least most old b l m =
    let h : Between least most (field least most old b) =
    taken_between (leb (b / 16) 9 && leb (b % 16) 9) least most old (from_bcd b) l m
    in
    (h.from_least, h.to_most)

-- setting a clock that exists, to whatever bytes, gives one that exists
pub set_is : (ps : List ℕ) (c : Clock) → IsClock c → IsClock (set_to ps c)
unfolding set_to
set_is ps c h =
    let old = month_bounds c.year c.month in
    let year = field_between 0 99 c.year (get_or ps 0 0) (omega arith) (omega arith) in
    let month = field_between 1 12 c.month (get_or ps 1 0) (omega arith) (omega arith) in
    let day = field_between 1 31 c.day (get_or ps 2 0) (omega arith) (omega arith) in
    let hour = field_between 0 23 c.hour (get_or ps 3 0) (omega arith) (omega arith) in
    let minute = field_between 0 59 c.minute (get_or ps 4 0) (omega arith) (omega arith) in
    let second = field_between 0 59 c.second (get_or ps 5 0) (omega arith) (omega arith) in
    let last = month_bounds (field 0 99 c.year (get_or ps 0 0)) (field 1 12 c.month (get_or ps 1 0)) in
    omega arith

-- a number up to 99 comes back from its BCD byte
pub bcd_back : (n : ℕ) → n ≤ 99 → from_bcd (to_bcd n) ≡ n
bcd_back n h = omega arith
