-- The clock: dates and times that exist, and a hundredth more (document 01, "Sticks, samples, clock"). Setting it is the next file.
use Rattle.std.specs.Prelude.{ℕ, ◌+◌, ◌%◌, ◌≤◌, cond, ◌||◌, eqb, ltb}
use Rattle.clock.specs.declared.Clock.{Clock}

-- "February has 29 days when the year divides by 4."
unfoldable pub month_length : ℕ → ℕ → ℕ
month_length year month =
    cond (eqb month 2) (cond (eqb (year % 4) 0) 29 28)
    (cond (eqb month 4 || eqb month 6 || eqb month 9 || eqb month 11) 30 31)

-- "the clock shows a date and time that exist"
pub record IsClock (c : Clock) : Type 0 where
  pub year : c.year ≤ 99
  pub month_first : 1 ≤ c.month
  pub month_last : c.month ≤ 12
  pub day_first : 1 ≤ c.day
  pub day_last : c.day ≤ month_length c.year c.month
  pub hour : c.hour ≤ 23
  pub minute : c.minute ≤ 59
  pub second : c.second ≤ 59
  pub hundredth : c.hundredth ≤ 99

-- "clock 00-01-01 00:00:00 (house)"
abbrev pub first_day : Clock
first_day = record { year = 0; month = 1; day = 1; hour = 0; minute = 0; second = 0; hundredth = 0 }

-- "99 goes to 00."
unfoldable pub next_year : Clock → Clock
next_year c = record {
  year = cond (ltb c.year 99) (c.year + 1) 0;
  month = 1;
  day = 1;
  hour = c.hour;
  minute = c.minute;
  second = c.second;
  hundredth = c.hundredth;
}

-- the first day of the next month
unfoldable pub next_month : Clock → Clock
next_month c =
    cond (ltb c.month 12)
    (record { year = c.year; month = c.month + 1; day = 1; hour = c.hour; minute = c.minute; second = c.second; hundredth = c.hundredth })
    (next_year c)

-- the next day, at the same time
unfoldable pub next_day : Clock → Clock
next_day c =
    cond (ltb c.day (month_length c.year c.month))
    (record { year = c.year; month = c.month; day = c.day + 1; hour = c.hour; minute = c.minute; second = c.second; hundredth = c.hundredth })
    (next_month c)

-- an hour more, so that the clock "shows a date and time that exist": after 23 comes 0, on the next day
unfoldable pub next_hour : Clock → Clock
next_hour c =
    cond (ltb c.hour 23)
    (record { year = c.year; month = c.month; day = c.day; hour = c.hour + 1; minute = c.minute; second = c.second; hundredth = c.hundredth })
    (next_day (record { year = c.year; month = c.month; day = c.day; hour = 0; minute = c.minute; second = c.second; hundredth = c.hundredth }))

-- a minute more, by the same clause: after 59 comes 0, in the next hour
unfoldable pub next_minute : Clock → Clock
next_minute c =
    cond (ltb c.minute 59)
    (record { year = c.year; month = c.month; day = c.day; hour = c.hour; minute = c.minute + 1; second = c.second; hundredth = c.hundredth })
    (next_hour (record { year = c.year; month = c.month; day = c.day; hour = c.hour; minute = 0; second = c.second; hundredth = c.hundredth }))

-- a second more, by the same clause: after 59 comes 0, in the next minute
unfoldable pub next_second : Clock → Clock
next_second c =
    cond (ltb c.second 59)
    (record { year = c.year; month = c.month; day = c.day; hour = c.hour; minute = c.minute; second = c.second + 1; hundredth = c.hundredth })
    (next_minute (record { year = c.year; month = c.month; day = c.day; hour = c.hour; minute = c.minute; second = 0; hundredth = c.hundredth }))

-- "Tick: 1/100 second."
unfoldable pub tick : Clock → Clock
tick c =
    cond (ltb c.hundredth 99)
    (record { year = c.year; month = c.month; day = c.day; hour = c.hour; minute = c.minute; second = c.second; hundredth = c.hundredth + 1 })
    (next_second (record { year = c.year; month = c.month; day = c.day; hour = c.hour; minute = c.minute; second = c.second; hundredth = 0 }))
