-- Days and times computed, so that the definitions say what they are meant to say.
-- Assumes nothing.
use Prim.Native.Nat.{ℕ}
use mathlib.Core.Path.{◌≡◌, refl}
use mathlib.Core.List.{[], ◌∷◌}
use Rattle.output.specs.Packets.{bytes_of}
use Rattle.clock.specs.declared.Clock.{Clock}
use Rattle.clock.specs.Clock.{month_length, next_year, next_month, next_day, next_hour, next_minute, next_second, tick}
use Rattle.clock.specs.Setting.{to_bcd, field, set_to, report}

-- a day at its first moment, and at its last
abbrev begins : ℕ → ℕ → ℕ → Clock
begins year month day = record { year = year; month = month; day = day; hour = 0; minute = 0; second = 0; hundredth = 0 }

abbrev ends : ℕ → ℕ → ℕ → Clock
ends year month day = record { year = year; month = month; day = day; hour = 23; minute = 59; second = 59; hundredth = 99 }

-- February of 00 and of 84 has 29 days, of 85 it has 28
pub february_00 : month_length 0 2 ≡ 29
unfolding month_length
february_00 = refl

pub february_84 : month_length 84 2 ≡ 29
unfolding month_length
february_84 = refl

pub february_85 : month_length 85 2 ≡ 28
unfolding month_length
february_85 = refl

-- the long and the short months
pub other_months :
    (month_length 85 1 ∷ month_length 85 3 ∷ month_length 85 4 ∷ month_length 85 5 ∷ month_length 85 6 ∷ month_length 85 7
    ∷ month_length 85 8 ∷ month_length 85 9 ∷ month_length 85 10 ∷ month_length 85 11 ∷ month_length 85 12 ∷ [])
    ≡ (31 ∷ 31 ∷ 30 ∷ 31 ∷ 30 ∷ 31 ∷ 31 ∷ 30 ∷ 31 ∷ 30 ∷ 31 ∷ [])
unfolding month_length
other_months = refl

-- the last hundredth of 99 goes to the first of 00
pub new_century : tick (ends 99 12 31) ≡ begins 0 1 1
unfolding tick next_second next_minute next_hour next_day next_month next_year month_length
new_century = refl

-- from 84-02-28 to the 29th, and from 85-02-28 to March
pub leap_day : tick (ends 84 2 28) ≡ begins 84 2 29
unfolding tick next_second next_minute next_hour next_day next_month next_year month_length
leap_day = refl

pub no_leap_day : tick (ends 85 2 28) ≡ begins 85 3 1
unfolding tick next_second next_minute next_hour next_day next_month next_year month_length
no_leap_day = refl

-- nothing is carried before its time: a hundredth more, then a second, a minute and an hour
pub one_hundredth :
    tick (record { year = 84; month = 2; day = 28; hour = 22; minute = 58; second = 58; hundredth = 98 })
    ≡ record { year = 84; month = 2; day = 28; hour = 22; minute = 58; second = 58; hundredth = 99 }
unfolding tick
one_hundredth = refl

pub one_second :
    tick (record { year = 84; month = 2; day = 28; hour = 22; minute = 58; second = 58; hundredth = 99 })
    ≡ record { year = 84; month = 2; day = 28; hour = 22; minute = 58; second = 59; hundredth = 0 }
unfolding tick next_second
one_second = refl

pub one_minute :
    tick (record { year = 84; month = 2; day = 28; hour = 22; minute = 58; second = 59; hundredth = 99 })
    ≡ record { year = 84; month = 2; day = 28; hour = 22; minute = 59; second = 0; hundredth = 0 }
unfolding tick next_second next_minute
one_minute = refl

pub one_hour :
    tick (record { year = 84; month = 2; day = 28; hour = 22; minute = 59; second = 59; hundredth = 99 })
    ≡ record { year = 84; month = 2; day = 28; hour = 23; minute = 0; second = 0; hundredth = 0 }
unfolding tick next_second next_minute next_hour
one_hour = refl

-- 59 as a byte of two digits
pub fifty_nine : to_bcd 59 ≡ 0x59
fifty_nine = refl

-- a digit above 9 leaves the field, in either place
pub bad_tens : field 0 99 7 0xA5 ≡ 7
unfolding field
bad_tens = refl

pub bad_ones : field 0 99 7 0x5A ≡ 7
unfolding field
bad_ones = refl

-- a byte outside the field's range leaves it: months 13 and 0, hour 24
pub no_month_13 : field 1 12 7 0x13 ≡ 7
unfolding field
no_month_13 = refl

pub no_month_0 : field 1 12 7 0x00 ≡ 7
unfolding field
no_month_0 = refl

pub no_hour_24 : field 0 23 7 0x24 ≡ 7
unfolding field
no_hour_24 = refl

-- the ends of a range are in it
pub month_12 : field 1 12 7 0x12 ≡ 12
unfolding field
month_12 = refl

pub month_1 : field 1 12 7 0x01 ≡ 1
unfolding field
month_1 = refl

-- on 31 January 84 only the month is set, to February: the 29th, and the hundredths are 0
pub last_day :
    set_to (0xFF ∷ 0x02 ∷ 0xFF ∷ 0xFF ∷ 0xFF ∷ 0xFF ∷ [])
    (record { year = 84; month = 1; day = 31; hour = 12; minute = 34; second = 56; hundredth = 78 })
    ≡ record { year = 84; month = 2; day = 29; hour = 12; minute = 34; second = 56; hundredth = 0 }
unfolding set_to field month_length
last_day = refl

-- the six bytes of the setting command, each to its field, and the same six in the report
pub all_set :
    set_to (0x84 ∷ 0x02 ∷ 0x28 ∷ 0x23 ∷ 0x59 ∷ 0x58 ∷ []) (begins 0 1 1)
    ≡ record { year = 84; month = 2; day = 28; hour = 23; minute = 59; second = 58; hundredth = 0 }
unfolding set_to field month_length
all_set = refl

pub all_reported :
    bytes_of (report (record { year = 84; month = 2; day = 28; hour = 23; minute = 59; second = 58; hundredth = 0 }))
    ≡ (0xFC ∷ 0x84 ∷ 0x02 ∷ 0x28 ∷ 0x23 ∷ 0x59 ∷ 0x58 ∷ [])
unfolding report
all_reported = refl
