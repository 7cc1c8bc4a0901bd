-- Setting and reporting the clock: 0x1B and 0x1C.
use Rattle.std.specs.Prelude.{ℕ, ◌+◌, ◌*◌, ◌/◌, ◌%◌, ◌≤◌, min, cond, ◌&&◌, List, leb, get_or}
use Rattle.output.specs.Packets.{Packet, time}
use Rattle.clock.specs.declared.Clock.{Clock}
use Rattle.clock.specs.Clock.{month_length}

-- "Clock bytes are packed BCD."
abbrev pub to_bcd : ℕ → ℕ
to_bcd n = 16 * (n / 10) + n % 10

-- "packed BCD" read, for the bytes of 0x1B; whether a digit is above 9 is not asked here
abbrev pub from_bcd : ℕ → ℕ
from_bcd b = 10 * (b / 16) + b % 16

-- "a byte with a digit above 9, or outside its field's range (day 1 to 31), leaves that field"
unfoldable pub field : ℕ → ℕ → ℕ → ℕ → ℕ
field least most old b =
    cond (leb (b / 16) 9 && leb (b % 16) 9 && leb least (from_bcd b) && leb (from_bcd b) most) (from_bcd b) old

-- "then a day past the month's end becomes its last day and the hundredths are 0"
abbrev pub settled : Clock → Clock
settled c = record {
  year = c.year;
  month = c.month;
  day = min c.day (month_length c.year c.month);
  hour = c.hour;
  minute = c.minute;
  second = c.second;
  hundredth = 0;
}

-- 0x1B with its six bytes
unfoldable pub set_to : List ℕ → Clock → Clock
set_to ps c = settled (record {
  year = field 0 99 c.year (get_or ps 0 0);
  month = field 1 12 c.month (get_or ps 1 0);
  day = field 1 31 c.day (get_or ps 2 0);
  hour = field 0 23 c.hour (get_or ps 3 0);
  minute = field 0 59 c.minute (get_or ps 4 0);
  second = field 0 59 c.second (get_or ps 5 0);
  hundredth = c.hundredth;
})

-- what "packed BCD" can show: two digits of each field
pub record TwoDigits (c : Clock) : Type 0 where
  pub year : c.year ≤ 99
  pub month : c.month ≤ 99
  pub day : c.day ≤ 99
  pub hour : c.hour ≤ 99
  pub minute : c.minute ≤ 99
  pub second : c.second ≤ 99

-- "0x1C sends 0xFC and six bytes."
unfoldable pub report : Clock → Packet
report c = time (to_bcd c.year) (to_bcd c.month) (to_bcd c.day) (to_bcd c.hour) (to_bcd c.minute) (to_bcd c.second)
