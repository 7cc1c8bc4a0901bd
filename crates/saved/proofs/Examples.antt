-- Power-up's line, computed; and lines that are refused, for a reader who wants to see the definitions at work.
-- Assumes nothing.
use Prim.Native.Nat.{ℕ}
use mathlib.Core.Path.{◌≡◌, refl}
use mathlib.Core.List.{List, []}
use Rattle.std.specs.Prelude.{None}
use lib.ListN.{length}
use Rattle.keys.specs.Words.{has_bit}
use Rattle.keys.specs.Keys.{has_key}
use Rattle.controller.specs.State.{power_up, queue_room}
use Rattle.text.specs.Output.{text, decimal_in, shown}
use Rattle.fields.specs.Numbers.{settings_numbers, pointer_numbers, sticks_numbers, clock_numbers, command_numbers, numbers}
use Rattle.saved.specs.Digits.{key_digits}
use Rattle.saved.specs.Line.{motion_text, field_text, fields_text, line_of}
use Rattle.saved.specs.Load.{number_from, field_from, read_numbers, load}

abbrev power_up_text : List ℕ
power_up_text = text "0\t0\t0\t0\t0\t0\t1\t1\t1\t1\t0\t1\t0\t0\t0\t0\t0\t0\t0\t0\t1\t0\t0\t0\t0\t0\t0\t0\t0\t0\t0\t0\t0\t0\t0\t0\t0\t0\t0\t0\t1\t1\t0\t0\t0\t0\t0\t0\t0\t0\t0\t0\t0\t0\t0\t000000000000000000000000000000000000000000000000000000000000000000000000000000000000000000000000000000000000000000\t-\n"

pub power_up_line : line_of power_up ≡ power_up_text
unfolding line_of fields_text field_text motion_text numbers settings_numbers pointer_numbers sticks_numbers clock_numbers command_numbers decimal_in key_digits has_key has_bit shown
power_up_line = refl

-- every number has one digit, and the queue is empty
pub power_up_length : length power_up_text ≡ 227
power_up_length = refl

pub nothing_refused : load queue_room [] ≡ None
unfolding load read_numbers field_from number_from
nothing_refused = refl

-- a leading zero
pub zero_refused : load queue_room (text "00\t") ≡ None
unfolding load read_numbers field_from number_from
zero_refused = refl
