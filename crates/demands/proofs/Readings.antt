-- Sentences of document 01 that are easily read otherwise, each shown by a session from power-up, computed.
-- Assumes nothing.
use Prim.Native.Nat.{ℕ}
use mathlib.Core.Path.{refl}
use mathlib.Core.Bool.{Bool, true}
use mathlib.Core.List.{List, [], ◌∷◌, ◌++◌}
use lib.IntN.{ℤ}
use Rattle.mouse.specs.declared.Side.TheVariants.{Left, Right}
use Rattle.controller.specs.declared.Input.{Input}
use Rattle.controller.specs.declared.Input.TheVariants.{Key, Button}
use Rattle.controller.specs.State.{power_up, queue_room, most_due}
use Rattle.demands.specs.Sessions.{host, move, plus, minus, stick, tick, times, Stretch, gives, nothing, Goes}
use Rattle.demands.proofs.MostDue.{to_the_limit}
use Rattle.demands.proofs.Rules.{rules, of_keys}

-- "K hex 1/0", "L 1/0" and "R 1/0"
abbrev pub key : ℕ → Bool → List Input
key code down = Key code down ∷ []

abbrev pub left : Bool → List Input
left down = Button Left down ∷ []

abbrev pub right : Bool → List Input
right down = Button Right down ∷ []

-- a motion along X alone
abbrev along_x : ℤ → List Input
along_x d = move d (plus 0)

-- each of these inputs is refused with this number
abbrev pub refuses : ℕ → List Input → Stretch
refuses n is = record { inputs = is; answer = n; bytes = [] }

-- a session, and the length of the buffer lent with each of its inputs
pub record Played : Type 0 where
  pub lent : ℕ
  pub session : List Stretch

abbrev pub with_buffer_of : ℕ → List Stretch → Played
with_buffer_of lent xs = record { lent = lent; session = xs }

-- the buffer of the text program
abbrev pub played : List Stretch → Played
played xs = with_buffer_of most_due xs

abbrev pub AllPlayed : List Played → Type 0
AllPlayed [] = Unit {0}
AllPlayed (p ∷ ps) = Goes p.lent power_up p.session × AllPlayed ps

-- Held motion below the threshold stays held at a resume.
abbrev pub below_threshold_stays_held : Played
below_threshold_stays_held =
    played (
    gives (host (0x0B ∷ 0x0A ∷ 0x0A ∷ []) ++ host (0x13 ∷ []) ++ move (plus 5) (plus 0) ++ host (0x11 ∷ [])) nothing
    ∷ gives (move (plus 5) (plus 0)) (0xF8 ∷ 0x0A ∷ 0x00 ∷ [])
    ∷ [])

-- A resume looks at what is held, whenever it came.
abbrev pub resume_looks_at_what_is_held : Played
resume_looks_at_what_is_held =
    played (
    gives (host (0x0B ∷ 0x0A ∷ 0x0A ∷ []) ++ move (plus 5) (plus 0) ++ host (0x0B ∷ 0x01 ∷ 0x01 ∷ []) ++ host (0x13 ∷ [])) nothing
    ∷ gives (host (0x11 ∷ [])) (0xF8 ∷ 0x05 ∷ 0x00 ∷ [])
    ∷ [])

-- Without a pause there is no resume, and a motion of 0 applies the threshold to what is held.
abbrev pub no_resume_without_a_pause : Played
no_resume_without_a_pause =
    played (
    gives (host (0x0B ∷ 0x0A ∷ 0x0A ∷ []) ++ move (plus 5) (plus 0) ++ host (0x0B ∷ 0x01 ∷ 0x01 ∷ []) ++ host (0x11 ∷ [])) nothing
    ∷ gives (move (plus 0) (plus 0)) (0xF8 ∷ 0x05 ∷ 0x00 ∷ [])
    ∷ [])

-- Queue, then motion, then the command.
abbrev pub queue_motion_command : Played
queue_motion_command =
    played (
    gives (host (0x13 ∷ []) ++ move (plus 5) (plus 0) ++ key 0x1E true) nothing
    ∷ gives (host (0x87 ∷ [])) (0x1E ∷ 0xF8 ∷ 0x05 ∷ 0x00 ∷ 0xF6 ∷ 0x07 ∷ 0x00 ∷ 0x00 ∷ 0x00 ∷ 0x00 ∷ 0x00 ∷ 0x00 ∷ [])
    ∷ [])

-- Whether the mouse is live is asked before the command acts.
abbrev pub live_as_the_resume_finds_it : Played
live_as_the_resume_finds_it =
    played (
    gives (host (0x13 ∷ []) ++ move (plus 5) (plus 0)) nothing
    ∷ gives (host (0x14 ∷ [])) (0xF8 ∷ 0x05 ∷ 0x00 ∷ [])
    ∷ gives (host (0x13 ∷ []) ++ host (0x12 ∷ [])) nothing
    ∷ [])

-- A button while paused queues all held motion, below the threshold or not.
abbrev pub button_queues_held_motion : Played
button_queues_held_motion =
    played (
    gives (host (0x0B ∷ 0x0A ∷ 0x0A ∷ []) ++ host (0x13 ∷ []) ++ move (plus 5) (plus 0) ++ left true ++ move (plus 3) (plus 0) ++ key 0x1E true) nothing
    ∷ gives (host (0x11 ∷ [])) (0xFA ∷ 0x05 ∷ 0x00 ∷ 0x1E ∷ [])
    ∷ [])

-- A button that is a key leaves held motion.
abbrev pub button_as_key_leaves_motion : Played
button_as_key_leaves_motion =
    played (
    gives (host (0x07 ∷ 0x04 ∷ []) ++ host (0x0B ∷ 0x0A ∷ 0x0A ∷ []) ++ host (0x13 ∷ []) ++ move (plus 5) (plus 0) ++ left true ++ move (plus 5) (plus 0)) nothing
    ∷ gives (host (0x11 ∷ [])) (0x74 ∷ 0xFA ∷ 0x0A ∷ 0x00 ∷ [])
    ∷ [])

-- A refused last byte leaves the command half received; the buffer has no room at all.
abbrev pub refused_byte_leaves_command : Played
refused_byte_leaves_command =
    with_buffer_of 0 (
    gives (host (0x80 ∷ [])) nothing
    ∷ refuses 4 (host (0x01 ∷ []) ++ host (0x01 ∷ []))
    ∷ gives (host (0x80 ∷ []) ++ host (0x01 ∷ [])) nothing
    ∷ [])

-- Motion that stays within 2,032 is taken, and one axis beyond it refuses both.
abbrev pub motion_to_the_bound_is_taken : Played
motion_to_the_bound_is_taken =
    played (
    gives (host (0x13 ∷ []) ++ to_the_limit along_x ++ move (plus 0) (plus 1)) nothing
    ∷ refuses 3 (move (plus 1) (plus 0) ++ move (plus 1) (plus 5))
    ∷ gives (move (minus 1) (plus 0)) nothing
    ∷ [])

-- A part is rounded down toward minus infinity: -3 in two packets is -2 and -1.
abbrev pub rounded_toward_minus_infinity : Played
rounded_toward_minus_infinity =
    played (
    gives (host (0x13 ∷ []) ++ move (plus 64) (minus 3) ++ times 2 (move (plus 64) (plus 0))) nothing
    ∷ gives (host (0x11 ∷ [])) (0xF8 ∷ 0x60 ∷ 0xFE ∷ 0xF8 ∷ 0x60 ∷ 0xFF ∷ [])
    ∷ [])

-- 0x0E takes any filler and leaves the remainder.
abbrev pub load_leaves_the_remainder : Played
load_leaves_the_remainder =
    played (gives (host (0x09 ∷ 0x00 ∷ 0x14 ∷ 0x00 ∷ 0x14 ∷ []) ++ host (0x0C ∷ 0x05 ∷ 0x05 ∷ []) ++ move (plus 3) (plus 0) ++ host (0x0E ∷ 0xFF ∷ 0x00 ∷ 0x0A ∷ 0x00 ∷ 0xFF ∷ []) ++ move (plus 2) (plus 0) ++ host (0x0D ∷ [])) (0xF7 ∷ 0x00 ∷ 0x00 ∷ 0x0B ∷ 0x00 ∷ 0x14 ∷ []) ∷ [])

-- The origin signs dy as the event comes in, not what is held.
abbrev pub origin_signs_as_it_comes : Played
origin_signs_as_it_comes =
    played (
    gives (host (0x0B ∷ 0x0A ∷ 0x0A ∷ []) ++ move (plus 0) (plus 5) ++ host (0x0F ∷ []) ++ move (plus 0) (plus 5)) nothing
    ∷ gives (move (plus 0) (minus 10)) (0xF8 ∷ 0x00 ∷ 0x0A ∷ [])
    ∷ [])

-- The remainder stays at the edge too.
abbrev pub remainder_stays_at_the_edge : Played
remainder_stays_at_the_edge =
    played (gives (host (0x09 ∷ 0x00 ∷ 0x64 ∷ 0x00 ∷ 0x64 ∷ []) ++ host (0x0C ∷ 0x05 ∷ 0x05 ∷ []) ++ move (minus 7) (plus 0) ++ move (plus 6) (plus 0) ++ host (0x0D ∷ [])) (0xF7 ∷ 0x00 ∷ 0x00 ∷ 0x00 ∷ 0x00 ∷ 0x00 ∷ []) ∷ [])

-- A stick that is closed on entering keycode mode gives no first pair, but repeats.
abbrev pub closed_on_entering_keycode : Played
closed_on_entering_keycode =
    played (
    gives (host (0x14 ∷ []) ++ stick 0 8 0) (0xFE ∷ 0x08 ∷ [])
    ∷ gives (host (0x19 ∷ 0x00 ∷ 0x00 ∷ 0x00 ∷ 0x00 ∷ 0x01 ∷ 0x01 ∷ []) ++ stick 0 8 0 ++ times 9 tick) nothing
    ∷ gives tick (0x4D ∷ 0xCD ∷ [])
    ∷ [])

-- The age is compared with this tick counted, and the wait runs on past it.
abbrev pub age_counts_this_tick : Played
age_counts_this_tick =
    played (
    gives (host (0x19 ∷ 0x01 ∷ 0x00 ∷ 0xFF ∷ 0x00 ∷ 0x01 ∷ 0x00 ∷ []) ++ stick 0 8 0) (0x4D ∷ 0xCD ∷ [])
    ∷ gives (times 10 tick) nothing
    ∷ gives tick (0x4D ∷ 0xCD ∷ [])
    ∷ [])

-- Opposite closures are no direction.
abbrev pub opposite_closures : Played
opposite_closures =
    played (
    gives (host (0x19 ∷ 0x00 ∷ 0x00 ∷ 0x00 ∷ 0x00 ∷ 0x00 ∷ 0x00 ∷ []) ++ stick 0 4 0) (0x4B ∷ 0xCB ∷ [])
    ∷ gives (stick 0 12 0) nothing
    ∷ gives (stick 0 4 0) (0x4B ∷ 0xCB ∷ [])
    ∷ [])

-- The day is held to the month after all six bytes are taken or left.
abbrev pub day_held_to_the_month_last : Played
day_held_to_the_month_last =
    played (
    gives (host (0x1B ∷ 0x84 ∷ 0x01 ∷ 0x31 ∷ 0xFF ∷ 0xFF ∷ 0xFF ∷ []) ++ host (0x1B ∷ 0xFF ∷ 0x02 ∷ 0xFF ∷ 0xFF ∷ 0xFF ∷ 0xFF ∷ [])) nothing
    ∷ gives (host (0x1C ∷ [])) (0xFC ∷ 0x84 ∷ 0x02 ∷ 0x29 ∷ 0x00 ∷ 0x00 ∷ 0x00 ∷ [])
    ∷ [])

-- "Run: key 0x72 taken, 0x73 gives 1"
abbrev pub last_key : Played
last_key =
    played (
    gives (key 0x72 true) (0x72 ∷ [])
    ∷ refuses 1 (key 0x73 true)
    ∷ [])

-- "paused, 128 keys taken, the next gives 2": as many as the queue has room for
abbrev pub full_queue : Played
full_queue =
    played (
    gives (host (0x13 ∷ []) ++ times queue_room (key 0x1E true)) nothing
    ∷ refuses 2 (key 0x1E true)
    ∷ [])

-- "paused, motion to 2,032 taken, one more gives 3"
abbrev pub full_motion : Played
full_motion =
    played (
    gives (host (0x13 ∷ []) ++ to_the_limit along_x) nothing
    ∷ refuses 3 (move (plus 1) (plus 0))
    ∷ [])

-- "a key with an empty buffer gives 4"
abbrev pub empty_buffer : Played
empty_buffer =
    with_buffer_of 0 (refuses 4 (key 0x1E true) ∷ [])

unfoldable pub readings : List Played
readings =
    below_threshold_stays_held
    ∷ resume_looks_at_what_is_held
    ∷ no_resume_without_a_pause
    ∷ queue_motion_command
    ∷ live_as_the_resume_finds_it
    ∷ button_queues_held_motion
    ∷ button_as_key_leaves_motion
    ∷ refused_byte_leaves_command
    ∷ motion_to_the_bound_is_taken
    ∷ rounded_toward_minus_infinity
    ∷ load_leaves_the_remainder
    ∷ origin_signs_as_it_comes
    ∷ remainder_stays_at_the_edge
    ∷ closed_on_entering_keycode
    ∷ age_counts_this_tick
    ∷ opposite_closures
    ∷ day_held_to_the_month_last
    ∷ last_key
    ∷ full_queue
    ∷ full_motion
    ∷ empty_buffer
    ∷ []

-- each of them goes so
pub readings_hold : AllPlayed readings
unfolding rules of_keys readings
readings_hold = (((refl, refl), ((refl, refl), tt)), (((refl, refl), ((refl, refl), tt)), (((refl, refl), ((refl, refl), tt)), (((refl, refl), ((refl, refl), tt)), (((refl, refl), ((refl, refl), ((refl, refl), tt))), (((refl, refl), ((refl, refl), tt)), (((refl, refl), ((refl, refl), tt)), (((refl, refl), ((refl, refl), ((refl, refl), tt))), (((refl, refl), ((refl, refl), ((refl, refl), tt))), (((refl, refl), ((refl, refl), tt)), (((refl, refl), tt), (((refl, refl), ((refl, refl), tt)), (((refl, refl), tt), (((refl, refl), ((refl, refl), ((refl, refl), tt))), (((refl, refl), ((refl, refl), ((refl, refl), tt))), (((refl, refl), ((refl, refl), ((refl, refl), tt))), (((refl, refl), ((refl, refl), tt)), (((refl, refl), ((refl, refl), tt)), (((refl, refl), ((refl, refl), tt)), (((refl, refl), ((refl, refl), tt)), (((refl, refl), tt), tt)))))))))))))))))))))
