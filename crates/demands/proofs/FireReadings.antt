-- Sentences of document 02, A4, that are easily read otherwise, each shown by a session from power-up, computed.
-- Assumes nothing.
use mathlib.Core.Path.{refl}
use mathlib.Core.Bool.{true, false}
use mathlib.Core.List.{List, [], ◌∷◌, ◌++◌}
use lib.ListN.{replicate}
use Rattle.controller.specs.State.{power_up}
use Rattle.controller.specs.Sequences.{after}
use Rattle.demands.specs.Sessions.{host, stick, times, turns, gives, nothing}
use Rattle.demands.specs.FireButton.{GivesFire}
use Rattle.demands.proofs.Readings.{key, left, right, refuses, Played, played, with_buffer_of, AllPlayed}
use Rattle.demands.proofs.Rules.{rules, of_keys}

-- Whether the button is changed is judged by its own level, whether anything is sent by stick 1's byte; and the trigger stays set when the mouse is on again.
abbrev pub level_and_trigger : Played
level_and_trigger =
    played (
    gives (host (0x12 ∷ []) ++ stick 1 3 1) (0xFF ∷ 0x83 ∷ [])
    ∷ gives (right true) nothing
    ∷ gives (right false) (0xFF ∷ 0x03 ∷ [])
    ∷ gives (right true) (0xFF ∷ 0x83 ∷ [])
    ∷ gives (host (0x08 ∷ [])) nothing
    ∷ gives (right false) (0xF8 ∷ 0x00 ∷ 0x00 ∷ [])
    ∷ gives (host (0x16 ∷ [])) (0xFD ∷ 0x00 ∷ 0x83 ∷ [])
    ∷ [])

-- With port 0 a joystick the button changes its level and no more; in interrogation mode the trigger is stored and not sent.
abbrev pub port_0_a_mouse : Played
port_0_a_mouse =
    played (
    gives (host (0x12 ∷ []) ++ right true) (0xFF ∷ 0x80 ∷ [])
    ∷ gives (right false) (0xFF ∷ 0x00 ∷ [])
    ∷ gives (host (0x15 ∷ []) ++ right true) nothing
    ∷ gives (host (0x16 ∷ [])) (0xFD ∷ 0x00 ∷ 0x00 ∷ [])
    ∷ gives (host (0x07 ∷ 0x00 ∷ []) ++ right false) nothing
    ∷ gives (host (0x16 ∷ [])) (0xFD ∷ 0x00 ∷ 0x00 ∷ [])
    ∷ gives (host (0x07 ∷ 0x00 ∷ []) ++ right true) nothing
    ∷ gives (host (0x16 ∷ [])) (0xFD ∷ 0x00 ∷ 0x80 ∷ [])
    ∷ gives (right false ++ host (0x07 ∷ 0x00 ∷ []) ++ right false) nothing
    ∷ gives (host (0x16 ∷ [])) (0xFD ∷ 0x00 ∷ 0x80 ∷ [])
    ∷ [])

-- In keycode mode the button is stick 1's key; in a monitoring mode it changes its level and no more; with joysticks off the trigger is stored. The left
-- button is silent.
abbrev pub key_level_and_silence : Played
key_level_and_silence =
    played (
    gives (host (0x19 ∷ 0x00 ∷ 0x00 ∷ 0x00 ∷ 0x00 ∷ 0x00 ∷ 0x00 ∷ []) ++ host (0x12 ∷ []) ++ host (0x07 ∷ 0x00 ∷ []) ++ left true) nothing
    ∷ gives (right true) (0x75 ∷ [])
    ∷ gives (right false) (0xF5 ∷ [])
    ∷ gives (host (0x18 ∷ []) ++ host (0x07 ∷ 0x00 ∷ []) ++ right true) nothing
    ∷ gives (host (0x14 ∷ []) ++ host (0x16 ∷ [])) (0xFD ∷ 0x00 ∷ 0x00 ∷ [])
    ∷ gives (host (0x07 ∷ 0x00 ∷ []) ++ right true) nothing
    ∷ gives (host (0x1A ∷ []) ++ host (0x07 ∷ 0x00 ∷ []) ++ right false ++ right true) nothing
    ∷ gives (host (0x14 ∷ []) ++ host (0x16 ∷ [])) (0xFD ∷ 0x00 ∷ 0x80 ∷ [])
    ∷ [])

-- Paused, two bytes do not fit where one is free; refused, the level has not changed, so that after a resume the same event is a change.
abbrev pub refused_by_the_queue : Played
refused_by_the_queue =
    played (
    gives (host (0x12 ∷ []) ++ host (0x13 ∷ []) ++ times 125 (key 0x1E true) ++ right true) nothing
    ∷ refuses 2 (right false)
    ∷ gives (host (0x11 ∷ [])) (replicate 125 0x1E ++ 0xFF ∷ 0x80 ∷ [])
    ∷ gives (right false) (0xFF ∷ 0x00 ∷ [])
    ∷ [])

-- The same where the buffer has room for one byte: a key's, and not a packet's.
abbrev pub refused_by_the_buffer : Played
refused_by_the_buffer =
    with_buffer_of 1 (
    gives (host (0x12 ∷ [])) nothing
    ∷ refuses 4 (right true ++ right true)
    ∷ gives (host (0x15 ∷ []) ++ host (0x07 ∷ 0x00 ∷ []) ++ right true ++ right true) nothing
    ∷ gives (host (0x19 ∷ 0x00 ∷ 0x00 ∷ 0x00 ∷ 0x00 ∷ 0x00 ∷ 0x00 ∷ []) ++ host (0x07 ∷ 0x00 ∷ []) ++ right false) (0xF5 ∷ [])
    ∷ [])

unfoldable pub readings : List Played
readings = level_and_trigger ∷ port_0_a_mouse ∷ key_level_and_silence ∷ refused_by_the_queue ∷ refused_by_the_buffer ∷ []

-- each of them goes so
pub readings_hold : AllPlayed readings
unfolding rules of_keys readings
readings_hold = (
  ((refl, refl), ((refl, refl), ((refl, refl), ((refl, refl), ((refl, refl), ((refl, refl), ((refl, refl), tt))))))),
  (
    ((refl, refl), ((refl, refl), ((refl, refl), ((refl, refl), ((refl, refl), ((refl, refl), ((refl, refl), ((refl, refl), ((refl, refl), ((refl, refl), tt)))))))))),
    (
      ((refl, refl), ((refl, refl), ((refl, refl), ((refl, refl), ((refl, refl), ((refl, refl), ((refl, refl), ((refl, refl), tt)))))))),
      (
        ((refl, refl), ((refl, refl), ((refl, refl), ((refl, refl), tt)))),
        (((refl, refl), ((refl, refl), ((refl, refl), ((refl, refl), tt)))), tt),
      ),
    ),
  ),
)

-- After 0x12 a press of the right button gives fire, so that the case of the request is not empty.
pub fires_then : GivesFire (after power_up (turns 0 (host (0x12 ∷ [])))) true
unfolding rules of_keys
fires_then = record { off = refl; port_0 = refl; no_monitoring = refl; changed = refl }
