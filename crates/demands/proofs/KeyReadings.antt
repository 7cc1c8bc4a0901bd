-- Sentences of document 02, A1, that are easily read otherwise, each shown by a session from power-up, computed.
-- Assumes nothing.
use mathlib.Core.Path.{refl}
use mathlib.Core.Bool.{true, false}
use mathlib.Core.List.{List, [], ◌∷◌, ◌++◌}
use Rattle.controller.specs.declared.Input.{Input}
use Rattle.controller.specs.State.{queue_room}
use Rattle.demands.specs.Sessions.{host, times, gives, nothing}
use Rattle.demands.proofs.Readings.{key, refuses, Played, played, AllPlayed}
use Rattle.demands.proofs.Rules.{rules, of_keys}

-- 0x80 then 0x01
abbrev reset : List Input
reset = host (0x80 ∷ 0x01 ∷ [])

-- A refused key does not enter the map; a key in a monitoring mode does, silently.
abbrev pub refused_and_silent : Played
refused_and_silent =
    played (
    gives (host (0x13 ∷ []) ++ times queue_room (key 0x01 true)) nothing
    ∷ refuses 2 (key 0x1E true)
    ∷ gives reset (0xF0 ∷ 0x81 ∷ [])
    ∷ gives (host (0x17 ∷ 0x05 ∷ []) ++ key 0x1E true) nothing
    ∷ gives reset (0xF0 ∷ 0x81 ∷ 0x9E ∷ [])
    ∷ [])

-- A second reset names the keys again; a release then sends its break, and the key is named no more.
abbrev pub outlives_the_reset : Played
outlives_the_reset =
    played (
    gives (key 0x1E true ++ key 0x02 true) (0x1E ∷ 0x02 ∷ [])
    ∷ gives reset (0xF0 ∷ 0x82 ∷ 0x9E ∷ [])
    ∷ gives reset (0xF0 ∷ 0x82 ∷ 0x9E ∷ [])
    ∷ gives (key 0x1E false) (0x9E ∷ [])
    ∷ gives reset (0xF0 ∷ 0x82 ∷ [])
    ∷ [])

-- A key pressed while output is paused is named without its make, and one released in a monitoring mode is not.
abbrev pub paused_and_released : Played
paused_and_released =
    played (
    gives (host (0x13 ∷ []) ++ key 0x02 true) nothing
    ∷ gives reset (0xF0 ∷ 0x82 ∷ [])
    ∷ gives (host (0x18 ∷ []) ++ key 0x02 false) nothing
    ∷ gives reset (0xF0 ∷ [])
    ∷ [])

unfoldable pub readings : List Played
readings = refused_and_silent ∷ outlives_the_reset ∷ paused_and_released ∷ []

-- each of them goes so
pub readings_hold : AllPlayed readings
unfolding rules of_keys readings
readings_hold = (
  ((refl, refl), ((refl, refl), ((refl, refl), ((refl, refl), ((refl, refl), tt))))),
  (
    ((refl, refl), ((refl, refl), ((refl, refl), ((refl, refl), ((refl, refl), tt))))),
    (((refl, refl), ((refl, refl), ((refl, refl), ((refl, refl), tt)))), tt),
  ),
)
