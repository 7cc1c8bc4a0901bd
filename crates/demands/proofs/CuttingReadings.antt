-- Sessions from power-up whose joined output is cut, computed: packets that are sent, one that still waits, and some that a reset drops. What is asked of
-- the inputs is true of these three; and in either monitoring mode the packets are not what is cut off.
-- Assumes nothing.
use Prim.Native.Nat.{ℕ}
use native.Mathlib.Omega.{arith}
use mathlib.Core.Path.{◌≡◌, refl, sym, ap, ◌∙◌}
use mathlib.Core.Bool.{Bool, true, false, ◌||◌, true≢false}
use mathlib.Core.List.{List, [], ◌∷◌, ◌++◌}
use lib.IntN.{pos}
use lib.ListN.{length}
use Rattle.output.specs.Packets.{scan, version}
use Rattle.output.proofs.Cases.{or_false}
use Rattle.receiver.specs.declared.Kind.TheVariants.{Make, Break, VersionOrBreak, MouseMotion}
use Rattle.receiver.specs.Cut.{start, cut}
use Rattle.receiver.specs.Pieces.{packet, pieces_from, left_from, pieces}
use Rattle.output.specs.ScanCodes.{is_make, is_break}
use Rattle.protocol.specs.declared.StickCommand.{StickCommand}
use Rattle.protocol.specs.declared.StickCommand.TheVariants.{SetEvent, SetInterrogation, ReportSticks, SetMonitoring, SetFire, SetStickKeycode, SticksOff}
use Rattle.protocol.specs.declared.Meaning.{Meaning}
use Rattle.protocol.specs.declared.Meaning.TheVariants.{Nothing, Memory, Pause, Reset, OfMouse, OfStick, OfOther, Inquire}
use Rattle.controller.specs.declared.Input.{Input}
use Rattle.controller.specs.declared.Input.TheVariants.{Sample}
use Rattle.controller.specs.State.{power_up}
use Rattle.controller.specs.Sequences.{Turn, after, AreInputs, executed_by}
use Rattle.demands.specs.Demand2.{flows_in, end, turn}
use Rattle.demands.specs.Conservation.{Arrival, arrivals_in}
use Rattle.demands.specs.Cutting.{NeverMonitored, all_sent, sent_in, CutsBack}
use Rattle.demands.specs.Sessions.{host, stick, tick, times, turns}
use Rattle.demands.proofs.Readings.{key}
use Rattle.demands.proofs.Rules.{rules, of_keys}

-- cutting, opened
of_cutting : Unit {0}
unfolding arrivals_in all_sent sent_in pieces_from left_from cut start is_make is_break
of_cutting = tt

-- The commands of the two modes, as a test.
stick_begins : StickCommand → Bool
stick_begins SetEvent = false
stick_begins SetInterrogation = false
stick_begins ReportSticks = false
stick_begins SetMonitoring = true
stick_begins SetFire = true
stick_begins SetStickKeycode = false
stick_begins SticksOff = false

begins : Meaning → Bool
begins Nothing = false
begins Memory = false
begins Pause = false
begins Reset = false
begins (OfMouse c) = false
begins (OfStick c) = stick_begins c
begins (OfOther c) = false
begins (Inquire q) = false

any_begins : List Arrival → Bool
any_begins [] = false
any_begins (r ∷ rs) = begins (executed_by r.state r.input) || any_begins rs

-- The test is right.
never : (rs : List Arrival) → any_begins rs ≡ false → NeverMonitored rs
unfolding any_begins begins stick_begins
never [] h = tt
never (r ∷ rs) h =
    let (n, m) = or_false (begins (executed_by r.state r.input)) (any_begins rs) h in
    (record { no_monitoring = λ _ e. true≢false (sym (ap begins e) ∙ n); no_fire = λ _ e. true≢false (sym (ap begins e) ∙ n) }, never rs m)

-- inputs, each with room for 8 bytes
abbrev given : List Input → List Turn
given is = turns 8 is

abbrev output : List Input → List ℕ
output is = all_sent (flows_in power_up (given is))

abbrev Back : List Input → Type 0
Back is = CutsBack (flows_in power_up (given is)) (after power_up (given is))

-- what is asked of the inputs
abbrev Asked : List Input → Type 0
Asked is = AreInputs (given is) × NeverMonitored (arrivals_in power_up (given is))

-- Two keys go down, and a reset names them.
abbrev pub named : List Input
named = key 0x1E true ++ key 0x02 true ++ host (0x80 ∷ 0x01 ∷ [])

pub named_asked : Asked named
unfolding rules of_keys of_cutting any_begins begins stick_begins
named_asked = ((tt, (tt, (omega arith, (omega arith, tt)))), never (arrivals_in power_up (given named)) refl)

pub named_output : output named ≡ 0x1E ∷ 0x02 ∷ 0xF0 ∷ 0x82 ∷ 0x9E ∷ []
unfolding rules of_keys of_cutting
named_output = refl

pub named_pieces : pieces (output named) ≡
    packet Make (0x1E ∷ [])
    ∷ packet Make (0x02 ∷ [])
    ∷ packet VersionOrBreak (0xF0 ∷ [])
    ∷ packet Break (0x82 ∷ [])
    ∷ packet Break (0x9E ∷ [])
    ∷ []
unfolding rules of_keys of_cutting
named_pieces = refl

pub named_back : Back named
unfolding rules of_keys of_cutting
named_back = record {
  last = [];
  queued = refl;
  whole =
      turn [] (scan 0x1E ∷ []) [] refl refl refl
      (turn [] (scan 0x02 ∷ []) [] refl refl refl
      (turn [] [] [] refl refl refl
      (turn [] (version ∷ scan 0x82 ∷ scan 0x9E ∷ []) [] refl refl refl end)));
  cut = refl;
  all_packets = tt;
  nothing_left = refl;
}

-- Output is paused: a key's make still waits in the end.
abbrev pub still_queued : List Input
still_queued = key 0x1E true ++ host (0x13 ∷ []) ++ key 0x02 true

pub still_queued_asked : Asked still_queued
unfolding rules of_keys of_cutting any_begins begins stick_begins
still_queued_asked = ((tt, (omega arith, (tt, tt))), never (arrivals_in power_up (given still_queued)) refl)

pub still_queued_back : Back still_queued
unfolding rules of_keys of_cutting
still_queued_back = record {
  last = scan 0x02 ∷ [];
  queued = refl;
  whole =
      turn [] (scan 0x1E ∷ []) [] refl refl refl
      (turn [] [] [] refl refl refl
      (turn [] [] (scan 0x02 ∷ []) refl refl refl end));
  cut = refl;
  all_packets = tt;
  nothing_left = refl;
}

-- A key goes down and up while output is paused, and a reset drops both codes.
abbrev pub dropped : List Input
dropped = host (0x13 ∷ []) ++ key 0x1E true ++ key 0x1E false ++ host (0x80 ∷ 0x01 ∷ [])

pub dropped_asked : Asked dropped
unfolding rules of_keys of_cutting any_begins begins stick_begins
dropped_asked = ((omega arith, (tt, (tt, (omega arith, (omega arith, tt))))), never (arrivals_in power_up (given dropped)) refl)

pub dropped_back : Back dropped
unfolding rules of_keys of_cutting
dropped_back = record {
  last = [];
  queued = refl;
  whole =
      turn [] [] [] refl refl refl
      (turn [] [] (scan 0x1E ∷ []) refl refl refl
      (turn [] [] (scan 0x1E ∷ scan 0x9E ∷ []) refl refl refl
      (turn [] [] (scan 0x1E ∷ scan 0x9E ∷ []) refl refl refl
      (turn (scan 0x1E ∷ scan 0x9E ∷ []) (version ∷ []) [] refl refl refl end))));
  cut = refl;
  all_packets = tt;
  nothing_left = refl;
}

-- Fire monitoring: five samples of 1 and three of 0 are the byte 0xF8, and it waits for the rest of a mouse packet.
abbrev pub fire : List Input
fire = host (0x18 ∷ []) ++ times 5 (Sample (pos 1) ∷ []) ++ times 3 (Sample (pos 0) ∷ [])

pub fire_not_back : Back fire → ⊥
unfolding rules of_cutting
fire_not_back b = let e = ap length b.nothing_left in omega arith

-- Back in event mode, the next two keys are taken for it.
pub fire_takes_keys : pieces (output (fire ++ host (0x14 ∷ []) ++ key 0x1E true ++ key 0x02 true)) ≡ packet MouseMotion (0xF8 ∷ 0x1E ∷ 0x02 ∷ []) ∷ []
unfolding rules of_keys of_cutting
fire_takes_keys = refl

-- Joystick monitoring: the positions 15 and 8 are 0xF8 too.
abbrev pub monitoring : List Input
monitoring = stick 0 15 0 ++ stick 1 8 0 ++ host (0x17 ∷ 0x01 ∷ []) ++ tick

pub monitoring_not_back : Back monitoring → ⊥
unfolding rules of_cutting
monitoring_not_back b = let e = ap length b.nothing_left in omega arith
