-- The controllers that document 01 shuts out by name: none of them keeps the step's promise.
-- Assumes nothing.
use Prim.Native.Nat.{ℕ, ◌≤◌}
use native.Mathlib.Omega.{arith}
use mathlib.Core.Path.{◌≡◌, refl, sym, ap, subst, ◌∙◌}
use mathlib.Core.Bool.{true}
use mathlib.Core.List.{[], ◌∷◌}
use lib.ListN.{length}
use Rattle.controller.specs.declared.State.{State}
use Rattle.controller.specs.declared.Input.{Input}
use Rattle.controller.specs.declared.Input.TheVariants.{Byte, Key, Tick}
use Rattle.controller.specs.declared.Refusal.{Refusal}
use Rattle.std.specs.Prelude.{Result, Ok, Err}
use Rattle.controller.specs.declared.Refusal.TheVariants.{OutOfRange, QueueFull, MotionFull, BufferShort}
use Rattle.controller.specs.State.{IsState, power_up}
use Rattle.controller.proofs.States.{power_up_is_state, keeps}
use Rattle.controller.specs.Host.{Due}
use Rattle.controller.proofs.Answers.{did_count}
use Rattle.controller.specs.Step.{IsInput, due, verdict, number, count_of, told, step}
use Rattle.output.specs.Writing.{over}
use Rattle.demands.specs.ShutOut.{Controller, Intake, outcome, Meets, RefusesEverything, SendsF0, SwallowsAllInput, HandlesFirstByteOnly, count_due, InventsCount, ShutOut}
use Rattle.demands.proofs.Idling.{never_idles}
use Rattle.demands.proofs.Rules.{rules}

-- power-up with this input and a buffer of one byte
abbrev at_power_up : (i : Input) → IsInput i → Intake
at_power_up i h = record { state = power_up; is_state = power_up_is_state; input = i; is_input = h; lent = 0 ∷ []; is_lent = (omega arith, tt) }

-- a tick at power-up is taken
takes : (c : Controller) → Meets c → RefusesEverything c → ⊥
unfolding rules
takes c m never = never (at_power_up Tick tt) (ap number (m (at_power_up Tick tt)).answer)

-- a tick at power-up sends nothing
not_f0 : (c : Controller) → Meets c → SendsF0 c → ⊥
unfolding rules
not_f0 c m always =
    let h : count_of (outcome c (at_power_up Tick tt)).stepped.answer ≡ 0 = ap count_of (m (at_power_up Tick tt)).answer in
    let more : 1 ≤ count_of (outcome c (at_power_up Tick tt)).stepped.answer = (always (at_power_up Tick tt) (omega arith)).0 in
    omega arith

-- a key at power-up sends its make
sends : (c : Controller) → Meets c → SwallowsAllInput c → ⊥
unfolding rules
sends c m none =
    let k : Intake = at_power_up (Key 0x1E true) (omega arith) in
    let h : count_of (outcome c k).stepped.answer ≡ 1 = ap count_of (m k).answer in
    let less : count_of (outcome c k).stepped.answer ≡ 0 = none k in
    omega arith

-- a first byte leaves a state, and from no state does it idle
goes : (c : Controller) → Meets c → HandlesFirstByteOnly c → ⊥
goes c m one =
    let k : Intake = record { state = power_up; is_state = power_up_is_state; input = Byte one.first; is_input = one.is_byte; lent = one.lent; is_lent = one.is_lent } in
    never_idles c m (outcome c k).stepped.state
    (subst IsState (sym (m k).state) (keeps power_up (Byte one.first) (length one.lent) power_up_is_state one.is_byte))
    one.idles

-- what a case of the answer reports is the count due
counted : (a : Result ℕ Refusal) (s : State) (d : Due) → length (told a s d).written ≡ count_due a d
unfolding told
counted (Ok count) s d = refl
counted (Err OutOfRange) s d = refl
counted (Err QueueFull) s d = refl
counted (Err MotionFull) s d = refl
counted (Err BufferShort) s d = refl

-- the count is that of the answer
counts : (c : Controller) → Meets c → InventsCount c → ⊥
unfolding step
counts c m wrong =
    let k : Intake = wrong.intake in
    let d : Due = due k.state k.input in
    let v : Result ℕ Refusal = verdict k.state k.input (length k.lent) in
    wrong.another (did_count k.state k.input (m k) ∙ counted v k.state d ∙ ap (λ (a : Result ℕ Refusal). count_due a d) (sym (m k).answer))

-- the promise can be kept: the definition of the step, as a controller
unfoldable pub by_definition : Controller
by_definition s i lent = record {
  stepped = record {
    answer = verdict s i (length lent);
    state = (step s i (length lent)).state;
  };
  buffer = over (step s i (length lent)).written lent;
}

pub definition_meets : Meets by_definition
unfolding by_definition
definition_meets k = record { answer = refl; state = refl; buffer = refl }

-- none of the five keeps the step's promise
pub shut_out : ShutOut
shut_out c m = record {
  takes_something = takes c m;
  sends_not_only_f0 = not_f0 c m;
  sends_something = sends c m;
  goes_on = goes c m;
  counts_what_is_due = counts c m;
}
