-- From no state does a controller that keeps the step's promise idle: zeros end a half-received command, and a reset then sends 0xF0.
-- Assumes nothing.
use Prim.Native.Nat.{ℕ, zero, suc, ◌+◌, ◌≤◌, ◌<◌}
use native.Mathlib.Omega.{arith}
use mathlib.Core.Path.{◌≡◌, refl, sym, ap, ◌∙◌, subst}
use mathlib.Core.Bool.{Bool, true, false, ◌&&◌, true≢false}
use mathlib.Core.List.{List}
use lib.Dec.{eqb, ltb}
use lib.ListN.{length, replicate, length-replicate}
use borrow.Author.Tests.{eqb-true, ltb-true}
use Rattle.output.proofs.Cases.{both_ways, and_true}
use Rattle.output.specs.Packets.{bytes}
use Rattle.protocol.specs.declared.Command.{Command}
use Rattle.protocol.specs.Codes.{table, find, line, parameters_of, memory_load}
use Rattle.protocol.specs.Reading.{AllBytes, Between, Fed, IsCommand, missing, no_command, take_parameter, take_data, feed, command_after}
use Rattle.protocol.proofs.Core.{Core}
use Rattle.protocol.proofs.Segments.{feed_between}
use Rattle.controller.specs.declared.State.{State}
use Rattle.controller.specs.declared.Input.{Input}
use Rattle.controller.specs.declared.Input.TheVariants.{Byte}
use Rattle.controller.specs.declared.Refusal.{Refusal}
use Rattle.std.specs.Prelude.{Result, Ok}
use Rattle.controller.specs.State.{IsState}
use Rattle.controller.specs.Host.{Due, host_due, reset_packets}
use Rattle.controller.specs.Step.{IsInput, due, verdict, count_of, told, step}
use Rattle.controller.proofs.Answers.{host_taken}
use Rattle.controller.proofs.States.{keeps}
use Rattle.demands.specs.ShutOut.{Controller, Meets, Later, now, next, IdlesFrom}
use Rattle.demands.proofs.Core.{host_core}
use Rattle.demands.proofs.Rules.{rules}

-- after a zero more less of a half-received command is missing
nearer : (c : Command) → IsCommand c → eqb c.code 0 ≡ false → missing (command_after (feed c 0)) < missing c
unfolding feed command_after take_data take_parameter table find line
nearer c h e =
    let lacks : 1 ≤ missing c = rw e at h.lacks in
    let P : Fed → Type 0 = λ f. missing (command_after f) < missing c in
    both_ways P (eqb c.code 0) (λ t. absurd (true≢false (sym t ∙ e))) (λ _.
    both_ways P (ltb 0 c.pending)
    (λ some. both_ways P (eqb c.pending 1) (λ _. omega arith) (λ _. omega (arith, ltb-true 0 c.pending some)))
    (λ _. both_ways P (ltb (c.come + 1) (parameters_of c.code))
    (λ more. omega (arith, ltb-true (c.come + 1) (parameters_of c.code) more))
    (λ _. both_ways P (eqb c.code memory_load && ltb 0 0) (λ t. absurd (true≢false (sym (and_true (eqb c.code memory_load) (ltb 0 0) t).1))) (λ _. omega arith))))

-- the half-received command after a byte that is taken
command_is : (s : State) (b : ℕ) → (due s (Byte b)).state.command ≡ command_after (feed s.command b)
unfolding due
command_is s b = ap (λ (k : Core). k.command) (host_core (feed s.command b) s)

zeros_are_bytes : (n : ℕ) → AllBytes (replicate n 0)
zeros_are_bytes zero = tt
zeros_are_bytes (suc n) = (omega arith, zeros_are_bytes n)

-- what a controller comes to after an input it comes to from before it
later : {c : Controller} {s : State} (i : Input) (h : IsInput i) (lent : List ℕ) (l : AllBytes lent) {t : State} → Later c (c s i lent).stepped.state t → Later c s t
later i h lent l now = next now i h lent l
later i h lent l (next before j g more k) = next (later i h lent l before) j g more k

module _ (c : Controller) (m : Meets c) where
  record Idle (s : State) : Type 0 where
    is_state : IsState s
    idles : IdlesFrom c s

  -- a host byte, with a buffer just as long as what is due by it: that is nothing, and the controller idles on
  on_byte : (s : State) (b : ℕ) → b ≤ 255 → Idle s → (length (due s (Byte b)).written ≡ 0) × Idle (due s (Byte b)).state
  unfolding step told
  on_byte s b x h =
      let d : Due = due s (Byte b) in
      let n : ℕ = length d.written in
      let lent : List ℕ = replicate n 0 in
      let long : length lent ≡ n = length-replicate n 0 in
      let taken : verdict s (Byte b) (length lent) ≡ Ok n = host_taken s b (length lent) h.is_state.ranges.queue (omega arith) in
      let done = m (record { state = s; is_state = h.is_state; input = Byte b; is_input = x; lent = lent; is_lent = zeros_are_bytes n }) in
      let none : count_of (c s (Byte b) lent).stepped.answer ≡ 0 = h.idles s now (Byte b) x lent (zeros_are_bytes n) in
      let state : (step s (Byte b) (length lent)).state ≡ d.state = ap (λ (a : Result ℕ Refusal). (told a s d).state) taken in (
        sym (ap count_of (done.answer ∙ taken)) ∙ none,
        record {
          is_state = subst IsState state (keeps s (Byte b) (length lent) h.is_state x);
          idles = subst (IdlesFrom c) (done.state ∙ state) (λ t l. h.idles t (later (Byte b) x lent (zeros_are_bytes n) l));
        },
      )

  -- between commands: 0x80 0x01 sends what a reset sends, which is something
  no_reset : (s : State) → Between s.command → Idle s → ⊥
  unfolding rules
  no_reset s between h =
      let (none, g) = on_byte s 0x80 (omega arith) h in
      let half_received : (due s (Byte 0x80)).state.command ≡ command_after (feed no_command 0x80) =
      command_is s 0x80 ∙ ap command_after (feed_between s.command 0x80 between) in
      let sent : length (due (due s (Byte 0x80)).state (Byte 0x01)).written ≡ length (bytes (reset_packets (due s (Byte 0x80)).state.keys)) =
      ap (λ (k : Command). length (host_due (feed k 0x01) (due s (Byte 0x80)).state).written) half_received in
      omega (arith, sent, (on_byte (due s (Byte 0x80)).state 0x01 (omega arith) g).0)

  -- so a command is half received
  only_half : (s : State) → Idle s → (eqb s.command.code 0 ≡ false → ⊥) → ⊥
  only_half s h not_half = by (eqb s.command.code 0) refl
    where
      by : (t : Bool) → eqb s.command.code 0 ≡ t → ⊥
      by true e = no_reset s (eqb-true s.command.code 0 e) h
      by false e = not_half e

  -- and zeros end it
  no_end : (n : ℕ) (s : State) → missing s.command ≤ n → Idle s → ⊥
  no_end zero s few h = only_half s h (λ e. omega (arith, nearer s.command h.is_state.ranges.command e))
  no_end (suc n) s few h =
      only_half s h (λ e.
      no_end n (due s (Byte 0)).state (omega (arith, nearer s.command h.is_state.ranges.command e, ap missing (command_is s 0)))
      (on_byte s 0 (omega arith) h).1)

-- from no state does it idle
pub never_idles : (c : Controller) → Meets c → (s : State) → IsState s → IdlesFrom c s → ⊥
never_idles c m s h idles = no_end c m (missing s.command) s (omega arith) (record { is_state = h; idles = idles })
