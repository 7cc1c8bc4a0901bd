-- Asking changes no setting, and each of the eight, taken in it, is answered by the reply that tells the settings before it.
-- Assumes nothing.
use Prim.Native.Nat.{ℕ, ◌-◌}
use native.Mathlib.Omega.{arith}
use mathlib.Core.Path.{◌≡◌, refl, sym, ap, ◌∙◌, subst}
use mathlib.Core.Logic.{◌⊎◌, inl, inr}
use mathlib.Core.Bool.{true, false}
use mathlib.Core.List.Memᴰ
use mathlib.Core.List.{List, [], ◌∷◌, ◌++◌, append_assoc, append-nil, Memᴰ}
use lib.ListN.{length, drop, length-append}
use lib.Seq.{drop_at}
use Rattle.output.specs.Packets.{bytes_of, bytes}
use Rattle.output.proofs.Packets.{bytes_append}
use Rattle.protocol.specs.declared.Settings.{Settings}
use Rattle.protocol.specs.declared.Inquiry.{Inquiry}
use Rattle.protocol.specs.declared.Meaning.TheVariants.{Inquire}
use Rattle.protocol.specs.Codes.{meaning_of}
use Rattle.protocol.specs.Reading.{Between, feed, no_command, whole, zeros}
use Rattle.protocol.specs.Settings.{monitors}
use Rattle.protocol.specs.Commands.{executed}
use Rattle.protocol.specs.Replies.{code_of, reply, kept_bytes}
use Rattle.protocol.proofs.Core.{Core}
use Rattle.protocol.proofs.Segments.{feed_between}
use Rattle.protocol.proofs.PutBack.{known, asks, fed_alone, quiet}
use Rattle.protocol.proofs.Replies.{reply_length}
use Rattle.controller.specs.declared.State.{State}
use Rattle.controller.specs.declared.Input.{Input}
use Rattle.controller.specs.declared.Input.TheVariants.{Byte}
use Rattle.controller.specs.declared.Refusal.{Refusal}
use Rattle.std.specs.Prelude.{Result, Ok, Err}
use Rattle.controller.specs.declared.Refusal.TheVariants.{OutOfRange, QueueFull, MotionFull, BufferShort}
use Rattle.controller.specs.State.{contents}
use Rattle.controller.specs.Host.{Due, resumed_packets, acted, executes, effect, host_due}
use Rattle.controller.specs.Step.{due, told, verdict, step}
use Rattle.controller.specs.Sequences.{Turn, done, after, history, byte_taken}
use Rattle.demands.specs.Demand3.{Seen, seen, seen_in, taken, NoOther, last_8, Asking}
use Rattle.demands.proofs.Core.{core, step_core, run_core}

-- the last eight of bytes that end in eight
last_8_append : (xs ys : List ℕ) → length ys ≡ 8 → last_8 (xs ++ ys) ≡ ys
last_8_append xs ys h = drop_at xs ys (length (xs ++ ys) - 8) (omega (arith, length-append xs ys))

-- what is due by an inquiry ends in its reply
whole_written : (s : State) (q : Inquiry) (code : ℕ) → meaning_of code ≡ Inquire q → monitors s.settings.stick ≡ false →
    (host_due (whole code zeros) s).written ≡ contents s.queue ++ bytes (resumed_packets s ++ (reply q s.settings ∷ []))
unfolding host_due executes acted effect executed
whole_written s q code e out = rw (e, out)

inquiry_written : (s : State) (q : Inquiry) → Between s.command → monitors s.settings.stick ≡ false →
    (due s (Byte (code_of q))).written ≡ contents s.queue ++ bytes (resumed_packets s ++ (reply q s.settings ∷ []))
unfolding due
inquiry_written s q between out =
    let alone : feed no_command (code_of q) ≡ whole (code_of q) zeros = fed_alone (code_of q) (ap (λ e. e.parameters) (known q)) in
    ap (λ f. (host_due f s).written) (feed_between s.command (code_of q) between ∙ alone)
    ∙ whole_written s q (code_of q) (ap (λ e. e.meaning) (known q)) out

-- an input taken writes what is due
told_written : (a : Result ℕ Refusal) (s : State) (d : Due) → (told a s d).answer ≡ 0 → (told a s d).written ≡ d.written
unfolding told
told_written (Ok count) s d e = refl
told_written (Err OutOfRange) s d e = absurd (omega (arith, e))
told_written (Err QueueFull) s d e = absurd (omega (arith, e))
told_written (Err MotionFull) s d e = absurd (omega (arith, e))
told_written (Err BufferShort) s d e = absurd (omega (arith, e))

-- the step that takes an inquiry writes its reply last
replied : (s : State) (q : Inquiry) (lent : ℕ) → Between s.command → monitors s.settings.stick ≡ false →
    (step s (Byte (code_of q)) lent).answer ≡ 0 → last_8 (step s (Byte (code_of q)) lent).written ≡ bytes_of (reply q s.settings)
unfolding step
replied s q lent between out e =
    let r = reply q s.settings in
    ap last_8 (told_written (verdict s (Byte (code_of q)) lent) s (due s (Byte (code_of q))) e
    ∙ inquiry_written s q between out
    ∙ ap (λ (l : List ℕ). contents s.queue ++ l) (bytes_append (resumed_packets s) (r ∷ []) ∙ ap (λ (l : List ℕ). bytes (resumed_packets s) ++ l) (append-nil (bytes_of r)))
    ∙ sym (append_assoc (contents s.queue) (bytes (resumed_packets s)) (bytes_of r)))
    ∙ last_8_append (contents s.queue ++ bytes (resumed_packets s)) (bytes_of r) (reply_length q s.settings)

-- a byte of no other command is an inquiry, or does nothing
harmless : (b : ℕ) → NoOther b → asks (meaning_of b) ≡ true
harmless b (inl (q, e)) = ap asks e
harmless b (inr e) = ap asks e

-- one step of the asking: the settings stay, and the place between commands
keeps : (s : State) (t : Turn) → Between s.command →
    ((b : ℕ) → Memᴰ b (byte_taken t.input (step s t.input t.lent).answer) → NoOther b) →
    ((step s t.input t.lent).state.settings ≡ s.settings) × Between (step s t.input t.lent).state.command
keeps s t between only =
    let k = quiet (core s) (byte_taken t.input (step s t.input t.lent).answer) between (λ b m. harmless b (only b m)) in
    let e = step_core s t.input t.lent in
    (ap (λ (c : Core). c.settings) e ∙ k.0, ap (λ (c : Core). c.command.code) e ∙ k.1)

-- the step that takes an inquiry, as one of a sequence
now : (s : State) (t : Turn) (q : Inquiry) → Between s.command → monitors s.settings.stick ≡ false →
    t.input ≡ Byte (code_of q) → (step s t.input t.lent).answer ≡ 0 →
    last_8 (step s t.input t.lent).written ≡ bytes_of (reply q s.settings)
now s t q between out i =
    subst (λ (x : Input). (step s x t.lent).answer ≡ 0 → last_8 (step s x t.lent).written ≡ bytes_of (reply q s.settings)) (sym i)
    (replied s q t.lent between out)

-- in the whole asking the settings stay as they were, so each reply tells those before it
asked : (s : State) (ts : List Turn) (q : Inquiry) → Between s.command → monitors s.settings.stick ≡ false →
    ((b : ℕ) → Memᴰ b (taken (seen_in s ts)) → NoOther b) →
    (d : Seen) → Memᴰ d (seen_in s ts) → d.input ≡ Byte (code_of q) → d.answer ≡ 0 →
    last_8 d.written ≡ bytes_of (reply q s.settings)
unfolding history taken
asked s [] q between out only d m i a = absurd (Memᴰ.not-nil m)
asked s (t ∷ ts) q between out only d m i a =
    go (λ b' o' n' m'. asked (step s t.input t.lent).state ts q b' o' n' d m' i a) (Memᴰ.cases_cons m)
  where
    s' : State
    s' = (step s t.input t.lent).state

    go : (Between s'.command → monitors s'.settings.stick ≡ false → ((b : ℕ) → Memᴰ b (taken (seen_in s' ts)) → NoOther b) →
        Memᴰ d (seen_in s' ts) → last_8 d.written ≡ bytes_of (reply q s'.settings)) →
        (d ≡ seen (done s t)) ⊎ Memᴰ d (seen_in s' ts) → last_8 d.written ≡ bytes_of (reply q s.settings)
    go ih (inl e) =
        ap (λ (x : Seen). last_8 x.written) e
        ∙ now s t q between out (sym (ap (λ (x : Seen). x.input) e) ∙ i) (sym (ap (λ (x : Seen). x.answer) e) ∙ a)
    go ih (inr m') =
        let k = keeps s t between (λ b h. only b (Memᴰ.append_left (taken (seen_in s' ts)) h)) in
        ih k.1 (ap (λ (σ : Settings). monitors σ.stick) k.0 ∙ out)
        (λ b h. only b (Memᴰ.append_right (byte_taken t.input (step s t.input t.lent).answer) h)) m'
        ∙ ap (λ (σ : Settings). bytes_of (reply q σ)) k.0

-- what is kept in an asking are the bytes that put back the settings before it
pub kept_is : (s : State) (ts : List Turn) (kept : Inquiry → List ℕ) → Asking s (seen_in s ts) kept → (q : Inquiry) → kept q ≡ kept_bytes q s.settings
kept_is s ts kept A q =
    let k = A.replies q in
    k.copied
    ∙ ap (drop 1) (asked s ts q A.between A.outside A.no_other k.of_step k.among k.asks k.is_taken)

-- asking changes no setting: port 0's role "at the time of asking" is one role
pub asking_keeps : (s : State) (ts : List Turn) (kept : Inquiry → List ℕ) → Asking s (seen_in s ts) kept → (after s ts).settings ≡ s.settings
asking_keeps s ts kept A =
    ap (λ (c : Core). c.settings) (run_core s ts)
    ∙ (quiet (core s) (taken (seen_in s ts)) A.between (λ b m. harmless b (A.no_other b m))).0
