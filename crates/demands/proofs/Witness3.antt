-- Demand 3 is not empty: for each role of port 0 there are an asking and a sending back, computed, of settings that are not power-up's.
-- One asking begins paused, with bytes queued and motion held, and has inputs in it that are refused.
-- Assumes nothing.
use Prim.Native.Nat.{ℕ, zero, suc, ◌<◌}
use native.Mathlib.Omega.{arith}
use mathlib.Core.Path.{◌≡◌, refl, sym, ◌∙◌, subst}
use mathlib.Core.Logic.{◌⊎◌, inl, inr}
use mathlib.Core.Bool.{Bool, true, false, ◌&&◌, true≢false}
use mathlib.Core.List.Memᴰ
use mathlib.Core.List.{List, [], ◌∷◌, ◌++◌, map, Memᴰ}
use lib.Dec.{ltb}
use lib.ListN.{length, get_or, take, drop}
use lib.IntN.{pos, negsuc}
use borrow.Author.Tests.{ltb-true}
use Rattle.output.specs.Writing.{over}
use Rattle.protocol.specs.declared.Settings.{Settings}
use Rattle.protocol.specs.declared.MouseMode.TheVariants.{Absolute, Keycode}
use Rattle.protocol.specs.declared.StickMode.TheVariants.{Interrogation, Fire, StickKeycode}
use Rattle.protocol.specs.declared.Role.TheVariants.{ForMouse, ForJoystick}
use Rattle.protocol.specs.declared.Inquiry.{Inquiry}
use Rattle.protocol.specs.declared.Inquiry.TheVariants.{AskAction, AskMouse, AskThreshold, AskScale, AskOrigin, AskMouseOff, AskStick, AskSticksOff}
use Rattle.protocol.specs.declared.Meaning.{Meaning}
use Rattle.protocol.specs.declared.Meaning.TheVariants.{Nothing, Memory, Pause, Reset, OfMouse, OfStick, OfOther, Inquire}
use Rattle.protocol.specs.Codes.{meaning_of}
use Rattle.protocol.specs.Replies.{code_of, kept_bytes, in_order}
use Rattle.protocol.proofs.PutBack.{asks}
use Rattle.clock.specs.Clock.{first_day}
use Rattle.motion.specs.declared.Motion.{Motion}
use Rattle.motion.specs.declared.Axes.{Axes}
use Rattle.motion.specs.Motion.{at_rest}
use Rattle.mouse.specs.Mouse.{with_held}
use Rattle.protocol.specs.Reading.{no_command}
use Rattle.protocol.specs.Commands.{with_stick, without_mouse, with_role}
use Rattle.protocol.specs.Settings as settings
use Rattle.keys.specs.Keys.{no_keys}
use Rattle.controller.specs.declared.State.{State}
use Rattle.controller.specs.declared.Input.{Input}
use Rattle.controller.specs.declared.Input.TheVariants.{Byte, Key, Move, Joystick, Tick}
use Rattle.output.specs.declared.Run.{Run}
use Rattle.controller.specs.State.{power_up, empty_queue, IsState, queue_room}
use Rattle.controller.specs.Sequences.{Turn, after}
use Rattle.demands.specs.Demand3.{Seen, seen_in, taken, NoOther, last_8, Kept, Asking, SendingBack}
use Rattle.demands.proofs.PutBack.{put_back}
use Rattle.demands.proofs.Rules.{rules, of_keys}
use Rattle.mouse.specs.Mouse as mouse
use Rattle.sticks.specs.Sticks as sticks

-- an input, with a buffer of this length
abbrev given : Input → ℕ → Turn
given i n = record { input = i; lent = n }

-- host bytes, each with room for a reply
abbrev host : List ℕ → List Turn
host bs = map (λ (b : ℕ). given (Byte b) 8) bs

abbrev ask : Inquiry → ℕ → Turn
ask q n = given (Byte (code_of q)) n

-- the answers of a sequence
abbrev answers : List Seen → List ℕ
answers h = map (λ (d : Seen). d.answer) h

-- bytes that pass the test are of no other command
passes : (m : Meaning) → asks m ≡ true → ((q : Inquiry) × (m ≡ Inquire q)) ⊎ (m ≡ Nothing)
passes Nothing h = inr refl
passes Memory h = absurd (true≢false (sym h))
passes Pause h = absurd (true≢false (sym h))
passes Reset h = absurd (true≢false (sym h))
passes (OfMouse m) h = absurd (true≢false (sym h))
passes (OfStick k) h = absurd (true≢false (sym h))
passes (OfOther o) h = absurd (true≢false (sym h))
passes (Inquire q) h = inl (q, refl)

all_pass : List ℕ → Bool
all_pass [] = true
all_pass (b ∷ bs) = asks (meaning_of b) && all_pass bs

none_other : (bs : List ℕ) → all_pass bs ≡ true → (b : ℕ) → Memᴰ b bs → NoOther b
unfolding all_pass
none_other [] h b m = absurd (Memᴰ.not-nil m)
none_other (x ∷ xs) h b m = go (asks (meaning_of x)) refl h (Memᴰ.cases_cons m) (λ e. none_other xs e b)
  where
    go : (t : Bool) → asks (meaning_of x) ≡ t → (t && all_pass xs) ≡ true → (b ≡ x) ⊎ Memᴰ b xs →
        (all_pass xs ≡ true → Memᴰ b xs → NoOther b) → NoOther b
    go true e h (inl p) ih = subst NoOther (sym p) (passes (meaning_of x) e)
    go true e h (inr n) ih = ih h n
    go false e h p ih = absurd (true≢false (sym h))

-- the step at a place of a sequence
abbrev at : List Seen → ℕ → Seen
at h n = get_or h n (record { input = Tick; answer = 9; written = [] })

at_mem : (h : List Seen) (n : ℕ) → n < length h → Memᴰ (at h n) h
at_mem [] n l = absurd (omega arith)
at_mem (x ∷ xs) zero l = Memᴰ.head refl
at_mem (x ∷ xs) (suc n) l = Memᴰ.tail (at_mem xs n (omega arith))

kept_at : {h : List Seen} {q : Inquiry} {kept : List ℕ} (n : ℕ) → ltb n (length h) ≡ true →
    (at h n).input ≡ Byte (code_of q) → (at h n).answer ≡ 0 → kept ≡ drop 1 (last_8 (at h n).written) → Kept h q kept
kept_at {h} n e i a k = record { of_step = at h n; among = at_mem h n (ltb-true n (length h) e); asks = i; is_taken = a; copied = k }

-- the queue in which these bytes wait
abbrev waits : List ℕ → Run queue_room
waits bs = record { bytes = over bs (empty_queue {n = queue_room}).bytes; len = length bs }

-- the state with these settings, pause, queue and held motion, and everything else as at power-up
abbrev pub state_of : Settings → Bool → Run queue_room → Axes Motion → State
state_of σ paused queue held = record {
  settings = σ;
  command = no_command;
  paused = paused;
  queue = queue;
  mouse = with_held held mouse.at_power_up;
  sticks = sticks.at_power_up;
  clock = first_day;
  keys = no_keys;
}

-- Port 0 a mouse: joystick keycode mode and joysticks off, thresholds, scales, origin bottom, action 3, mouse keycode mode.
abbrev pub mouse_settings : Settings
mouse_settings = record {
  mouse = Keycode (record { x = 4; y = 2 });
  action = 3;
  threshold = record { x = 5; y = 6 };
  scale = record { x = 7; y = 8 };
  bottom = true;
  mouseon = true;
  stick = StickKeycode (record { breakpoint = 1; before = 3; after = 5 }) (record { breakpoint = 2; before = 4; after = 6 });
  stickson = false;
  port0 = ForMouse;
}

-- paused, with a key's make and break in the queue, and motion held
unfoldable pub mouse_start : State
mouse_start =
    state_of mouse_settings true (waits (0x1E ∷ 0x9E ∷ []))
    (record { x = record { plus = 9; minus = 0 }; y = record { plus = 0; minus = 5 } })

mouse_start_is : IsState mouse_start
unfolding mouse_start rules taken
mouse_start_is = record {
  ranges = record { settings = omega arith; command = omega arith; queue = omega arith; mouse = omega arith; sticks = omega arith; clock = omega arith; keys = omega arith };
  spelling = record { command = refl; queue = refl; mouse = omega arith; sticks = omega arith };
}

-- it is reached from power-up
mouse_start_reached : after power_up (
    host (0x19 ∷ 1 ∷ 2 ∷ 3 ∷ 4 ∷ 5 ∷ 6 ∷ 0x1A ∷ 0x0B ∷ 5 ∷ 6 ∷ 0x0C ∷ 7 ∷ 8 ∷ 0x0F ∷ 0x07 ∷ 3 ∷ 0x0A ∷ 4 ∷ 2 ∷ 0x13 ∷ [])
    ++ (given (Key 0x1E true) 0 ∷ given (Key 0x1E false) 0 ∷ given (Move (pos 9) (negsuc 4)) 0 ∷ [])
    ) ≡ mouse_start
unfolding mouse_start rules of_keys taken
mouse_start_reached = refl

-- By the first inquiry 18 bytes are due: two queued, four key pairs of the motion, and the reply. Refused for want of room are a byte of another
-- command, that inquiry, motion, and the last inquiry; a key out of range is refused; a code that does nothing and another inquiry are taken.
unfoldable pub mouse_asking : List Turn
mouse_asking =
    given (Byte 0x08) 1 ∷ ask AskAction 17 ∷ ask AskAction 18 ∷ ask AskMouse 8 ∷ given (Key 0x1E true) 1 ∷ given (Byte 0xFF) 0
    ∷ ask AskThreshold 8 ∷ given (Key 0x73 true) 8 ∷ ask AskScale 8 ∷ given (Byte 0x89) 8 ∷ ask AskOrigin 8 ∷ given (Move (pos 9) (pos 0)) 3
    ∷ ask AskMouseOff 8 ∷ given Tick 0 ∷ ask AskStick 9 ∷ ask AskSticksOff 7 ∷ ask AskSticksOff 8 ∷ []

mouse_answers : answers (seen_in mouse_start mouse_asking) ≡ 4 ∷ 4 ∷ 0 ∷ 0 ∷ 0 ∷ 0 ∷ 0 ∷ 1 ∷ 0 ∷ 0 ∷ 0 ∷ 4 ∷ 0 ∷ 0 ∷ 0 ∷ 4 ∷ 0 ∷ []
unfolding mouse_start mouse_asking rules taken
mouse_answers = refl

mouse_replies : (q : Inquiry) → Kept (seen_in mouse_start mouse_asking) q (kept_bytes q mouse_settings)
unfolding mouse_start mouse_asking rules taken
mouse_replies AskAction = kept_at 2 refl refl refl refl
mouse_replies AskMouse = kept_at 3 refl refl refl refl
mouse_replies AskThreshold = kept_at 6 refl refl refl refl
mouse_replies AskScale = kept_at 8 refl refl refl refl
mouse_replies AskOrigin = kept_at 10 refl refl refl refl
mouse_replies AskMouseOff = kept_at 12 refl refl refl refl
mouse_replies AskStick = kept_at 14 refl refl refl refl
mouse_replies AskSticksOff = kept_at 16 refl refl refl refl

-- the eight are asked, port 0 a mouse
pub mouse_asked : Asking mouse_start (seen_in mouse_start mouse_asking) (λ q. kept_bytes q mouse_settings)
unfolding mouse_start mouse_asking rules taken all_pass
mouse_asked = record { outside = refl; between = refl; no_other = none_other (taken (seen_in mouse_start mouse_asking)) refl; replies = mouse_replies }

-- another state: mouse off, interrogation mode, paused with a byte in the queue
unfoldable pub mouse_later : State
mouse_later = state_of (with_role ForJoystick (with_stick Interrogation (without_mouse settings.power_up))) true (waits (0x1E ∷ [])) at_rest

mouse_later_is : IsState mouse_later
unfolding mouse_later rules taken
mouse_later_is = record {
  ranges = record { settings = omega arith; command = omega arith; queue = omega arith; mouse = omega arith; sticks = omega arith; clock = omega arith; keys = omega arith };
  spelling = record { command = refl; queue = refl; mouse = omega arith; sticks = omega arith };
}

-- what was kept, in the order for port 0 a mouse
abbrev mouse_first : List ℕ
mouse_first = 0x19 ∷ 1 ∷ 2 ∷ 3 ∷ 4 ∷ 5 ∷ []

abbrev mouse_rest : List ℕ
mouse_rest =
    6 ∷ 0x1A ∷ 0 ∷ 0 ∷ 0 ∷ 0 ∷ 0 ∷ 0 ∷ 0x07 ∷ 3 ∷ 0 ∷ 0 ∷ 0 ∷ 0 ∷ 0 ∷ 0x0A ∷ 4 ∷ 2 ∷ 0 ∷ 0 ∷ 0 ∷ 0
    ∷ 0x0B ∷ 5 ∷ 6 ∷ 0 ∷ 0 ∷ 0 ∷ 0 ∷ 0x0C ∷ 7 ∷ 8 ∷ 0 ∷ 0 ∷ 0 ∷ 0 ∷ 0x0F ∷ 0 ∷ 0 ∷ 0 ∷ 0 ∷ 0 ∷ 0 ∷ 0 ∷ 0 ∷ 0 ∷ 0 ∷ 0 ∷ 0 ∷ 0 ∷ []

mouse_order : in_order mouse_start.settings.port0 (λ q. kept_bytes q mouse_settings) ≡ mouse_first ++ mouse_rest
unfolding mouse_start rules taken
mouse_order = refl

-- the kept bytes, with a key out of range among them, and before the seventh another byte in its place, refused for want of room
unfoldable pub mouse_sending : List Turn
mouse_sending = host mouse_first ++ (given (Byte 9) 0 ∷ given (Key 0x73 true) 0 ∷ host mouse_rest)

mouse_taken : taken (seen_in mouse_later mouse_sending) ≡ mouse_first ++ mouse_rest
unfolding mouse_later mouse_sending rules taken
mouse_taken = refl

-- they are sent back, exactly
pub mouse_sent : SendingBack mouse_later (seen_in mouse_later mouse_sending) (in_order mouse_start.settings.port0 (λ q. kept_bytes q mouse_settings))
unfolding mouse_later rules taken
mouse_sent = record { between = refl; exactly = mouse_taken ∙ sym mouse_order }

-- two of those inputs are refused
mouse_sent_answers : take 9 (answers (seen_in mouse_later mouse_sending)) ≡ 0 ∷ 0 ∷ 0 ∷ 0 ∷ 0 ∷ 0 ∷ 4 ∷ 1 ∷ 0 ∷ []
unfolding mouse_later mouse_sending rules taken
mouse_sent_answers = refl

-- so the demand speaks of them: the settings are again those asked for
pub mouse_restored : (after mouse_later mouse_sending).settings ≡ mouse_start.settings
mouse_restored =
    put_back mouse_start mouse_asking (λ q. kept_bytes q mouse_settings) mouse_later mouse_sending mouse_start_is mouse_later_is mouse_asked mouse_sent

-- Port 0 a joystick: absolute mode with a maximum, mouse off, thresholds, scales, origin bottom, action 4, joystick keycode mode.
abbrev pub joystick_settings : Settings
joystick_settings = record {
  mouse = Absolute (record { x = 319; y = 199 });
  action = 4;
  threshold = record { x = 5; y = 6 };
  scale = record { x = 7; y = 8 };
  bottom = true;
  mouseon = false;
  stick = StickKeycode (record { breakpoint = 1; before = 3; after = 5 }) (record { breakpoint = 2; before = 4; after = 6 });
  stickson = true;
  port0 = ForJoystick;
}

unfoldable pub joystick_start : State
joystick_start = state_of joystick_settings false empty_queue at_rest

joystick_start_is : IsState joystick_start
unfolding joystick_start rules taken
joystick_start_is = record {
  ranges = record { settings = omega arith; command = omega arith; queue = omega arith; mouse = omega arith; sticks = omega arith; clock = omega arith; keys = omega arith };
  spelling = record { command = refl; queue = refl; mouse = omega arith; sticks = omega arith };
}

-- it is reached from power-up
joystick_start_reached : after power_up (host (
    0x0B ∷ 5 ∷ 6 ∷ 0x0C ∷ 7 ∷ 8 ∷ 0x0F ∷ 0x07 ∷ 4 ∷ 0x09 ∷ 0x01 ∷ 0x3F ∷ 0x00 ∷ 0xC7 ∷ 0x12 ∷ 0x19 ∷ 1 ∷ 2 ∷ 3 ∷ 4 ∷ 5 ∷ 6 ∷ []
    )) ≡ joystick_start
unfolding joystick_start rules taken
joystick_start_reached = refl

-- one of the eight is asked twice, and stick and trigger events come between
unfoldable pub joystick_asking : List Turn
joystick_asking =
    ask AskSticksOff 8 ∷ ask AskStick 8 ∷ given (Joystick (pos 0) (pos 1) (pos 1)) 8 ∷ ask AskStick 8 ∷ ask AskMouseOff 8 ∷ ask AskOrigin 8
    ∷ given (Joystick (pos 0) (pos 16) (pos 1)) 8 ∷ ask AskScale 8 ∷ ask AskThreshold 8 ∷ ask AskMouse 8 ∷ ask AskAction 8 ∷ []

joystick_replies : (q : Inquiry) → Kept (seen_in joystick_start joystick_asking) q (kept_bytes q joystick_settings)
unfolding joystick_start joystick_asking rules taken
joystick_replies AskAction = kept_at 10 refl refl refl refl
joystick_replies AskMouse = kept_at 9 refl refl refl refl
joystick_replies AskThreshold = kept_at 8 refl refl refl refl
joystick_replies AskScale = kept_at 7 refl refl refl refl
joystick_replies AskOrigin = kept_at 5 refl refl refl refl
joystick_replies AskMouseOff = kept_at 4 refl refl refl refl
joystick_replies AskStick = kept_at 3 refl refl refl refl
joystick_replies AskSticksOff = kept_at 0 refl refl refl refl

-- the eight are asked, port 0 a joystick
pub joystick_asked : Asking joystick_start (seen_in joystick_start joystick_asking) (λ q. kept_bytes q joystick_settings)
unfolding joystick_start joystick_asking rules taken all_pass
joystick_asked = record { outside = refl; between = refl; no_other = none_other (taken (seen_in joystick_start joystick_asking)) refl; replies = joystick_replies }

-- another state: fire monitoring
unfoldable pub joystick_later : State
joystick_later = state_of (with_role ForJoystick (with_stick Fire settings.power_up)) false empty_queue at_rest

joystick_later_is : IsState joystick_later
unfolding joystick_later rules taken
joystick_later_is = record {
  ranges = record { settings = omega arith; command = omega arith; queue = omega arith; mouse = omega arith; sticks = omega arith; clock = omega arith; keys = omega arith };
  spelling = record { command = refl; queue = refl; mouse = omega arith; sticks = omega arith };
}

-- what was kept, in the order for port 0 a joystick
abbrev joystick_kept : List ℕ
joystick_kept =
    0x07 ∷ 4 ∷ 0 ∷ 0 ∷ 0 ∷ 0 ∷ 0 ∷ 0x09 ∷ 0x01 ∷ 0x3F ∷ 0x00 ∷ 0xC7 ∷ 0 ∷ 0 ∷ 0x0B ∷ 5 ∷ 6 ∷ 0 ∷ 0 ∷ 0 ∷ 0
    ∷ 0x0C ∷ 7 ∷ 8 ∷ 0 ∷ 0 ∷ 0 ∷ 0 ∷ 0x0F ∷ 0 ∷ 0 ∷ 0 ∷ 0 ∷ 0 ∷ 0 ∷ 0x12 ∷ 0 ∷ 0 ∷ 0 ∷ 0 ∷ 0 ∷ 0
    ∷ 0x19 ∷ 1 ∷ 2 ∷ 3 ∷ 4 ∷ 5 ∷ 6 ∷ 0 ∷ 0 ∷ 0 ∷ 0 ∷ 0 ∷ 0 ∷ 0 ∷ []

joystick_order : in_order joystick_start.settings.port0 (λ q. kept_bytes q joystick_settings) ≡ joystick_kept
unfolding joystick_start rules taken
joystick_order = refl

unfoldable pub joystick_sending : List Turn
joystick_sending = given Tick 0 ∷ host joystick_kept

joystick_taken : taken (seen_in joystick_later joystick_sending) ≡ joystick_kept
unfolding joystick_later joystick_sending rules taken
joystick_taken = refl

-- they are sent back, exactly
pub joystick_sent : SendingBack joystick_later (seen_in joystick_later joystick_sending) (in_order joystick_start.settings.port0 (λ q. kept_bytes q joystick_settings))
unfolding joystick_later rules taken
joystick_sent = record { between = refl; exactly = joystick_taken ∙ sym joystick_order }

-- so the demand speaks of them: the settings are again those asked for
pub joystick_restored : (after joystick_later joystick_sending).settings ≡ joystick_start.settings
joystick_restored =
    put_back joystick_start joystick_asking (λ q. kept_bytes q joystick_settings) joystick_later joystick_sending joystick_start_is joystick_later_is
    joystick_asked joystick_sent
