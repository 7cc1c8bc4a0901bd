-- What the joysticks send, packet by packet: what holds of each packet that they can send, and of packets one after the other, holds of all that they send.
-- Assumes nothing.
use Prim.Native.Nat.{ℕ, ◌+◌}
use mathlib.Core.Path.{◌≡◌, refl}
use mathlib.Core.Bool.{Bool, true, false, cond, not, ◌&&◌, ◌||◌, true≢false}
use mathlib.Core.List.{List, [], ◌∷◌, ◌++◌}
use lib.Dec.{eqb, leb, ltb}
use Rattle.output.specs.ScanCodes.{arrow_right, arrow_left, arrow_up, arrow_down, key_left, key_right, break_of, is_make, is_break}
use Rattle.output.specs.Packets as packet
use Rattle.output.specs.Packets.{Packet, bit, pair}
use Rattle.output.proofs.Cases.{both_ways}
use Rattle.output.proofs.Framed.{sent_framed}
use Rattle.protocol.specs.declared.Repeat.{Repeat}
use Rattle.protocol.specs.declared.StickMode.{StickMode}
use Rattle.protocol.specs.declared.StickMode.TheVariants.{Event, Interrogation, Monitoring, Fire, StickKeycode}
use Rattle.protocol.specs.declared.Settings.{Settings}
use Rattle.protocol.specs.Settings.{acts_as, monitors}
use Rattle.protocol.specs.declared.StickCommand.{StickCommand}
use Rattle.protocol.specs.declared.StickCommand.TheVariants.{SetEvent, SetInterrogation, ReportSticks, SetMonitoring, SetFire, SetStickKeycode, SticksOff}
use Rattle.sticks.specs.declared.Stick.{Stick}
use Rattle.sticks.specs.declared.Count.{Count}
use Rattle.sticks.specs.declared.Sticks.{Sticks}
use Rattle.sticks.specs.Sticks.{SticksDue, CountDue, byte, closed, direction, horizontal, vertical, stick_at}
use Rattle.sticks.specs.Events.{heard, stick_reported, trigger_keys, axis_turned, axis_moved, stick_keyed, stick_moved_in, stick_moved}
use Rattle.sticks.specs.Ticks.{both, monitored, older, interval, repeated, axis_aged, axes_aged, ticked_in, ticked, sample_taken, sampled_in, sampled}
use Rattle.sticks.specs.Commands.{commanded}

-- What P has to say of each packet that the joysticks send in this mode: P n is about packets of at most n bytes. A use that counts no bytes leaves n aside.
pub record OfEach (mode : StickMode) (P : ℕ → List Packet → Type 0) : Type 0 where
  pub none : (n : ℕ) → P n []
  pub joined : (m n : ℕ) (ps qs : List Packet) → P m ps → P n qs → P (m + n) (ps ++ qs)
  pub scan : (code : ℕ) → (is_make code || is_break code) ≡ true → P 1 (packet.scan code ∷ [])
  pub stick : (one : Bool) (b : ℕ) → P 2 (packet.stick (bit one) b ∷ [])
  pub monitor : (triggers positions : ℕ) → monitors mode ≡ true → P 2 (packet.monitor triggers positions ∷ [])
  pub samples : (b : ℕ) → monitors mode ≡ true → P 1 (packet.samples b ∷ [])
  pub sticks : (b0 b1 : ℕ) → P 3 (packet.sticks b0 b1 ∷ [])

-- a direction other than none is the make of an arrow
abbrev Arrow : ℕ → Type 0
Arrow make = eqb make 0 ≡ false → is_make make ≡ true

arrow_of : (a b : Bool) (code_a code_b : ℕ) → is_make code_a ≡ true → is_make code_b ≡ true → Arrow (direction a code_a b code_b)
arrow_of true true code_a code_b ea eb e = absurd (true≢false e)
arrow_of true false code_a code_b ea eb e = ea
arrow_of false true code_a code_b ea eb e = eb
arrow_of false false code_a code_b ea eb e = absurd (true≢false e)

horizontal_arrow : (position : ℕ) → Arrow (horizontal position)
unfolding horizontal is_make
horizontal_arrow position = arrow_of (closed 4 position) (closed 8 position) arrow_left arrow_right refl refl

vertical_arrow : (position : ℕ) → Arrow (vertical position)
unfolding vertical is_make
vertical_arrow position = arrow_of (closed 1 position) (closed 2 position) arrow_up arrow_down refl refl

trigger_makes : (one : Bool) → is_make (cond one key_right key_left) ≡ true
unfolding is_make
trigger_makes true = refl
trigger_makes false = refl

module _ (P : ℕ → List Packet → Type 0) (σ : Settings) (of : OfEach σ.stick P) where
  abbrev OfAxis : ℕ → CountDue → Type 0
  OfAxis n d = P n d.packets

  abbrev OfSticks : ℕ → SticksDue → Type 0
  OfSticks n d = P n d.packets

  of_pair : (make : ℕ) → is_make make ≡ true → P 2 (pair make)
  of_pair make h = of.joined 1 1 _ _ (of.scan make (sent_framed make true h)) (of.scan (break_of make) (sent_framed make false h))

  of_reported : (on one : Bool) (old new : Stick) → P 2 (stick_reported on one old new)
  unfolding stick_reported
  of_reported on one old new = both_ways (P 2) (on && not (eqb (byte old) (byte new))) (λ e. of.stick one (byte new)) (λ e. of.none 2)

  of_trigger : (on one old new : Bool) → P 1 (trigger_keys on one old new)
  unfolding trigger_keys
  of_trigger on one old new = both_ways (P 1) (on && not (cond old new (not new))) (λ e. of.scan _ (sent_framed (cond one key_right key_left) new (trigger_makes one))) (λ e. of.none 1)

  of_turned : (old new : ℕ) (c : Count) → Arrow new → OfAxis 2 (axis_turned old new c)
  unfolding axis_turned
  of_turned old new c a =
      both_ways (OfAxis 2) (eqb old new) (λ e. of.none 2) (λ e. both_ways (P 2) (eqb new 0) (λ f. of.none 2) (λ f. of_pair new (a f)))

  of_axis_moved : (on one : Bool) (direction : ℕ → ℕ) (old new : Stick) (c : Count) → ((position : ℕ) → Arrow (direction position)) →
      OfAxis 2 (axis_moved on one direction old new c)
  unfolding axis_moved
  of_axis_moved on one direction old new c a = both_ways (OfAxis 2) (on && not one) (λ e. of_turned _ _ c (a new.position)) (λ e. of.none 2)

  -- both axes and a trigger, one after the other
  of_keys : (n : ℕ) (x y trigger : List Packet) → P 2 x → P 2 y → P n trigger → P (2 + (2 + n)) (x ++ (y ++ trigger))
  of_keys n x y trigger p q r = of.joined 2 (2 + n) _ _ p (of.joined 2 n _ _ q r)

  of_keyed : (on one : Bool) (new : Stick) (s : Sticks) → OfSticks 5 (stick_keyed on one new s)
  unfolding stick_keyed
  of_keyed on one new s =
      let old = stick_at one s in
      of_keys 1 _ _ _
      (of_axis_moved on one horizontal old new s.x horizontal_arrow)
      (of_axis_moved on one vertical old new s.y vertical_arrow)
      (of_trigger on one old.trigger new.trigger)

  of_moved_in : (mode : StickMode) (on one : Bool) (new : Stick) (s : Sticks) → OfSticks 5 (stick_moved_in mode on one new s)
  unfolding stick_moved_in
  of_moved_in Event on one new s = of.joined 3 2 [] _ (of.none 3) (of_reported on one (stick_at one s) new)
  of_moved_in Interrogation on one new s = of.none 5
  of_moved_in (Monitoring rate) on one new s = of.none 5
  of_moved_in Fire on one new s = of.none 5
  of_moved_in (StickKeycode x y) on one new s = of_keyed on one new s

  -- a stick event: at most two pairs and a key
  pub of_stick_moved : (one : Bool) (new : Stick) (s : Sticks) → P 5 (stick_moved σ one new s).packets
  unfolding stick_moved
  of_stick_moved one new s = of_moved_in σ.stick (heard σ one) one new s

  of_monitored : (rate : ℕ) (s : Sticks) → monitors σ.stick ≡ true → OfSticks 4 (monitored rate s)
  unfolding monitored both
  of_monitored rate s m =
      both_ways (OfSticks 4) (leb (acts_as rate) (s.ticks + 1)) (λ e. of.joined 2 2 [] _ (of.none 2) (of.monitor _ _ m)) (λ e. of.none 4)

  of_repeated : (k : Repeat) (arrow : ℕ) (c : Count) → is_make arrow ≡ true → OfAxis 2 (repeated k arrow c)
  unfolding repeated
  of_repeated k arrow c h =
      both_ways (OfAxis 2) (ltb 0 (interval k c.age) && leb (interval k c.age) c.wait) (λ e. of_pair arrow h) (λ e. of.none 2)

  of_aged : (k : Repeat) (arrow : ℕ) (c : Count) → Arrow arrow → OfAxis 2 (axis_aged k arrow c)
  unfolding axis_aged
  of_aged k arrow c a = both_ways (OfAxis 2) (eqb arrow 0) (λ e. of.none 2) (λ e. of_repeated k arrow (older c) (a e))

  of_axes_aged : (kx ky : Repeat) (s : Sticks) → OfSticks 4 (axes_aged kx ky s)
  unfolding axes_aged
  of_axes_aged kx ky s =
      of_keys 0 _ _ []
      (of_aged kx (horizontal s.zero.position) s.x (horizontal_arrow s.zero.position))
      (of_aged ky (vertical s.zero.position) s.y (vertical_arrow s.zero.position))
      (of.none 0)

  -- the mode that is set, by its cases
  of_ticked_in : (mode : StickMode) (s : Sticks) → (monitors mode ≡ true → monitors σ.stick ≡ true) → OfSticks 4 (ticked_in mode σ s)
  unfolding ticked_in
  of_ticked_in Event s m = of.none 4
  of_ticked_in Interrogation s m = of.none 4
  of_ticked_in (Monitoring rate) s m = of_monitored rate s (m refl)
  of_ticked_in Fire s m = of.none 4
  of_ticked_in (StickKeycode x y) s m = both_ways (OfSticks 4) (heard σ false) (λ e. of_axes_aged x y s) (λ e. of.none 4)

  -- a tick: at most two pairs
  pub of_ticked : (paused : Bool) (s : Sticks) → P 4 (ticked paused σ s).packets
  unfolding ticked
  of_ticked true s = of.none 4
  of_ticked false s = of_ticked_in σ.stick s (λ m. m)

  of_taken : (b : ℕ) (s : Sticks) → monitors σ.stick ≡ true → OfSticks 1 (sample_taken b s)
  unfolding sample_taken
  of_taken b s m = both_ways (OfSticks 1) (ltb s.samples 7) (λ e. of.none 1) (λ e. of.samples _ m)

  of_sampled_in : (mode : StickMode) (b : ℕ) (s : Sticks) → (monitors mode ≡ true → monitors σ.stick ≡ true) → OfSticks 1 (sampled_in mode b s)
  unfolding sampled_in
  of_sampled_in Event b s m = of.none 1
  of_sampled_in Interrogation b s m = of.none 1
  of_sampled_in (Monitoring rate) b s m = of.none 1
  of_sampled_in Fire b s m = of_taken b s (m refl)
  of_sampled_in (StickKeycode x y) b s m = of.none 1

  -- a fire sample: at most a byte
  pub of_sampled : (paused : Bool) (b : ℕ) (s : Sticks) → P 1 (sampled paused σ b s).packets
  unfolding sampled
  of_sampled true b s = of.none 1
  of_sampled false b s = of_sampled_in σ.stick b s (λ m. m)

-- a command: at most both sticks
pub of_commanded : (P : ℕ → List Packet → Type 0) (mode : StickMode) (of : OfEach mode P) (c : StickCommand) (s : Sticks) → P 3 (commanded c mode s).packets
unfolding commanded
of_commanded P mode of SetEvent s = of.none 3
of_commanded P mode of SetInterrogation s = of.none 3
of_commanded P mode of ReportSticks s = of.sticks _ _
of_commanded P mode of SetMonitoring s = of.none 3
of_commanded P mode of SetFire s = of.none 3
of_commanded P mode of SetStickKeycode s = of.none 3
of_commanded P mode of SticksOff s = of.none 3
