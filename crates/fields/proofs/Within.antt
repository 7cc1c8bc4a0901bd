-- The numbers of a state all fit.
-- Assumes nothing.
use Prim.Native.Nat.{ℕ, ◌+◌, ◌-◌, ◌%◌, ◌^◌, ◌≤◌, ◌<◌}
use native.Mathlib.Omega.{arith}
use native.Mathlib.Nat.{min-eq_left}
use mathlib.Core.Path.{◌≡◌, refl}
use mathlib.Core.Bool.{Bool, true, false}
use lib.Dec.{leb}
use lib.ListN.{get_or}
use borrow.Author.Tests.{le-leb}
use Rattle.output.specs.Packets.{bit}
use Rattle.motion.specs.declared.Motion.{Motion}
use Rattle.motion.specs.Motion.{OneSided, size}
use Rattle.protocol.specs.declared.StickMode.{StickMode}
use Rattle.protocol.specs.declared.StickMode.TheVariants.{Event, Interrogation, Monitoring, Fire, StickKeycode}
use Rattle.protocol.specs.declared.Role.{Role}
use Rattle.protocol.specs.declared.Role.TheVariants.{ForMouse, ForJoystick}
use Rattle.mouse.specs.declared.Latches.{Latches}
use Rattle.mouse.specs.Mouse as Mouse
use Rattle.mouse.specs.Reports.{latch_byte}
use Rattle.sticks.specs.declared.Stick.{Stick}
use Rattle.sticks.specs.Sticks.{byte, most_samples}
use Rattle.controller.specs.declared.State.{State}
use Rattle.controller.specs.State.{IsState}
use Rattle.fields.specs.Ranges.{low, high, gap_free, loading, most_bits, third, pending, ranges, all_fit}
use Rattle.fields.specs.Numbers.{role_number, held_number, settings_numbers, pointer_numbers, sticks_numbers, clock_numbers, command_numbers, numbers}
use Rattle.fields.proofs.Facts.{Fits, AllFits, gathered}
use Rattle.fields.proofs.Modes.{mouse_fits, stick_fits, maximum_x, maximum_y, ticks_same, samples_same, held_same}
use Rattle.fields.proofs.Commands.{code_fits, code_most, come_fits, params_fit, load_fits}

flag_fits : (b : Bool) → bit b ≤ 1
flag_fits true = omega arith
flag_fits false = omega arith

role_fits : (r : Role) → role_number r ≤ 1
role_fits ForMouse = omega arith
role_fits ForJoystick = omega arith

latches_fit : (l : Latches) → latch_byte l ≤ 15
latches_fit l = let a = flag_fits l.rightdown in let b = flag_fits l.rightup in let c = flag_fits l.leftdown in let d = flag_fits l.leftup in omega (arith, a, b, c, d)

held_fits : (m : Motion) (n : ℕ) → OneSided m → size m ≤ n → (2032 - n ≤ held_number m) × (held_number m ≤ 2032 + n)
held_fits m n one h = omega (arith, one)

stick_most : (k : Stick) → k.position ≤ 15 → byte k ≤ 143
stick_most k h = let t = flag_fits k.trigger in omega arith

stick_free : (k : Stick) → k.position ≤ 15 → leb (byte k % 128) 15 ≡ true
stick_free k h = let t = flag_fits k.trigger in le-leb (byte k % 128) 15 (omega arith)

pub samples_few : (k : StickMode) → most_samples k ≤ 7
samples_few Event = omega arith
samples_few Interrogation = omega arith
samples_few (Monitoring rate) = omega arith
samples_few Fire = omega arith
samples_few (StickKeycode x y) = omega arith

bits_fit : (n b : ℕ) → n ≤ 7 → b < 2 ^ n → b ≤ most_bits n
unfolding most_bits
bits_fit n b h l = rw (min-eq_left h) (omega arith)

module _ (s : State) (i : IsState s) where
  all : AllFits 55 0 (numbers s)
  unfolding numbers settings_numbers pointer_numbers sticks_numbers clock_numbers command_numbers ranges gap_free third pending loading
  all =
      let a = numbers s in
      let up : (k : ℕ) → low k a ≡ 0 → gap_free k (get_or a k 0) ≡ true → get_or a k 0 ≤ high k a → Fits k a (get_or a k 0) =
      (λ k z g h. record { from_low = omega (arith, z); to_high = h; free = g })
      in
      let σ = s.settings in
      let r = i.ranges in
      let m = mouse_fits σ.mouse r.settings.mouse in
      let k = stick_fits σ.stick r.settings.stick in
      let held_x = rw (← (held_same s)) at (held_fits s.mouse.held.x (Mouse.held_most s.paused σ) i.spelling.mouse.x r.mouse.held_x) in
      let held_y = rw (← (held_same s)) at (held_fits s.mouse.held.y (Mouse.held_most s.paused σ) i.spelling.mouse.y r.mouse.held_y) in
      let few : s.sticks.samples ≤ 7 = omega (arith, r.sticks.samples, samples_few σ.stick) in
      let t = r.clock in
      let c = s.command in
      let ci = r.command in
      let co = i.spelling.command in (
        up 0 refl refl m.tag,
        (
          up 1 refl refl m.max_x,
          (
            up 2 refl refl m.max_y,
            (
              up 3 refl refl m.delta_x,
              (
                up 4 refl refl m.delta_y,
                (
                  up 5 refl refl r.settings.action,
                  (
                    up 6 refl refl r.settings.threshold.x,
                    (
                      up 7 refl refl r.settings.threshold.y,
                      (
                        up 8 refl refl r.settings.scale.x,
                        (
                          up 9 refl refl r.settings.scale.y,
                          (
                            up 10 refl refl (flag_fits σ.bottom),
                            (
                              up 11 refl refl (flag_fits σ.mouseon),
                              (
                                up 12 refl refl k.tag,
                                (
                                  up 13 refl refl k.rate,
                                  (
                                    up 14 refl refl k.rx,
                                    (
                                      up 15 refl refl k.ry,
                                      (
                                        up 16 refl refl k.tx,
                                        (
                                          up 17 refl refl k.ty,
                                          (
                                            up 18 refl refl k.vx,
                                            (
                                              up 19 refl refl k.vy,
                                              (
                                                up 20 refl refl (flag_fits σ.stickson),
                                                (
                                                  up 21 refl refl (role_fits σ.port0),
                                                  (
                                                    up 22 refl refl (flag_fits s.paused),
                                                    (
                                                      up 23 refl refl (rw (maximum_x σ.mouse) r.mouse.x),
                                                      (
                                                        up 24 refl refl (rw (maximum_y σ.mouse) r.mouse.y),
                                                        (
                                                          record { from_low = held_x.0; to_high = held_x.1; free = refl },
                                                          (
                                                            record { from_low = held_y.0; to_high = held_y.1; free = refl },
                                                            (
                                                              up 27 refl refl (flag_fits s.mouse.left),
                                                              (
                                                                up 28 refl refl (flag_fits s.mouse.right),
                                                                (
                                                                  up 29 refl refl (latches_fit s.mouse.latches),
                                                                  (
                                                                    up 30 refl (stick_free s.sticks.zero r.sticks.zero) (stick_most s.sticks.zero r.sticks.zero),
                                                                    (
                                                                      up 31 refl (stick_free s.sticks.one r.sticks.one) (stick_most s.sticks.one r.sticks.one),
                                                                      (
                                                                        up 32 refl refl r.sticks.x.age,
                                                                        (
                                                                          up 33 refl refl r.sticks.x.wait,
                                                                          (
                                                                            up 34 refl refl r.sticks.y.age,
                                                                            (
                                                                              up 35 refl refl r.sticks.y.wait,
                                                                              (
                                                                                up 36 refl refl (rw (ticks_same σ.stick) r.sticks.ticks),
                                                                                (
                                                                                  up 37 refl refl (rw (samples_same σ.stick) r.sticks.samples),
                                                                                  (
                                                                                    up 38 refl refl (bits_fit s.sticks.samples s.sticks.bits few i.spelling.sticks),
                                                                                    (
                                                                                      up 39 refl refl t.year,
                                                                                      (
                                                                                        record { from_low = t.month_first; to_high = t.month_last; free = refl },
                                                                                        (
                                                                                          record { from_low = t.day_first; to_high = t.day_last; free = refl },
                                                                                          (
                                                                                            up 42 refl refl t.hour,
                                                                                            (
                                                                                              up 43 refl refl t.minute,
                                                                                              (
                                                                                                up 44 refl refl t.second,
                                                                                                (
                                                                                                  up 45 refl refl t.hundredth,
                                                                                                  (
                                                                                                    up 46 refl (code_fits c ci co) (code_most c ci co),
                                                                                                    (
                                                                                                      up 47 refl refl (come_fits c ci co),
                                                                                                      (
                                                                                                        up 48 refl refl (params_fit c ci co 0),
                                                                                                        (
                                                                                                          up 49 refl refl (params_fit c ci co 1),
                                                                                                          (
                                                                                                            record { from_low = (load_fits c ci co).1; to_high = params_fit c ci co 2; free = refl },
                                                                                                            (
                                                                                                              up 51 refl refl (params_fit c ci co 3),
                                                                                                              (
                                                                                                                up 52 refl refl (params_fit c ci co 4),
                                                                                                                (
                                                                                                                  up 53 refl refl (params_fit c ci co 5),
                                                                                                                  (record { from_low = (load_fits c ci co).0; to_high = ci.told; free = refl }, tt),
                                                                                                                ),
                                                                                                              ),
                                                                                                            ),
                                                                                                          ),
                                                                                                        ),
                                                                                                      ),
                                                                                                    ),
                                                                                                  ),
                                                                                                ),
                                                                                              ),
                                                                                            ),
                                                                                          ),
                                                                                        ),
                                                                                      ),
                                                                                    ),
                                                                                  ),
                                                                                ),
                                                                              ),
                                                                            ),
                                                                          ),
                                                                        ),
                                                                      ),
                                                                    ),
                                                                  ),
                                                                ),
                                                              ),
                                                            ),
                                                          ),
                                                        ),
                                                      ),
                                                    ),
                                                  ),
                                                ),
                                              ),
                                            ),
                                          ),
                                        ),
                                      ),
                                    ),
                                  ),
                                ),
                              ),
                            ),
                          ),
                        ),
                      ),
                    ),
                  ),
                ),
              ),
            ),
          ),
        ),
      )

  pub within : all_fit (numbers s) ≡ true
  within = gathered 55 0 (numbers s) all
