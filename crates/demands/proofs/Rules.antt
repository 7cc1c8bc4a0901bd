-- All the rules of the controller under one name: a proof that opens `rules` computes what inputs lead to.
-- Assumes nothing.
use Rattle.output.specs.Packets.{pairs}
use Rattle.output.specs.Writing.{over}
use Rattle.motion.specs.Motion.{reaches, quotient, remainder, part, byte, packets_needed, coordinate_after}
use Rattle.clock.specs.Clock.{month_length, next_year, next_month, next_day, next_hour, next_minute, next_second, tick}
use Rattle.clock.specs.Setting.{field, set_to, report}
use Rattle.protocol.specs.Codes.{table, find, line}
use Rattle.protocol.specs.Reading.{begin, take_parameter, take_data, feed, command_after}
use Rattle.protocol.specs.Commands.{mouse_executed, stick_executed, executed, mouse_sets, stick_sets, other_sets, sets, settings_then, settings_after}
use Rattle.protocol.specs.Replies.{reply}
use Rattle.mouse.specs.Mouse.{live, gathers, held_most}
use Rattle.mouse.specs.Sending.{split_from, arrows, packets_sent}
use Rattle.mouse.specs.Reports.{send_all}
use Rattle.mouse.specs.Reports as reports
use Rattle.mouse.specs.Moves.{incoming, added_to_held, either_reaches, send_deltas, coordinates_moved, motion_due, released, live_motion, moves, overflows}
use Rattle.mouse.specs.Buttons.{live_button, presses, gives_fire}
use Rattle.mouse.specs.Commands.{commanded}
use Rattle.sticks.specs.Sticks.{horizontal, vertical}
use Rattle.sticks.specs.Events.{heard, stick_reported, trigger_keys, axis_turned, axis_moved, stick_keyed, stick_moved_in}
use Rattle.sticks.specs.Events as events
use Rattle.sticks.specs.Ticks.{both, monitored, interval, repeated, axis_aged, axes_aged, ticked_in, ticked, sampled_in, sampled}
use Rattle.sticks.specs.Ticks as ticks
use Rattle.sticks.specs.Commands.{monitoring_left, mouse_commanded}
use Rattle.sticks.specs.Commands as commands
use Rattle.keys.specs.Words.{has_bit, put}
use Rattle.keys.specs.Keys.{has_key, struck, those, keys_of, break_packets}
use Rattle.controller.specs.State.{queue_of}
use Rattle.controller.specs.Host.{mouse_effect, stick_effect, other_effect, effect, acted, reset_due, executes, host_due, command_executed}
use Rattle.controller.specs.Events.{happened, key_packets, button, event, map_after, event_due}
use Rattle.controller.specs.Step.{due, in_range, out_of_range, queue_full, too_far, motion_full, buffer_short, verdict, told, step}
use Rattle.controller.specs.Sequences.{after, history, all_written}

-- by what they are about
of_output : Unit {0}
unfolding pairs over
of_output = tt

of_motion : Unit {0}
unfolding reaches quotient remainder part byte packets_needed coordinate_after
of_motion = tt

of_clock : Unit {0}
unfolding month_length next_year next_month next_day next_hour next_minute next_second tick field set_to report
of_clock = tt

of_reading : Unit {0}
unfolding table find line begin take_parameter take_data feed command_after
of_reading = tt

of_settings : Unit {0}
unfolding mouse_executed stick_executed executed mouse_sets stick_sets other_sets sets settings_then settings_after reply
of_settings = tt

of_mouse : Unit {0}
unfolding live gathers held_most split_from arrows packets_sent send_all reports.report live_button presses gives_fire commanded
of_mouse = tt

of_moves : Unit {0}
unfolding incoming added_to_held either_reaches send_deltas coordinates_moved motion_due released live_motion moves overflows
of_moves = tt

of_sticks : Unit {0}
unfolding horizontal vertical heard stick_reported trigger_keys axis_turned axis_moved stick_keyed stick_moved_in events.stick_moved
of_sticks = tt

of_ticks : Unit {0}
unfolding both monitored interval repeated axis_aged axes_aged ticked_in ticked ticks.sample_taken sampled_in sampled
of_ticks = tt

of_commands : Unit {0}
unfolding monitoring_left mouse_commanded commands.commanded mouse_effect stick_effect other_effect effect acted reset_due executes host_due command_executed
of_commands = tt

of_steps : Unit {0}
unfolding queue_of happened key_packets button event map_after event_due due in_range out_of_range queue_full too_far motion_full buffer_short verdict told step
of_steps = tt

of_sequences : Unit {0}
unfolding after history all_written
of_sequences = tt

unfoldable pub rules : Unit {0}
unfolding of_output of_motion of_clock of_reading of_settings of_mouse of_moves of_sticks of_ticks of_commands of_steps of_sequences
rules = tt

-- The map of the keys, opened beside `rules` where the map is known: one that is not would be gone through key by key.
unfoldable pub of_keys : Unit {0}
unfolding has_bit put has_key struck those keys_of break_packets
of_keys = tt
