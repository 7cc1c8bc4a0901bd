use Rattle.controller.proofs.Hosts.{within_limit}
use Rattle.fields.specs.Numbers.{settings_numbers, pointer_numbers, sticks_numbers, clock_numbers, command_numbers, numbers}
use Rattle.fields.proofs.list.numbers.Goals as goal

pub pointer_numbers-b-requires : goal.pointer_numbers-b-requires
pointer_numbers-b-requires c = within_limit c.args.s c.requires

pub returns : goal.returns
unfolding numbers settings_numbers pointer_numbers sticks_numbers clock_numbers command_numbers
returns c = simp (c.command_numbers-e.ensures, c.clock_numbers-d.ensures, c.sticks_numbers-c.ensures, c.pointer_numbers-b.ensures, c.settings_numbers-a.ensures)
