use Rattle.std.proofs.Common.{◌≡◌, take, Some}
use Rattle.isle_core.specs.Inputs.{bytes_each}
use Rattle.isle_command_line.specs.Reading.{read}
use Rattle.isle_command_line.specs.Known.{Begin}
use Rattle.isle_command_line.specs.Views.{seen_state}
use Rattle.isle_command_line.proofs.line.known.Given as goal

abbrev pub invariant-loop-index : goal.invariant-loop-index
invariant-loop-index l = read Begin (bytes_each (take l.index l.words)) ≡ Some (seen_state l.state)
