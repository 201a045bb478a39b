use Rattle.std.proofs.Common.{◌≡◌, drop}
use Rattle.isle_tree.specs.Run.{read_values}
use Rattle.isle_running.specs.RunViews.{locals, within}
use Rattle.isle_running.proofs.ReadValues.{values_before}
use Rattle.isle_running.proofs.reading.read_values.Given as goal

abbrev pub invariant-loop-next : goal.invariant-loop-next
invariant-loop-next l =
    read_values (within l.around l.frame) (locals l.frame.locals) l.reads ≡ values_before l.read.items (read_values (within l.around l.frame) (locals l.frame.locals) (drop l.next-index l.reads))
