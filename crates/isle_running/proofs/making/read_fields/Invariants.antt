use Rattle.std.proofs.Common.{◌≡◌, drop}
use Rattle.std.specs.Prelude.{option_map}
use Rattle.isle_tree.specs.Run.{read_fields}
use Rattle.isle_running.specs.RunViews.{locals, within}
use Rattle.isle_running.proofs.MadeFields.{fields_before}
use Rattle.isle_running.proofs.making.read_fields.Given as goal

abbrev pub invariant-loop-next : goal.invariant-loop-next
invariant-loop-next l =
    read_fields (within l.around l.frame) (locals l.frame.locals) l.reads ≡ option_map (fields_before l.read.items) (read_fields (within l.around l.frame) (locals l.frame.locals) (drop l.next-index l.reads))
