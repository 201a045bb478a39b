use Rattle.std.proofs.Common.{take}
use Rattle.isle_checks.specs.Classes.{Relabels}
use Rattle.isle_checks.proofs.classes.relabel.Given as goal

abbrev pub invariant-loop-binding : goal.invariant-loop-binding
invariant-loop-binding l = Relabels l.fn.representatives l.representatives (take l.binding-index l.bindings) l.to
