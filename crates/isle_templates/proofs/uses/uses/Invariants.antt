use Rattle.std.proofs.Common.{◌≡◌, map, take}
use Rattle.isle_templates.specs.Uses.{used_by}
use Rattle.isle_templates.specs.Written.{written_of}
use Rattle.isle_templates.proofs.uses.uses.Given as goal

abbrev pub invariant-loop-template : goal.invariant-loop-template
invariant-loop-template l = l.graph.items ≡ map (used_by (written_of l.written)) (written_of (take l.template-index l.written))
