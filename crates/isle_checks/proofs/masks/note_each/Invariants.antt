use Rattle.std.proofs.Common.{take}
use Rattle.isle_checks.specs.Firsts.{Finds}
use Rattle.isle_checks.specs.declared.placed.Check.TheVariants as check
use Rattle.isle_checks.proofs.masks.note_each.Given as goal

abbrev pub invariant-loop-other : goal.invariant-loop-other
invariant-loop-other l = Finds check.Shadows l.group (take l.other-index l.group) l.fn.found.items l.found.items
