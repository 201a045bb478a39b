use Rattle.std.proofs.Common.{◌≡◌, drop, length}
use Rattle.isle_checks.specs.Lists.{listing}
use Rattle.isle_checks.proofs.MaskLaws.{FindsBut}
use Rattle.isle_checks.proofs.masks.note_each_under.Given as goal

abbrev pub invariant-loop-x : goal.invariant-loop-x
invariant-loop-x l = FindsBut (listing l.lists) l.constraints (drop l.x-index l.constraints) l.other l.fn.found.items l.found.items × (length l.found.items ≡ length l.fn.found.items)
