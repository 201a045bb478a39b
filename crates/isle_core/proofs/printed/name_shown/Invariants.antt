use Rattle.std.proofs.Common.{◌≡◌, drop}
use Rattle.isle_core.specs.Printed.{shown}
use Rattle.isle_core.proofs.printed.name_shown.Given as goal

abbrev pub invariant-loop-p : goal.invariant-loop-p
invariant-loop-p l = shown (drop l.p-index l.prefixes) l.name ≡ shown l.prefixes l.name
