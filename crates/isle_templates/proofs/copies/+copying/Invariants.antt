use Rattle.std.proofs.Common.{◌≡◌, map, take}
use Rattle.isle_core.specs.RuleViews.{pattern as elaborated}
use Rattle.isle_templates.proofs.copies.+copying.Given as goal

abbrev pub invariant-all_copied-loop-p : goal.invariant-all_copied-loop-p
invariant-all_copied-loop-p l = map elaborated l.found.items ≡ map elaborated (take l.p-index l.parts)
