use Rattle.std.proofs.Common.{◌≡◌, map, take}
use Rattle.isle_core.specs.RuleViews.{pattern}
use Rattle.isle_templates.specs.Renumbered.{renamed}
use Rattle.isle_templates.proofs.renaming.+patterns.Given as goal

abbrev pub invariant-all_renamed-loop-p : goal.invariant-all_renamed-loop-p
invariant-all_renamed-loop-p l = map pattern l.found.items ≡ map (renamed l.order) (map pattern (take l.p-index l.parts))
