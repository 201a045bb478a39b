use Rattle.std.proofs.Common.{◌≡◌, map, take}
use Rattle.isle_core.specs.RuleViews.{iflet}
use Rattle.isle_templates.specs.Renumbered.{condition_renamed}
use Rattle.isle_templates.proofs.renaming.iflets_renamed.Given as goal

abbrev pub invariant-loop-condition : goal.invariant-loop-condition
invariant-loop-condition l = map iflet l.found.items ≡ map (condition_renamed l.order) (map iflet (take l.condition-index l.iflets))
