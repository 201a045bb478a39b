use Rattle.std.proofs.Common.{◌≡◌, ◌++◌, drop, map}
use Rattle.isle_core.specs.RuleViews.{pattern as elaborated}
use Rattle.isle_templates.specs.PutIn.{with_rest}
use Rattle.isle_templates.proofs.filling.with_rest.Given as goal

abbrev pub invariant-loop-place : goal.invariant-loop-place
invariant-loop-place l = map elaborated l.all.items ++ map elaborated (drop l.place l.args) ≡ with_rest (map elaborated l.fn.parts.items) (map elaborated l.args)
