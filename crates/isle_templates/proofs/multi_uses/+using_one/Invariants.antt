use Rattle.std.proofs.Common.{◌≡◌, map}
use Rattle.std.specs.Prelude.{drop}
use Rattle.isle_core.specs.RuleViews.{pattern, patterns_of}
use Rattle.isle_templates.specs.Multi.{marked, uses_any}
use Rattle.isle_templates.proofs.multi_uses.+using_one.Given as goal

abbrev pub invariant-uses_any-loop-p : goal.invariant-uses_any-loop-p
invariant-uses_any-loop-p l = uses_any (marked l.marks) (patterns_of (map pattern l.parts)) ≡ uses_any (marked l.marks) (patterns_of (map pattern (drop l.p-index l.parts)))
