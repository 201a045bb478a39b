use Rattle.std.proofs.Common.{◌≡◌, ◌++◌, map}
use Rattle.std.specs.Prelude.{drop}
use Rattle.isle_core.specs.RuleViews.{pattern, patterns_of}
use Rattle.isle_templates.specs.Uses.{all_used_in}
use Rattle.isle_templates.specs.Written.{written_of}
use Rattle.isle_templates.proofs.uses.+noting.Given as goal

abbrev pub invariant-note_each-loop-p : goal.invariant-note_each-loop-p
invariant-note_each-loop-p l = l.fn.found.items ++ all_used_in (written_of l.written) (patterns_of (map pattern l.parts)) ≡ l.found.items ++ all_used_in (written_of l.written) (patterns_of (map pattern (drop l.p-index l.parts)))
