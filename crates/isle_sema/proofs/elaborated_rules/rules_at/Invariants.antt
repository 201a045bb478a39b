use Rattle.std.proofs.Common.{map}
use Rattle.std.specs.Prelude.{drop}
use Rattle.isle_ast.specs.Views.{defs as seen_defs}
use Rattle.isle_declarations.specs.Collected.{rule as seen}
use Rattle.isle_declarations.specs.Signatures.{rule_defs}
use Rattle.isle_terms.specs.Whole.{whole}
use Rattle.isle_sema.proofs.RuleSteps.{AreLeft}
use Rattle.isle_sema.proofs.elaborated_rules.rules_at.Given as goal

abbrev pub invariant-loop-number : goal.invariant-loop-number
invariant-loop-number l = AreLeft (whole l.known) (rule_defs (seen_defs l.known)) l.number (map seen (drop l.number l.given)) l.rules.items
