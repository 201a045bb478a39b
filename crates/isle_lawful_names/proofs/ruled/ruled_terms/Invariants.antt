use Rattle.std.proofs.Common.{length, map, take}
use Rattle.isle_core.specs.RuleViews.{rule as seen}
use Rattle.isle_lawful_names.specs.Judges.{AreRuled}
use Rattle.isle_lawful_names.proofs.ruled.ruled_terms.Given as goal

abbrev pub invariant-loop-rule : goal.invariant-loop-rule
invariant-loop-rule l = AreRuled (length l.termenv.terms) (map seen (take l.rule-index l.termenv.rules)) l.table.items
