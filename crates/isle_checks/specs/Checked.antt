-- What a check of all rules gives, whatever the types of their environment.
use Rattle.std.specs.Prelude.{List}
use Rattle.isle_core.specs.declared.TermId.{TermId}
use Rattle.isle_core.specs.declared.errors.Error.{Error}
use Rattle.isle_core.specs.declared.rule_sets.RuleSet.{RuleSet}
use Rattle.isle_core.specs.declared.types.TermEnv.{TermEnv}
use Rattle.isle_core.specs.declared.types.TypeEnv.{TypeEnv}
use Rattle.isle_core.specs.RuleViews.{environment}
use Rattle.isle_rulesets.specs.Grouping.{AreRuleSets}
use Rattle.isle_checks.specs.CheckList.{IsCheckList}

-- the rule sets of terms with rules, in order
abbrev pub AreSetsOf : TermEnv → List (TermId × RuleSet) → Type 0
AreSetsOf termenv sets = (types : TypeEnv) → AreRuleSets (environment types termenv) sets

-- the errors of their rules
abbrev pub AreErrorsIn : TermEnv → List Error → Type 0
AreErrorsIn termenv errors = (types : TypeEnv) → IsCheckList (environment types termenv) errors
