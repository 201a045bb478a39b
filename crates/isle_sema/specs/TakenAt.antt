-- What the code gives of templates and of rules.
use Rattle.std.specs.Prelude.{◌≡◌, true, List, map, Some, None, Result, Ok, Err}
use Rattle.std.specs.Global.{Vec}
use Rattle.isle_core.specs.declared.rules.Rule.{Rule as CodeRule}
use Rattle.isle_core.specs.Rule.{Rule as CoreRule}
use Rattle.isle_core.specs.RuleViews.{rule as elaborated_rule}
use Rattle.isle_declarations.specs.Signatures.{rule_defs}
use Rattle.isle_sema.specs.declared.fault.Fault.{Fault}
use Rattle.isle_sema.specs.Fault.{later_fault}
use Rattle.isle_sema.specs.RulePass.{rules_pass}
use Rattle.isle_sema.specs.Templates.{are_treed}
use Rattle.isle_terms.specs.Whole.{Whole}

-- no extractor and no rule breaks a row, each template has a tree, and these are the rules
pub record HaveRules (w : Whole) (rules : List CoreRule) : Type 0 where
  pub sound : later_fault w ≡ None
  pub treed : are_treed w ≡ true
  pub made : rules_pass w 0 (rule_defs w.defs) ≡ Some rules

-- the fault of extractors and rules, or what they give
abbrev pub AreRulesAt : Whole → Result (Vec CodeRule) Fault → Type 0
AreRulesAt w (Err fault) = later_fault w ≡ Some (fault.row, fault.pos)
AreRulesAt w (Ok rules) = HaveRules w (map elaborated_rule rules.items)
