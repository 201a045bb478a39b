-- What the code finds of rules.
use Rattle.std.specs.Prelude.{◌≡◌, ℕ, List, [], ◌∷◌, true, Option, Some, None, Result, Ok, Err, is_some, map, option_map, Contains}
use Rattle.std.specs.Global.{Vec}
use Rattle.isle_core.specs.declared.position.Pos.{Pos}
use Rattle.isle_core.specs.declared.rules.Rule.{Rule as CodeRule}
use Rattle.isle_core.specs.RuleViews.{rule as elaborated_rule}
use Rattle.isle_terms.specs.declared.flaw.Breach.{Breach}
use Rattle.isle_declarations.specs.Signatures.{RuleDef, rule_defs}
use Rattle.isle_types.specs.declared.row.Row.{Row}
use Rattle.isle_types.specs.declared.row.Row.TheVariants.{ManyNodes}
use Rattle.isle_types.specs.Fault.{or_later}
use Rattle.isle_terms.specs.Whole.{Whole, termed}
use Rattle.isle_sema.specs.declared.fault.Fault.{Fault}
use Rattle.isle_sema.specs.RulePass.{rule_pass, rules_pass}
use Rattle.isle_sema.specs.Taken.{row_of}

-- what is found of a rule that breaks no row before that of its nodes, by its elaborated rule
abbrev pub found_rule : Option CodeRule → Result CodeRule Breach
found_rule None = Err (record { row = ManyNodes; culprit = None })
found_rule (Some rule) = Ok rule

-- a rule that breaks no row, with its elaborated rule
pub record IsRuleMade (w : Whole) (i : ℕ) (r : RuleDef) (rule : CodeRule) : Type 0 where
  pub sound : row_of w r ≡ None
  pub made : rule_pass w i r ≡ Some (elaborated_rule rule)

-- so, or the row that it breaks
abbrev pub IsRuleFound : Whole → ℕ → RuleDef → Result CodeRule Breach → Type 0
IsRuleFound w i r (Ok rule) = IsRuleMade w i r rule
IsRuleFound w i r (Err breach) = row_of w r ≡ Some breach.row

-- the first of rules that breaks a row, with the row and its place
abbrev pub rules_fault : Whole → List RuleDef → Option (Row × Pos)
rules_fault w [] = None
rules_fault w (r ∷ rs) = or_later (option_map (λ (row : Row). (row, r.pos)) (row_of w r)) (rules_fault w rs)

-- rules that break no row, with their elaborated rules
pub record AreRulesMade (w : Whole) (rs : List RuleDef) (rules : List CodeRule) : Type 0 where
  pub sound : rules_fault w rs ≡ None
  pub made : rules_pass w 0 rs ≡ Some (map elaborated_rule rules)

-- so, or the first that breaks one
abbrev pub AreRulesFound : Whole → List RuleDef → Result (Vec CodeRule) Fault → Type 0
AreRulesFound w rs (Ok rules) = AreRulesMade w rs rules.items
AreRulesFound w rs (Err fault) = rules_fault w rs ≡ Some (fault.row, fault.pos)

-- the term of each rule is there
abbrev pub AreHeadsDeclared : Whole → Type 0
AreHeadsDeclared w = (r : RuleDef) → Contains (rule_defs w.defs) r → is_some (termed w r.term) ≡ true
