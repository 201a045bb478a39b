-- A rule with types in it: its patterns from left to right, its conditions and its right side.
use Rattle.std.specs.Prelude.{ℕ, ◌+◌, List, [], ◌∷◌, ◌++◌, Option, Some, None, option_map, option_and_then}
use Rattle.isle_core.specs.declared.TermId.{TermId}
use Rattle.isle_core.specs.Pattern.{Pattern as CorePattern}
use Rattle.isle_core.specs.Expr.{Expr as CoreExpr}
use Rattle.isle_core.specs.Rule.{Rule as CoreRule, IfLet as CoreIfLet}
use Rattle.isle_ast.specs.Tree.{IfLet}
use Rattle.isle_ast.specs.Views.{patterns_of as seen_patterns}
use Rattle.isle_declarations.specs.Symbols.{sym_of}
use Rattle.isle_declarations.specs.Signatures.{RuleDef, term_named}
use Rattle.isle_declarations.specs.Terms.{terms}
use Rattle.isle_terms.specs.Locals.{of_patterns}
use Rattle.isle_terms.specs.NewVariables.{new_count}
use Rattle.isle_terms.specs.Scope.{Scope, no_variables, behind}
use Rattle.isle_sema.specs.Site.{Site}
use Rattle.isle_sema.specs.Templates.{templates}
use Rattle.isle_templates.specs.Elaborated.{elaborated}
use Rattle.isle_terms.specs.Whole.{Whole, termed, arg_types, ret_type}
use Rattle.isle_sema.specs.PatternPass.{PatternPass, PatternsPass, pattern_pass, patterns_pass}
use Rattle.isle_terms.specs.TermPass.{tree_before}
use Rattle.isle_sema.specs.ExprPass.{ExprPass, expr_pass}
use Rattle.isle_sema.specs.ExprType.{own_type}

-- its patterns, at the types of its term's arguments
abbrev pub patterns_of : Whole → RuleDef → PatternsPass
patterns_of w r = patterns_pass w (arg_types w (termed w r.term)) no_variables (seen_patterns r.args)

-- ---- conditions

-- a condition's tree, if both its parts have one
abbrev pub iflet_tree : Option CorePattern → Option CoreExpr → Option CoreIfLet
iflet_tree lhs rhs = option_and_then (λ (p : CorePattern). option_map (λ (e : CoreExpr). record { lhs = p; rhs = e }) rhs) lhs

-- the expression of a condition, at no type, over the variables so far; its numbers stand after those of the variables that the pattern
-- binds, as the text has them
abbrev pub condition_expr : Whole → Scope → IfLet → ExprPass
condition_expr w scope c = expr_pass w (of_patterns scope) (scope.next + new_count scope c.lhs) None c.rhs

-- its pattern, at the type of the expression
abbrev pub condition_pattern : Whole → Scope → IfLet → PatternPass
condition_pattern w scope c = pattern_pass w (own_type w (of_patterns scope) c.rhs) scope c.lhs

-- a condition's tree, the variables after it, and its parts
pub record ConditionPass : Type 0 where
  pub tree : Option CoreIfLet
  pub scope : Scope
  pub sites : List Site

abbrev pub condition_pass : Whole → Scope → IfLet → ConditionPass
condition_pass w scope c = record {
  tree = iflet_tree (condition_pattern w scope c).tree (condition_expr w scope c).tree;
  scope = behind (condition_pattern w scope c).scope (condition_expr w scope c).next;
  sites = (condition_expr w scope c).sites ++ (condition_pattern w scope c).sites;
}

-- conditions in order
pub record ConditionsPass : Type 0 where
  pub trees : Option (List CoreIfLet)
  pub scope : Scope
  pub sites : List Site

-- a condition and the rest
abbrev pub condition_before : ConditionPass → ConditionsPass → ConditionsPass
condition_before first rest = record { trees = tree_before first.tree rest.trees; scope = rest.scope; sites = first.sites ++ rest.sites }

abbrev pub conditions_pass : Whole → Scope → List IfLet → ConditionsPass
conditions_pass w scope [] = record { trees = Some []; scope = scope; sites = [] }
conditions_pass w scope (c ∷ cs) = condition_before (condition_pass w scope c) (conditions_pass w (condition_pass w scope c).scope cs)

-- ---- a rule

-- its conditions, over the variables of its patterns
abbrev pub conditions_of : Whole → RuleDef → ConditionsPass
conditions_of w r = conditions_pass w (patterns_of w r).scope r.iflets

-- its right side, at the type that its term gives, over the variables of its patterns and conditions
abbrev pub right_side_of : Whole → RuleDef → ExprPass
right_side_of w r = expr_pass w (of_patterns (conditions_of w r).scope) (conditions_of w r).scope.next (ret_type w (termed w r.term)) r.rhs

-- what is judged in its patterns and its conditions
abbrev pub left_of : Whole → RuleDef → List Site
left_of w r = (patterns_of w r).sites ++ (conditions_of w r).sites

-- all that is judged in it
abbrev pub sites_of : Whole → RuleDef → List Site
sites_of w r = left_of w r ++ (right_side_of w r).sites

-- the rule of that number, of this term with these parts
abbrev pub rule_from : Whole → ℕ → RuleDef → TermId → List CorePattern → List CoreIfLet → CoreExpr → CoreRule
rule_from w i r term args iflets rhs = record { id = record { 0 = i }; root_term = term; args = args; iflets = iflets; rhs = rhs; prio = r.prio; pos = r.pos; name = option_map (sym_of w.types.syms) r.name }

-- the same if its parts may not be there
abbrev pub written_from : Whole → ℕ → RuleDef → TermId → Option (List CorePattern) → Option (List CoreIfLet) → Option CoreExpr → Option CoreRule
written_from w i r term args iflets rhs =
    option_and_then (λ (ps : List CorePattern). option_and_then (λ (cs : List CoreIfLet). option_map (rule_from w i r term ps cs) rhs) iflets) args

-- the rule of that number as it is written, if its types are known
abbrev pub written_pass : Whole → ℕ → RuleDef → Option CoreRule
written_pass w i r =
    option_and_then (λ (term : TermId). written_from w i r term (patterns_of w r).trees (conditions_of w r).trees (right_side_of w r).tree)
    (term_named (terms w.defs) r.term)

-- the rule of that number, with templates in place of the internal extractors that it uses
abbrev pub rule_pass : Whole → ℕ → RuleDef → Option CoreRule
rule_pass w i r = option_map (elaborated (templates w)) (written_pass w i r)

-- rules, from that number on
abbrev pub rules_pass : Whole → ℕ → List RuleDef → Option (List CoreRule)
rules_pass w i [] = Some []
rules_pass w i (r ∷ rs) = tree_before (rule_pass w i r) (rules_pass w (i + 1) rs)
