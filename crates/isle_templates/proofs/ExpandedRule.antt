-- A written rule whose templates are replaced is a rule of its term.
use Rattle.std.proofs.Common.{ℕ, List, [], ◌∷◌, ◌++◌, length, map, Option}
use Rattle.isle_base.specs.declared.ids.TypeId.{TypeId}
use Rattle.isle_core.specs.declared.types.Term.{Term}
use Rattle.isle_core.specs.Calling.{kind_of, may_be_nothing}
use Rattle.isle_core.specs.ExprType.{in_condition, in_right_side, AreIfLetsOf}
use Rattle.isle_core.specs.Pattern.{Pattern}
use Rattle.isle_core.specs.PatternType.{ArePatternsOf}
use Rattle.isle_core.specs.Rule.{Rule, IfLet, Environment}
use Rattle.isle_core.specs.TypedVariables.{typed_variables, all_typed, iflets_typed, rule_typed}
use Rattle.isle_templates.specs.Elaborated.{condition_expanded, rule_expanded}
use Rattle.isle_templates.specs.Substituted.{expanded, whole_templates}
use Rattle.isle_templates.specs.TypedRule.{IsRuleOf}
use Rattle.isle_templates.specs.WrittenRule.{AreWrittenPatternsOf, AreWrittenIfLetsOf, IsWrittenRuleOf}
use Rattle.isle_templates.specs.WrittenType.{IsWrittenOf, AreWrittenTemplates}
use Rattle.isle_templates.proofs.ExpandedVariables.{expanded_variables}
use Rattle.isle_templates.proofs.SameVariables.{SameVariables, same_append, same_none, one_type_over, expr_over}
use Rattle.isle_templates.proofs.WholeKeeps.{AreWithin, whole_keeps}
use Rattle.isle_templates.proofs.WholeTemplates.{written_at, templates_sound, whole_typed}

module _ (env : Environment) (written : List (Option Pattern)) (sound : AreWrittenTemplates env written) (within : AreWithin written (length written)) where
  abbrev whole : Pattern → Pattern
  whole = expanded (whole_templates written)

  abbrev whole_condition : IfLet → IfLet
  whole_condition = condition_expanded (whole_templates written)

  -- a pattern has the variables that it had
  pattern_same : (ty : TypeId) (p : Pattern) → IsWrittenOf env written ty p → SameVariables (typed_variables p) (typed_variables (whole p))
  pattern_same ty p h = record {
    there = λ v c. whole_keeps env written sound within v ty p h c;
    back = λ v c. expanded_variables env (whole_templates written) (templates_sound env written sound (length written)) v ty p (written_at env written sound (length written) ty p h) c;
  }

  patterns_same : (tys : List TypeId) (ps : List Pattern) → AreWrittenPatternsOf env written tys ps → SameVariables (all_typed ps) (all_typed (map whole ps))
  patterns_same [] [] h = same_none
  patterns_same (ty ∷ tys) (p ∷ ps) h = same_append (typed_variables p) (all_typed ps) (typed_variables (whole p)) (all_typed (map whole ps)) (pattern_same ty p h.0) (patterns_same tys ps h.1)
  patterns_same [] (p ∷ ps) h = absurd h
  patterns_same (ty ∷ tys) [] h = absurd h

  -- patterns have the types that they had
  patterns_typed : (tys : List TypeId) (ps : List Pattern) → AreWrittenPatternsOf env written tys ps → ArePatternsOf env tys (map whole ps)
  patterns_typed [] [] h = tt
  patterns_typed (ty ∷ tys) (p ∷ ps) h = (whole_typed env written sound ty p h.0, patterns_typed tys ps h.1)
  patterns_typed [] (p ∷ ps) h = absurd h
  patterns_typed (ty ∷ tys) [] h = absurd h

  -- the variables after one condition more
  condition_same : (vars others : List (TypeId × ℕ)) (ty : TypeId) (c : IfLet) → SameVariables vars others → IsWrittenOf env written ty c.lhs → SameVariables (vars ++ typed_variables c.lhs) (others ++ typed_variables (whole c.lhs))
  condition_same vars others ty c same h = same_append vars (typed_variables c.lhs) others (typed_variables (whole c.lhs)) same (pattern_same ty c.lhs h)

  -- the variables after all conditions
  conditions_same : (cs : List IfLet) (vars others : List (TypeId × ℕ)) → SameVariables vars others → AreWrittenIfLetsOf env written vars cs → SameVariables (iflets_typed vars cs) (iflets_typed others (map whole_condition cs))
  conditions_same [] vars others same h = same
  conditions_same (c ∷ cs) vars others same h = conditions_same cs (vars ++ typed_variables c.lhs) (others ++ typed_variables (whole c.lhs)) (condition_same vars others h.0.ty c same h.0.lhs) h.1

  -- conditions over the same variables
  conditions_typed : (cs : List IfLet) (vars others : List (TypeId × ℕ)) → SameVariables vars others → AreWrittenIfLetsOf env written vars cs → AreIfLetsOf env others (map whole_condition cs)
  conditions_typed [] vars others same h = tt
  conditions_typed (c ∷ cs) vars others same h = (
    record { ty = h.0.ty; rhs = expr_over env in_condition c.rhs vars others h.0.ty same h.0.rhs; lhs = whole_typed env written sound h.0.ty c.lhs h.0.lhs },
    conditions_typed cs (vars ++ typed_variables c.lhs) (others ++ typed_variables (whole c.lhs)) (condition_same vars others h.0.ty c same h.0.lhs) h.1,
  )

  pub rule_expanded_typed : (t : Term) (r : Rule) → IsWrittenRuleOf env written t r → IsRuleOf env t (rule_expanded (whole_templates written) r)
  rule_expanded_typed t r h =
      let others = all_typed (map whole r.args) in
      let first = patterns_same t.arg_tys r.args h.args in
      let same = conditions_same r.iflets (all_typed r.args) others first h.iflets in
      let typed = rule_typed (rule_expanded (whole_templates written) r) in
      record {
        args = patterns_typed t.arg_tys r.args h.args;
        variables = one_type_over (rule_typed r) typed same h.variables;
        iflets = conditions_typed r.iflets (all_typed r.args) others first h.iflets;
        rhs = expr_over env (in_right_side (may_be_nothing (kind_of t.kind))) r.rhs (rule_typed r) typed t.ret_ty same h.rhs;
      }
