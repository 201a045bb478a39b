-- A rule whose parts have the types of its term.
use Rattle.std.specs.Prelude.{◌≡◌, Some, slice_get}
use Rattle.isle_core.specs.declared.types.Term.{Term}
use Rattle.isle_core.specs.Calling.{kind_of, may_be_nothing}
use Rattle.isle_core.specs.ExprType.{in_right_side, IsExprOf, AreIfLetsOf}
use Rattle.isle_core.specs.PatternType.{FitsTerm}
use Rattle.isle_core.specs.Rule.{Rule, Environment}
use Rattle.isle_core.specs.TypedVariables.{all_typed, rule_typed, HaveOneType}

-- the rule's patterns, conditions and right side have the types of this term, and each of its variables has one type
pub record IsRuleOf (env : Environment) (t : Term) (r : Rule) : Type 0 where
  pub args : FitsTerm env t r
  pub variables : HaveOneType (rule_typed r)
  pub iflets : AreIfLetsOf env (all_typed r.args) r.iflets
  pub rhs : IsExprOf env (in_right_side (may_be_nothing (kind_of t.kind))) (rule_typed r) t.ret_ty r.rhs

-- the rule's term is there, and the rule is one of its
pub record IsTypedRule (env : Environment) (r : Rule) : Type 0 where
  pub term : Term
  pub root : slice_get env.terms r.root_term.0 ≡ Some term
  pub typed : IsRuleOf env term r
