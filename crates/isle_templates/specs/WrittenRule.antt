-- A rule as it is written, which may use templates, whose parts have the types of its term.
use Rattle.std.specs.Prelude.{ℕ, List, [], ◌∷◌, ◌++◌, Option}
use Rattle.isle_base.specs.declared.ids.TypeId.{TypeId}
use Rattle.isle_core.specs.declared.types.Term.{Term}
use Rattle.isle_core.specs.Calling.{kind_of, may_be_nothing}
use Rattle.isle_core.specs.ExprType.{in_condition, in_right_side, IsExprOf}
use Rattle.isle_core.specs.Pattern.{Pattern}
use Rattle.isle_core.specs.Rule.{Rule, IfLet, Environment}
use Rattle.isle_core.specs.TypedVariables.{typed_variables, all_typed, rule_typed, HaveOneType}
use Rattle.isle_templates.specs.WrittenType.{IsWrittenOf}

-- as many patterns as types, each for values of its type
abbrev pub AreWrittenPatternsOf : Environment → List (Option Pattern) → List TypeId → List Pattern → Type 0
AreWrittenPatternsOf env templates [] [] = Unit {0}
AreWrittenPatternsOf env templates (ty ∷ tys) (p ∷ ps) = IsWrittenOf env templates ty p × AreWrittenPatternsOf env templates tys ps
AreWrittenPatternsOf env templates [] (p ∷ ps) = ⊥
AreWrittenPatternsOf env templates (ty ∷ tys) [] = ⊥

-- a condition over these variables: its expression, whose calls are pure, and its pattern have one type
pub record IsWrittenIfLetOf (env : Environment) (templates : List (Option Pattern)) (vars : List (TypeId × ℕ)) (c : IfLet) : Type 0 where
  pub ty : TypeId
  pub rhs : IsExprOf env in_condition vars ty c.rhs
  pub lhs : IsWrittenOf env templates ty c.lhs

-- conditions in order, each over the variables of those before
abbrev pub AreWrittenIfLetsOf : Environment → List (Option Pattern) → List (TypeId × ℕ) → List IfLet → Type 0
AreWrittenIfLetsOf env templates vars [] = Unit {0}
AreWrittenIfLetsOf env templates vars (c ∷ cs) = IsWrittenIfLetOf env templates vars c × AreWrittenIfLetsOf env templates (vars ++ typed_variables c.lhs) cs

-- the rule's patterns, conditions and right side have the types of this term, and each of its variables has one type
pub record IsWrittenRuleOf (env : Environment) (templates : List (Option Pattern)) (t : Term) (r : Rule) : Type 0 where
  pub args : AreWrittenPatternsOf env templates t.arg_tys r.args
  pub variables : HaveOneType (rule_typed r)
  pub iflets : AreWrittenIfLetsOf env templates (all_typed r.args) r.iflets
  pub rhs : IsExprOf env (in_right_side (may_be_nothing (kind_of t.kind))) (rule_typed r) t.ret_ty r.rhs
