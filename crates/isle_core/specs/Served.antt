-- Rules that are checked, and how a meaning serves them.
use Rattle.std.specs.Prelude.{List, Contains, IsSomeAnd}
use Rattle.std.specs.List.{AllByRecursion}
use Rattle.isle_base.specs.declared.ids.Sym.{Sym}
use Rattle.isle_base.specs.declared.ids.TypeId.{TypeId}
use Rattle.isle_core.specs.declared.rule_sets.RuleSet.{RuleSet}
use Rattle.isle_core.specs.ApartTests.{AreTestsApart}
use Rattle.isle_core.specs.BuiltRule.{IsBuiltRule, CallsBuiltTerms}
use Rattle.isle_core.specs.CalledTerms.{CalledTerm, called}
use Rattle.isle_core.specs.ExprType.{AreIfLetsOf}
use Rattle.isle_core.specs.HasType.{HasType, HaveTypes}
use Rattle.isle_core.specs.Having.{const_of}
use Rattle.isle_core.specs.Lawful.{CalledTermFits}
use Rattle.isle_core.specs.Meaning.{Meaning}
use Rattle.isle_core.specs.OccurringConstants.{TypedConstant, Named, rules_constants}
use Rattle.isle_core.specs.PatternType.{AreVariantsApart, ArePatternsOf}
use Rattle.isle_core.specs.Rule.{Environment, Rule}
use Rattle.isle_core.specs.Scope.{IsScopedRule}
use Rattle.isle_core.specs.StandsFor.{StandsFor}
use Rattle.isle_core.specs.Terms.{sym_text}
use Rattle.isle_core.specs.TypedVariables.{all_typed}
use Rattle.isle_core.specs.Value.{Value}

-- ---- what the meaning has

-- the meaning answers these terms
abbrev pub AreServed : Environment → Meaning → List CalledTerm → Type 0
AreServed env m terms = (o : CalledTerm) → Contains terms o → CalledTermFits env m o

-- the meaning answers what is called, and each named constant has a value of its type
pub record IsSupplied (env : Environment) (m : Meaning) (terms : List CalledTerm) (constants : List TypedConstant) : Type 0 where
  pub answers : AreServed env m terms
  pub named : (ty : TypeId) (name : Sym) → Contains constants (ty, Named name) → IsSomeAnd (const_of m (sym_text env name)) (λ v. HasType env v ty)

-- ---- rules

-- the types of a rule's patterns and conditions, over arguments of these types
pub record IsTested (env : Environment) (tys : List TypeId) (r : Rule) : Type 0 where
  pub args : ArePatternsOf env tys r.args
  pub iflets : AreIfLetsOf env (all_typed r.args) r.iflets

-- what the rules of a term are like whose arguments have these types, and how the meaning serves them
pub record AreServedRules (env : Environment) (m : Meaning) (tys : List TypeId) (rules : List Rule) : Type 0 where
  pub built : AllByRecursion (IsBuiltRule env.terms) rules
  pub scoped : AllByRecursion IsScopedRule rules
  pub terms : AllByRecursion (CallsBuiltTerms env.terms) rules
  pub typed : AllByRecursion (IsTested env tys) rules
  pub served : IsSupplied env m (called env rules) (rules_constants rules)

-- the set stands for such rules, the arguments have these types, and constraints on one path exclude each other
pub record IsServedSet (env : Environment) (m : Meaning) (args : List Value) (tys : List TypeId) (s : RuleSet) (rules : List Rule) : Type 0 where
  pub stands : StandsFor env s rules
  pub met : AreServedRules env m tys rules
  pub variants : AreVariantsApart env
  pub types : HaveTypes env args tys
  pub apart : AreTestsApart env m args s
