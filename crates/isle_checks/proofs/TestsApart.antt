-- The constraints that a set of typed rules puts on one path exclude each other under a lawful meaning.
use Rattle.std.proofs.Common.{List, sym, ◌∙◌, subst, map}
use Rattle.std.specs.Prelude.{All}
use Rattle.std.proofs.lemmas.List.Elements.{All-contains, Contains-append_left}
use Rattle.isle_core.specs.declared.TermId.{TermId}
use Rattle.isle_core.specs.declared.TypeId.{TypeId}
use Rattle.isle_core.specs.declared.rule_sets.Constraint.{Constraint}
use Rattle.isle_core.specs.declared.rule_sets.RuleSet.{RuleSet}
use Rattle.isle_core.specs.ApartTests.{IsPut, AreTestsApart}
use Rattle.isle_core.specs.Lawful.{IsLawful}
use Rattle.isle_core.specs.Meaning.{Meaning}
use Rattle.isle_core.specs.NamesApart.{AreConstantsPlain}
use Rattle.isle_core.specs.OccurringConstants.{rules_constants}
use Rattle.isle_core.specs.Path.{Path, paths_of}
use Rattle.isle_core.specs.PatternType.{AreVariantsApart}
use Rattle.isle_core.specs.Rule.{Environment, Rule, rules_of}
use Rattle.isle_core.specs.RuleSet.{is_test, equal_test}
use Rattle.isle_core.specs.Served.{IsTested}
use Rattle.isle_core.specs.StandsFor.{StandsFor}
use Rattle.isle_core.specs.Tests.{Is}
use Rattle.isle_core.specs.TypedVariables.{rule_typed, HaveOneType}
use Rattle.isle_core.specs.Value.{Value}
use Rattle.isle_core.specs.ValueAt.{value_at}
use Rattle.isle_core.proofs.FlatRules.{flat_rule}
use Rattle.isle_checks.proofs.ConditionTypes.{rule_tests_typed}
use Rattle.isle_checks.proofs.MetOnce.{one_constraint}
use Rattle.isle_checks.proofs.OneHighest.{some_type, constants_among}
use Rattle.isle_checks.proofs.TestedTypes.{IsOn, IsTyped}

module _ (env : Environment) (id : TermId) (tys : List TypeId) (s : RuleSet) (stands : StandsFor env s (rules_of env id)) (fit : All (IsTested env tys) (rules_of env id)) (once : All (λ (r : Rule). HaveOneType (rule_typed r)) (rules_of env id)) (plain : AreConstantsPlain env) where
  -- what a rule of the set puts on a path is a constraint on values of the path's type
  put_typed : (p : Path) (c : Constraint) → IsPut s p c → IsTyped env plain (rules_constants (rules_of env id)) tys p c
  put_typed p c h =
      let ps = paths_of s.bindings in
      let rules = rules_of env id in
      let of = flat_rule env ps rules s.rules 0 h.rule stands.flat h.there in
      rule_tests_typed env plain (rules_constants rules) tys of.rule p c
      (All-contains (IsTested env tys) rules of.rule fit of.there)
      (All-contains (λ (r : Rule). HaveOneType (rule_typed r)) rules of.rule once of.there)
      (λ x k. constants_among rules of.rule x of.there k)
      (of.tests (Is p c) (Contains-append_left (map (is_test ps) h.rule.constraints) (map (equal_test ps) h.rule.equals) (Is p c) h.put))

  pub tests_apart : AreVariantsApart env → (m : Meaning) (args : List Value) → IsLawful env id m → AreTestsApart env m args s
  tests_apart variants m args lawful known p c d x y met also =
      let known_constants = rules_constants (rules_of env id) in
      let a = put_typed p c x in
      let b = put_typed p d y in
      let of_type = some_type b.ty a.ty (sym b.is ∙ a.is) in
      one_constraint env m known_constants variants lawful.apart a.ty (value_at env m args known p) c d a.on (subst (λ ty. IsOn env known_constants ty d) of_type b.on) met also
