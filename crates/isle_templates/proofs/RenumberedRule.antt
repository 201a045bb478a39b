-- A rule of a term whose variables are numbered as they stand is a rule of the term.
use Rattle.std.proofs.Common.{◌≡◌, ⊎_elim, ℕ, List, [], ◌∷◌, ◌++◌, map, refl, sym, ap, ◌∙◌, subst}
use Rattle.std.specs.Prelude.{flat_map}
use Rattle.std.proofs.lemmas.List.{map-append}
use Rattle.std.proofs.lemmas.List.Elements.{Contains-append_left, Contains-append_right, Contains-append_cases}
use Rattle.isle_base.specs.declared.ids.TypeId.{TypeId}
use Rattle.isle_core.specs.declared.types.Term.{Term}
use Rattle.isle_core.specs.Calling.{kind_of, may_be_nothing}
use Rattle.isle_core.specs.ExprType.{in_condition, in_right_side, IsExprOf, AreIfLetsOf}
use Rattle.isle_core.specs.Pattern.{Pattern}
use Rattle.isle_core.specs.PatternType.{ArePatternsOf}
use Rattle.isle_core.specs.Rule.{Rule, IfLet, Environment}
use Rattle.isle_core.specs.TypedVariables.{typed_variables, all_typed, iflets_typed, rule_typed, HaveOneType}
use Rattle.isle_templates.specs.Renumbered.{pattern_variables, bound_in, condition_variables, rule_variables, renamed, expr_renamed, condition_renamed, order_of, rule_renamed, renumbered}
use Rattle.isle_templates.specs.TypedRule.{IsRuleOf}
use Rattle.isle_templates.proofs.NewNumbers.{one_type_renamed}
use Rattle.isle_templates.proofs.OrderHolds.{order_among, pattern_holds, all_hold}
use Rattle.isle_templates.proofs.RenamedBuilt.{new_variable, renamed_variables}
use Rattle.isle_templates.proofs.RenamedExprs.{AreKnown, AreAmong, expr_renamed_typed}
use Rattle.isle_templates.proofs.RenamedTypes.{renamed_typed}

module _ (order : List ℕ) where
  -- variables under their new numbers
  abbrev new_all : List (TypeId × ℕ) → List (TypeId × ℕ)
  new_all = map (new_variable order)

  among_first : (xs ys : List ℕ) → AreAmong order (xs ++ ys) → AreAmong order xs
  among_first xs ys among x c = among x (Contains-append_left xs ys x c)

  among_rest : (xs ys : List ℕ) → AreAmong order (xs ++ ys) → AreAmong order ys
  among_rest xs ys among x c = among x (Contains-append_right xs ys x c)

  -- the variables of patterns, and those after conditions
  patterns_renamed : (ps : List Pattern) → all_typed (map (renamed order) ps) ≡ new_all (all_typed ps)
  patterns_renamed [] = refl
  patterns_renamed (p ∷ ps) =
      ap (λ vs. vs ++ all_typed (map (renamed order) ps)) (renamed_variables order p)
      ∙ ap (λ vs. new_all (typed_variables p) ++ vs) (patterns_renamed ps)
      ∙ sym (map-append (new_variable order) (typed_variables p) (all_typed ps))

  behind_one : (vars : List (TypeId × ℕ)) (c : IfLet) → new_all vars ++ typed_variables (renamed order c.lhs) ≡ new_all (vars ++ typed_variables c.lhs)
  behind_one vars c = ap (λ vs. new_all vars ++ vs) (renamed_variables order c.lhs) ∙ sym (map-append (new_variable order) vars (typed_variables c.lhs))

  behind_all : (cs : List IfLet) (vars : List (TypeId × ℕ)) → iflets_typed (new_all vars) (map (condition_renamed order) cs) ≡ new_all (iflets_typed vars cs)
  behind_all [] vars = refl
  behind_all (c ∷ cs) vars = ap (λ vs. iflets_typed vs (map (condition_renamed order) cs)) (behind_one vars c) ∙ behind_all cs (vars ++ typed_variables c.lhs)

  rule_variables_renamed : (r : Rule) → rule_typed (rule_renamed order r) ≡ new_all (rule_typed r)
  rule_variables_renamed r = ap (λ vs. iflets_typed vs (map (condition_renamed order) r.iflets)) (patterns_renamed r.args) ∙ behind_all r.iflets (all_typed r.args)

  -- they have new numbers
  known_behind : (vars : List (TypeId × ℕ)) (c : IfLet) → AreKnown order vars → AreAmong order (condition_variables c) → AreKnown order (vars ++ typed_variables c.lhs)
  known_behind vars c known among v d = ⊎_elim (known v)
      (λ e. among v.1 (Contains-append_left (pattern_variables c.lhs) (bound_in c.rhs) v.1 (pattern_holds v c.lhs e)))
      (Contains-append_cases vars (typed_variables c.lhs) v d)

  known_behind_all : (cs : List IfLet) (vars : List (TypeId × ℕ)) → AreKnown order vars → AreAmong order (flat_map condition_variables cs) → AreKnown order (iflets_typed vars cs)
  known_behind_all [] vars known among = known
  known_behind_all (c ∷ cs) vars known among =
      let others = flat_map condition_variables cs in
      known_behind_all cs (vars ++ typed_variables c.lhs) (known_behind vars c known (among_first (condition_variables c) others among)) (among_rest (condition_variables c) others among)

  module _ (env : Environment) where
    patterns_typed : (tys : List TypeId) (ps : List Pattern) → ArePatternsOf env tys ps → ArePatternsOf env tys (map (renamed order) ps)
    patterns_typed [] [] h = tt
    patterns_typed (ty ∷ tys) (p ∷ ps) h = (renamed_typed env order ty p h.0, patterns_typed tys ps h.1)
    patterns_typed [] (p ∷ ps) h = absurd h
    patterns_typed (ty ∷ tys) [] h = absurd h

    conditions_typed : (cs : List IfLet) (vars : List (TypeId × ℕ)) → AreKnown order vars → AreAmong order (flat_map condition_variables cs) → AreIfLetsOf env vars cs → AreIfLetsOf env (new_all vars) (map (condition_renamed order) cs)
    conditions_typed [] vars known among h = tt
    conditions_typed (c ∷ cs) vars known among h =
        let others = flat_map condition_variables cs in
        let own = among_first (condition_variables c) others among in (
          record {
            ty = h.0.ty;
            rhs = expr_renamed_typed env in_condition order c.rhs vars h.0.ty h.0.rhs known (among_rest (pattern_variables c.lhs) (bound_in c.rhs) own);
            lhs = renamed_typed env order h.0.ty c.lhs h.0.lhs;
          },
          subst (λ vs. AreIfLetsOf env vs (map (condition_renamed order) cs)) (sym (behind_one vars c))
              (conditions_typed cs (vars ++ typed_variables c.lhs) (known_behind vars c known own) (among_rest (condition_variables c) others among) h.1),
        )

    rule_renamed_typed : (t : Term) (r : Rule) → AreAmong order (rule_variables r) → IsRuleOf env t r → IsRuleOf env t (rule_renamed order r)
    rule_renamed_typed t r among h =
        let first = flat_map pattern_variables r.args in
        let second = flat_map condition_variables r.iflets in
        let front = among_first (first ++ second) (bound_in r.rhs) among in
        let conditions = among_rest first second front in
        let known : AreKnown order (all_typed r.args) = λ v c. among_first first second front v.1 (all_hold v r.args c) in
        let all = known_behind_all r.iflets (all_typed r.args) known conditions in
        let allowed = in_right_side (may_be_nothing (kind_of t.kind)) in
        let same = sym (rule_variables_renamed r) in
        record {
          args = patterns_typed t.arg_tys r.args h.args;
          variables = subst HaveOneType same (one_type_renamed order (rule_typed r) all h.variables);
          iflets = subst (λ vs. AreIfLetsOf env vs (map (condition_renamed order) r.iflets)) (sym (patterns_renamed r.args)) (conditions_typed r.iflets (all_typed r.args) known conditions h.iflets);
          rhs = subst (λ vs. IsExprOf env allowed vs t.ret_ty (expr_renamed order r.rhs)) same (expr_renamed_typed env allowed order r.rhs (rule_typed r) t.ret_ty h.rhs all (among_rest (first ++ second) (bound_in r.rhs) among));
        }

pub renumbered_typed : (env : Environment) (t : Term) (r : Rule) → IsRuleOf env t r → IsRuleOf env t (renumbered r)
renumbered_typed env t r h = rule_renamed_typed (order_of r) env t r (order_among r) h
