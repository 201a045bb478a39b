-- Conditions whose parts break no row have types, over the variables before them.
use Rattle.std.proofs.Common.{◌≡◌, ⊎_elim, ℕ, ◌+◌, ◌≤◌, List, [], ◌∷◌, ◌++◌, Option, Some, None, refl, sym, ap, ◌∙◌, subst, arith}
use Rattle.std.specs.Prelude.{Contains}
use Rattle.std.proofs.lemmas.List.Elements.{Contains-append_left, Contains-append_right}
use Rattle.std.proofs.lemmas.Option.{same_Some}
use Rattle.isle_core.specs.declared.TypeId.{TypeId}
use Rattle.isle_core.specs.declared.VarId.{VarId}
use Rattle.isle_core.specs.Expr.{Expr as CoreExpr}
use Rattle.isle_core.specs.ExprType.{in_condition}
use Rattle.isle_sema.specs.Templates.{templates}
use Rattle.isle_templates.specs.WrittenRule.{AreWrittenIfLetsOf}
use Rattle.isle_core.specs.Pattern.{Pattern as CorePattern}
use Rattle.isle_core.specs.Rule.{IfLet as CoreIfLet, Environment}
use Rattle.isle_core.specs.TypedVariables.{typed_variables, all_typed, iflets_typed}
use Rattle.isle_ast.specs.Tree.{Pattern, Patterns, IfLet, Def}
use Rattle.isle_terms.specs.Whole.{Whole, whole_of}
use Rattle.isle_terms.proofs.MadeTerms.{first_there}
use Rattle.isle_sema.specs.ExprPass.{expr_type}
use Rattle.isle_sema.specs.ExprType.{own_type}
use Rattle.isle_sema.proofs.TypesOwned.{type_is}
use Rattle.isle_terms.specs.Locals.{of_patterns}
use Rattle.isle_terms.specs.NewVariables.{new_count}
use Rattle.isle_sema.specs.PatternPass.{pattern_pass, patterns_pass}
use Rattle.isle_sema.specs.RulePass.{iflet_tree, condition_expr, condition_pattern, condition_pass, conditions_pass}
use Rattle.isle_terms.specs.Scope.{behind}
use Rattle.isle_terms.specs.Scope.{Scope, no_variables, variable}
use Rattle.isle_sema.proofs.KeptParts.{AreKept, kept_parts}
use Rattle.isle_terms.proofs.LocalLaws.{pattern_variable}
use Rattle.isle_sema.proofs.OwnTypes.{own_typed}
use Rattle.isle_terms.proofs.ScopeLaws.{IsNumbered, none_numbered, behind_numbered}
use Rattle.isle_sema.proofs.TypedExprs.{IsOver}
use Rattle.isle_sema.proofs.TypedParts.{IsGivenIn}
use Rattle.isle_sema.proofs.TypedPatterns.{KnowsTerms, AreTakenWell, taken_parts, pattern_typed, stands_in, variable_stands}
use Rattle.isle_sema.proofs.VariableTypes.{pattern_grows, patterns_grow, StandIn, both_stand, stand_on, pattern_stand, patterns_stand, below_next}

-- ---- the variables so far

-- the scope's variables have numbers of their own, and these are its variables with their types
pub record IsStage (scope : Scope) (vars : List (TypeId × ℕ)) : Type 0 where
  pub numbered : IsNumbered scope
  pub stand : StandIn scope.variables vars
  pub known : (name : List ℕ) (v : TypeId × VarId) → variable scope name ≡ Some v → Contains vars (v.0, v.1.0)

-- after a rule's patterns
pub patterns_stage : (w : Whole) (expected : List (Option TypeId)) (ps : Patterns) (qs : List CorePattern) → (patterns_pass w expected no_variables ps).trees ≡ Some qs → IsStage (patterns_pass w expected no_variables ps).scope (all_typed qs)
patterns_stage w expected ps qs h = record {
  numbered = (patterns_grow w expected no_variables ps).numbered none_numbered;
  stand = patterns_stand w expected no_variables ps qs h;
  known = λ name v at. ⊎_elim (λ (was : variable no_variables name ≡ Some v). absurd cc) (λ c. c) (variable_stands w expected no_variables ps qs name v h at);
}

-- after a condition
condition_stage : (w : Whole) (expected : Option TypeId) (scope : Scope) (vars : List (TypeId × ℕ)) (next : ℕ) (p : Pattern) (q : CorePattern) → IsStage scope vars → (pattern_pass w expected scope p).tree ≡ Some q → IsStage (behind (pattern_pass w expected scope p).scope next) (vars ++ typed_variables q)
condition_stage w expected scope vars next p q s h =
    let last = (pattern_pass w expected scope p).scope in
    let grows = pattern_grows w expected scope p in
    record {
      numbered = behind_numbered last next (grows.numbered s.numbered);
      stand = both_stand last.variables vars (typed_variables q) (stand_on scope last vars grows s.stand) (pattern_stand w expected scope p q h);
      known = λ name v at. ⊎_elim (λ was. Contains-append_left vars (typed_variables q) (v.0, v.1.0) (s.known name v was)) (λ c. Contains-append_right vars (typed_variables q) (v.0, v.1.0) c) (stands_in w expected scope p q name v h at);
    }

-- what an expression over them stands over
pub stage_over : (defs : List Def) (env : Environment) (scope : Scope) (vars : List (TypeId × ℕ)) (next : ℕ) → IsGivenIn defs env → IsStage scope vars → scope.next ≤ next → IsOver defs env (of_patterns scope) vars next
stage_over defs env scope vars next g s le = record {
  given = g;
  bound = λ name l ty found typed. s.known name (ty, record { 0 = l.number }) (pattern_variable scope name l ty found typed);
  below = λ ty x c. (let lt = below_next scope vars s.numbered s.stand ty x c in omega (arith, lt, le));
}

-- ---- conditions

-- what the trees of a condition's parts are
record IsIfLetTree (lhs : Option CorePattern) (rhs : Option CoreExpr) (c : CoreIfLet) : Type 0 where
  lhs_is : lhs ≡ Some c.lhs
  rhs_is : rhs ≡ Some c.rhs

iflet_is : (lhs : Option CorePattern) (rhs : Option CoreExpr) (c : CoreIfLet) → iflet_tree lhs rhs ≡ Some c → IsIfLetTree lhs rhs c
iflet_is None rhs c h = absurd cc
iflet_is (Some p) None c h = absurd cc
iflet_is (Some p) (Some e) c h =
    let same = same_Some {A = CoreIfLet} (record { lhs = p; rhs = e }) c h in
    record { lhs_is = ap (λ (x : CoreIfLet). Some x.lhs) same; rhs_is = ap (λ (x : CoreIfLet). Some x.rhs) same }

-- conditions that break no row, and what is after them
pub record AreTypedConditions (env : Environment) (given : List (Option CorePattern)) (scope : Scope) (vars : List (TypeId × ℕ)) (cs : List CoreIfLet) : Type 0 where
  pub typed : AreWrittenIfLetsOf env given vars cs
  pub stage : IsStage scope (iflets_typed vars cs)

pub conditions_typed : (defs : List Def) (env : Environment) (scope : Scope) (vars : List (TypeId × ℕ)) (cs : List IfLet) (xs : List CoreIfLet) → IsGivenIn defs env → KnowsTerms defs env → IsStage scope vars → (conditions_pass (whole_of defs) scope cs).trees ≡ Some xs
    → AreKept (whole_of defs) in_condition (conditions_pass (whole_of defs) scope cs).sites → AreTakenWell (whole_of defs) (conditions_pass (whole_of defs) scope cs).sites → AreTypedConditions env (templates (whole_of defs)) (conditions_pass (whole_of defs) scope cs).scope vars xs
conditions_typed defs env scope vars [] xs g knows s h kept well = subst (AreTypedConditions env (templates (whole_of defs)) scope vars) (same_Some [] xs h) (record { typed = tt; stage = s })
conditions_typed defs env scope vars (c ∷ cs) xs g knows s h kept well =
    let w = whole_of defs in
    let one = condition_pass w scope c in
    let rest = conditions_pass w one.scope cs in
    let right = condition_expr w scope c in
    let left = condition_pattern w scope c in
    let f = first_there one.tree rest.trees xs h in
    let m = iflet_is left.tree right.tree f.first f.here in
    let k = kept_parts w in_condition one.sites rest.sites kept in
    let t = taken_parts w one.sites rest.sites well in
    let next = scope.next + new_count scope c.lhs in
    let le : scope.next ≤ next = omega arith in
    let ty = expr_type f.first.rhs in
    let own = own_type w (of_patterns scope) c.rhs in
    let expected : own ≡ Some ty = type_is w (of_patterns scope) (of_patterns scope) next c.rhs f.first.rhs (λ name. refl) m.rhs_is in
    let rhs = own_typed defs env in_condition (of_patterns scope) vars next c.rhs f.first.rhs (stage_over defs env scope vars next g s le) m.rhs_is (kept_parts w in_condition right.sites left.sites k.0).0 in
    let at : (pattern_pass w (Some ty) scope c.lhs).tree ≡ Some f.first.lhs = ap (λ o. (pattern_pass w o scope c.lhs).tree) (sym expected) ∙ m.lhs_is in
    let taken = subst (λ o. AreTakenWell w (pattern_pass w o scope c.lhs).sites) expected (taken_parts w right.sites left.sites t.0).1 in
    let lhs = pattern_typed defs env ty scope c.lhs f.first.lhs knows g.types at taken in
    let stage = condition_stage w own scope vars right.next c.lhs f.first.lhs s m.lhs_is in
    let others = conditions_typed defs env one.scope (vars ++ typed_variables f.first.lhs) cs f.others g knows stage f.found k.1 t.1 in
    subst (AreTypedConditions env (templates w) rest.scope vars) (sym f.all) (record { typed = (record { ty = ty; rhs = rhs; lhs = lhs }, others.typed); stage = others.stage })
