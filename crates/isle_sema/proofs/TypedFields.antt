-- The fields among the paths of typed rules have types.
use Rattle.std.proofs.Common.{◌≡◌, ⊎_elim, ℕ, suc, ◌+◌, Bool, true, false, cond, List, [], ◌∷◌, ◌++◌, Some, sym, subst}
use Rattle.std.specs.Prelude.{Contains, slice_get}
use Rattle.std.specs.List.{AllByRecursion}
use Rattle.std.proofs.lemmas.List.Elements.{Contains-append_cases}
use Rattle.isle_core.specs.declared.TermId.{TermId}
use Rattle.isle_core.specs.declared.TypeId.{TypeId}
use Rattle.isle_core.specs.declared.types.Term.{Term}
use Rattle.isle_core.specs.Calling.{calling, kind_of, may_be_nothing, answers_often, is_fallible, instance_of, impure, impure_all, impure_bindings}
use Rattle.isle_core.specs.Expr as expr
use Rattle.isle_core.specs.Expr.{Expr, Exprs, NoExpr, AnExpr, LetBindings, NoBinding, ABinding}
use Rattle.isle_core.specs.ExprType.{Allowed, in_condition, in_right_side, IsExprOf, AreExprsOf, AreBindingsOf, AreIfLetsOf}
use Rattle.isle_core.specs.Making.{Making, MakesVariant, MakesStruct, MakesNothing, making}
use Rattle.isle_core.specs.Match.{with}
use Rattle.isle_core.specs.Opening.{Opening, AsVariant, AsStruct, ByExtractor, opening, part_path}
use Rattle.isle_core.specs.Path as path_form
use Rattle.isle_core.specs.Path.{Path, Arg, Chosen, Inner, Extracted, Paths}
use Rattle.isle_core.specs.PathType.{IsPathOf}
use Rattle.isle_core.specs.Pattern as pattern
use Rattle.isle_core.specs.Pattern.{Pattern, Patterns, NoPattern, APattern, Var, ConstBool, ConstInt, ConstPrim, Wildcard, BindPattern, And}
use Rattle.isle_core.specs.PatternType.{part_types, IsPatternOf, ArePartsOf, AreEachOf, ArePatternsOf}
use Rattle.isle_core.specs.RightSide.{path, paths as all_paths, path_or, term_path, call_path, let_places}
use Rattle.isle_core.specs.Rule.{IfLet, Rule, Environment}
use Rattle.isle_core.specs.RulePaths.{opening_paths, pattern_paths, parts_paths, each_paths, args_paths, iflets_paths, with_inner, expr_paths, exprs_paths, bindings_paths, rule_paths, rules_paths}
use Rattle.isle_core.specs.Serializable.{IsFieldPath}
use Rattle.isle_core.specs.Tests.{Test, Places, no_places, after, args_after, rule_tests, rule_places}
use Rattle.isle_core.specs.TypedVariables.{typed_variables, all_typed, let_variables, rule_typed}
use Rattle.isle_core.proofs.Contained.{contained_cases, none_contained}
use Rattle.isle_templates.specs.TypedRule.{IsRuleOf}
use Rattle.isle_sema.proofs.OpenedTypes.{opens_into}
use Rattle.isle_sema.proofs.PassedConditions.{HasTypedConditions, conditions_typed, rule_placed}
use Rattle.isle_sema.proofs.SerializableCalls.{some_of, AreTypedPlaces, typed_places, path_typed, let_typed}
use Rattle.isle_sema.proofs.TestablePatterns.{AreTyped, args_are, parts_there, parts_are}

-- ---- patterns

-- each field among the paths has a type
abbrev pub AreFieldsTyped : Environment → Term → List Path → Type 0
AreFieldsTyped env t ps = (p : Path) → Contains ps p → IsFieldPath p → (ty : TypeId) × IsPathOf env t p ty

-- no path
pub no_fields : (env : Environment) (t : Term) → AreFieldsTyped env t []
no_fields env t p c f = absurd (none_contained p c)

-- one path more
pub one_field : (env : Environment) (t : Term) (q : Path) (ps : List Path) → (IsFieldPath q → (ty : TypeId) × IsPathOf env t q ty) → AreFieldsTyped env t ps → AreFieldsTyped env t (q ∷ ps)
one_field env t q ps h k p c f = ⊎_elim (λ (e : q ≡ p). subst (λ r. (ty : TypeId) × IsPathOf env t r ty) e (h (subst IsFieldPath (sym e) f))) (λ d. k p d f) (contained_cases q ps p c)

-- paths after paths
pub both_fields : (env : Environment) (t : Term) (xs ys : List Path) → AreFieldsTyped env t xs → AreFieldsTyped env t ys → AreFieldsTyped env t (xs ++ ys)
both_fields env t xs ys h k p c f = ⊎_elim (λ d. h p d f) (λ d. k p d f) (Contains-append_cases xs ys p c)

-- what is no field, and its item or its inner value
pub inner_fields : (env : Environment) (t : Term) (often fallible : Bool) (p : Path) → (IsFieldPath p → ⊥) → AreFieldsTyped env t (cond often (p ∷ Chosen p ∷ []) (cond fallible (p ∷ Inner p ∷ []) (p ∷ [])))
inner_fields env t true fallible p h = one_field env t p (Chosen p ∷ []) (λ f. absurd (h f)) (one_field env t (Chosen p) [] (λ f. absurd f) (no_fields env t))
inner_fields env t false true p h = one_field env t p (Inner p ∷ []) (λ f. absurd (h f)) (one_field env t (Inner p) [] (λ f. absurd f) (no_fields env t))
inner_fields env t false false p h = one_field env t p [] (λ f. absurd (h f)) (no_fields env t)

-- what is called to take a path apart is no field
opening_fields : (env : Environment) (t : Term) (opened : Opening) (p : Path) → AreFieldsTyped env t (opening_paths opened p)
opening_fields env t (AsVariant of variant) p = no_fields env t
opening_fields env t (AsStruct of) p = no_fields env t
opening_fields env t (ByExtractor term c count) p = inner_fields env t (answers_often c) (is_fallible c) (Extracted term p) (λ f. f)

module _ (env : Environment) (t : Term) where
  mutual
    -- the fields that a typed pattern takes apart
    pattern_fields : (q : Pattern) (p : Path) (ty : TypeId) → IsPatternOf env ty q → IsPathOf env t p ty → AreFieldsTyped env t (pattern_paths env q p)
    pattern_fields (Var of x) p ty h typed = no_fields env t
    pattern_fields (ConstBool b) p ty h typed = no_fields env t
    pattern_fields (ConstInt of n) p ty h typed = no_fields env t
    pattern_fields (ConstPrim of name) p ty h typed = no_fields env t
    pattern_fields (Wildcard of) p ty h typed = no_fields env t
    pattern_fields (pattern.Term of term qs) p ty h typed =
        let opened = opening env term in
        let k = parts_there env (part_types env (making env term) (slice_get env.terms term.0)) qs h.2 in
        both_fields env t (opening_paths opened p) (parts_paths env opened qs 0 p) (opening_fields env t opened p) (parts_fields qs opened p 0 k.0 k.2 (parts_are env t opened p ty k.0 (opens_into env ty term k.0 h.1 k.1) typed))
    pattern_fields (BindPattern of x q) p ty h typed = pattern_fields q p ty h.1 typed
    pattern_fields (And of qs) p ty h typed = each_fields qs p ty h.1 typed

    -- those of parts
    parts_fields : (qs : Patterns) (opened : Opening) (p : Path) (i : ℕ) (tys : List TypeId) → ArePartsOf env (Some tys) qs → AreTyped env t (λ k. part_path opened k p) i tys → AreFieldsTyped env t (parts_paths env opened qs i p)
    parts_fields NoPattern opened p i tys h typed = no_fields env t
    parts_fields (APattern q qs) opened p i (ty ∷ tys) h typed =
        let r = part_path opened i p in
        one_field env t r (pattern_paths env q r ++ parts_paths env opened qs (suc i) p) (λ f. (ty, typed.0)) (both_fields env t (pattern_paths env q r) (parts_paths env opened qs (suc i) p) (pattern_fields q r ty h.0 typed.0) (parts_fields qs opened p (suc i) tys h.1 typed.1))
    parts_fields (APattern q qs) opened p i [] h typed = absurd h

    -- those of several patterns on one path
    each_fields : (qs : Patterns) (p : Path) (ty : TypeId) → AreEachOf env ty qs → IsPathOf env t p ty → AreFieldsTyped env t (each_paths env qs p)
    each_fields NoPattern p ty h typed = no_fields env t
    each_fields (APattern q qs) p ty h typed = both_fields env t (pattern_paths env q p) (each_paths env qs p) (pattern_fields q p ty h.0 typed) (each_fields qs p ty h.1 typed)

  -- those of patterns on arguments
  args_fields : (qs : List Pattern) (i : ℕ) (tys : List TypeId) → ArePatternsOf env tys qs → AreTyped env t Arg i tys → AreFieldsTyped env t (args_paths env qs i)
  args_fields [] i tys h typed = no_fields env t
  args_fields (q ∷ qs) i (ty ∷ tys) h typed =
      one_field env t (Arg i) (pattern_paths env q (Arg i) ++ args_paths env qs (suc i)) (λ f. (ty, typed.0)) (both_fields env t (pattern_paths env q (Arg i)) (args_paths env qs (suc i)) (pattern_fields q (Arg i) ty h.0 typed.0) (args_fields qs (suc i) tys h.1 typed.1))
  args_fields (q ∷ qs) i [] h typed = absurd h

-- ---- expressions

-- the value of a term is no field
term_no_field : (mk : Making) (term : TermId) (ps : Paths) (j : ℕ) → IsFieldPath (term_path mk term ps j) → ⊥
term_no_field MakesNothing term ps j h = h
term_no_field (MakesVariant ty variant) term ps j h = h
term_no_field (MakesStruct ty) term ps j h = h

module _ (env : Environment) (t : Term) where
  module _ (allowed : Allowed) (tests : List Test) where
    mutual
      -- those of a typed right side
      expr_fields : (vars : List (TypeId × ℕ)) (places : Places) → AreTypedPlaces env t vars places → (e : Expr) (n : ℕ) (ty : TypeId) → IsExprOf env allowed vars ty e → AreFieldsTyped env t (expr_paths env e places n)
      expr_fields vars places placed (expr.Var of x) n ty h = one_field env t (path_or (places x.0)) [] (λ f. let k = placed ty x.0 h.1 in (ty, subst (λ o. IsPathOf env t (path_or o) ty) (sym k.is) k.typed)) (no_fields env t)
      expr_fields vars places placed (expr.ConstBool b) n ty h = one_field env t _ [] (λ f. absurd f) (no_fields env t)
      expr_fields vars places placed (expr.ConstInt of v) n ty h = one_field env t _ [] (λ f. absurd f) (no_fields env t)
      expr_fields vars places placed (expr.ConstPrim of name) n ty h = one_field env t (path_form.ConstPrim name) [] (λ f. absurd f) (no_fields env t)
      expr_fields vars places placed (expr.Term of term es) n ty h =
          let c = some_of (slice_get env.terms term.0) _ h.1 in
          let ps = all_paths env es places n in
          both_fields env t (exprs_paths env es places n) (with_inner (calling env term) (call_path env term ps (n + impure_all env es))) (exprs_fields vars places placed es n c.0.arg_tys c.2.2)
          (inner_fields env t (answers_often (calling env term)) (is_fallible (calling env term)) (call_path env term ps (n + impure_all env es)) (term_no_field (making env term) term ps (instance_of (calling env term) (n + impure_all env es))))
      expr_fields vars places placed (expr.Let of bindings inner) n ty h =
          let mid = let_places env bindings places n in
          let m = n + impure_bindings env bindings in
          both_fields env t (bindings_paths env bindings places n) (expr_paths env inner mid m) (bindings_fields vars places placed bindings n h.1) (expr_fields (let_variables vars bindings) mid (let_typed env t allowed tests vars places placed bindings n h.1) inner m ty h.2)

      -- those of expressions in order
      exprs_fields : (vars : List (TypeId × ℕ)) (places : Places) → AreTypedPlaces env t vars places → (es : Exprs) (n : ℕ) (tys : List TypeId) → AreExprsOf env allowed vars tys es → AreFieldsTyped env t (exprs_paths env es places n)
      exprs_fields vars places placed NoExpr n tys h = no_fields env t
      exprs_fields vars places placed (AnExpr e es) n (ty ∷ tys) h =
          both_fields env t (expr_paths env e places n) (exprs_paths env es places (n + impure env e)) (expr_fields vars places placed e n ty h.0) (exprs_fields vars places placed es (n + impure env e) tys h.1)
      exprs_fields vars places placed (AnExpr e es) n [] h = absurd h

      -- those of the values of a `let`
      bindings_fields : (vars : List (TypeId × ℕ)) (places : Places) → AreTypedPlaces env t vars places → (bs : LetBindings) (n : ℕ) → AreBindingsOf env allowed vars bs → AreFieldsTyped env t (bindings_paths env bs places n)
      bindings_fields vars places placed NoBinding n h = no_fields env t
      bindings_fields vars places placed (ABinding x of e bs) n h =
          let mid = with places x.0 (path env e places n) in
          both_fields env t (expr_paths env e places n) (bindings_paths env bs mid (n + impure env e)) (expr_fields vars places placed e n of h.1)
          (bindings_fields ((of, x.0) ∷ vars) mid (let_typed env t allowed tests vars places placed (ABinding x of e NoBinding) n (h.0, h.1, tt)) bs (n + impure env e) h.2)

  -- those of conditions, whose expressions have types where they stand
  iflets_fields : (tests : List Test) (cs : List IfLet) (sofar : List (TypeId × ℕ)) (places : Places) → AreIfLetsOf env sofar cs → HasTypedConditions env t tests sofar cs places → AreFieldsTyped env t (iflets_paths env cs places)
  iflets_fields tests [] sofar places h typed = no_fields env t
  iflets_fields tests (c ∷ cs) sofar places h typed =
      let q = path env c.rhs places 0 in
      let mid = after env c.lhs q places in
      let own = expr_paths env c.rhs places 0 in
      both_fields env t (own ++ pattern_paths env c.lhs q) (iflets_paths env cs mid)
      (both_fields env t own (pattern_paths env c.lhs q) (expr_fields in_condition tests sofar places typed.0 c.rhs 0 h.0.ty h.0.rhs)
      (pattern_fields env t c.lhs q h.0.ty h.0.lhs (path_typed env t in_condition tests sofar places typed.0 c.rhs 0 h.0.ty h.0.rhs)))
      (iflets_fields tests cs (sofar ++ typed_variables c.lhs) mid h.1 typed.3)

  -- those of rules of a term
  pub rules_fields : (rs : List Rule) (n : ℕ) → AllByRecursion (IsRuleOf env t) rs → AreFieldsTyped env t (rules_paths env rs n)
  rules_fields [] n h = no_fields env t
  rules_fields (r ∷ rs) n h =
      let places = rule_places env r in
      let vars = rule_typed r in
      let bound = args_after env r.args 0 no_places in
      let conditions = iflets_paths env r.iflets bound in
      let tests = rule_tests env r in
      let placed = rule_placed env t r h.0.args h.0.iflets h.0.variables tests (λ y e c. c) in
      both_fields env t (rule_paths env r n) (rules_paths env rs (n + impure env r.rhs))
      (both_fields env t (args_paths env r.args 0) (conditions ++ expr_paths env r.rhs places n) (args_fields env t r.args 0 t.arg_tys h.0.args (args_are env t))
      (both_fields env t conditions (expr_paths env r.rhs places n) (iflets_fields tests r.iflets (all_typed r.args) bound h.0.iflets (conditions_typed env t r h.0.args h.0.iflets h.0.variables tests (λ y e c. c)))
      (expr_fields (in_right_side (may_be_nothing (kind_of t.kind))) tests vars places (typed_places env t tests vars places placed) r.rhs n t.ret_ty h.0.rhs)))
      (rules_fields rs (n + impure env r.rhs) h.1)
