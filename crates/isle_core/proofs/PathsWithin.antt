-- All paths of a rule stand on its own calls, so a flat rule of a `multi` term adds the same whatever else is known.
use Rattle.std.proofs.Common.{ℕ, suc, ◌+◌, List, [], ◌∷◌, ◌++◌, Bool, true, false, cond, sym, subst}
use Rattle.std.specs.List.{AllByRecursion}
use Rattle.isle_base.specs.declared.ids.TypeId.{TypeId}
use Rattle.isle_core.specs.declared.rule_sets.FlatRule.{FlatRule}
use Rattle.isle_core.specs.Calling.{Calling, calling, answers_often, is_fallible, instance_of, impure, impure_all, impure_bindings}
use Rattle.isle_core.specs.Expr as expr
use Rattle.isle_core.specs.Expr.{Expr, Exprs, NoExpr, AnExpr, LetBindings, NoBinding, ABinding}
use Rattle.isle_core.specs.ExprType.{AreIfLetsOf}
use Rattle.isle_core.specs.Making.{making}
use Rattle.isle_core.specs.Match.{with}
use Rattle.isle_core.specs.Meaning.{Meaning}
use Rattle.isle_core.specs.Opening.{Opening, AsVariant, AsStruct, ByExtractor, opening, part_path}
use Rattle.isle_core.specs.Path.{Path, Arg, Extracted, Chosen, Inner}
use Rattle.isle_core.specs.Pattern as pattern
use Rattle.isle_core.specs.Pattern.{Pattern, Patterns, NoPattern, APattern}
use Rattle.isle_core.specs.RightSide.{call_path, path, paths, let_places}
use Rattle.isle_core.specs.Rule.{Environment, IfLet, Rule}
use Rattle.isle_core.specs.RulePaths.{with_inner, expr_paths, exprs_paths, bindings_paths, opening_paths, pattern_paths, parts_paths, each_paths, args_paths, iflets_paths, rule_paths}
use Rattle.isle_core.specs.RuleSet.{flat_tests}
use Rattle.isle_core.specs.StandsFor.{IsFlat}
use Rattle.isle_core.specs.Tests.{Places, no_places, after, args_after, rule_tests, rule_places}
use Rattle.isle_core.specs.TypedVariables.{typed_variables, all_typed}
use Rattle.isle_core.specs.Value.{Value}
use Rattle.isle_core.specs.Served.{IsTested}
use Rattle.isle_core.proofs.FirstItems.{firsts_within}
use Rattle.isle_core.proofs.ConditionTests.{no_impure}
use Rattle.isle_core.proofs.ExprPaths.{ArePlacedSo, all_append, with_placed}
use Rattle.isle_core.proofs.LaterCalls.{Within, front, rest, arguments, instance_within, place_or, term_of, path_of, paths_of, let_of, calls_of, part_of, after_of, none_within, args_of, no_places_of, rule_of}
use Rattle.isle_core.proofs.OtherAnswers.{AreOf, IsTestOf, IsRuleOf}
use Rattle.isle_core.proofs.RulePairs.{all_from, all_at}

module _ (S : ℕ → Type 0) (env : Environment) where
  inner_of : (c : Calling) (p : Path) → AreOf S p → AllByRecursion (AreOf S) (with_inner c p)
  inner_of c p h = pick (answers_often c) (is_fallible c)
    where
      pick : (often fallible : Bool) → AllByRecursion (AreOf S) (cond often (p ∷ Chosen p ∷ []) (cond fallible (p ∷ Inner p ∷ []) (p ∷ [])))
      pick true fallible = (h, (h, tt))
      pick false true = (h, (h, tt))
      pick false false = (h, tt)

  -- ---- right sides

  mutual
    pub expr_within : (e : Expr) (places : Places) (n : ℕ) → Within S n (impure env e) → ArePlacedSo (AreOf S) places → AllByRecursion (AreOf S) (expr_paths env e places n)
    expr_within (expr.Var ty x) places n l b = (place_or S (places x.0) (b.by x.0), tt)
    expr_within (expr.ConstBool v) places n l b = (tt, tt)
    expr_within (expr.ConstInt ty v) places n l b = (tt, tt)
    expr_within (expr.ConstPrim ty name) places n l b = (tt, tt)
    expr_within (expr.Term ty term es) places n l b =
        let c = calling env term in
        let k = n + impure_all env es in
        let p = call_path env term (paths env es places n) k in
        let few = arguments S c n (impure_all env es) l in
        all_append (AreOf S) (exprs_paths env es places n) (with_inner c p) (exprs_within es places n few b)
        (inner_of c p (term_of S (making env term) term (paths env es places n) (instance_of c k) (instance_within S c n (impure_all env es) l) (paths_of S env es places n few b)))
    expr_within (expr.Let ty bs inner) places n l b =
        let few = front S n (impure_bindings env bs) (impure env inner) l in
        all_append (AreOf S) (bindings_paths env bs places n) (expr_paths env inner (let_places env bs places n) (n + impure_bindings env bs)) (bindings_within bs places n few b)
        (expr_within inner (let_places env bs places n) (n + impure_bindings env bs) (rest S n (impure_bindings env bs) (impure env inner) l) (let_of S env bs places n few b))

    exprs_within : (es : Exprs) (places : Places) (n : ℕ) → Within S n (impure_all env es) → ArePlacedSo (AreOf S) places → AllByRecursion (AreOf S) (exprs_paths env es places n)
    exprs_within NoExpr places n l b = tt
    exprs_within (AnExpr e es) places n l b =
        all_append (AreOf S) (expr_paths env e places n) (exprs_paths env es places (n + impure env e)) (expr_within e places n (front S n (impure env e) (impure_all env es) l) b)
        (exprs_within es places (n + impure env e) (rest S n (impure env e) (impure_all env es) l) b)

    bindings_within : (bs : LetBindings) (places : Places) (n : ℕ) → Within S n (impure_bindings env bs) → ArePlacedSo (AreOf S) places → AllByRecursion (AreOf S) (bindings_paths env bs places n)
    bindings_within NoBinding places n l b = tt
    bindings_within (ABinding x ty e bs) places n l b =
        let next = with places x.0 (path env e places n) in
        let few = front S n (impure env e) (impure_bindings env bs) l in
        all_append (AreOf S) (expr_paths env e places n) (bindings_paths env bs next (n + impure env e)) (expr_within e places n few b)
        (bindings_within bs next (n + impure env e) (rest S n (impure env e) (impure_bindings env bs) l) (with_placed (AreOf S) places x.0 (path env e places n) (path_of S env e places n few b) b))

  -- ---- patterns

  opened_within : (opened : Opening) (p : Path) → AreOf S p → AllByRecursion (AreOf S) (opening_paths opened p)
  opened_within (AsVariant ty variant) p h = tt
  opened_within (AsStruct ty) p h = tt
  opened_within (ByExtractor term c count) p h = inner_of c (Extracted term p) h

  mutual
    pattern_within : (q : Pattern) (p : Path) → AreOf S p → AllByRecursion (AreOf S) (pattern_paths env q p)
    pattern_within (pattern.Term ty term qs) p h = all_append (AreOf S) (opening_paths (opening env term) p) (parts_paths env (opening env term) qs 0 p) (opened_within (opening env term) p h) (parts_within qs (opening env term) 0 p h)
    pattern_within (pattern.Var ty x) p h = tt
    pattern_within (pattern.ConstBool v) p h = tt
    pattern_within (pattern.ConstInt ty v) p h = tt
    pattern_within (pattern.ConstPrim ty name) p h = tt
    pattern_within (pattern.Wildcard ty) p h = tt
    pattern_within (pattern.BindPattern ty x q) p h = pattern_within q p h
    pattern_within (pattern.And ty qs) p h = each_within qs p h

    parts_within : (qs : Patterns) (opened : Opening) (i : ℕ) (p : Path) → AreOf S p → AllByRecursion (AreOf S) (parts_paths env opened qs i p)
    parts_within NoPattern opened i p h = tt
    parts_within (APattern q qs) opened i p h =
        let own = part_of S env opened i p h in
        (own, all_append (AreOf S) (pattern_paths env q (part_path opened i p)) (parts_paths env opened qs (suc i) p) (pattern_within q (part_path opened i p) own) (parts_within qs opened (suc i) p h))

    each_within : (qs : Patterns) (p : Path) → AreOf S p → AllByRecursion (AreOf S) (each_paths env qs p)
    each_within NoPattern p h = tt
    each_within (APattern q qs) p h = all_append (AreOf S) (pattern_paths env q p) (each_paths env qs p) (pattern_within q p h) (each_within qs p h)

  args_within : (qs : List Pattern) (i : ℕ) → AllByRecursion (AreOf S) (args_paths env qs i)
  args_within [] i = tt
  args_within (q ∷ qs) i = (tt, all_append (AreOf S) (pattern_paths env q (Arg i)) (args_paths env qs (suc i)) (pattern_within q (Arg i) tt) (args_within qs (suc i)))

  iflets_within : (cs : List IfLet) (vars : List (TypeId × ℕ)) (places : Places) → S 0 → AreIfLetsOf env vars cs → ArePlacedSo (AreOf S) places → AllByRecursion (AreOf S) (iflets_paths env cs places)
  iflets_within [] vars places s h b = tt
  iflets_within (c ∷ cs) vars places s h b =
      let q = path env c.rhs places 0 in
      let few = none_within S env 0 (impure env c.rhs) s (no_impure env vars h.0.ty c.rhs h.0.rhs) in
      let stands = path_of S env c.rhs places 0 few b in
      all_append (AreOf S) (expr_paths env c.rhs places 0 ++ pattern_paths env c.lhs q) (iflets_paths env cs (after env c.lhs q places))
      (all_append (AreOf S) (expr_paths env c.rhs places 0) (pattern_paths env c.lhs q) (expr_within c.rhs places 0 few b) (pattern_within c.lhs q stands))
      (iflets_within cs (vars ++ typed_variables c.lhs) (after env c.lhs q places) s h.1 (after_of S env c.lhs q places stands b))

  -- all paths of a rule after n calls
  pub rule_within : (tys : List TypeId) (r : Rule) (n : ℕ) → IsTested env tys r → Within S n (impure env r.rhs) → AllByRecursion (AreOf S) (rule_paths env r n)
  rule_within tys r n h l =
      let mid = args_after env r.args 0 no_places in
      let places = (rule_of S env tys r l.pure h).1 in
      all_append (AreOf S) (args_paths env r.args 0) (iflets_paths env r.iflets mid ++ expr_paths env r.rhs (rule_places env r) n) (args_within r.args 0)
      (all_append (AreOf S) (iflets_paths env r.iflets mid) (expr_paths env r.rhs (rule_places env r) n) (iflets_within r.iflets (all_typed r.args) mid l.pure h.iflets (args_of S env r.args 0 no_places (no_places_of S env)))
      (expr_within r.rhs (rule_places env r) n l places))

  -- ---- flat rules

  -- a flat rule's tests, calls and result stand on the rule's own calls
  pub flat_within : (m : Meaning) (args : List Value) (tys : List TypeId) (ps : List Path) (r : Rule) (n : ℕ) (f : FlatRule) → IsTested env tys r → Within S n (impure env r.rhs) → IsFlat env ps r n f → IsRuleOf env m args S ps f
  flat_within m args tys ps r n f h l flat =
      let own = rule_of S env tys r l.pure h in
      record {
        tests = all_from (IsTestOf S) (flat_tests ps f) (λ t c. all_at (IsTestOf S) (rule_tests env r) t own.0 (flat.no_other t c).0);
        ordered = firsts_within (AreOf S) flat.ordered (calls_of S env r.rhs (rule_places env r) n l own.1);
        result = subst (AreOf S) (sym flat.result) (path_of S env r.rhs (rule_places env r) n l own.1);
      }
