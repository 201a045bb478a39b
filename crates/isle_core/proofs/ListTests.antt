-- Each list whose item a rule asks for is one of its paths, answers several times, and holds no impure call.
use Rattle.std.proofs.Common.{◌≡◌, ℕ, suc, ◌+◌, List, [], ◌∷◌, ◌++◌, Bool, true, false, cond, Option, Some, None, refl, ap, subst, arith}
use Rattle.std.specs.Prelude.{Contains, slice_get}
use Rattle.std.specs.List.{AllByRecursion}
use Rattle.std.proofs.lemmas.List.Elements.{Contains-append_left, Contains-append_right}
use Rattle.isle_base.specs.declared.ids.TermId.{TermId}
use Rattle.isle_base.specs.declared.ids.TypeId.{TypeId}
use Rattle.isle_core.specs.declared.rule_sets.Constraint.TheVariants as constraint
use Rattle.isle_core.specs.declared.types.Term.{Term}
use Rattle.isle_core.specs.Calling.{Calling, ByCases, answers_often, is_fallible, calling, extracting, instance_of, impure, impure_all, impure_bindings}
use Rattle.isle_core.specs.Expr as expr
use Rattle.isle_core.specs.Expr.{Expr, Exprs, NoExpr, AnExpr, LetBindings, NoBinding, ABinding}
use Rattle.isle_core.specs.ExprType.{IsExprOf, AreExprsOf, AreBindingsOf, AreIfLetsOf, in_condition}
use Rattle.isle_core.specs.HoldsImpure.{holds_impure, hold_impure}
use Rattle.isle_core.specs.Iterators.{calls_multi}
use Rattle.isle_core.specs.Making.{Making, MakesVariant, MakesStruct, MakesNothing, making}
use Rattle.isle_core.specs.Match.{with}
use Rattle.isle_core.specs.Opening.{Opening, opening_by, opening, part_path}
use Rattle.isle_core.specs.Path.{Path, Arg, Extracted, Called, Paths}
use Rattle.isle_core.specs.Pattern as pattern
use Rattle.isle_core.specs.Pattern.{Pattern, Patterns, NoPattern, APattern}
use Rattle.isle_core.specs.RightSide.{term_path, call_path, path, paths, let_places}
use Rattle.isle_core.specs.Rule.{Environment, IfLet, Rule}
use Rattle.isle_core.specs.RulePaths.{with_inner, expr_paths, exprs_paths, bindings_paths, opening_paths, pattern_paths, parts_paths, each_paths, args_paths, iflets_paths, rule_paths}
use Rattle.isle_core.specs.Tests.{Test, Is, Equal, HasItem, Places, no_places, met_tests, met_after, found_tests, opening_tests, tests, parts_tests, each_tests, after, args_tests, args_after, called_tests, all_called_tests, bindings_called_tests, iflets_tests, rule_tests, rule_places}
use Rattle.isle_core.specs.TypedVariables.{typed_variables, let_variables, all_typed}
use Rattle.isle_core.specs.Served.{IsTested}
use Rattle.isle_core.proofs.ChosenItems.{call_first}
use Rattle.isle_core.proofs.ConditionTests.{IsAsked, has_cases, makes_variant, makes_struct, asked, some_of, no_impure, bindings_no_impure}
use Rattle.isle_core.proofs.EarlyPlaces.{AreEarly, after_early, part_early, args_early, term_early, expr_early, exprs_early, with_early, bindings_early}

-- a list that is asked for is such a path
abbrev pub ItemSo : Environment → (Path → Type 0) → Test → Type 0
ItemSo env S (Is p c) = Unit {0}
ItemSo env S (Equal p q) = Unit {0}
ItemSo env S (HasItem p) = S p × (calls_multi env p ≡ true) × (holds_impure env p ≡ false)

-- so of each test
abbrev ItemsSo : Environment → (Path → Type 0) → List Test → Type 0
ItemsSo env S ts = AllByRecursion (ItemSo env S) ts

all_append : (env : Environment) (S : Path → Type 0) (xs ys : List Test) → ItemsSo env S xs → ItemsSo env S ys → ItemsSo env S (xs ++ ys)
all_append env S [] ys h k = k
all_append env S (x ∷ xs) ys h k = (h.0, all_append env S xs ys h.1 k)

-- these paths are such
abbrev Among : (Path → Type 0) → List Path → Type 0
Among S ps = (p : Path) → Contains ps p → S p

left : (S : Path → Type 0) (xs ys : List Path) → Among S (xs ++ ys) → Among S xs
left S xs ys h p c = h p (Contains-append_left xs ys p c)

right : (S : Path → Type 0) (xs ys : List Path) → Among S (xs ++ ys) → Among S ys
right S xs ys h p c = h p (Contains-append_right xs ys p c)

found_so : (env : Environment) (S : Path → Type 0) (c : Calling) (p : Path) → calls_multi env p ≡ answers_often c → holds_impure env p ≡ false → Among S (with_inner c p) → ItemsSo env S (found_tests c p)
found_so env S c p multi early h = pick (answers_often c) (is_fallible c) multi (h p (call_first (answers_often c) (is_fallible c) p))
  where
    pick : (x y : Bool) → calls_multi env p ≡ x → S p → ItemsSo env S (cond x (HasItem p ∷ []) (cond y (Is p constraint.Some ∷ []) []))
    pick true y e s = ((s, e, early), tt)
    pick false true e s = (tt, tt)
    pick false false e s = tt

met_so : (env : Environment) (S : Path → Type 0) (o : Option Path) (p : Path) → ItemsSo env S (met_tests o p)
met_so env S None p = tt
met_so env S (Some q) p = (tt, tt)

opening_so : (env : Environment) (S : Path → Type 0) (term : TermId) (mk : Making) (t : Option Term) (p : Path) → holds_impure env p ≡ false → Among S (opening_paths (opening_by term mk (extracting env term) t) p) → ItemsSo env S (opening_tests (opening_by term mk (extracting env term) t) p)
opening_so env S term (MakesVariant ty variant) t p early h = (tt, tt)
opening_so env S term (MakesStruct ty) t p early h = (tt, tt)
opening_so env S term MakesNothing t p early h = found_so env S (extracting env term) (Extracted term p) refl early h

-- ---- patterns

mutual
  pattern_so : (q : Pattern) (env : Environment) (S : Path → Type 0) (p : Path) (places : Places) → holds_impure env p ≡ false → Among S (pattern_paths env q p) → ItemsSo env S (tests env q p places)
  pattern_so (pattern.Var ty x) env S p places early h = met_so env S (places x.0) p
  pattern_so (pattern.ConstBool b) env S p places early h = (tt, tt)
  pattern_so (pattern.ConstInt ty n) env S p places early h = (tt, tt)
  pattern_so (pattern.ConstPrim ty name) env S p places early h = (tt, tt)
  pattern_so (pattern.Wildcard ty) env S p places early h = tt
  pattern_so (pattern.Term ty term qs) env S p places early h =
      let o = opening env term in
      all_append env S (opening_tests o p) (parts_tests env o qs 0 p places)
      (opening_so env S term (making env term) (slice_get env.terms term.0) p early (left S (opening_paths o p) (parts_paths env o qs 0 p) h)) (parts_so qs env S o 0 p places early (right S (opening_paths o p) (parts_paths env o qs 0 p) h))
  pattern_so (pattern.BindPattern ty x q) env S p places early h =
      all_append env S (met_tests (places x.0) p) (tests env q p (met_after (places x.0) x.0 p places)) (met_so env S (places x.0) p) (pattern_so q env S p (met_after (places x.0) x.0 p places) early h)
  pattern_so (pattern.And ty qs) env S p places early h = each_so qs env S p places early h

  each_so : (qs : Patterns) (env : Environment) (S : Path → Type 0) (p : Path) (places : Places) → holds_impure env p ≡ false → Among S (each_paths env qs p) → ItemsSo env S (each_tests env qs p places)
  each_so NoPattern env S p places early h = tt
  each_so (APattern q qs) env S p places early h =
      all_append env S (tests env q p places) (each_tests env qs p (after env q p places)) (pattern_so q env S p places early (left S (pattern_paths env q p) (each_paths env qs p) h)) (each_so qs env S p (after env q p places) early (right S (pattern_paths env q p) (each_paths env qs p) h))

  parts_so : (qs : Patterns) (env : Environment) (S : Path → Type 0) (o : Opening) (i : ℕ) (p : Path) (places : Places) → holds_impure env p ≡ false → Among S (parts_paths env o qs i p) → ItemsSo env S (parts_tests env o qs i p places)
  parts_so NoPattern env S o i p places early h = tt
  parts_so (APattern q qs) env S o i p places early h =
      let at = part_path o i p in
      let own = right S (at ∷ []) (pattern_paths env q at ++ parts_paths env o qs (suc i) p) h in
      all_append env S (tests env q at places) (parts_tests env o qs (suc i) p (after env q at places)) (pattern_so q env S at places (part_early env o i p early) (left S (pattern_paths env q at) (parts_paths env o qs (suc i) p) own))
      (parts_so qs env S o (suc i) p (after env q at places) early (right S (pattern_paths env q at) (parts_paths env o qs (suc i) p) own))

args_so : (qs : List Pattern) (env : Environment) (S : Path → Type 0) (i : ℕ) (places : Places) → Among S (args_paths env qs i) → ItemsSo env S (args_tests env qs i places)
args_so [] env S i places h = tt
args_so (q ∷ qs) env S i places h =
    let own = right S (Arg i ∷ []) (pattern_paths env q (Arg i) ++ args_paths env qs (suc i)) h in
    all_append env S (tests env q (Arg i) places) (args_tests env qs (suc i) (after env q (Arg i) places)) (pattern_so q env S (Arg i) places refl (left S (pattern_paths env q (Arg i)) (args_paths env qs (suc i)) own))
    (args_so qs env S (suc i) (after env q (Arg i) places) (right S (pattern_paths env q (Arg i)) (args_paths env qs (suc i)) own))

-- ---- conditions

term_so : {mk : Making} {d : Calling} {c : Term} (env : Environment) (S : Path → Type 0) (term : TermId) (ps : Paths) (k : ℕ) → IsAsked env c mk d → calling env term ≡ d → hold_impure env ps ≡ false → Among S (with_inner d (term_path mk term ps (instance_of d k)))
    → ItemsSo env S (found_tests d (term_path mk term ps (instance_of d 0)))
term_so {c = c} env S term ps k (has_cases callee kind) e early h = found_so env S (ByCases callee kind) (Called term ps 0) (ap answers_often e) (term_early {c = c} env term ps 0 (has_cases callee kind) e early) h
term_so env S term ps k (makes_variant ty variant made) e early h = tt
term_so env S term ps k (makes_struct ty made) e early h = tt

module _ (env : Environment) (S : Path → Type 0) where
  mutual
    expr_so : (vars : List (TypeId × ℕ)) (ty : TypeId) (e : Expr) (places : Places) → IsExprOf env in_condition vars ty e → AreEarly env places → Among S (expr_paths env e places 0) → ItemsSo env S (called_tests env e places)
    expr_so vars ty (expr.Var of x) places h k a = tt
    expr_so vars ty (expr.ConstBool b) places h k a = tt
    expr_so vars ty (expr.ConstInt of n) places h k a = tt
    expr_so vars ty (expr.ConstPrim of name) places h k a = tt
    expr_so vars ty (expr.Term of term es) places h k a =
        let c = some_of (slice_get env.terms term.0) _ h.1 in
        let ps = paths env es places 0 in
        let d = calling env term in
        let own = with_inner d (call_path env term ps (0 + impure_all env es)) in
        all_append env S (all_called_tests env es places) (found_tests d (call_path env term ps 0)) (exprs_so vars c.0.arg_tys es places c.2.2 k (left S (exprs_paths env es places 0) own a))
        (term_so env S term ps (0 + impure_all env es) (asked env term c.0 c.1 c.2.0) refl (exprs_early env vars c.0.arg_tys es places 0 c.2.2 k) (right S (exprs_paths env es places 0) own a))
    expr_so vars ty (expr.Let of bs inner) places h k a =
        let mid = let_places env bs places 0 in
        let none = bindings_no_impure env vars bs h.1 in
        let zero' : 0 + impure_bindings env bs ≡ 0 = omega (arith, none) in
        all_append env S (bindings_called_tests env bs places) (called_tests env inner mid) (bindings_so vars bs places h.1 k (left S (bindings_paths env bs places 0) (expr_paths env inner mid (0 + impure_bindings env bs)) a))
        (expr_so (let_variables vars bs) ty inner mid h.2 (bindings_early env vars bs places 0 h.1 k) (subst (λ j. Among S (expr_paths env inner mid j)) zero' (right S (bindings_paths env bs places 0) (expr_paths env inner mid (0 + impure_bindings env bs)) a)))

    exprs_so : (vars : List (TypeId × ℕ)) (tys : List TypeId) (es : Exprs) (places : Places) → AreExprsOf env in_condition vars tys es → AreEarly env places → Among S (exprs_paths env es places 0) → ItemsSo env S (all_called_tests env es places)
    exprs_so vars tys NoExpr places h k a = tt
    exprs_so vars (ty ∷ tys) (AnExpr e es) places h k a =
        let none = no_impure env vars ty e h.0 in
        let zero' : 0 + impure env e ≡ 0 = omega (arith, none) in
        all_append env S (called_tests env e places) (all_called_tests env es places) (expr_so vars ty e places h.0 k (left S (expr_paths env e places 0) (exprs_paths env es places (0 + impure env e)) a))
        (exprs_so vars tys es places h.1 k (subst (λ j. Among S (exprs_paths env es places j)) zero' (right S (expr_paths env e places 0) (exprs_paths env es places (0 + impure env e)) a)))
    exprs_so vars [] (AnExpr e es) places h k a = absurd h

    bindings_so : (vars : List (TypeId × ℕ)) (bs : LetBindings) (places : Places) → AreBindingsOf env in_condition vars bs → AreEarly env places → Among S (bindings_paths env bs places 0) → ItemsSo env S (bindings_called_tests env bs places)
    bindings_so vars NoBinding places h k a = tt
    bindings_so vars (ABinding x ty e bs) places h k a =
        let p = path env e places 0 in
        let mid = with places x.0 p in
        let none = no_impure env vars ty e h.1 in
        let zero' : 0 + impure env e ≡ 0 = omega (arith, none) in
        all_append env S (called_tests env e places) (bindings_called_tests env bs mid) (expr_so vars ty e places h.1 k (left S (expr_paths env e places 0) (bindings_paths env bs mid (0 + impure env e)) a))
        (bindings_so ((ty, x.0) ∷ vars) bs mid h.2 (with_early env places x.0 p (expr_early env vars ty e places 0 h.1 k) k) (subst (λ j. Among S (bindings_paths env bs mid j)) zero' (right S (expr_paths env e places 0) (bindings_paths env bs mid (0 + impure env e)) a)))

  iflets_so : (cs : List IfLet) (vars : List (TypeId × ℕ)) (places : Places) → AreIfLetsOf env vars cs → AreEarly env places → Among S (iflets_paths env cs places) → ItemsSo env S (iflets_tests env cs places)
  iflets_so [] vars places h k a = tt
  iflets_so (c ∷ cs) vars places h k a =
      let q = path env c.rhs places 0 in
      let early = expr_early env vars h.0.ty c.rhs places 0 h.0.rhs k in
      let more = iflets_paths env cs (after env c.lhs q places) in
      let own = left S (expr_paths env c.rhs places 0 ++ pattern_paths env c.lhs q) more a in
      all_append env S (called_tests env c.rhs places ++ tests env c.lhs q places) (iflets_tests env cs (after env c.lhs q places))
      (all_append env S (called_tests env c.rhs places) (tests env c.lhs q places) (expr_so vars h.0.ty c.rhs places h.0.rhs k (left S (expr_paths env c.rhs places 0) (pattern_paths env c.lhs q) own)) (pattern_so c.lhs env S q places early (right S (expr_paths env c.rhs places 0) (pattern_paths env c.lhs q) own)))
      (iflets_so cs (vars ++ typed_variables c.lhs) (after env c.lhs q places) h.1 (after_early c.lhs env q places early k) (right S (expr_paths env c.rhs places 0 ++ pattern_paths env c.lhs q) more a))

-- each list that a rule asks for is one of its paths
pub lists_asked : (env : Environment) (tys : List TypeId) (r : Rule) (n : ℕ) → IsTested env tys r → AllByRecursion (ItemSo env (Contains (rule_paths env r n))) (rule_tests env r)
lists_asked env tys r n h =
    let S : Path → Type 0 = Contains (rule_paths env r n) in
    let mid = args_after env r.args 0 no_places in
    let first = args_paths env r.args 0 in
    let second = iflets_paths env r.iflets mid in
    let last = expr_paths env r.rhs (rule_places env r) n in
    all_append env S (args_tests env r.args 0 no_places) (iflets_tests env r.iflets mid) (args_so r.args env S 0 no_places (λ p c. Contains-append_left first (second ++ last) p c))
    (iflets_so env S r.iflets (all_typed r.args) mid h.iflets (args_early env r.args 0 no_places (record { by = λ x. tt })) (λ p c. Contains-append_right first (second ++ last) p (Contains-append_left second last p c)))
