-- The lists among the paths of a typed rule have types and items, and may be read after its tests or are among its ordered calls.
use Rattle.std.proofs.Common.{◌≡◌, ◌⊎◌, ⊎_elim, inl, inr, ℕ, suc, ◌+◌, Bool, true, false, cond, List, [], ◌∷◌, ◌++◌, Some, refl, sym, ap, ◌∙◌, subst, arith}
use Rattle.std.specs.Prelude.{◌||◌, Contains, IsSomeAnd, slice_get}
use Rattle.std.proofs.lemmas.List.Elements.{Contains-append_left, Contains-append_right, Contains-append_cases}
use Rattle.isle_core.specs.declared.TermId.{TermId}
use Rattle.isle_core.specs.declared.TypeId.{TypeId}
use Rattle.isle_core.specs.declared.types.ReturnKind.{ReturnKind}
use Rattle.isle_core.specs.declared.types.ReturnKind.TheVariants as return_kind
use Rattle.isle_core.specs.declared.types.Term.{Term}
use Rattle.isle_core.specs.declared.values.Callee.{Callee}
use Rattle.isle_core.specs.CalledTerms.{Extractor, Constructor, unless_made, extracted_by, extracted_by_all, extracted_in, called_by, called_by_all, called_by_bindings, called_in_iflets, called_in}
use Rattle.isle_core.specs.Calling.{Calling, ByTurns, ByCases, NoCall, HasKind, answers_often, calling, extracting, instance_of, impure, impure_all, impure_bindings, is_several, kind_of, may_be_nothing}
use Rattle.isle_core.specs.Expr as expr
use Rattle.isle_core.specs.Expr.{Expr, Exprs, NoExpr, AnExpr, LetBindings, NoBinding, ABinding}
use Rattle.isle_core.specs.ExprType.{Allowed, in_condition, in_right_side, IsExprOf, AreExprsOf, AreBindingsOf, AreIfLetsOf}
use Rattle.isle_core.specs.ExternalCall.{IsCall, IsExtraction}
use Rattle.isle_core.specs.HoldsImpure.{takes_turn, holds_impure, hold_impure}
use Rattle.isle_core.specs.Iterators.{calls_multi}
use Rattle.isle_core.specs.Making.{Making, making}
use Rattle.isle_core.specs.Match.{with}
use Rattle.isle_core.specs.Opening.{Opening, AsVariant, AsStruct, ByExtractor, opening, part_path}
use Rattle.isle_core.specs.OrderedCalls.{if_ordered, calls, calls_all, calls_bindings, rule_calls}
use Rattle.isle_core.specs.Path as path_form
use Rattle.isle_core.specs.Path.{Path, Arg, Called, Chosen, Inner, Extracted, Paths}
use Rattle.isle_core.specs.PathType.{IsPathOf, IsListOf, ArePathsOf}
use Rattle.isle_core.specs.Pattern as pattern
use Rattle.isle_core.specs.Pattern.{Pattern, Patterns, NoPattern, APattern, Var, ConstBool, ConstInt, ConstPrim, Wildcard, BindPattern, And}
use Rattle.isle_core.specs.PatternType.{part_types, IsPatternOf, ArePartsOf, AreEachOf, ArePatternsOf}
use Rattle.isle_core.specs.RightSide.{bool_type, path, paths as all_paths, path_or, term_path, call_path, let_places}
use Rattle.isle_core.specs.Rule.{IfLet, Rule, Environment}
use Rattle.isle_core.specs.RulePaths.{opening_paths, pattern_paths, parts_paths, each_paths, args_paths, iflets_paths, with_inner, expr_paths, exprs_paths, bindings_paths, rule_paths}
use Rattle.isle_core.specs.Serializable.{StandsCalled, StandsOn, AllStandOn}
use Rattle.isle_core.specs.Single.{AreOften}
use Rattle.isle_core.specs.Tests.{Test, Places, no_places, met_tests, met_after, opening_tests, tests, parts_tests, each_tests, after, args_tests, args_after, found_tests, called_tests, all_called_tests, bindings_called_tests, iflets_tests, rule_tests, rule_places}
use Rattle.isle_core.specs.TypedVariables.{typed_variables, all_typed, let_variables, rule_typed}
use Rattle.isle_core.proofs.ConditionTests.{no_impure}
use Rattle.isle_core.proofs.Contained.{head_contained, tail_contained, contained_cases, none_contained}
use Rattle.isle_core.proofs.EarlyPlaces.{AreEarly, part_early, with_early, expr_early, exprs_early, bindings_early}
use Rattle.isle_templates.specs.TypedRule.{IsRuleOf}
use Rattle.isle_sema.proofs.BuiltForms.{no_both}
use Rattle.isle_sema.proofs.ConditionPaths.{exprs_stand, expr_stands, let_stand}
use Rattle.isle_sema.proofs.OftenTerms.{Often, OpensOften, often_first, often_rest, called_often, opening_often}
use Rattle.isle_sema.proofs.OpenedTypes.{IsFinding, finds, may_find, lists, OpensInto, opens_into}
use Rattle.isle_sema.proofs.PassedConditions.{HasTypedConditions, conditions_typed, rule_placed}
use Rattle.isle_sema.proofs.SerializableCalls.{some_of, IsServed, takes_turns, has_cases, makes_variant, makes_struct, served, AreTypedPlaces, AreStandingPlaces, IsTypedPlace, IsStandingPlace, later_places, with_place, typed_places, standing_places, path_typed, paths_typed, let_typed, path_stands, paths_stand, let_stands}
use Rattle.isle_sema.proofs.StandingPaths.{Among, AreLate, all_stand_early}
use Rattle.isle_sema.proofs.TestablePatterns.{HasConstraints, Gives, extractor_gives, AreTyped, args_are, parts_there, parts_are, part_stands}

-- ---- lists

-- a list of these types whose item is among all paths, of a term that answers several times; it may be read after the tests, or is an ordered call
pub record IsListAt (env : Environment) (t : Term) (all : List Test) (ps ordered : List Path) (p : Path) : Type 0 where
  pub tys : List TypeId
  pub list : IsListOf env t p tys
  pub item : Contains ps (Chosen p)
  pub often : is_several (kind_of t.kind) ≡ true
  pub stands : ((holds_impure env p ≡ false) × StandsOn env all [] p) ⊎ Contains ordered p

-- what is called once holds a value
once_call : (c : Calling) → IsCall return_kind.Plain c → answers_often c ≡ false
once_call (ByTurns callee kind) h = ap is_several h
once_call (ByCases callee kind) h = ap is_several h
once_call NoCall h = refl

once_extraction : (c : Calling) → IsExtraction return_kind.Plain c → answers_often c ≡ false
once_extraction (ByCases callee kind) h = ap is_several h.0
once_extraction (ByTurns callee kind) h = absurd h
once_extraction NoCall h = refl

-- where a value stands there is no list
value_no_list : (env : Environment) (t : Term) (p : Path) (ty : TypeId) → IsPathOf env t p ty → calls_multi env p ≡ false
value_no_list env t (Called term qs k) ty h = once_call (calling env term) h.0
value_no_list env t (Extracted term q) ty h = once_extraction (extracting env term) h.0
value_no_list env t p ty h = refl

pub several_some : (k : ReturnKind) → is_several k ≡ true → may_be_nothing k ≡ false
several_some return_kind.Plain e = refl
several_some return_kind.Option e = cc
several_some return_kind.Iterator e = refl

module _ (env : Environment) (t : Term) (all : List Test) (ps ordered : List Path) where
  -- so each list among paths
  abbrev pub AreListsAt : List Path → Type 0
  AreListsAt qs = (p : Path) → Contains qs p → calls_multi env p ≡ true → IsListAt env t all ps ordered p

  no_lists : AreListsAt []
  no_lists p c e = absurd (none_contained p c)

  -- one path more
  one_list : (q : Path) (qs : List Path) → (calls_multi env q ≡ true → IsListAt env t all ps ordered q) → AreListsAt qs → AreListsAt (q ∷ qs)
  one_list q qs h k p c e = ⊎_elim (λ (s : q ≡ p). subst (IsListAt env t all ps ordered) s (h (subst (λ x. calls_multi env x ≡ true) (sym s) e))) (λ d. k p d e) (contained_cases q qs p c)

  -- one that is no list
  other_path : (q : Path) (qs : List Path) → calls_multi env q ≡ false → AreListsAt qs → AreListsAt (q ∷ qs)
  other_path q qs h k = one_list q qs (λ e. absurd (no_both e h)) k

  -- paths after paths
  both_lists : (xs ys : List Path) → AreListsAt xs → AreListsAt ys → AreListsAt (xs ++ ys)
  both_lists xs ys h k p c e = ⊎_elim (λ d. h p d e) (λ d. k p d e) (Contains-append_cases xs ys p c)

  -- ---- patterns

  -- what an extractor answers
  found_lists : {c : Calling} (term : TermId) (p : Path) (tys : List TypeId) → IsFinding c → extracting env term ≡ c → ((kind : ReturnKind) → IsExtraction kind c → Gives env t term p tys kind) → HasKind (Often t) c → StandsOn env all [] p → holds_impure env p ≡ false
      → Among (with_inner c (Extracted term p)) ps → AreListsAt (with_inner c (Extracted term p))
  found_lists term p tys (finds name) is g often s early a = other_path (Extracted term p) [] (ap answers_often is) no_lists
  found_lists term p tys (may_find name) is g often s early a = other_path (Extracted term p) (Inner (Extracted term p) ∷ []) (ap answers_often is) (other_path (Inner (Extracted term p)) [] refl no_lists)
  found_lists term p tys (lists name) is g often s early a =
      let q = Extracted term p in
      one_list q (Chosen q ∷ [])
      (λ e. record { tys = tys; list = g return_kind.Iterator (refl, tt); item = a (Chosen q) (tail_contained q (Chosen q ∷ []) (Chosen q) (head_contained (Chosen q) [])); often = often refl; stands = inl (early, s) })
      (other_path (Chosen q) [] refl no_lists)

  -- what takes a path apart
  opening_lists : (opened : Opening) (p : Path) (ty : TypeId) (tys : List TypeId) → OpensInto env ty opened tys → OpensOften (Often t) opened → IsPathOf env t p ty → StandsOn env all [] p → holds_impure env p ≡ false → Among (opening_paths opened p) ps → AreListsAt (opening_paths opened p)
  opening_lists (AsVariant of variant) p ty tys into often h s early a = no_lists
  opening_lists (AsStruct of) p ty tys into often h s early a = no_lists
  opening_lists (ByExtractor term c count) p ty tys into often h s early a = found_lists term p tys into.finding into.is (λ kind. extractor_gives env t term c count p ty tys kind into h) often s early a

  mutual
    -- the lists that a typed pattern goes through
    pattern_lists : (q : Pattern) (p : Path) (ty : TypeId) (places : Places) → IsPatternOf env ty q → IsPathOf env t p ty → StandsOn env all [] p → holds_impure env p ≡ false → HasConstraints all (tests env q p places) → AreOften (Often t) env (extracted_by env q)
        → Among (pattern_paths env q p) ps → AreListsAt (pattern_paths env q p)
    pattern_lists (Var of x) p ty places h typed s early among often a = no_lists
    pattern_lists (ConstBool b) p ty places h typed s early among often a = no_lists
    pattern_lists (ConstInt of n) p ty places h typed s early among often a = no_lists
    pattern_lists (ConstPrim of name) p ty places h typed s early among often a = no_lists
    pattern_lists (Wildcard of) p ty places h typed s early among often a = no_lists
    pattern_lists (pattern.Term of term qs) p ty places h typed s early among often a =
        let opened = opening env term in
        let k = parts_there env (part_types env (making env term) (slice_get env.terms term.0)) qs h.2 in
        let into = opens_into env ty term k.0 h.1 k.1 in
        let first = opening_tests opened p in
        let rest = parts_tests env opened qs 0 p places in
        let own = opening_paths opened p in
        let others = parts_paths env opened qs 0 p in
        both_lists own others
        (opening_lists opened p ty k.0 into (opening_often (Often t) env term qs often) typed s early (λ x d. a x (Contains-append_left own others x d)))
        (parts_lists qs opened p 0 k.0 places k.2 (parts_are env t opened p ty k.0 into typed) (λ j. part_stands env ty opened k.0 all [] p j into s early (λ y e d. among y e (Contains-append_left first rest y d))) early
        (λ y e d. among y e (Contains-append_right first rest y d)) (often_rest (Often t) env (unless_made env Extractor term) (extracted_by_all env qs) often) (λ x d. a x (Contains-append_right own others x d)))
    pattern_lists (BindPattern of x q) p ty places h typed s early among often a =
        let mid = met_after (places x.0) x.0 p places in
        pattern_lists q p ty mid h.1 typed s early (λ y e d. among y e (Contains-append_right (met_tests (places x.0) p) (tests env q p mid) y d)) often a
    pattern_lists (And of qs) p ty places h typed s early among often a = each_lists qs p ty places h.1 typed s early among often a

    -- those of parts
    parts_lists : (qs : Patterns) (opened : Opening) (p : Path) (i : ℕ) (tys : List TypeId) (places : Places) → ArePartsOf env (Some tys) qs → AreTyped env t (λ k. part_path opened k p) i tys → ((k : ℕ) → StandsOn env all [] (part_path opened k p)) → holds_impure env p ≡ false
        → HasConstraints all (parts_tests env opened qs i p places) → AreOften (Often t) env (extracted_by_all env qs) → Among (parts_paths env opened qs i p) ps → AreListsAt (parts_paths env opened qs i p)
    parts_lists NoPattern opened p i tys places h typed stand early among often a = no_lists
    parts_lists (APattern q qs) opened p i (ty ∷ tys) places h typed stand early among often a =
        let r = part_path opened i p in
        let mid = after env q r places in
        let first = tests env q r places in
        let rest = parts_tests env opened qs (suc i) p mid in
        let own = pattern_paths env q r in
        let others = parts_paths env opened qs (suc i) p in
        other_path r (own ++ others) (value_no_list env t r ty typed.0)
        (both_lists own others
        (pattern_lists q r ty places h.0 typed.0 (stand i) (part_early env opened i p early) (λ y e d. among y e (Contains-append_left first rest y d)) (often_first (Often t) env (extracted_by env q) (extracted_by_all env qs) often)
        (λ x d. a x (tail_contained r (own ++ others) x (Contains-append_left own others x d))))
        (parts_lists qs opened p (suc i) tys mid h.1 typed.1 stand early (λ y e d. among y e (Contains-append_right first rest y d)) (often_rest (Often t) env (extracted_by env q) (extracted_by_all env qs) often)
        (λ x d. a x (tail_contained r (own ++ others) x (Contains-append_right own others x d)))))
    parts_lists (APattern q qs) opened p i [] places h typed stand early among often a = absurd h

    -- those of several patterns on one path
    each_lists : (qs : Patterns) (p : Path) (ty : TypeId) (places : Places) → AreEachOf env ty qs → IsPathOf env t p ty → StandsOn env all [] p → holds_impure env p ≡ false → HasConstraints all (each_tests env qs p places) → AreOften (Often t) env (extracted_by_all env qs)
        → Among (each_paths env qs p) ps → AreListsAt (each_paths env qs p)
    each_lists NoPattern p ty places h typed s early among often a = no_lists
    each_lists (APattern q qs) p ty places h typed s early among often a =
        let mid = after env q p places in
        let first = tests env q p places in
        let rest = each_tests env qs p mid in
        let own = pattern_paths env q p in
        let others = each_paths env qs p in
        both_lists own others
        (pattern_lists q p ty places h.0 typed s early (λ y e d. among y e (Contains-append_left first rest y d)) (often_first (Often t) env (extracted_by env q) (extracted_by_all env qs) often) (λ x d. a x (Contains-append_left own others x d)))
        (each_lists qs p ty mid h.1 typed s early (λ y e d. among y e (Contains-append_right first rest y d)) (often_rest (Often t) env (extracted_by env q) (extracted_by_all env qs) often) (λ x d. a x (Contains-append_right own others x d)))

  -- those of patterns on arguments
  args_lists : (qs : List Pattern) (i : ℕ) (tys : List TypeId) (places : Places) → ArePatternsOf env tys qs → AreTyped env t Arg i tys → HasConstraints all (args_tests env qs i places) → AreOften (Often t) env (extracted_in env qs) → Among (args_paths env qs i) ps → AreListsAt (args_paths env qs i)
  args_lists [] i tys places h typed among often a = no_lists
  args_lists (q ∷ qs) i (ty ∷ tys) places h typed among often a =
      let mid = after env q (Arg i) places in
      let first = tests env q (Arg i) places in
      let rest = args_tests env qs (suc i) mid in
      let own = pattern_paths env q (Arg i) in
      let others = args_paths env qs (suc i) in
      other_path (Arg i) (own ++ others) refl
      (both_lists own others
      (pattern_lists q (Arg i) ty places h.0 typed.0 tt refl (λ y e d. among y e (Contains-append_left first rest y d)) (often_first (Often t) env (extracted_by env q) (extracted_in env qs) often)
      (λ x d. a x (tail_contained (Arg i) (own ++ others) x (Contains-append_left own others x d))))
      (args_lists qs (suc i) tys mid h.1 typed.1 (λ y e d. among y e (Contains-append_right first rest y d)) (often_rest (Often t) env (extracted_by env q) (extracted_in env qs) often)
      (λ x d. a x (tail_contained (Arg i) (own ++ others) x (Contains-append_right own others x d)))))
  args_lists (q ∷ qs) i [] places h typed among often a = absurd h

  -- ---- calls

  -- where a variable stands there is no list
  variable_list : (vars : List (TypeId × ℕ)) (places : Places) (ty : TypeId) (x : ℕ) → AreTypedPlaces env t vars places → Contains vars (ty, x) → AreListsAt (path_or (places x) ∷ [])
  variable_list vars places ty x typed c =
      let k = typed ty x c in
      other_path (path_or (places x)) [] (value_no_list env t (path_or (places x)) ty (subst (λ o. IsPathOf env t (path_or o) ty) (sym k.is) k.typed)) no_lists

  -- a call, which is a list if it answers several times
  call_lists : (d : Calling) (kind : ReturnKind) (callee : Callee) (term : TermId) (c : Term) (qs : Paths) (k : ℕ) → answers_often d ≡ is_several kind → IsCall kind d → calling env term ≡ d → slice_get env.terms term.0 ≡ Some c → ArePathsOf env t qs c.arg_tys → Often t kind
      → (is_several kind ≡ true → ((holds_impure env (Called term qs k) ≡ false) × StandsOn env all [] (Called term qs k)) ⊎ Contains ordered (Called term qs k)) → Among (with_inner (ByTurns callee kind) (Called term qs k)) ps → AreListsAt (with_inner (ByTurns callee kind) (Called term qs k))
  call_lists d return_kind.Plain callee term c qs k same call is there are often stands a = other_path (Called term qs k) [] (ap answers_often is ∙ same) no_lists
  call_lists d return_kind.Option callee term c qs k same call is there are often stands a =
      let q = Called term qs k in
      other_path q (Inner q ∷ []) (ap answers_often is ∙ same) (other_path (Inner q) [] refl no_lists)
  call_lists d return_kind.Iterator callee term c qs k same call is there are often stands a =
      let q = Called term qs k in
      one_list q (Chosen q ∷ [])
      (λ e. record {
        tys = c.ret_ty ∷ [];
        list = (subst (IsCall return_kind.Iterator) (sym is) call, subst (λ o. IsSomeAnd o (λ (x : Term). (x.ret_ty ∷ [] ≡ c.ret_ty ∷ []) × ArePathsOf env t qs x.arg_tys)) (sym there) (refl, are));
        item = a (Chosen q) (tail_contained q (Chosen q ∷ []) (Chosen q) (head_contained (Chosen q) []));
        often = often refl;
        stands = stands refl;
      })
      (other_path (Chosen q) [] refl no_lists)

  -- ---- conditions

  -- the value of a term of a condition
  condition_term : {mk : Making} {d : Calling} (term : TermId) (c : Term) (qs : Paths) (j : ℕ) → IsServed env in_condition c mk d → calling env term ≡ d → slice_get env.terms term.0 ≡ Some c → ArePathsOf env t qs c.arg_tys → AllStandOn env all [] qs → hold_impure env qs ≡ false → HasKind (Often t) d
      → Among (with_inner d (term_path mk term qs (instance_of d j))) ps → AreListsAt (with_inner d (term_path mk term qs (instance_of d j)))
  condition_term term c qs j (takes_turns callee kind fits turns) is there are s early often a = absurd cc
  condition_term term c qs j (has_cases callee kind fits) is there are s early often a =
      call_lists (ByCases callee kind) kind callee term c qs 0 refl refl is there are often
      (λ e. inl (ap (λ x. takes_turn x || hold_impure env qs) is ∙ early, subst (λ x. StandsCalled x (Contains {X = Path} [] (Called term qs 0)) (AllStandOn env all [] qs)) (sym is) s)) a
  condition_term term c qs j (makes_variant of variant h) is there are s early often a = other_path _ [] refl no_lists
  condition_term term c qs j (makes_struct of h) is there are s early often a = other_path _ [] refl no_lists

  mutual
    -- the lists of a condition's expression
    condition_lists : (vars : List (TypeId × ℕ)) (places : Places) → AreTypedPlaces env t vars places → AreStandingPlaces env all [] vars places → AreEarly env places → (e : Expr) (ty : TypeId) → IsExprOf env in_condition vars ty e → HasConstraints all (called_tests env e places)
        → AreOften (Often t) env (called_by env e) → Among (expr_paths env e places 0) ps → AreListsAt (expr_paths env e places 0)
    condition_lists vars places typed placed early (expr.Var of x) ty h among often a = variable_list vars places ty x.0 typed h.1
    condition_lists vars places typed placed early (expr.ConstBool b) ty h among often a = other_path (path_form.ConstBool bool_type b) [] refl no_lists
    condition_lists vars places typed placed early (expr.ConstInt of v) ty h among often a = other_path (path_form.ConstInt of v) [] refl no_lists
    condition_lists vars places typed placed early (expr.ConstPrim of name) ty h among often a = other_path (path_form.ConstPrim name) [] refl no_lists
    condition_lists vars places typed placed early (expr.Term of term es) ty h among often a =
        let c = some_of (slice_get env.terms term.0) _ h.1 in
        let qs = all_paths env es places 0 in
        let own = with_inner (calling env term) (call_path env term qs (0 + impure_all env es)) in
        let others = exprs_paths env es places 0 in
        let inner : HasConstraints all (all_called_tests env es places) = λ y e d. among y e (Contains-append_left (all_called_tests env es places) (found_tests (calling env term) (call_path env term qs 0)) y d) in
        both_lists others own
        (conditions_lists vars places typed placed early es c.0.arg_tys c.2.2 inner (often_first (Often t) env (called_by_all env es) (unless_made env Constructor term) often) (λ x d. a x (Contains-append_left others own x d)))
        (condition_term term c.0 qs (0 + impure_all env es) (served env in_condition term c.0 c.1 c.2.0) refl c.1 (paths_typed env t in_condition all vars places typed es 0 c.0.arg_tys c.2.2)
        (exprs_stand env all vars places placed early es c.0.arg_tys c.2.2 inner []) (exprs_early env vars c.0.arg_tys es places 0 c.2.2 early) (called_often (Often t) env term es often) (λ x d. a x (Contains-append_right others own x d)))
    condition_lists vars places typed placed early (expr.Let of bs e) ty h among often a =
        let mid = let_places env bs places 0 in
        let first = bindings_called_tests env bs places in
        let rest = called_tests env e mid in
        let own = bindings_paths env bs places 0 in
        let none = no_impure env vars ty (expr.Let of bs e) h in
        let zero : 0 + impure_bindings env bs ≡ 0 = omega (arith, none) in
        let before : HasConstraints all first = λ y k d. among y k (Contains-append_left first rest y d) in
        both_lists own (expr_paths env e mid (0 + impure_bindings env bs))
        (let_lists vars places typed placed early bs h.1 before (often_first (Often t) env (called_by_bindings env bs) (called_by env e) often) (λ x d. a x (Contains-append_left own (expr_paths env e mid (0 + impure_bindings env bs)) x d)))
        (subst (λ n. Among (expr_paths env e mid n) ps → AreListsAt (expr_paths env e mid n)) (sym zero)
        (condition_lists (let_variables vars bs) mid (let_typed env t in_condition all vars places typed bs 0 h.1) (let_stand env all vars places placed early bs h.1 before) (bindings_early env vars bs places 0 h.1 early) e ty h.2
        (λ y k d. among y k (Contains-append_right first rest y d)) (often_rest (Often t) env (called_by_bindings env bs) (called_by env e) often))
        (λ x d. a x (Contains-append_right own (expr_paths env e mid (0 + impure_bindings env bs)) x d)))

    -- those of expressions in order
    conditions_lists : (vars : List (TypeId × ℕ)) (places : Places) → AreTypedPlaces env t vars places → AreStandingPlaces env all [] vars places → AreEarly env places → (es : Exprs) (tys : List TypeId) → AreExprsOf env in_condition vars tys es → HasConstraints all (all_called_tests env es places)
        → AreOften (Often t) env (called_by_all env es) → Among (exprs_paths env es places 0) ps → AreListsAt (exprs_paths env es places 0)
    conditions_lists vars places typed placed early NoExpr tys h among often a = no_lists
    conditions_lists vars places typed placed early (AnExpr e es) (ty ∷ tys) h among often a =
        let none = no_impure env vars ty e h.0 in
        let zero : 0 + impure env e ≡ 0 = omega (arith, none) in
        let first = called_tests env e places in
        let rest = all_called_tests env es places in
        let own = expr_paths env e places 0 in
        let others = exprs_paths env es places (0 + impure env e) in
        both_lists own others
        (condition_lists vars places typed placed early e ty h.0 (λ y k d. among y k (Contains-append_left first rest y d)) (often_first (Often t) env (called_by env e) (called_by_all env es) often) (λ x d. a x (Contains-append_left own others x d)))
        (subst (λ n. Among (exprs_paths env es places n) ps → AreListsAt (exprs_paths env es places n)) (sym zero)
        (conditions_lists vars places typed placed early es tys h.1 (λ y k d. among y k (Contains-append_right first rest y d)) (often_rest (Often t) env (called_by env e) (called_by_all env es) often)) (λ x d. a x (Contains-append_right own others x d)))
    conditions_lists vars places typed placed early (AnExpr e es) [] h among often a = absurd h

    -- those of the values of a `let`
    let_lists : (vars : List (TypeId × ℕ)) (places : Places) → AreTypedPlaces env t vars places → AreStandingPlaces env all [] vars places → AreEarly env places → (bs : LetBindings) → AreBindingsOf env in_condition vars bs → HasConstraints all (bindings_called_tests env bs places)
        → AreOften (Often t) env (called_by_bindings env bs) → Among (bindings_paths env bs places 0) ps → AreListsAt (bindings_paths env bs places 0)
    let_lists vars places typed placed early NoBinding h among often a = no_lists
    let_lists vars places typed placed early (ABinding x of e bs) h among often a =
        let p = path env e places 0 in
        let mid = with places x.0 p in
        let none = no_impure env vars of e h.1 in
        let zero : 0 + impure env e ≡ 0 = omega (arith, none) in
        let first = called_tests env e places in
        let rest = bindings_called_tests env bs mid in
        let own = expr_paths env e places 0 in
        let others = bindings_paths env bs mid (0 + impure env e) in
        let before : HasConstraints all first = λ y k d. among y k (Contains-append_left first rest y d) in
        both_lists own others
        (condition_lists vars places typed placed early e of h.1 before (often_first (Often t) env (called_by env e) (called_by_bindings env bs) often) (λ q d. a q (Contains-append_left own others q d)))
        (subst (λ n. Among (bindings_paths env bs mid n) ps → AreListsAt (bindings_paths env bs mid n)) (sym zero)
        (let_lists ((of, x.0) ∷ vars) mid (with_place (λ ty o. IsTypedPlace env t o ty) vars places x.0 of p h.0 (record { path = p; is = refl; typed = path_typed env t in_condition all vars places typed e 0 of h.1 }) typed)
        (with_place (λ ty o. IsStandingPlace env all [] o) vars places x.0 of p h.0 (record { path = p; is = refl; stands = λ done b. expr_stands env all vars places placed early e of h.1 before done }) placed)
        (with_early env places x.0 p (expr_early env vars of e places 0 h.1 early) early) bs h.2 (λ y k d. among y k (Contains-append_right first rest y d)) (often_rest (Often t) env (called_by env e) (called_by_bindings env bs) often))
        (λ q d. a q (Contains-append_right own others q d)))

  -- those of conditions
  iflets_lists : (cs : List IfLet) (sofar : List (TypeId × ℕ)) (places : Places) → AreIfLetsOf env sofar cs → HasTypedConditions env t all sofar cs places → HasConstraints all (iflets_tests env cs places) → AreOften (Often t) env (called_in_iflets env cs) → Among (iflets_paths env cs places) ps
      → AreListsAt (iflets_paths env cs places)
  iflets_lists [] sofar places h typed among often a = no_lists
  iflets_lists (c ∷ cs) sofar places h typed among often a =
      let q = path env c.rhs places 0 in
      let mid = after env c.lhs q places in
      let called = called_tests env c.rhs places in
      let put = tests env c.lhs q places in
      let rest = iflets_tests env cs mid in
      let value = expr_paths env c.rhs places 0 in
      let parts = pattern_paths env c.lhs q in
      let others = iflets_paths env cs mid in
      let own = often_first (Often t) env (called_by env c.rhs ++ extracted_by env c.lhs) (called_in_iflets env cs) often in
      let before : HasConstraints all called = λ y k d. among y k (Contains-append_left (called ++ put) rest y (Contains-append_left called put y d)) in
      both_lists (value ++ parts) others
      (both_lists value parts
      (condition_lists sofar places typed.0 typed.1 typed.2 c.rhs h.0.ty h.0.rhs before (often_first (Often t) env (called_by env c.rhs) (extracted_by env c.lhs) own) (λ x d. a x (Contains-append_left (value ++ parts) others x (Contains-append_left value parts x d))))
      (pattern_lists c.lhs q h.0.ty places h.0.lhs (path_typed env t in_condition all sofar places typed.0 c.rhs 0 h.0.ty h.0.rhs) (expr_stands env all sofar places typed.1 typed.2 c.rhs h.0.ty h.0.rhs before []) (expr_early env sofar h.0.ty c.rhs places 0 h.0.rhs typed.2)
      (λ y k d. among y k (Contains-append_left (called ++ put) rest y (Contains-append_right called put y d))) (often_rest (Often t) env (called_by env c.rhs) (extracted_by env c.lhs) own) (λ x d. a x (Contains-append_left (value ++ parts) others x (Contains-append_right value parts x d)))))
      (iflets_lists cs (sofar ++ typed_variables c.lhs) mid h.1 typed.3 (λ y k d. among y k (Contains-append_right (called ++ put) rest y d)) (often_rest (Often t) env (called_by env c.rhs ++ extracted_by env c.lhs) (called_in_iflets env cs) often)
      (λ x d. a x (Contains-append_right (value ++ parts) others x d)))

  -- ---- right sides

  module _ (allowed : Allowed) (late : is_several (kind_of t.kind) ≡ true → AreLate env ordered) where
    -- a pure list may be read after the tests, or is ordered
    case_list : (callee : Callee) (term : TermId) (qs : Paths) (k : ℕ) (holds : Bool) → calling env term ≡ ByCases callee return_kind.Iterator → holds_impure env (Called term qs k) ≡ holds → AllStandOn env all ordered qs → is_several (kind_of t.kind) ≡ true → Among (cond holds (Called term qs k ∷ []) []) ordered
        → ((holds_impure env (Called term qs k) ≡ false) × StandsOn env all [] (Called term qs k)) ⊎ Contains ordered (Called term qs k)
    case_list callee term qs k true is holds s several a = inr (a (Called term qs k) (head_contained (Called term qs k) []))
    case_list callee term qs k false is holds s several a =
        let early : hold_impure env qs ≡ false = ap (λ x. takes_turn x || hold_impure env qs) (sym is) ∙ holds in
        inl (holds, subst (λ x. StandsCalled x (Contains {X = Path} [] (Called term qs k)) (AllStandOn env all [] qs)) (sym is) (all_stand_early env qs all ordered (late several) early s))

    pure_lists : (callee : Callee) (kind : ReturnKind) (term : TermId) (c : Term) (qs : Paths) (k : ℕ) → calling env term ≡ ByCases callee kind → slice_get env.terms term.0 ≡ Some c → ArePathsOf env t qs c.arg_tys → AllStandOn env all ordered qs → Often t kind
        → Among (if_ordered env (ByCases callee kind) (Called term qs k)) ordered → Among (with_inner (ByCases callee kind) (Called term qs k)) ps → AreListsAt (with_inner (ByCases callee kind) (Called term qs k))
    pure_lists callee return_kind.Plain term c qs k is there are s often b a = call_lists (ByCases callee return_kind.Plain) return_kind.Plain callee term c qs k refl refl is there are often (λ e. cc) a
    pure_lists callee return_kind.Option term c qs k is there are s often b a = call_lists (ByCases callee return_kind.Option) return_kind.Option callee term c qs k refl refl is there are often (λ e. cc) a
    pure_lists callee return_kind.Iterator term c qs k is there are s often b a =
        call_lists (ByCases callee return_kind.Iterator) return_kind.Iterator callee term c qs k refl refl is there are often (λ e. case_list callee term qs k (holds_impure env (Called term qs k)) is refl s (often refl) b) a

    -- the value of a term
    term_lists : {mk : Making} {d : Calling} (term : TermId) (c : Term) (qs : Paths) (k : ℕ) → IsServed env allowed c mk d → calling env term ≡ d → slice_get env.terms term.0 ≡ Some c → ArePathsOf env t qs c.arg_tys → AllStandOn env all ordered qs → HasKind (Often t) d
        → Among (if_ordered env d (term_path mk term qs k)) ordered → Among (with_inner d (term_path mk term qs k)) ps → AreListsAt (with_inner d (term_path mk term qs k))
    term_lists term c qs k (takes_turns callee kind fits turns) is there are s often b a =
        call_lists (ByTurns callee kind) kind callee term c qs k refl refl is there are often (λ e. inr (b (Called term qs k) (head_contained (Called term qs k) []))) a
    term_lists term c qs k (has_cases callee kind fits) is there are s often b a = pure_lists callee kind term c qs k is there are s often b a
    term_lists term c qs k (makes_variant of variant h) is there are s often b a = other_path _ [] refl no_lists
    term_lists term c qs k (makes_struct of h) is there are s often b a = other_path _ [] refl no_lists

    mutual
      -- the lists of a right side
      right_lists : (vars : List (TypeId × ℕ)) (places : Places) → AreTypedPlaces env t vars places → AreStandingPlaces env all ordered vars places → (e : Expr) (n : ℕ) (ty : TypeId) → IsExprOf env allowed vars ty e → AreOften (Often t) env (called_by env e)
          → Among (calls env e places n) ordered → Among (expr_paths env e places n) ps → AreListsAt (expr_paths env e places n)
      right_lists vars places typed placed (expr.Var of x) n ty h often b a = variable_list vars places ty x.0 typed h.1
      right_lists vars places typed placed (expr.ConstBool v) n ty h often b a = other_path (path_form.ConstBool bool_type v) [] refl no_lists
      right_lists vars places typed placed (expr.ConstInt of v) n ty h often b a = other_path (path_form.ConstInt of v) [] refl no_lists
      right_lists vars places typed placed (expr.ConstPrim of name) n ty h often b a = other_path (path_form.ConstPrim name) [] refl no_lists
      right_lists vars places typed placed (expr.Term of term es) n ty h often b a =
          let c = some_of (slice_get env.terms term.0) _ h.1 in
          let qs = all_paths env es places n in
          let q = call_path env term qs (n + impure_all env es) in
          let own = with_inner (calling env term) q in
          let others = exprs_paths env es places n in
          let made = calls_all env es places n in
          let last = if_ordered env (calling env term) q in
          let before : Among made ordered = λ x d. b x (Contains-append_left made last x d) in
          both_lists others own (rights_lists vars places typed placed es n c.0.arg_tys c.2.2 (often_first (Often t) env (called_by_all env es) (unless_made env Constructor term) often) before (λ x d. a x (Contains-append_left others own x d)))
          (term_lists term c.0 qs (instance_of (calling env term) (n + impure_all env es)) (served env allowed term c.0 c.1 c.2.0) refl c.1 (paths_typed env t allowed all vars places typed es n c.0.arg_tys c.2.2)
          (paths_stand env t allowed all vars places ordered placed es n c.0.arg_tys c.2.2 before) (called_often (Often t) env term es often) (λ x d. b x (Contains-append_right made last x d)) (λ x d. a x (Contains-append_right others own x d)))
      right_lists vars places typed placed (expr.Let of bs e) n ty h often b a =
          let mid = let_places env bs places n in
          let m = n + impure_bindings env bs in
          let own = bindings_paths env bs places n in
          let others = expr_paths env e mid m in
          let made = calls_bindings env bs places n in
          let last = calls env e mid m in
          let before : Among made ordered = λ x d. b x (Contains-append_left made last x d) in
          both_lists own others (values_lists vars places typed placed bs n h.1 (often_first (Often t) env (called_by_bindings env bs) (called_by env e) often) before (λ x d. a x (Contains-append_left own others x d)))
          (right_lists (let_variables vars bs) mid (let_typed env t allowed all vars places typed bs n h.1) (let_stands env t allowed all vars places ordered placed bs n h.1 before) e m ty h.2 (often_rest (Often t) env (called_by_bindings env bs) (called_by env e) often)
          (λ x d. b x (Contains-append_right made last x d)) (λ x d. a x (Contains-append_right own others x d)))

      -- those of expressions in order
      rights_lists : (vars : List (TypeId × ℕ)) (places : Places) → AreTypedPlaces env t vars places → AreStandingPlaces env all ordered vars places → (es : Exprs) (n : ℕ) (tys : List TypeId) → AreExprsOf env allowed vars tys es → AreOften (Often t) env (called_by_all env es)
          → Among (calls_all env es places n) ordered → Among (exprs_paths env es places n) ps → AreListsAt (exprs_paths env es places n)
      rights_lists vars places typed placed NoExpr n tys h often b a = no_lists
      rights_lists vars places typed placed (AnExpr e es) n (ty ∷ tys) h often b a =
          let m = n + impure env e in
          let own = expr_paths env e places n in
          let others = exprs_paths env es places m in
          let made = calls env e places n in
          let last = calls_all env es places m in
          both_lists own others
          (right_lists vars places typed placed e n ty h.0 (often_first (Often t) env (called_by env e) (called_by_all env es) often) (λ x d. b x (Contains-append_left made last x d)) (λ x d. a x (Contains-append_left own others x d)))
          (rights_lists vars places typed placed es m tys h.1 (often_rest (Often t) env (called_by env e) (called_by_all env es) often) (λ x d. b x (Contains-append_right made last x d)) (λ x d. a x (Contains-append_right own others x d)))
      rights_lists vars places typed placed (AnExpr e es) n [] h often b a = absurd h

      -- those of the values of a `let`
      values_lists : (vars : List (TypeId × ℕ)) (places : Places) → AreTypedPlaces env t vars places → AreStandingPlaces env all ordered vars places → (bs : LetBindings) (n : ℕ) → AreBindingsOf env allowed vars bs → AreOften (Often t) env (called_by_bindings env bs)
          → Among (calls_bindings env bs places n) ordered → Among (bindings_paths env bs places n) ps → AreListsAt (bindings_paths env bs places n)
      values_lists vars places typed placed NoBinding n h often b a = no_lists
      values_lists vars places typed placed (ABinding x of e bs) n h often b a =
          let p = path env e places n in
          let mid = with places x.0 p in
          let m = n + impure env e in
          let own = expr_paths env e places n in
          let others = bindings_paths env bs mid m in
          let made = calls env e places n in
          let last = calls_bindings env bs mid m in
          let one : AreBindingsOf env allowed vars (ABinding x of e NoBinding) = (h.0, h.1, tt) in
          let before : Among made ordered = λ q d. b q (Contains-append_left made last q d) in
          both_lists own others (right_lists vars places typed placed e n of h.1 (often_first (Often t) env (called_by env e) (called_by_bindings env bs) often) before (λ q d. a q (Contains-append_left own others q d)))
          (values_lists ((of, x.0) ∷ vars) mid (let_typed env t allowed all vars places typed (ABinding x of e NoBinding) n one)
          (with_place (λ ty o. IsStandingPlace env all ordered o) vars places x.0 of p h.0 (record { path = p; is = refl; stands = λ done j. path_stands env t allowed all vars places done (later_places env all ordered done vars places j placed) e n of h.1 (λ q d. j q (before q d)) }) placed) bs m h.2
          (often_rest (Often t) env (called_by env e) (called_by_bindings env bs) often) (λ q d. b q (Contains-append_right made last q d)) (λ q d. a q (Contains-append_right own others q d)))

-- the lists of a rule
pub rule_lists : (env : Environment) (t : Term) (all : List Test) (ps ordered : List Path) (r : Rule) (n : ℕ) → IsRuleOf env t r → HasConstraints all (rule_tests env r) → AreOften (Often t) env (called_in env r) → (is_several (kind_of t.kind) ≡ true → AreLate env ordered) → Among (rule_calls env r n) ordered
    → Among (rule_paths env r n) ps → AreListsAt env t all ps ordered (rule_paths env r n)
rule_lists env t all ps ordered r n h among often late b a =
    let places = rule_places env r in
    let vars = rule_typed r in
    let bound = args_after env r.args 0 no_places in
    let first = args_paths env r.args 0 in
    let conditions = iflets_paths env r.iflets bound in
    let right = expr_paths env r.rhs places n in
    let put = args_tests env r.args 0 no_places in
    let rest = iflets_tests env r.iflets bound in
    let placed = rule_placed env t r h.args h.iflets h.variables all among in
    let left = often_first (Often t) env (extracted_in env r.args ++ called_in_iflets env r.iflets) (called_by env r.rhs) often in
    both_lists env t all ps ordered first (conditions ++ right)
    (args_lists env t all ps ordered r.args 0 t.arg_tys no_places h.args (args_are env t) (λ y k d. among y k (Contains-append_left put rest y d)) (often_first (Often t) env (extracted_in env r.args) (called_in_iflets env r.iflets) left) (λ x d. a x (Contains-append_left first (conditions ++ right) x d)))
    (both_lists env t all ps ordered conditions right
    (iflets_lists env t all ps ordered r.iflets (all_typed r.args) bound h.iflets (conditions_typed env t r h.args h.iflets h.variables all among) (λ y k d. among y k (Contains-append_right put rest y d)) (often_rest (Often t) env (extracted_in env r.args) (called_in_iflets env r.iflets) left)
    (λ x d. a x (Contains-append_right first (conditions ++ right) x (Contains-append_left conditions right x d))))
    (right_lists env t all ps ordered (in_right_side (may_be_nothing (kind_of t.kind))) late vars places (typed_places env t all vars places placed) (standing_places env t all ordered vars places placed) r.rhs n t.ret_ty h.rhs
    (often_rest (Often t) env (extracted_in env r.args ++ called_in_iflets env r.iflets) (called_by env r.rhs) often) b (λ x d. a x (Contains-append_right first (conditions ++ right) x (Contains-append_right conditions right x d)))))
