-- The expressions of typed conditions stand after the tests of their calls, which are ready for a block.
use Rattle.std.proofs.Common.{◌≡◌, ⊎_elim, ℕ, ◌+◌, List, [], ◌∷◌, Some, false, refl, sym, ap, ◌∙◌, subst, arith, inr}
use Rattle.std.specs.Prelude.{◌||◌, IsSomeAnd, Contains, slice_get}
use Rattle.std.proofs.lemmas.List.Elements.{Contains-append_left, Contains-append_right, Contains-append_cases}
use Rattle.isle_core.specs.declared.TermId.{TermId}
use Rattle.isle_core.specs.declared.TypeId.{TypeId}
use Rattle.isle_core.specs.declared.rule_sets.Constraint.TheVariants as constraint
use Rattle.isle_core.specs.declared.types.ReturnKind.TheVariants as return_kind
use Rattle.isle_core.specs.declared.types.Term.{Term}
use Rattle.isle_core.specs.Calling.{Calling, calling, instance_of, impure, impure_all, impure_bindings}
use Rattle.isle_core.specs.Expr as expr
use Rattle.isle_core.specs.Expr.{Expr, Exprs, NoExpr, AnExpr, LetBindings, NoBinding, ABinding}
use Rattle.isle_core.specs.ExprType.{in_condition, IsExprOf, AreExprsOf, AreBindingsOf}
use Rattle.isle_core.specs.ExternalCall.{IsCall}
use Rattle.isle_core.specs.HoldsImpure.{takes_turn, hold_impure}
use Rattle.isle_core.specs.Making.{Making}
use Rattle.isle_core.specs.Match.{with}
use Rattle.isle_core.specs.Path.{Path, Called, Paths}
use Rattle.isle_core.specs.PathType.{ArePathsOf}
use Rattle.isle_core.specs.RightSide.{path_or, term_path, call_path, answer_path, path, paths as all_paths, let_places}
use Rattle.isle_core.specs.Rule.{Environment}
use Rattle.isle_core.specs.Serializable.{StandsCalled, StandsOn, AllStandOn}
use Rattle.isle_core.specs.Tests.{Test, Is, Equal, Places, found_tests, called_tests, all_called_tests, bindings_called_tests}
use Rattle.isle_core.specs.TypedVariables.{let_variables}
use Rattle.isle_core.proofs.ConditionTests.{no_impure}
use Rattle.isle_core.proofs.EarlyPlaces.{AreEarly, with_early, expr_early, exprs_early, bindings_early}
use Rattle.isle_core.proofs.Contained.{head_contained, none_contained}
use Rattle.isle_sema.proofs.BuiltForms.{no_both}
use Rattle.isle_sema.proofs.StandingPaths.{AreAlso, stands_still}
use Rattle.isle_sema.proofs.SerializableCalls.{some_of, IsServed, takes_turns, has_cases, makes_variant, makes_struct, served, AreTypedPlaces, AreStandingPlaces, IsStandingPlace, with_place, paths_typed, let_typed}
use Rattle.isle_sema.proofs.TestablePatterns.{HasConstraints, AreTestableAt, testable_more, found_no_equality}

-- ---- no equalities

module _ (env : Environment) where
  mutual
    -- the calls of an expression test no equality
    pub called_no_equality : (e : Expr) (places : Places) (a b : Path) → Contains (called_tests env e places) (Equal a b) → ⊥
    called_no_equality (expr.Var of x) places a b c = none_contained (Equal a b) c
    called_no_equality (expr.ConstBool v) places a b c = none_contained (Equal a b) c
    called_no_equality (expr.ConstInt of v) places a b c = none_contained (Equal a b) c
    called_no_equality (expr.ConstPrim of name) places a b c = none_contained (Equal a b) c
    called_no_equality (expr.Term of term es) places a b c =
        let q = call_path env term (all_paths env es places 0) 0 in
        ⊎_elim (λ d. all_no_equality es places a b d) (λ d. found_no_equality (calling env term) q a b d) (Contains-append_cases (all_called_tests env es places) (found_tests (calling env term) q) (Equal a b) c)
    called_no_equality (expr.Let of bs inner) places a b c =
        let mid = let_places env bs places 0 in
        ⊎_elim (λ d. bindings_no_equality bs places a b d) (λ d. called_no_equality inner mid a b d) (Contains-append_cases (bindings_called_tests env bs places) (called_tests env inner mid) (Equal a b) c)

    all_no_equality : (es : Exprs) (places : Places) (a b : Path) → Contains (all_called_tests env es places) (Equal a b) → ⊥
    all_no_equality NoExpr places a b c = none_contained (Equal a b) c
    all_no_equality (AnExpr e es) places a b c = ⊎_elim (λ d. called_no_equality e places a b d) (λ d. all_no_equality es places a b d) (Contains-append_cases (called_tests env e places) (all_called_tests env es places) (Equal a b) c)

    bindings_no_equality : (bs : LetBindings) (places : Places) (a b : Path) → Contains (bindings_called_tests env bs places) (Equal a b) → ⊥
    bindings_no_equality NoBinding places a b c = none_contained (Equal a b) c
    bindings_no_equality (ABinding x ty e bs) places a b c =
        let mid = with places x.0 (path env e places 0) in
        ⊎_elim (λ d. called_no_equality e places a b d) (λ d. bindings_no_equality bs mid a b d) (Contains-append_cases (called_tests env e places) (bindings_called_tests env bs mid) (Equal a b) c)

-- ---- what may be read

module _ (env : Environment) where
  -- the value of a term of a condition, after the test that it is something
  term_stands : {mk : Making} {d : Calling} (tests : List Test) (done : List Path) (term : TermId) (c : Term) (ps : Paths) (k j : ℕ) → IsServed env in_condition c mk d → calling env term ≡ d → AllStandOn env tests done ps → hold_impure env ps ≡ false
      → HasConstraints tests (found_tests d (term_path mk term ps (instance_of d j))) → StandsOn env tests done (answer_path d (term_path mk term ps (instance_of d k)))
  term_stands tests done term c ps k j (takes_turns callee kind fits turns) is s early among = absurd cc
  term_stands tests done term c ps k j (has_cases callee return_kind.Plain fits) is s early among = subst (λ x. StandsCalled x (Contains done (Called term ps 0)) (AllStandOn env tests done ps)) (sym is) s
  term_stands tests done term c ps k j (has_cases callee return_kind.Option fits) is s early among = inr (among (Is (Called term ps 0) constraint.Some) refl (head_contained (Is (Called term ps 0) constraint.Some) []))
  term_stands tests done term c ps k j (has_cases callee return_kind.Iterator fits) is s early among =
      (subst (λ x. StandsCalled x (Contains done (Called term ps 0)) (AllStandOn env tests done ps)) (sym is) s, λ e. absurd (no_both e (ap (λ x. takes_turn x || hold_impure env ps) is ∙ early)))
  term_stands tests done term c ps k j (makes_variant of variant h) is s early among = s
  term_stands tests done term c ps k j (makes_struct of h) is s early among = s

  mutual
    -- the path of a condition's expression may be read after the tests of its calls
    pub expr_stands : (tests : List Test) (vars : List (TypeId × ℕ)) (places : Places) → AreStandingPlaces env tests [] vars places → AreEarly env places → (e : Expr) (ty : TypeId) → IsExprOf env in_condition vars ty e → HasConstraints tests (called_tests env e places) → (done : List Path) → StandsOn env tests done (path env e places 0)
    expr_stands tests vars places placed early (expr.Var of x) ty h among done = let k = placed ty x.0 h.1 in subst (λ o. StandsOn env tests done (path_or o)) (sym k.is) (k.stands done (λ p c. absurd (none_contained p c)))
    expr_stands tests vars places placed early (expr.ConstBool b) ty h among done = tt
    expr_stands tests vars places placed early (expr.ConstInt of v) ty h among done = tt
    expr_stands tests vars places placed early (expr.ConstPrim of name) ty h among done = tt
    expr_stands tests vars places placed early (expr.Term of term es) ty h among done =
        let c = some_of (slice_get env.terms term.0) _ h.1 in
        let ps = all_paths env es places 0 in
        let found = found_tests (calling env term) (call_path env term ps 0) in
        term_stands tests done term c.0 ps (0 + impure_all env es) 0 (served env in_condition term c.0 c.1 c.2.0) refl
        (exprs_stand tests vars places placed early es c.0.arg_tys c.2.2 (λ y e d. among y e (Contains-append_left (all_called_tests env es places) found y d)) done) (exprs_early env vars c.0.arg_tys es places 0 c.2.2 early)
        (λ y e d. among y e (Contains-append_right (all_called_tests env es places) found y d))
    expr_stands tests vars places placed early (expr.Let of bs inner) ty h among done =
        let mid = let_places env bs places 0 in
        let none = no_impure env vars ty (expr.Let of bs inner) h in
        let zero : 0 + impure_bindings env bs ≡ 0 = omega (arith, none) in
        subst (λ n. StandsOn env tests done (path env inner mid n)) (sym zero)
        (expr_stands tests (let_variables vars bs) mid (let_stand tests vars places placed early bs h.1 (λ y e d. among y e (Contains-append_left (bindings_called_tests env bs places) (called_tests env inner mid) y d))) (bindings_early env vars bs places 0 h.1 early) inner ty h.2
        (λ y e d. among y e (Contains-append_right (bindings_called_tests env bs places) (called_tests env inner mid) y d)) done)

    -- so of expressions in order
    pub exprs_stand : (tests : List Test) (vars : List (TypeId × ℕ)) (places : Places) → AreStandingPlaces env tests [] vars places → AreEarly env places → (es : Exprs) (tys : List TypeId) → AreExprsOf env in_condition vars tys es → HasConstraints tests (all_called_tests env es places) → (done : List Path)
        → AllStandOn env tests done (all_paths env es places 0)
    exprs_stand tests vars places placed early NoExpr tys h among done = tt
    exprs_stand tests vars places placed early (AnExpr e es) (ty ∷ tys) h among done =
        let none = no_impure env vars ty e h.0 in
        let zero : 0 + impure env e ≡ 0 = omega (arith, none) in (
          expr_stands tests vars places placed early e ty h.0 (λ y k d. among y k (Contains-append_left (called_tests env e places) (all_called_tests env es places) y d)) done,
          subst (λ n. AllStandOn env tests done (all_paths env es places n)) (sym zero) (exprs_stand tests vars places placed early es tys h.1 (λ y k d. among y k (Contains-append_right (called_tests env e places) (all_called_tests env es places) y d)) done),
        )
    exprs_stand tests vars places placed early (AnExpr e es) [] h among done = absurd h

    -- so of where the variables of a `let` stand
    pub let_stand : (tests : List Test) (vars : List (TypeId × ℕ)) (places : Places) → AreStandingPlaces env tests [] vars places → AreEarly env places → (bs : LetBindings) → AreBindingsOf env in_condition vars bs → HasConstraints tests (bindings_called_tests env bs places)
        → AreStandingPlaces env tests [] (let_variables vars bs) (let_places env bs places 0)
    let_stand tests vars places placed early NoBinding h among = placed
    let_stand tests vars places placed early (ABinding x of e bs) h among =
        let p = path env e places 0 in
        let mid = with places x.0 p in
        let none = no_impure env vars of e h.1 in
        let zero : 0 + impure env e ≡ 0 = omega (arith, none) in
        subst (λ n. AreStandingPlaces env tests [] (let_variables ((of, x.0) ∷ vars) bs) (let_places env bs mid n)) (sym zero)
        (let_stand tests ((of, x.0) ∷ vars) mid
        (with_place (λ ty o. IsStandingPlace env tests [] o) vars places x.0 of p h.0
        (record { path = p; is = refl; stands = λ later b. expr_stands tests vars places placed early e of h.1 (λ y k d. among y k (Contains-append_left (called_tests env e places) (bindings_called_tests env bs mid) y d)) later }) placed) (with_early env places x.0 p (expr_early env vars of e places 0 h.1 early) early) bs h.2
        (λ y k d. among y k (Contains-append_right (called_tests env e places) (bindings_called_tests env bs mid) y d)))

-- places stand after more tests too
pub places_still : (env : Environment) (before later : List Test) (vars : List (TypeId × ℕ)) (places : Places) → AreAlso before later → AreStandingPlaces env before [] vars places → AreStandingPlaces env later [] vars places
places_still env before later vars places a h ty x c = let k = h ty x c in record { path = k.path; is = k.is; stands = λ done b. stands_still env k.path before later done a (k.stands done b) }

-- ---- constraints

module _ (env : Environment) (t : Term) where
  -- that a call finds something
  call_testable : {mk : Making} {d : Calling} (before : List Test) (term : TermId) (c : Term) (ps : Paths) (k : ℕ) → IsServed env in_condition c mk d → calling env term ≡ d → slice_get env.terms term.0 ≡ Some c → ArePathsOf env t ps c.arg_tys → AllStandOn env before [] ps
      → AreTestableAt env t before (found_tests d (term_path mk term ps (instance_of d k)))
  call_testable before term c ps k (takes_turns callee kind fits turns) is there are s = absurd cc
  call_testable before term c ps k (has_cases callee return_kind.Plain fits) is there are s = tt
  call_testable before term c ps k (has_cases callee return_kind.Option fits) is there are s = (
    record {
      test = (c.ret_ty ∷ [], (subst (IsCall return_kind.Option) (sym is) refl, subst (λ o. IsSomeAnd o (λ (x : Term). (x.ret_ty ∷ [] ≡ c.ret_ty ∷ []) × ArePathsOf env t ps x.arg_tys)) (sym there) (refl, are)));
      stands = subst (λ x. StandsCalled x (Contains {X = Path} [] (Called term ps 0)) (AllStandOn env before [] ps)) (sym is) s;
    },
    tt,
  )
  call_testable before term c ps k (has_cases callee return_kind.Iterator fits) is there are s = tt
  call_testable before term c ps k (makes_variant of variant h) is there are s = tt
  call_testable before term c ps k (makes_struct of h) is there are s = tt

  mutual
    -- the tests of the calls of a condition's expression
    pub expr_testable : (vars : List (TypeId × ℕ)) (places : Places) (before : List Test) → AreTypedPlaces env t vars places → AreStandingPlaces env before [] vars places → AreEarly env places → (e : Expr) (ty : TypeId) → IsExprOf env in_condition vars ty e → AreTestableAt env t before (called_tests env e places)
    expr_testable vars places before typed placed early (expr.Var of x) ty h = tt
    expr_testable vars places before typed placed early (expr.ConstBool b) ty h = tt
    expr_testable vars places before typed placed early (expr.ConstInt of v) ty h = tt
    expr_testable vars places before typed placed early (expr.ConstPrim of name) ty h = tt
    expr_testable vars places before typed placed early (expr.Term of term es) ty h =
        let c = some_of (slice_get env.terms term.0) _ h.1 in
        let ps = all_paths env es places 0 in
        testable_more env t before (all_called_tests env es places) (found_tests (calling env term) (call_path env term ps 0)) (exprs_testable vars places before typed placed early es c.0.arg_tys c.2.2)
        (λ later a among. call_testable later term c.0 ps 0 (served env in_condition term c.0 c.1 c.2.0) refl c.1 (paths_typed env t in_condition later vars places typed es 0 c.0.arg_tys c.2.2)
        (exprs_stand env later vars places (places_still env before later vars places a placed) early es c.0.arg_tys c.2.2 among []))
    expr_testable vars places before typed placed early (expr.Let of bs inner) ty h =
        let mid = let_places env bs places 0 in
        testable_more env t before (bindings_called_tests env bs places) (called_tests env inner mid) (bindings_testable vars places before typed placed early bs h.1)
        (λ later a among. expr_testable (let_variables vars bs) mid later (let_typed env t in_condition later vars places typed bs 0 h.1) (let_stand env later vars places (places_still env before later vars places a placed) early bs h.1 among) (bindings_early env vars bs places 0 h.1 early) inner ty h.2)

    exprs_testable : (vars : List (TypeId × ℕ)) (places : Places) (before : List Test) → AreTypedPlaces env t vars places → AreStandingPlaces env before [] vars places → AreEarly env places → (es : Exprs) (tys : List TypeId) → AreExprsOf env in_condition vars tys es → AreTestableAt env t before (all_called_tests env es places)
    exprs_testable vars places before typed placed early NoExpr tys h = tt
    exprs_testable vars places before typed placed early (AnExpr e es) (ty ∷ tys) h =
        testable_more env t before (called_tests env e places) (all_called_tests env es places) (expr_testable vars places before typed placed early e ty h.0)
        (λ later a among. exprs_testable vars places later typed (places_still env before later vars places a placed) early es tys h.1)
    exprs_testable vars places before typed placed early (AnExpr e es) [] h = absurd h

    bindings_testable : (vars : List (TypeId × ℕ)) (places : Places) (before : List Test) → AreTypedPlaces env t vars places → AreStandingPlaces env before [] vars places → AreEarly env places → (bs : LetBindings) → AreBindingsOf env in_condition vars bs → AreTestableAt env t before (bindings_called_tests env bs places)
    bindings_testable vars places before typed placed early NoBinding h = tt
    bindings_testable vars places before typed placed early (ABinding x of e bs) h =
        let p = path env e places 0 in
        let mid = with places x.0 p in
        let one : AreBindingsOf env in_condition vars (ABinding x of e NoBinding) = (h.0, h.1, tt) in
        testable_more env t before (called_tests env e places) (bindings_called_tests env bs mid) (expr_testable vars places before typed placed early e of h.1)
        (λ later a among. bindings_testable ((of, x.0) ∷ vars) mid later (let_typed env t in_condition later vars places typed (ABinding x of e NoBinding) 0 one)
        (with_place (λ ty o. IsStandingPlace env later [] o) vars places x.0 of p h.0 (record { path = p; is = refl; stands = λ done b. expr_stands env later vars places (places_still env before later vars places a placed) early e of h.1 among done }) (places_still env before later vars places a placed)) (with_early env places x.0 p (expr_early env vars of e places 0 h.1 early) early) bs h.2)
