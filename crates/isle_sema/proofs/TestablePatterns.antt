-- The tests of typed patterns are ready for a block, and their paths and variables have types.
use Rattle.std.proofs.Common.{◌≡◌, ⊎_elim, ℕ, zero, suc, ◌+◌, Bool, true, false, cond, eqb, List, [], ◌∷◌, ◌++◌, length, Option, Some, None, refl, sym, ap, ◌∙◌, subst, arith}
use Rattle.std.specs.Prelude.{IsSomeAnd, Contains, filter, option_map, slice_get}
use Rattle.std.proofs.lemmas.Bool.{eqb-true, eq-eqb}
use Rattle.std.proofs.lemmas.List.Elements.{Contains-append_left, Contains-append_right, Contains-append_cases}
use Rattle.std.proofs.lemmas.Option.{same_Some}
use Rattle.isle_core.specs.declared.TermId.{TermId}
use Rattle.isle_core.specs.declared.TypeId.{TypeId}
use Rattle.isle_core.specs.declared.rule_sets.Constraint.{Constraint}
use Rattle.isle_core.specs.declared.rule_sets.Constraint.TheVariants as constraint
use Rattle.isle_core.specs.declared.types.ReturnKind.{ReturnKind}
use Rattle.isle_core.specs.declared.types.ReturnKind.TheVariants as return_kind
use Rattle.isle_core.specs.declared.types.Term.{Term}
use Rattle.isle_core.specs.Calling.{Calling, answers_often, is_fallible, extracting}
use Rattle.isle_core.specs.ExternalCall.{IsExtraction}
use Rattle.isle_core.specs.Form.{form, form_types}
use Rattle.isle_core.specs.HoldsImpure.{holds_impure}
use Rattle.isle_core.specs.Making.{MakesVariant, MakesStruct, making}
use Rattle.isle_core.specs.Opening.{Opening, AsVariant, AsStruct, ByExtractor, opening, answer_path, result_path, part_path}
use Rattle.isle_core.specs.Path.{Path, Arg, Chosen, Inner, Extracted}
use Rattle.isle_core.specs.PathType.{IsPathOf}
use Rattle.isle_core.specs.Pattern as pattern
use Rattle.isle_core.specs.Pattern.{Pattern, Patterns, NoPattern, APattern, Var, ConstBool, ConstInt, ConstPrim, Wildcard, BindPattern, And}
use Rattle.isle_core.specs.PatternType.{part_types, IsPatternOf, ArePartsOf, AreEachOf, ArePatternsOf}
use Rattle.isle_core.specs.Rule.{Environment}
use Rattle.isle_core.specs.Serializable.{StandsOn, IsTest}
use Rattle.isle_core.specs.Tests.{Test, Is, Equal, HasItem, is_constraint, Places, met_tests, met_after, found_tests, opening_tests, tests, parts_tests, each_tests, after, after_parts, after_each, args_tests, args_after}
use Rattle.isle_core.proofs.Contained.{head_contained, tail_contained, contained_cases, none_contained}
use Rattle.isle_core.proofs.EarlyPlaces.{part_early}
use Rattle.isle_core.proofs.KeptPlaces.{after_keeps, each_keep, parts_keep, args_keep}
use Rattle.isle_core.specs.TypedVariables.{typed_variables, typed_within, all_typed, HaveOneType}
use Rattle.isle_sema.proofs.BuiltForms.{no_both}
use Rattle.isle_sema.proofs.StandingPaths.{AreAlso, stands_still}
use Rattle.isle_sema.proofs.OpenedTypes.{IsFinding, finds, may_find, lists, OpensInto, opens_into}

-- ---- types of paths in order

-- the paths from the i-th on have these types
abbrev pub AreTyped : Environment → Term → (ℕ → Path) → ℕ → List TypeId → Type 0
AreTyped env t path i [] = Unit {0}
AreTyped env t path i (ty ∷ tys) = IsPathOf env t (path i) ty × AreTyped env t path (suc i) tys

-- paths that have the types that stand at their numbers
each_typed : (env : Environment) (t : Term) (path : ℕ → Path) (i : ℕ) (tys : List TypeId) → ((k : ℕ) (ty : TypeId) → slice_get tys k ≡ Some ty → IsPathOf env t (path (i + k)) ty) → AreTyped env t path i tys
each_typed env t path i [] h = tt
each_typed env t path i (ty ∷ tys) h =
    let here : i + 0 ≡ i = omega arith in (
      subst (λ n. IsPathOf env t (path n) ty) here (h 0 ty refl),
      each_typed env t path (suc i) tys (λ k of e. let next : i + suc k ≡ suc i + k = omega arith in subst (λ n. IsPathOf env t (path n) of) next (h (suc k) of e)),
    )

-- so from the first on
from_start : (env : Environment) (t : Term) (path : ℕ → Path) (tys : List TypeId) → ((k : ℕ) (ty : TypeId) → slice_get tys k ≡ Some ty → IsPathOf env t (path k) ty) → AreTyped env t path 0 tys
from_start env t path tys h = each_typed env t path 0 tys (λ k ty e. let same : k ≡ 0 + k = omega arith in subst (λ n. IsPathOf env t (path n) ty) same (h k ty e))

-- the arguments of a term have its types
pub args_are : (env : Environment) (t : Term) → AreTyped env t Arg 0 t.arg_tys
args_are env t = from_start env t Arg t.arg_tys (λ k ty e. e)

-- a form's types are there
form_there : {A : Type 0} (o : Option A) (types : A → List TypeId) (tys : List TypeId) → option_map types o ≡ Some tys → IsSomeAnd o (λ f. Unit {0})
form_there None types tys e = cc
form_there (Some f) types tys e = tt

-- one of a form's types
form_at : {A : Type 0} (o : Option A) (types : A → List TypeId) (tys : List TypeId) (k : ℕ) (ty : TypeId) → option_map types o ≡ Some tys → slice_get tys k ≡ Some ty → IsSomeAnd o (λ f. slice_get (types f) k ≡ Some ty)
form_at None types tys k ty e at = cc
form_at (Some f) types tys k ty e at = ap (λ xs. slice_get xs k) (same_Some (types f) tys e) ∙ at

-- the types of parts
pub parts_there : (env : Environment) (o : Option (List TypeId)) (qs : Patterns) → ArePartsOf env o qs → (tys : List TypeId) × (o ≡ Some tys) × ArePartsOf env (Some tys) qs
parts_there env None qs h = absurd h
parts_there env (Some tys) qs h = (tys, refl, h)

-- an extractor that is called on what stands at the path gives results of these types, so often
abbrev pub Gives : Environment → Term → TermId → Path → List TypeId → ReturnKind → Type 0
Gives env t term p tys kind = IsExtraction kind (extracting env term) × IsSomeAnd (slice_get env.terms term.0) (λ (x : Term). (x.arg_tys ≡ tys) × IsPathOf env t p x.ret_ty)

-- so if it takes values of the path's type apart
pub extractor_gives : (env : Environment) (t : Term) (term : TermId) (c : Calling) (count : ℕ) (p : Path) (ty : TypeId) (tys : List TypeId) (kind : ReturnKind) → OpensInto env ty (ByExtractor term c count) tys → IsPathOf env t p ty → IsExtraction kind c → Gives env t term p tys kind
extractor_gives env t term c count p ty tys kind into h ext =
    let on : IsPathOf env t p into.called.ret_ty = subst (IsPathOf env t p) (sym into.taken) h in
    (subst (IsExtraction kind) (sym into.is) ext, subst (λ o. IsSomeAnd o (λ (x : Term). (x.arg_tys ≡ tys) × IsPathOf env t p x.ret_ty)) (sym into.found) (into.gives, on))

-- a result has its type
result_typed : {c : Calling} (env : Environment) (t : Term) (term : TermId) (p : Path) (tys : List TypeId) (k : ℕ) (part : TypeId) → IsFinding c → ((kind : ReturnKind) → IsExtraction kind c → Gives env t term p tys kind) → slice_get tys k ≡ Some part
    → IsPathOf env t (result_path (length tys) k (answer_path c (Extracted term p))) part
result_typed env t term p [] k part f g at = absurd cc
result_typed env t term p (ty ∷ []) zero part (finds name) g at = subst (IsPathOf env t (Extracted term p)) (same_Some ty part at) (g return_kind.Plain (refl, tt))
result_typed env t term p (ty ∷ []) zero part (may_find name) g at = subst (IsPathOf env t (Inner (Extracted term p))) (same_Some ty part at) (g return_kind.Option (refl, tt))
result_typed env t term p (ty ∷ []) zero part (lists name) g at = subst (IsPathOf env t (Chosen (Extracted term p))) (same_Some ty part at) (g return_kind.Iterator (refl, tt))
result_typed env t term p (ty ∷ []) (suc k) part f g at = absurd cc
result_typed env t term p (ty ∷ more ∷ tys) k part (finds name) g at = let given = g return_kind.Plain (refl, tt) in (ty ∷ more ∷ tys, (tt, given.0, given.1), at)
result_typed env t term p (ty ∷ more ∷ tys) k part (may_find name) g at = (ty ∷ more ∷ tys, (tt, g return_kind.Option (refl, tt)), at)
result_typed env t term p (ty ∷ more ∷ tys) k part (lists name) g at = (ty ∷ more ∷ tys, (tt, g return_kind.Iterator (refl, tt)), at)

-- what a term takes values of a type apart into has its types
part_typed : (env : Environment) (t : Term) (opened : Opening) (p : Path) (ty : TypeId) (tys : List TypeId) → OpensInto env ty opened tys → IsPathOf env t p ty → (k : ℕ) (part : TypeId) → slice_get tys k ≡ Some part → IsPathOf env t (part_path opened k p) part
part_typed env t (AsVariant of variant) p ty tys into h k part at = (of, subst (IsPathOf env t p) (sym into.0) h, form_at (form env (MakesVariant of variant)) (form_types env) tys k part into.1 at)
part_typed env t (AsStruct of) p ty tys into h k part at = (of, subst (IsPathOf env t p) (sym into.0) h, form_at (form env (MakesStruct of)) (form_types env) tys k part into.1 at)
part_typed env t (ByExtractor term c count) p ty tys into h k part at =
    subst (λ n. IsPathOf env t (result_path n k (answer_path c (Extracted term p))) part) (sym into.many)
    (result_typed env t term p tys k part into.finding (λ kind. extractor_gives env t term c count p ty tys kind into h) at)

-- so of the parts in order
pub parts_are : (env : Environment) (t : Term) (opened : Opening) (p : Path) (ty : TypeId) (tys : List TypeId) → OpensInto env ty opened tys → IsPathOf env t p ty → AreTyped env t (λ k. part_path opened k p) 0 tys
parts_are env t opened p ty tys into h = from_start env t (λ k. part_path opened k p) tys (part_typed env t opened p ty tys into h)

-- ---- what may be read

-- the constraints among these tests are among those
abbrev pub HasConstraints : (all ts : List Test) → Type 0
HasConstraints all ts = (y : Test) → is_constraint y ≡ true → Contains ts y → Contains all y

-- what an extractor finds stands after the test that it is something, if no impure call is held
found_stands : {c : Calling} (env : Environment) (term : TermId) (tests : List Test) (done : List Path) (p : Path) → IsFinding c → StandsOn env tests done p → holds_impure env p ≡ false → HasConstraints tests (found_tests c (Extracted term p)) → StandsOn env tests done (answer_path c (Extracted term p))
found_stands env term tests done p (finds name) s early among = s
found_stands env term tests done p (lists name) s early among = (s, λ e. absurd (no_both e early))
found_stands env term tests done p (may_find name) s early among = among (Is (Extracted term p) constraint.Some) refl (head_contained (Is (Extracted term p) constraint.Some) [])

-- a result stands where the answer does
result_stands : (env : Environment) (count i : ℕ) (tests : List Test) (done : List Path) (p : Path) → StandsOn env tests done p → StandsOn env tests done (result_path count i p)
result_stands env zero i tests done p h = h
result_stands env (suc zero) i tests done p h = h
result_stands env (suc (suc count)) i tests done p h = h

-- a part stands after the tests of what takes it apart
pub part_stands : (env : Environment) (ty : TypeId) (opened : Opening) (tys : List TypeId) (tests : List Test) (done : List Path) (p : Path) (i : ℕ) → OpensInto env ty opened tys → StandsOn env tests done p → holds_impure env p ≡ false → HasConstraints tests (opening_tests opened p) → StandsOn env tests done (part_path opened i p)
part_stands env ty (AsVariant of variant) tys tests done p i into s early among = (of, among (Is p (constraint.Variant of variant)) refl (head_contained (Is p (constraint.Variant of variant)) []))
part_stands env ty (AsStruct of) tys tests done p i into s early among = (of, among (Is p (constraint.Struct of)) refl (head_contained (Is p (constraint.Struct of)) []))
part_stands env ty (ByExtractor term c count) tys tests done p i into s early among = result_stands env count i tests done (answer_path c (Extracted term p)) (found_stands env term tests done p into.finding s early among)

-- ---- constraints

-- a constraint tests what stands at its path, which may be read after these tests
pub record IsTestableAt (env : Environment) (t : Term) (before : List Test) (p : Path) (c : Constraint) : Type 0 where
  pub test : IsTest env t p c
  pub stands : StandsOn env before [] p

-- the constraints among tests in order, after these
abbrev pub AreTestableAt : Environment → Term → (before : List Test) → List Test → Type 0
AreTestableAt env t before [] = Unit {0}
AreTestableAt env t before (Is p c ∷ ts) = IsTestableAt env t before p c × AreTestableAt env t (Is p c ∷ before) ts
AreTestableAt env t before (Equal p q ∷ ts) = AreTestableAt env t before ts
AreTestableAt env t before (HasItem q ∷ ts) = AreTestableAt env t before ts

-- so of the constraints alone
pub constraints_testable : (env : Environment) (t : Term) (before ts : List Test) → AreTestableAt env t before ts → AreTestableAt env t before (filter is_constraint ts)
constraints_testable env t before [] h = tt
constraints_testable env t before (Is p c ∷ ts) h = (h.0, constraints_testable env t (Is p c ∷ before) ts h.1)
constraints_testable env t before (Equal p q ∷ ts) h = constraints_testable env t before ts h
constraints_testable env t before (HasItem q ∷ ts) h = constraints_testable env t before ts h

module _ (env : Environment) (t : Term) where
  -- tests after tests
  pub testable_more : (before xs ys : List Test) → AreTestableAt env t before xs → ((later : List Test) → AreAlso before later → HasConstraints later xs → AreTestableAt env t later ys) → AreTestableAt env t before (xs ++ ys)
  testable_more before [] ys h go = go before (λ x c. c) (λ y e c. absurd (none_contained y c))
  testable_more before (Is p c ∷ xs) ys h go = (
    h.0,
    testable_more (Is p c ∷ before) xs ys h.1 (λ later a k. go later (λ x d. a x (tail_contained (Is p c) before x d))
        (λ y e d. ⊎_elim (λ (s : Is p c ≡ y). subst (Contains later) s (a (Is p c) (head_contained (Is p c) before))) (k y e) (contained_cases (Is p c) xs y d))),
  )
  testable_more before (Equal p q ∷ xs) ys h go = testable_more before xs ys h (λ later a k. go later a (λ y e d. ⊎_elim (λ (s : Equal p q ≡ y). let bad : false ≡ true = ap is_constraint s ∙ e in absurd cc) (k y e) (contained_cases (Equal p q) xs y d)))
  testable_more before (HasItem q ∷ xs) ys h go = testable_more before xs ys h (λ later a k. go later a (λ y e d. ⊎_elim (λ (s : HasItem q ≡ y). let bad : false ≡ true = ap is_constraint s ∙ e in absurd cc) (k y e) (contained_cases (HasItem q) xs y d)))

  -- a variable puts no constraint
  met_testable : (o : Option Path) (p : Path) (before : List Test) → AreTestableAt env t before (met_tests o p)
  met_testable None p before = tt
  met_testable (Some q) p before = tt

  -- so is the constraint on what an extractor finds
  found_testable : {c : Calling} (term : TermId) (p : Path) (tys : List TypeId) (before : List Test) → IsFinding c → ((kind : ReturnKind) → IsExtraction kind c → Gives env t term p tys kind) → StandsOn env before [] p → AreTestableAt env t before (found_tests c (Extracted term p))
  found_testable term p tys before (finds name) g s = tt
  found_testable term p tys before (lists name) g s = tt
  found_testable term p tys before (may_find name) g s = (record { test = (tys, g return_kind.Option (refl, tt)); stands = s }, tt)

  -- the constraints of what takes a path of a type apart
  opening_testable : (opened : Opening) (p : Path) (ty : TypeId) (tys : List TypeId) (before : List Test) → OpensInto env ty opened tys → IsPathOf env t p ty → StandsOn env before [] p → AreTestableAt env t before (opening_tests opened p)
  opening_testable (AsVariant of variant) p ty tys before into h s = (record { test = record { ty = ty; path = h; constraint = (into.0, form_there (form env (MakesVariant of variant)) (form_types env) tys into.1) }; stands = s }, tt)
  opening_testable (AsStruct of) p ty tys before into h s = (record { test = record { ty = ty; path = h; constraint = (into.0, form_there (form env (MakesStruct of)) (form_types env) tys into.1) }; stands = s }, tt)
  opening_testable (ByExtractor term c count) p ty tys before into h s = found_testable term p tys before into.finding (λ kind. extractor_gives env t term c count p ty tys kind into h) s

  mutual
    -- the constraints of a typed pattern on a path of its type
    pub pattern_testable : (q : Pattern) (p : Path) (ty : TypeId) (places : Places) (before : List Test) → IsPatternOf env ty q → IsPathOf env t p ty → StandsOn env before [] p → holds_impure env p ≡ false → AreTestableAt env t before (tests env q p places)
    pattern_testable (Var of x) p ty places before h typed s early = met_testable (places x.0) p before
    pattern_testable (ConstBool b) p ty places before h typed s early = (record { test = record { ty = ty; path = typed; constraint = h.1 }; stands = s }, tt)
    pattern_testable (ConstInt of n) p ty places before h typed s early = (record { test = record { ty = ty; path = typed; constraint = h }; stands = s }, tt)
    pattern_testable (ConstPrim of name) p ty places before h typed s early = (record { test = record { ty = ty; path = typed; constraint = h.1 }; stands = s }, tt)
    pattern_testable (Wildcard of) p ty places before h typed s early = tt
    pattern_testable (pattern.Term of term qs) p ty places before h typed s early =
        let opened = opening env term in
        let k = parts_there env (part_types env (making env term) (slice_get env.terms term.0)) qs h.2 in
        let into = opens_into env ty term k.0 h.1 k.1 in
        testable_more before (opening_tests opened p) (parts_tests env opened qs 0 p places) (opening_testable opened p ty k.0 before into typed s)
        (λ later a c. parts_testable qs opened p 0 k.0 places later k.2 (parts_are env t opened p ty k.0 into typed) (λ j. part_stands env ty opened k.0 later [] p j into (stands_still env p before later [] a s) early c) early)
    pattern_testable (BindPattern of x q) p ty places before h typed s early =
        let mid = met_after (places x.0) x.0 p places in
        testable_more before (met_tests (places x.0) p) (tests env q p mid) (met_testable (places x.0) p before) (λ later a c. pattern_testable q p ty mid later h.1 typed (stands_still env p before later [] a s) early)
    pattern_testable (And of qs) p ty places before h typed s early = each_testable qs p ty places before h.1 typed s early

    -- those of parts, each on its path
    parts_testable : (qs : Patterns) (opened : Opening) (p : Path) (i : ℕ) (tys : List TypeId) (places : Places) (before : List Test) → ArePartsOf env (Some tys) qs → AreTyped env t (λ k. part_path opened k p) i tys → ((k : ℕ) → StandsOn env before [] (part_path opened k p)) → holds_impure env p ≡ false
        → AreTestableAt env t before (parts_tests env opened qs i p places)
    parts_testable NoPattern opened p i tys places before h typed stand early = tt
    parts_testable (APattern q qs) opened p i (ty ∷ tys) places before h typed stand early =
        let r = part_path opened i p in
        let mid = after env q r places in
        testable_more before (tests env q r places) (parts_tests env opened qs (suc i) p mid) (pattern_testable q r ty places before h.0 typed.0 (stand i) (part_early env opened i p early))
        (λ later a c. parts_testable qs opened p (suc i) tys mid later h.1 typed.1 (λ k. stands_still env (part_path opened k p) before later [] a (stand k)) early)
    parts_testable (APattern q qs) opened p i [] places before h typed stand early = absurd h

    -- those of several patterns on one path
    each_testable : (qs : Patterns) (p : Path) (ty : TypeId) (places : Places) (before : List Test) → AreEachOf env ty qs → IsPathOf env t p ty → StandsOn env before [] p → holds_impure env p ≡ false → AreTestableAt env t before (each_tests env qs p places)
    each_testable NoPattern p ty places before h typed s early = tt
    each_testable (APattern q qs) p ty places before h typed s early =
        let mid = after env q p places in
        testable_more before (tests env q p places) (each_tests env qs p mid) (pattern_testable q p ty places before h.0 typed s early) (λ later a c. each_testable qs p ty mid later h.1 typed (stands_still env p before later [] a s) early)

  -- those of patterns on arguments
  pub args_testable : (qs : List Pattern) (i : ℕ) (tys : List TypeId) (places : Places) (before : List Test) → ArePatternsOf env tys qs → AreTyped env t Arg i tys → AreTestableAt env t before (args_tests env qs i places)
  args_testable [] i tys places before h typed = tt
  args_testable (q ∷ qs) i (ty ∷ tys) places before h typed =
      let mid = after env q (Arg i) places in
      testable_more before (tests env q (Arg i) places) (args_tests env qs (suc i) mid) (pattern_testable q (Arg i) ty places before h.0 typed.0 tt refl) (λ later a c. args_testable qs (suc i) tys mid later h.1 typed.1)
  args_testable (q ∷ qs) i [] places before h typed = absurd h

-- ---- variables

-- a path that may be read after these tests, whatever calls were made
abbrev pub IsStanding : Environment → (tests : List Test) → Path → Type 0
IsStanding env tests p = (done : List Path) → StandsOn env tests done p

-- where a variable stands is of its type, and may be read after these tests
pub record IsPlacedAs (env : Environment) (t : Term) (tests : List Test) (o : Option Path) (ty : TypeId) : Type 0 where
  pub path : Path
  pub is : o ≡ Some path
  pub typed : IsPathOf env t path ty
  pub stands : IsStanding env tests path

-- so of each variable with its type
abbrev pub ArePlacedAs : Environment → Term → (tests : List Test) → List (TypeId × ℕ) → Places → Type 0
ArePlacedAs env t tests vars places = (ty : TypeId) (x : ℕ) → Contains vars (ty, x) → IsPlacedAs env t tests (places x) ty

-- a variable that has a path has one of its type, which may be read after these tests
abbrev pub AreHeld : Environment → Term → (tests : List Test) → List (TypeId × ℕ) → Places → Type 0
AreHeld env t tests vars places = (ty : TypeId) (x : ℕ) (p : Path) → Contains vars (ty, x) → places x ≡ Some p → IsPathOf env t p ty × IsStanding env tests p

-- two paths of one type, which may be read after these tests
pub record AreComparableAt (env : Environment) (t : Term) (tests : List Test) (p q : Path) : Type 0 where
  pub ty : TypeId
  pub left : IsPathOf env t p ty
  pub left_stands : StandsOn env tests [] p
  pub right : IsPathOf env t q ty
  pub right_stands : StandsOn env tests [] q

-- after patterns that put these tests: what the places hold, what the tests equate, and that the patterns' variables have paths
pub record IsPassed (env : Environment) (t : Term) (all : List Test) (vars : List (TypeId × ℕ)) (ts : List Test) (xs : List (TypeId × ℕ)) (places : Places) : Type 0 where
  pub held : AreHeld env t all vars places
  pub equals : (p q : Path) → Contains ts (Equal p q) → AreComparableAt env t all p q
  pub there : (v : TypeId × ℕ) → Contains xs v → (p : Path) × (places v.1 ≡ Some p)

-- what is no equality, alone
is_no_equality : (p a b : Path) (c : Constraint) → Contains (Is p c ∷ []) (Equal a b) → ⊥
is_no_equality p a b c k = ⊎_elim (λ (e : Is p c ≡ Equal a b). absurd cc) (λ d. none_contained (Equal a b) d) (contained_cases (Is p c) [] (Equal a b) k)

-- whether a call finds something is no equality
pub found_no_equality : (c : Calling) (p a b : Path) → Contains (found_tests c p) (Equal a b) → ⊥
found_no_equality c p a b k = pick (answers_often c) (is_fallible c) k
  where
    pick : (x y : Bool) → Contains (cond x (HasItem p ∷ []) (cond y (Is p constraint.Some ∷ []) [])) (Equal a b) → ⊥
    pick true y k = ⊎_elim (λ (e : HasItem p ≡ Equal a b). absurd cc) (λ d. none_contained (Equal a b) d) (contained_cases (HasItem p) [] (Equal a b) k)
    pick false true k = is_no_equality p a b constraint.Some k
    pick false false k = none_contained (Equal a b) k

-- before a pattern takes a path apart no equality is tested
opening_no_equality : (opened : Opening) (p a b : Path) → Contains (opening_tests opened p) (Equal a b) → ⊥
opening_no_equality (AsVariant of variant) p a b k = is_no_equality p a b (constraint.Variant of variant) k
opening_no_equality (AsStruct of) p a b k = is_no_equality p a b (constraint.Struct of) k
opening_no_equality (ByExtractor term c count) p a b k = found_no_equality c (Extracted term p) a b k

-- what equalities equate on the left
left_same : (p q a b : Path) → Equal p q ≡ Equal a b → p ≡ a
left_same p q a b e = cc

-- and on the right
right_same : (p q a b : Path) → Equal p q ≡ Equal a b → q ≡ b
right_same p q a b e = cc

module _ (env : Environment) (t : Term) (all : List Test) (vars : List (TypeId × ℕ)) (one : HaveOneType vars) where
  -- patterns that put nothing
  none_passed : (places : Places) → AreHeld env t all vars places → IsPassed env t all vars [] [] places
  none_passed places h = record { held = h; equals = λ p q c. absurd (none_contained (Equal p q) c); there = λ v c. absurd (none_contained v c) }

  -- a test more that is no equality
  test_passed : (y : Test) (ts : List Test) (xs : List (TypeId × ℕ)) (places : Places) → ((a b : Path) → y ≡ Equal a b → ⊥) → IsPassed env t all vars ts xs places → IsPassed env t all vars (y ∷ ts) xs places
  test_passed y ts xs places apart k = record { held = k.held; equals = λ a b c. ⊎_elim (λ e. absurd (apart a b e)) (λ d. k.equals a b d) (contained_cases y ts (Equal a b) c); there = k.there }

  -- a constraint alone
  constraint_passed : (p : Path) (c : Constraint) (places : Places) → AreHeld env t all vars places → IsPassed env t all vars (Is p c ∷ []) [] places
  constraint_passed p c places h = test_passed (Is p c) [] [] places (λ a b e. cc) (none_passed places h)

  -- what takes a path apart
  opening_passed : (opened : Opening) (p : Path) (places : Places) → AreHeld env t all vars places → IsPassed env t all vars (opening_tests opened p) [] places
  opening_passed opened p places h = record { held = h; equals = λ a b c. absurd (opening_no_equality opened p a b c); there = λ v c. absurd (none_contained v c) }

  -- patterns after patterns
  both_passed : (ts us : List Test) (xs ys : List (TypeId × ℕ)) (mid later : Places) → IsPassed env t all vars ts xs mid → IsPassed env t all vars us ys later → ((x : ℕ) (p : Path) → mid x ≡ Some p → later x ≡ Some p) → IsPassed env t all vars (ts ++ us) (xs ++ ys) later
  both_passed ts us xs ys mid later h k keeps = record {
    held = k.held;
    equals = λ p q c. ⊎_elim (λ d. h.equals p q d) (λ d. k.equals p q d) (Contains-append_cases ts us (Equal p q) c);
    there = λ v c. ⊎_elim (λ d. let s = h.there v d in (s.0, keeps v.1 s.0 s.1)) (λ d. k.there v d) (Contains-append_cases xs ys v c);
  }

  -- if one variable more has a path, each is held
  held_more : (of ty : TypeId) (x : ℕ) (p : Path) (places : Places) → of ≡ ty → Contains vars (of, x) → IsPathOf env t p ty → IsStanding env all p → AreHeld env t all vars places → AreHeld env t all vars (met_after None x p places)
  held_more of ty x p places is within typed s h other y q c e = pick (eqb x y) refl e
    where
      pick : (b : Bool) → eqb x y ≡ b → cond b (Some p) (places y) ≡ Some q → IsPathOf env t q other × IsStanding env all q
      pick true same k =
          let there : Contains vars (of, y) = subst (λ z. Contains {X = TypeId × ℕ} vars (of, z)) (eqb-true x y same) within in
          subst (λ r. IsPathOf env t r other × IsStanding env all r) (same_Some p q k) (subst (IsPathOf env t p) (sym is ∙ one of other y there c) typed, s)
      pick false same k = h other y q c k

  -- a variable
  met_passed : (of ty : TypeId) (x : ℕ) (p : Path) (places : Places) (o : Option Path) → places x ≡ o → of ≡ ty → Contains vars (of, x) → IsPathOf env t p ty → IsStanding env all p → AreHeld env t all vars places → IsPassed env t all vars (met_tests o p) ((of, x) ∷ []) (met_after o x p places)
  met_passed of ty x p places None at is within typed s h = record {
    held = held_more of ty x p places is within typed s h;
    equals = λ a b c. absurd (none_contained (Equal a b) c);
    there = λ v c. ⊎_elim (λ (e : (of, x) ≡ v). subst (λ (w : TypeId × ℕ). (r : Path) × (met_after None x p places w.1 ≡ Some r)) e (p, ap (λ b. cond b (Some p) (places x)) (eq-eqb x x refl))) (λ d. absurd (none_contained v d)) (contained_cases {A = TypeId × ℕ} (of, x) [] v c);
  }
  met_passed of ty x p places (Some r) at is within typed s h =
      let k = h of x r within at in
      let pair : AreComparableAt env t all r p = record { ty = ty; left = subst (IsPathOf env t r) is k.0; left_stands = k.1 []; right = typed; right_stands = s [] } in
      record {
        held = h;
        equals = λ a b c. ⊎_elim (λ e. subst (AreComparableAt env t all a) (right_same r p a b e) (subst (λ z. AreComparableAt env t all z p) (left_same r p a b e) pair)) (λ d. absurd (none_contained (Equal a b) d)) (contained_cases (Equal r p) [] (Equal a b) c);
        there = λ v c. ⊎_elim (λ (e : (of, x) ≡ v). subst (λ (w : TypeId × ℕ). (z : Path) × (places w.1 ≡ Some z)) e (r, at)) (λ d. absurd (none_contained v d)) (contained_cases {A = TypeId × ℕ} (of, x) [] v c);
      }

  mutual
    -- a typed pattern on a path of its type
    pub pattern_passed : (q : Pattern) (p : Path) (ty : TypeId) (places : Places) → IsPatternOf env ty q → IsPathOf env t p ty → IsStanding env all p → holds_impure env p ≡ false → AreHeld env t all vars places → HasConstraints all (tests env q p places) → ((v : TypeId × ℕ) → Contains (typed_variables q) v → Contains vars v)
        → IsPassed env t all vars (tests env q p places) (typed_variables q) (after env q p places)
    pattern_passed (Var of x) p ty places h typed s early held among within = met_passed of ty x.0 p places (places x.0) refl h (within (of, x.0) (head_contained {A = TypeId × ℕ} (of, x.0) [])) typed s held
    pattern_passed (ConstBool b) p ty places h typed s early held among within = constraint_passed p (constraint.ConstBool b) places held
    pattern_passed (ConstInt of n) p ty places h typed s early held among within = constraint_passed p (constraint.ConstInt n of) places held
    pattern_passed (ConstPrim of name) p ty places h typed s early held among within = constraint_passed p (constraint.ConstPrim name) places held
    pattern_passed (Wildcard of) p ty places h typed s early held among within = none_passed places held
    pattern_passed (pattern.Term of term qs) p ty places h typed s early held among within =
        let opened = opening env term in
        let k = parts_there env (part_types env (making env term) (slice_get env.terms term.0)) qs h.2 in
        let into = opens_into env ty term k.0 h.1 k.1 in
        let first = opening_tests opened p in
        let rest = parts_tests env opened qs 0 p places in
        both_passed first rest [] (typed_within qs) places (after_parts env opened qs 0 p places) (opening_passed opened p places held)
        (parts_passed qs opened p 0 k.0 places k.2 (parts_are env t opened p ty k.0 into typed) (λ j done. part_stands env ty opened k.0 all done p j into (s done) early (λ y e c. among y e (Contains-append_left first rest y c))) early held
        (λ y e c. among y e (Contains-append_right first rest y c)) within) (λ y r e. parts_keep qs env opened 0 p places y r e)
    pattern_passed (BindPattern of x q) p ty places h typed s early held among within =
        let mid = met_after (places x.0) x.0 p places in
        let first = met_tests (places x.0) p in
        let m = met_passed of ty x.0 p places (places x.0) refl h.0 (within (of, x.0) (head_contained {A = TypeId × ℕ} (of, x.0) (typed_variables q))) typed s held in
        both_passed first (tests env q p mid) ((of, x.0) ∷ []) (typed_variables q) mid (after env q p mid) m
        (pattern_passed q p ty mid h.1 typed s early m.held (λ y e c. among y e (Contains-append_right first (tests env q p mid) y c)) (λ v c. within v (tail_contained {A = TypeId × ℕ} (of, x.0) (typed_variables q) v c))) (λ y r e. after_keeps q env p mid y r e)
    pattern_passed (And of qs) p ty places h typed s early held among within = each_passed qs p ty places h.1 typed s early held among within

    -- parts, each on its path
    parts_passed : (qs : Patterns) (opened : Opening) (p : Path) (i : ℕ) (tys : List TypeId) (places : Places) → ArePartsOf env (Some tys) qs → AreTyped env t (λ k. part_path opened k p) i tys → ((k : ℕ) → IsStanding env all (part_path opened k p)) → holds_impure env p ≡ false → AreHeld env t all vars places
        → HasConstraints all (parts_tests env opened qs i p places) → ((v : TypeId × ℕ) → Contains (typed_within qs) v → Contains vars v) → IsPassed env t all vars (parts_tests env opened qs i p places) (typed_within qs) (after_parts env opened qs i p places)
    parts_passed NoPattern opened p i tys places h typed stand early held among within = none_passed places held
    parts_passed (APattern q qs) opened p i (ty ∷ tys) places h typed stand early held among within =
        let r = part_path opened i p in
        let mid = after env q r places in
        let first = tests env q r places in
        let rest = parts_tests env opened qs (suc i) p mid in
        let k = pattern_passed q r ty places h.0 typed.0 (stand i) (part_early env opened i p early) held (λ y e c. among y e (Contains-append_left first rest y c)) (λ v c. within v (Contains-append_left (typed_variables q) (typed_within qs) v c)) in
        both_passed first rest (typed_variables q) (typed_within qs) mid (after_parts env opened qs (suc i) p mid) k
        (parts_passed qs opened p (suc i) tys mid h.1 typed.1 stand early k.held (λ y e c. among y e (Contains-append_right first rest y c)) (λ v c. within v (Contains-append_right (typed_variables q) (typed_within qs) v c))) (λ y s e. parts_keep qs env opened (suc i) p mid y s e)
    parts_passed (APattern q qs) opened p i [] places h typed stand early held among within = absurd h

    -- several patterns on one path
    each_passed : (qs : Patterns) (p : Path) (ty : TypeId) (places : Places) → AreEachOf env ty qs → IsPathOf env t p ty → IsStanding env all p → holds_impure env p ≡ false → AreHeld env t all vars places → HasConstraints all (each_tests env qs p places) → ((v : TypeId × ℕ) → Contains (typed_within qs) v → Contains vars v)
        → IsPassed env t all vars (each_tests env qs p places) (typed_within qs) (after_each env qs p places)
    each_passed NoPattern p ty places h typed s early held among within = none_passed places held
    each_passed (APattern q qs) p ty places h typed s early held among within =
        let mid = after env q p places in
        let first = tests env q p places in
        let rest = each_tests env qs p mid in
        let k = pattern_passed q p ty places h.0 typed s early held (λ y e c. among y e (Contains-append_left first rest y c)) (λ v c. within v (Contains-append_left (typed_variables q) (typed_within qs) v c)) in
        both_passed first rest (typed_variables q) (typed_within qs) mid (after_each env qs p mid) k
        (each_passed qs p ty mid h.1 typed s early k.held (λ y e c. among y e (Contains-append_right first rest y c)) (λ v c. within v (Contains-append_right (typed_variables q) (typed_within qs) v c))) (λ y r e. each_keep qs env p mid y r e)

  -- patterns on arguments
  pub args_passed : (qs : List Pattern) (i : ℕ) (tys : List TypeId) (places : Places) → ArePatternsOf env tys qs → AreTyped env t Arg i tys → AreHeld env t all vars places → HasConstraints all (args_tests env qs i places) → ((v : TypeId × ℕ) → Contains (all_typed qs) v → Contains vars v)
      → IsPassed env t all vars (args_tests env qs i places) (all_typed qs) (args_after env qs i places)
  args_passed [] i tys places h typed held among within = none_passed places held
  args_passed (q ∷ qs) i (ty ∷ tys) places h typed held among within =
      let mid = after env q (Arg i) places in
      let first = tests env q (Arg i) places in
      let rest = args_tests env qs (suc i) mid in
      let k = pattern_passed q (Arg i) ty places h.0 typed.0 (λ done. tt) refl held (λ y e c. among y e (Contains-append_left first rest y c)) (λ v c. within v (Contains-append_left (typed_variables q) (all_typed qs) v c)) in
      both_passed first rest (typed_variables q) (all_typed qs) mid (args_after env qs (suc i) mid) k
      (args_passed qs (suc i) tys mid h.1 typed.1 k.held (λ y e c. among y e (Contains-append_right first rest y c)) (λ v c. within v (Contains-append_right (typed_variables q) (all_typed qs) v c))) (λ y r e. args_keep env qs (suc i) mid y r e)
  args_passed (q ∷ qs) i [] places h typed held among within = absurd h
