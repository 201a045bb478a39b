-- The calls of typed right sides are ready for a block.
use Rattle.std.proofs.Common.{◌≡◌, ⊎_elim, ℕ, ◌+◌, List, [], ◌∷◌, ◌++◌, Bool, true, false, cond, Option, Some, None, refl, sym, ap, ◌∙◌, subst, inl}
use Rattle.std.specs.Prelude.{◌||◌, Contains, IsSomeAnd, IsTrue, option_map, slice_get}
use Rattle.std.proofs.lemmas.Bool.{eq-eqb, ne_eqb}
use Rattle.std.proofs.lemmas.List.Elements.{Contains-append_left, Contains-append_right, Contains-append_cases}
use Rattle.std.proofs.lemmas.Option.{same_Some}
use Rattle.isle_core.specs.declared.TermId.{TermId}
use Rattle.isle_core.specs.declared.TypeId.{TypeId}
use Rattle.isle_core.specs.declared.VariantId.{VariantId}
use Rattle.isle_core.specs.declared.types.ReturnKind.{ReturnKind}
use Rattle.isle_core.specs.declared.types.ReturnKind.TheVariants as return_kind
use Rattle.isle_core.specs.declared.types.ConstructorKind.TheVariants as constructor
use Rattle.isle_core.specs.declared.types.Term.{Term}
use Rattle.isle_core.specs.declared.types.TermKind.{TermKind}
use Rattle.isle_core.specs.declared.types.TermKind.TheVariants as kind
use Rattle.isle_core.specs.declared.values.Callee.{Callee}
use Rattle.isle_core.specs.declared.values.Callee.TheVariants.{External, Internal}
use Rattle.isle_core.specs.ExternalCall.{IsCall}
use Rattle.isle_core.specs.PathType.{IsPathOf, ArePathsOf}
use Rattle.isle_core.specs.Calling.{Calling, ByTurns, ByCases, NoCall, calling, calling_of, calling_by, pure_callee, kind_by, kind_of, may_be_nothing, is_several, HasKind, answers_often, is_fallible, instance_of, impure, impure_all, impure_bindings}
use Rattle.isle_core.specs.CalledTerms.{Constructor, unless_made, called_by, called_by_all, called_by_bindings}
use Rattle.isle_core.specs.Expr as expr
use Rattle.isle_core.specs.Expr.{Expr, Exprs, NoExpr, AnExpr, LetBindings, NoBinding, ABinding}
use Rattle.isle_core.specs.Match.{with}
use Rattle.isle_core.specs.Form.{form, form_types}
use Rattle.isle_core.specs.HoldsImpure.{takes_turn, holds_impure, hold_impure}
use Rattle.isle_core.specs.Single.{AreOften}
use Rattle.isle_core.specs.Path.{Path, Called, Chosen, Inner, Paths}
use Rattle.isle_core.specs.Serializable.{StandsCalled, StandsOn, AllStandOn, IsSerializableCall, AreSerializableCalls}
use Rattle.isle_core.specs.Rule.{Environment}
use Rattle.isle_core.specs.StandsFor.{AreFirsts, no_more, again, first}
use Rattle.isle_core.specs.Terms.{sym_text, impure_callee}
use Rattle.isle_core.specs.OrderedCalls.{if_ordered, calls, calls_all, calls_bindings}
use Rattle.isle_core.specs.Making.{Making, MakesVariant, MakesStruct, MakesNothing, making_kind, making_of, making}
use Rattle.isle_core.specs.RightSide.{path_or, term_path, call_path, answer_path, path, paths as all_paths, let_places}
use Rattle.isle_core.specs.RulePaths.{with_inner, expr_paths, exprs_paths, bindings_paths}
use Rattle.isle_core.specs.Tests.{Test, Places}
use Rattle.isle_core.proofs.Contained.{head_contained, tail_contained, contained_cases, none_contained}
use Rattle.isle_core.specs.ExprType.{Allowed, IsMadeOf, IsTermKind, IsExprOf, AreExprsOf, AreBindingsOf}
use Rattle.isle_core.specs.TypedVariables.{let_variables, IsNew}
use Rattle.isle_sema.proofs.BuiltForms.{no_both}
use Rattle.isle_sema.proofs.AnswerPaths.{FitAnswers}
use Rattle.isle_sema.proofs.OftenTerms.{Often, often_first, often_rest, called_often}
use Rattle.isle_sema.proofs.StandingPaths.{Among, AreLate, all_stand_later}
use Rattle.isle_sema.proofs.TestablePatterns.{ArePlacedAs}

-- ---- terms of right sides

-- what is in an option
pub some_of : {A : Type 0} (o : Option A) (P : A → Type 0) → IsSomeAnd o P → (x : A) × (o ≡ Some x) × P x
some_of None P h = absurd h
some_of (Some x) P h = (x, refl, h)

-- a term that makes nothing takes turns, if impure calls are allowed, or has cases, and may answer nothing only where that is
-- allowed; a made one is not called, and makes a value of its type
pub data IsServed (env : Environment) (allowed : Allowed) (c : Term) : Making → Calling → Type 0 where
  takes_turns : (callee : Callee) (kind : ReturnKind) → (IsTrue (may_be_nothing kind) → IsTrue allowed.nothing) → IsTrue allowed.impure → IsServed env allowed c MakesNothing (ByTurns callee kind)
  has_cases : (callee : Callee) (kind : ReturnKind) → (IsTrue (may_be_nothing kind) → IsTrue allowed.nothing) → IsServed env allowed c MakesNothing (ByCases callee kind)
  makes_variant : (ty : TypeId) (variant : VariantId) → IsMadeOf env c ty (MakesVariant ty variant) → IsServed env allowed c (MakesVariant ty variant) NoCall
  makes_struct : (ty : TypeId) → IsMadeOf env c ty (MakesStruct ty) → IsServed env allowed c (MakesStruct ty) NoCall

-- what may answer nothing is partial
is_partial : (multi partial : Bool) → IsTrue (may_be_nothing (kind_by multi partial)) → IsTrue partial
is_partial true partial h = cc
is_partial false true h = refl
is_partial false false h = cc

-- a typed term is served by its kind
served_kind : (env : Environment) (allowed : Allowed) (c : Term) (k : TermKind) → IsTermKind env allowed c k → IsServed env allowed c (making_kind k) (calling_by (kind_of k) (impure_callee env c k) (pure_callee env c k))
served_kind env allowed c (kind.Decl false multi partial recursive (constructor.External func) extractor) h = takes_turns (External (sym_text env func)) (kind_by multi partial) (λ e. h.0 (is_partial multi partial e)) (h.1 refl)
served_kind env allowed c (kind.Decl true multi partial recursive (constructor.External func) extractor) h = has_cases (External (sym_text env func)) (kind_by multi partial) (λ e. h.0 (is_partial multi partial e))
served_kind env allowed c (kind.Decl false multi partial recursive constructor.Internal extractor) h = takes_turns (Internal (sym_text env c.name)) (kind_by multi partial) (λ e. h.0 (is_partial multi partial e)) (h.1 refl)
served_kind env allowed c (kind.Decl true multi partial recursive constructor.Internal extractor) h = has_cases (Internal (sym_text env c.name)) (kind_by multi partial) (λ e. h.0 (is_partial multi partial e))
served_kind env allowed c (kind.Variant ty variant) h = makes_variant ty variant h
served_kind env allowed c (kind.Struct ty) h = makes_struct ty h
served_kind env allowed c k h = absurd h

-- a typed term that is there is served
pub served : (env : Environment) (allowed : Allowed) (term : TermId) (c : Term) → slice_get env.terms term.0 ≡ Some c → IsTermKind env allowed c c.kind → IsServed env allowed c (making env term) (calling env term)
served env allowed term c there h = subst (λ o. IsServed env allowed c (making_of o) (calling_of env o)) (sym there) (served_kind env allowed c c.kind h)

-- ---- where variables stand

-- where a variable stands is of its type
pub record IsTypedPlace (env : Environment) (t : Term) (o : Option Path) (ty : TypeId) : Type 0 where
  pub path : Path
  pub is : o ≡ Some path
  pub typed : IsPathOf env t path ty

-- so of each variable with its type
abbrev pub AreTypedPlaces : Environment → Term → List (TypeId × ℕ) → Places → Type 0
AreTypedPlaces env t vars places = (ty : TypeId) (x : ℕ) → Contains vars (ty, x) → IsTypedPlace env t (places x) ty

-- where a variable stands may be read after these tests wherever these calls were made
pub record IsStandingPlace (env : Environment) (tests : List Test) (done : List Path) (o : Option Path) : Type 0 where
  pub path : Path
  pub is : o ≡ Some path
  pub stands : (later : List Path) → Among done later → StandsOn env tests later path

-- so of each variable
abbrev pub AreStandingPlaces : Environment → (tests : List Test) (done : List Path) → List (TypeId × ℕ) → Places → Type 0
AreStandingPlaces env tests done vars places = (ty : TypeId) (x : ℕ) → Contains vars (ty, x) → IsStandingPlace env tests done (places x)

-- variables of patterns
pub typed_places : (env : Environment) (t : Term) (tests : List Test) (vars : List (TypeId × ℕ)) (places : Places) → ArePlacedAs env t tests vars places → AreTypedPlaces env t vars places
typed_places env t tests vars places h ty x c = let k = h ty x c in record { path = k.path; is = k.is; typed = k.typed }

pub standing_places : (env : Environment) (t : Term) (tests : List Test) (done : List Path) (vars : List (TypeId × ℕ)) (places : Places) → ArePlacedAs env t tests vars places → AreStandingPlaces env tests done vars places
standing_places env t tests done vars places h ty x c = let k = h ty x c in record { path = k.path; is = k.is; stands = λ later a. k.stands later }

-- if more calls were made
pub later_places : (env : Environment) (tests : List Test) (done later : List Path) (vars : List (TypeId × ℕ)) (places : Places) → Among done later → AreStandingPlaces env tests done vars places → AreStandingPlaces env tests later vars places
later_places env tests done later vars places a h ty x c = let k = h ty x c in record { path = k.path; is = k.is; stands = λ more b. k.stands more (λ p d. b p (a p d)) }

-- what holds of a new variable's path, and of where each other stands, holds of all
pub with_place : (P : TypeId → Option Path → Type 0) (vars : List (TypeId × ℕ)) (places : Places) (x : ℕ) (of : TypeId) (p : Path) → IsNew vars x → P of (Some p) → ((ty : TypeId) (y : ℕ) → Contains vars (ty, y) → P ty (places y))
    → (ty : TypeId) (y : ℕ) → Contains ((of, x) ∷ vars) (ty, y) → P ty (with places x p y)
with_place P vars places x of p new h k ty y c =
    ⊎_elim (λ (e : (of, x) ≡ (ty, y)). subst (λ (v : TypeId × ℕ). P v.0 (with places x p v.1)) e (subst (λ b. P of (cond b (Some p) (places x))) (sym (eq-eqb x x refl)) h))
    (λ d. subst (λ b. P ty (cond b (Some p) (places y))) (sym (ne_eqb x y (λ e. new ty (subst (λ z. Contains vars (ty, z)) (sym e) d)))) (k ty y d)) (contained_cases (of, x) vars (ty, y) c)

-- ---- paths of right sides

module _ (env : Environment) (t : Term) (allowed : Allowed) (tests : List Test) where
  -- the answer of a term that is called has its type
  answer_typed : (d : Calling) (kind : ReturnKind) → IsCall kind d → (term : TermId) (c : Term) (ps : Paths) (k : ℕ) (ty : TypeId) → calling env term ≡ d → slice_get env.terms term.0 ≡ Some c → c.ret_ty ≡ ty → ArePathsOf env t ps c.arg_tys
      → IsPathOf env t (answer_path (ByTurns (External []) kind) (Called term ps k)) ty
  answer_typed d return_kind.Option call term c ps k ty is there ret are =
      (subst (IsCall return_kind.Option) (sym is) call, subst (λ o. IsSomeAnd o (λ (x : Term). (x.ret_ty ∷ [] ≡ ty ∷ []) × ArePathsOf env t ps x.arg_tys)) (sym there) (ap (λ of. of ∷ []) ret, are))
  answer_typed d return_kind.Plain call term c ps k ty is there ret are =
      (subst (IsCall return_kind.Plain) (sym is) call, subst (λ o. IsSomeAnd o (λ (x : Term). (x.ret_ty ≡ ty) × ArePathsOf env t ps x.arg_tys)) (sym there) (ret, are))
  answer_typed d return_kind.Iterator call term c ps k ty is there ret are =
      (subst (IsCall return_kind.Iterator) (sym is) call, subst (λ o. IsSomeAnd o (λ (x : Term). (x.ret_ty ∷ [] ≡ ty ∷ []) × ArePathsOf env t ps x.arg_tys)) (sym there) (ap (λ of. of ∷ []) ret, are))

  -- paths of a form's types
  form_paths : {A : Type 0} (o : Option A) (types : A → List TypeId) (tys : List TypeId) (ps : Paths) → option_map types o ≡ Some tys → ArePathsOf env t ps tys → IsSomeAnd o (λ f. ArePathsOf env t ps (types f))
  form_paths None types tys ps e are = cc
  form_paths (Some f) types tys ps e are = subst (ArePathsOf env t ps) (sym (same_Some (types f) tys e)) are

  -- the value of a typed term on paths of its types
  term_typed : {mk : Making} {d : Calling} (term : TermId) (c : Term) (ps : Paths) (k : ℕ) (ty : TypeId) → IsServed env allowed c mk d → calling env term ≡ d → slice_get env.terms term.0 ≡ Some c → c.ret_ty ≡ ty → ArePathsOf env t ps c.arg_tys
      → IsPathOf env t (answer_path d (term_path mk term ps k)) ty
  term_typed term c ps k ty (takes_turns callee kind fits impure) is there ret are = answer_typed (ByTurns callee kind) kind refl term c ps k ty is there ret are
  term_typed term c ps k ty (has_cases callee kind fits) is there ret are = answer_typed (ByCases callee kind) kind refl term c ps k ty is there ret are
  term_typed term c ps k ty (makes_variant of variant h) is there ret are = (h.0 ∙ ret, form_paths (form env (MakesVariant of variant)) (form_types env) c.arg_tys ps h.1 are)
  term_typed term c ps k ty (makes_struct of h) is there ret are = (h.0 ∙ ret, form_paths (form env (MakesStruct of)) (form_types env) c.arg_tys ps h.1 are)

  mutual
    -- the path of a typed expression has its type
    pub path_typed : (vars : List (TypeId × ℕ)) (places : Places) → AreTypedPlaces env t vars places → (e : Expr) (n : ℕ) (ty : TypeId) → IsExprOf env allowed vars ty e → IsPathOf env t (path env e places n) ty
    path_typed vars places placed (expr.Var of x) n ty h = let k = placed ty x.0 h.1 in subst (λ o. IsPathOf env t (path_or o) ty) (sym k.is) k.typed
    path_typed vars places placed (expr.ConstBool b) n ty h = h
    path_typed vars places placed (expr.ConstInt of v) n ty h = h
    path_typed vars places placed (expr.ConstPrim of name) n ty h = h.1
    path_typed vars places placed (expr.Term of term es) n ty h =
        let c = some_of (slice_get env.terms term.0) _ h.1 in
        term_typed term c.0 (all_paths env es places n) (instance_of (calling env term) (n + impure_all env es)) ty (served env allowed term c.0 c.1 c.2.0) refl c.1 c.2.1 (paths_typed vars places placed es n c.0.arg_tys c.2.2)
    path_typed vars places placed (expr.Let of bindings inner) n ty h = path_typed (let_variables vars bindings) (let_places env bindings places n) (let_typed vars places placed bindings n h.1) inner (n + impure_bindings env bindings) ty h.2

    -- so of expressions in order
    pub paths_typed : (vars : List (TypeId × ℕ)) (places : Places) → AreTypedPlaces env t vars places → (es : Exprs) (n : ℕ) (tys : List TypeId) → AreExprsOf env allowed vars tys es → ArePathsOf env t (all_paths env es places n) tys
    paths_typed vars places placed NoExpr n [] h = tt
    paths_typed vars places placed (AnExpr e es) n (ty ∷ tys) h = (path_typed vars places placed e n ty h.0, paths_typed vars places placed es (n + impure env e) tys h.1)
    paths_typed vars places placed NoExpr n (ty ∷ tys) h = absurd h
    paths_typed vars places placed (AnExpr e es) n [] h = absurd h

    -- so of where the variables of a `let` stand
    pub let_typed : (vars : List (TypeId × ℕ)) (places : Places) → AreTypedPlaces env t vars places → (bs : LetBindings) (n : ℕ) → AreBindingsOf env allowed vars bs → AreTypedPlaces env t (let_variables vars bs) (let_places env bs places n)
    let_typed vars places placed NoBinding n h = placed
    let_typed vars places placed (ABinding x of e bs) n h =
        let p = path env e places n in
        let_typed ((of, x.0) ∷ vars) (with places x.0 p)
        (with_place (λ ty o. IsTypedPlace env t o ty) vars places x.0 of p h.0 (record { path = p; is = refl; typed = path_typed vars places placed e n of h.1 }) placed) bs (n + impure env e) h.2

  -- ---- they stand on their calls

  -- an impure answer stands on its call
  turn_stands : (kind : ReturnKind) (callee : Callee) (done : List Path) (term : TermId) (ps : Paths) (k : ℕ) → calling env term ≡ ByTurns callee kind → Contains done (Called term ps k) → StandsOn env tests done (answer_path (ByTurns callee kind) (Called term ps k))
  turn_stands return_kind.Plain callee done term ps k is c = subst (λ d. StandsCalled d (Contains done (Called term ps k)) (AllStandOn env tests done ps)) (sym is) c
  turn_stands return_kind.Option callee done term ps k is c = inl c
  turn_stands return_kind.Iterator callee done term ps k is c = (subst (λ d. StandsCalled d (Contains done (Called term ps k)) (AllStandOn env tests done ps)) (sym is) c, λ e. c)

  -- a pure list that holds an impure call is ordered
  pub list_ordered : (done : List Path) (p : Path) (holds : Bool) → Among (cond holds (p ∷ []) []) done → holds ≡ true → Contains done p
  list_ordered done p true a e = a p (head_contained p [])
  list_ordered done p false a e = absurd cc

  -- a pure one stands on its arguments, and one that may be nothing on its call
  case_stands : (kind : ReturnKind) (callee : Callee) (done : List Path) (term : TermId) (ps : Paths) (k : ℕ) → calling env term ≡ ByCases callee kind → AllStandOn env tests done ps → Among (if_ordered env (ByCases callee kind) (Called term ps k)) done
      → StandsOn env tests done (answer_path (ByCases callee kind) (Called term ps k))
  case_stands return_kind.Plain callee done term ps k is stand a = subst (λ d. StandsCalled d (Contains done (Called term ps k)) (AllStandOn env tests done ps)) (sym is) stand
  case_stands return_kind.Option callee done term ps k is stand a = inl (a (Called term ps k) (head_contained (Called term ps k) []))
  case_stands return_kind.Iterator callee done term ps k is stand a =
      (subst (λ d. StandsCalled d (Contains done (Called term ps k)) (AllStandOn env tests done ps)) (sym is) stand, λ e. list_ordered done (Called term ps k) (holds_impure env (Called term ps k)) a e)

  -- the value of a term stands on its call, or on its parts
  term_stands : {mk : Making} {d : Calling} (term : TermId) (c : Term) (done : List Path) (ps : Paths) (k : ℕ) → IsServed env allowed c mk d → calling env term ≡ d → AllStandOn env tests done ps → Among (if_ordered env d (term_path mk term ps k)) done → StandsOn env tests done (answer_path d (term_path mk term ps k))
  term_stands term c done ps k (takes_turns callee kind fits impure) is stand a = turn_stands kind callee done term ps k is (a (Called term ps k) (head_contained (Called term ps k) []))
  term_stands term c done ps k (has_cases callee kind fits) is stand a = case_stands kind callee done term ps k is stand a
  term_stands term c done ps k (makes_variant of variant h) is stand a = stand
  term_stands term c done ps k (makes_struct of h) is stand a = stand

  mutual
    -- the value of a typed expression stands on the calls within it
    pub path_stands : (vars : List (TypeId × ℕ)) (places : Places) (done : List Path) → AreStandingPlaces env tests done vars places → (e : Expr) (n : ℕ) (ty : TypeId) → IsExprOf env allowed vars ty e → Among (calls env e places n) done → StandsOn env tests done (path env e places n)
    path_stands vars places done placed (expr.Var of x) n ty h a = let k = placed ty x.0 h.1 in subst (λ o. StandsOn env tests done (path_or o)) (sym k.is) (k.stands done (λ p c. c))
    path_stands vars places done placed (expr.ConstBool b) n ty h a = tt
    path_stands vars places done placed (expr.ConstInt of v) n ty h a = tt
    path_stands vars places done placed (expr.ConstPrim of name) n ty h a = tt
    path_stands vars places done placed (expr.Term of term es) n ty h a =
        let c = some_of (slice_get env.terms term.0) _ h.1 in
        let last = if_ordered env (calling env term) (call_path env term (all_paths env es places n) (n + impure_all env es)) in
        term_stands term c.0 done (all_paths env es places n) (instance_of (calling env term) (n + impure_all env es)) (served env allowed term c.0 c.1 c.2.0) refl
        (paths_stand vars places done placed es n c.0.arg_tys c.2.2 (λ p d. a p (Contains-append_left (calls_all env es places n) last p d))) (λ p d. a p (Contains-append_right (calls_all env es places n) last p d))
    path_stands vars places done placed (expr.Let of bindings inner) n ty h a =
        let mid = let_places env bindings places n in
        let m = n + impure_bindings env bindings in
        path_stands (let_variables vars bindings) mid done (let_stands vars places done placed bindings n h.1 (λ p c. a p (Contains-append_left (calls_bindings env bindings places n) (calls env inner mid m) p c))) inner m ty h.2
        (λ p c. a p (Contains-append_right (calls_bindings env bindings places n) (calls env inner mid m) p c))

    -- so of expressions in order
    pub paths_stand : (vars : List (TypeId × ℕ)) (places : Places) (done : List Path) → AreStandingPlaces env tests done vars places → (es : Exprs) (n : ℕ) (tys : List TypeId) → AreExprsOf env allowed vars tys es → Among (calls_all env es places n) done
        → AllStandOn env tests done (all_paths env es places n)
    paths_stand vars places done placed NoExpr n [] h a = tt
    paths_stand vars places done placed (AnExpr e es) n (ty ∷ tys) h a =
        let n1 = n + impure env e in (
          path_stands vars places done placed e n ty h.0 (λ p c. a p (Contains-append_left (calls env e places n) (calls_all env es places n1) p c)),
          paths_stand vars places done placed es n1 tys h.1 (λ p c. a p (Contains-append_right (calls env e places n) (calls_all env es places n1) p c)),
        )
    paths_stand vars places done placed NoExpr n (ty ∷ tys) h a = absurd h
    paths_stand vars places done placed (AnExpr e es) n [] h a = absurd h

    -- so of where the variables of a `let` stand
    pub let_stands : (vars : List (TypeId × ℕ)) (places : Places) (done : List Path) → AreStandingPlaces env tests done vars places → (bs : LetBindings) (n : ℕ) → AreBindingsOf env allowed vars bs → Among (calls_bindings env bs places n) done
        → AreStandingPlaces env tests done (let_variables vars bs) (let_places env bs places n)
    let_stands vars places done placed NoBinding n h a = placed
    let_stands vars places done placed (ABinding x of e bs) n h a =
        let p = path env e places n in
        let n1 = n + impure env e in
        let rest = calls_bindings env bs (with places x.0 p) n1 in
        let_stands ((of, x.0) ∷ vars) (with places x.0 p) done
        (with_place (λ ty o. IsStandingPlace env tests done o) vars places x.0 of p h.0
        (record { path = p; is = refl; stands = λ later b. path_stands vars places later (later_places env tests done later vars places b placed) e n of h.1 (λ q c. b q (a q (Contains-append_left (calls env e places n) rest q c))) }) placed) bs n1 h.2
        (λ q c. a q (Contains-append_right (calls env e places n) rest q c))

  -- ---- the calls are ready

  -- calls after calls
  serializable_more : (ps done xs ys : List Path) → AreSerializableCalls env t tests ps done xs → ((later : List Path) → Among done later → Among xs later → AreSerializableCalls env t tests ps later ys) → AreSerializableCalls env t tests ps done (xs ++ ys)
  serializable_more ps done [] ys h go = go done (λ p c. c) (λ p c. absurd (none_contained p c))
  serializable_more ps done (x ∷ xs) ys h go = (h.0, serializable_more ps (x ∷ done) xs ys h.1 (λ later a b. go later (λ p c. a p (tail_contained x done p c)) (λ p c. ⊎_elim (λ (e : x ≡ p). a p (subst (Contains (x ∷ done)) e (head_contained x done))) (b p) (contained_cases x xs p c))))

  -- a call that may be nothing has an inner value
  inner_of : (kind : ReturnKind) (callee : Callee) (q : Path) (ps : List Path) → Among (with_inner (ByTurns callee kind) q) ps → IsTrue (may_be_nothing kind) → Contains ps (Inner q)
  inner_of return_kind.Option callee q ps a h = a (Inner q) (tail_contained q (Inner q ∷ []) (Inner q) (head_contained (Inner q) []))
  inner_of return_kind.Plain callee q ps a h = cc
  inner_of return_kind.Iterator callee q ps a h = cc

  -- one that answers several times has an item
  item_of : (kind : ReturnKind) (callee : Callee) (q : Path) (ps : List Path) → Among (with_inner (ByTurns callee kind) q) ps → IsTrue (is_several kind) → Contains ps (Chosen q)
  item_of return_kind.Iterator callee q ps a h = a (Chosen q) (tail_contained q (Chosen q ∷ []) (Chosen q) (head_contained (Chosen q) []))
  item_of return_kind.Plain callee q ps a h = cc
  item_of return_kind.Option callee q ps a h = cc

  -- a call of a term
  call_serializable : (d : Calling) (kind : ReturnKind) (callee : Callee) (ps done : List Path) (term : TermId) (c : Term) (qs : Paths) (k : ℕ) → IsCall kind d → is_fallible d ≡ may_be_nothing kind → answers_often d ≡ is_several kind → (IsTrue (may_be_nothing kind) → IsTrue allowed.nothing) → calling env term ≡ d → slice_get env.terms term.0 ≡ Some c
      → ArePathsOf env t qs c.arg_tys → AllStandOn env tests done qs → allowed.nothing ≡ may_be_nothing (kind_of t.kind) → FitAnswers env ps → Often t kind → Among (with_inner (ByTurns callee kind) (Called term qs k)) ps → IsSerializableCall env t tests ps done (Called term qs k)
  call_serializable d kind callee ps done term c qs k call same_kind same_often fits is there are stand same fit often a = record {
    term = term;
    parameters = qs;
    instance = k;
    path = refl;
    called = c;
    found = there;
    args = are;
    stand = stand;
    kind = kind;
    external = subst (IsCall kind) (sym is) call;
    inner = (inner_of kind callee (Called term qs k) ps a, λ b. sym same_kind ∙ sym (ap is_fallible is) ∙ fit (Inner (Called term qs k)) b);
    fits = λ h. sym same ∙ fits h;
    item = (item_of kind callee (Called term qs k) ps a, λ b. sym same_often ∙ sym (ap answers_often is) ∙ fit (Chosen (Called term qs k)) b);
    often = often;
  }

  -- a pure call that holds an impure one, if it answers several times
  list_serializable : (callee : Callee) (holds : Bool) (ps done : List Path) (term : TermId) (c : Term) (qs : Paths) (k : ℕ) → calling env term ≡ ByCases callee return_kind.Iterator → slice_get env.terms term.0 ≡ Some c
      → ArePathsOf env t qs c.arg_tys → AllStandOn env tests done qs → allowed.nothing ≡ may_be_nothing (kind_of t.kind) → FitAnswers env ps → Often t return_kind.Iterator → Among (with_inner (ByCases callee return_kind.Iterator) (Called term qs k)) ps
      → AreSerializableCalls env t tests ps done (cond holds (Called term qs k ∷ []) [])
  list_serializable callee true ps done term c qs k is there are stand same fit often a =
      (call_serializable (ByCases callee return_kind.Iterator) return_kind.Iterator callee ps done term c qs k refl refl refl (λ e. cc) is there are stand same fit often a, tt)
  list_serializable callee false ps done term c qs k is there are stand same fit often a = tt

  -- a pure call, if its place counts
  case_serializable : (kind : ReturnKind) (callee : Callee) (ps done : List Path) (term : TermId) (c : Term) (qs : Paths) (k : ℕ) → (IsTrue (may_be_nothing kind) → IsTrue allowed.nothing) → calling env term ≡ ByCases callee kind → slice_get env.terms term.0 ≡ Some c
      → ArePathsOf env t qs c.arg_tys → AllStandOn env tests done qs → allowed.nothing ≡ may_be_nothing (kind_of t.kind) → FitAnswers env ps → Often t kind → Among (with_inner (ByCases callee kind) (Called term qs k)) ps → AreSerializableCalls env t tests ps done (if_ordered env (ByCases callee kind) (Called term qs k))
  case_serializable return_kind.Plain callee ps done term c qs k fits is there are stand same fit often a = tt
  case_serializable return_kind.Option callee ps done term c qs k fits is there are stand same fit often a =
      (call_serializable (ByCases callee return_kind.Option) return_kind.Option callee ps done term c qs k refl refl refl fits is there are stand same fit often a, tt)
  case_serializable return_kind.Iterator callee ps done term c qs k fits is there are stand same fit often a =
      list_serializable callee (holds_impure env (Called term qs k)) ps done term c qs k is there are stand same fit often a

  -- the call of a typed term, if its place counts
  term_serializable : {mk : Making} {d : Calling} (ps done : List Path) (term : TermId) (c : Term) (qs : Paths) (k : ℕ) → IsServed env allowed c mk d → calling env term ≡ d → slice_get env.terms term.0 ≡ Some c → ArePathsOf env t qs c.arg_tys → AllStandOn env tests done qs
      → allowed.nothing ≡ may_be_nothing (kind_of t.kind) → FitAnswers env ps → HasKind (Often t) d → Among (with_inner d (term_path mk term qs k)) ps → AreSerializableCalls env t tests ps done (if_ordered env d (term_path mk term qs k))
  term_serializable ps done term c qs k (takes_turns callee kind fits impure) is there are stand same fit often a =
      (call_serializable (ByTurns callee kind) kind callee ps done term c qs k refl refl refl fits is there are stand same fit often a, tt)
  term_serializable ps done term c qs k (has_cases callee kind fits) is there are stand same fit often a = case_serializable kind callee ps done term c qs k fits is there are stand same fit often a
  term_serializable ps done term c qs k (makes_variant of variant h) is there are stand same fit often a = tt
  term_serializable ps done term c qs k (makes_struct of h) is there are stand same fit often a = tt

  mutual
    -- the calls of a typed expression
    pub calls_serializable : (vars : List (TypeId × ℕ)) (places : Places) (ps done : List Path) → AreTypedPlaces env t vars places → AreStandingPlaces env tests done vars places → (e : Expr) (n : ℕ) (ty : TypeId) → IsExprOf env allowed vars ty e
        → allowed.nothing ≡ may_be_nothing (kind_of t.kind) → FitAnswers env ps → AreOften (Often t) env (called_by env e) → Among (expr_paths env e places n) ps → AreSerializableCalls env t tests ps done (calls env e places n)
    calls_serializable vars places ps done typed placed (expr.Var of x) n ty h same fit often a = tt
    calls_serializable vars places ps done typed placed (expr.ConstBool b) n ty h same fit often a = tt
    calls_serializable vars places ps done typed placed (expr.ConstInt of v) n ty h same fit often a = tt
    calls_serializable vars places ps done typed placed (expr.ConstPrim of name) n ty h same fit often a = tt
    calls_serializable vars places ps done typed placed (expr.Term of term es) n ty h same fit often a =
        let c = some_of (slice_get env.terms term.0) _ h.1 in
        let qs = all_paths env es places n in
        let q = call_path env term qs (n + impure_all env es) in
        serializable_more ps done (calls_all env es places n) (if_ordered env (calling env term) q)
        (all_calls_serializable vars places ps done typed placed es n c.0.arg_tys c.2.2 same fit (often_first (Often t) env (called_by_all env es) (unless_made env Constructor term) often) (λ p d. a p (Contains-append_left (exprs_paths env es places n) (with_inner (calling env term) q) p d)))
        (λ later among made. term_serializable ps later term c.0 qs (instance_of (calling env term) (n + impure_all env es)) (served env allowed term c.0 c.1 c.2.0) refl c.1 (paths_typed vars places typed es n c.0.arg_tys c.2.2)
        (paths_stand vars places later (later_places env tests done later vars places among placed) es n c.0.arg_tys c.2.2 made) same fit (called_often (Often t) env term es often) (λ p d. a p (Contains-append_right (exprs_paths env es places n) (with_inner (calling env term) q) p d)))
    calls_serializable vars places ps done typed placed (expr.Let of bindings inner) n ty h same fit often a =
        let mid = let_places env bindings places n in
        let m = n + impure_bindings env bindings in
        let others = expr_paths env inner mid m in
        serializable_more ps done (calls_bindings env bindings places n) (calls env inner mid m)
        (let_calls_serializable vars places ps done typed placed bindings n h.1 same fit (often_first (Often t) env (called_by_bindings env bindings) (called_by env inner) often) (λ p c. a p (Contains-append_left (bindings_paths env bindings places n) others p c)))
        (λ later among made. calls_serializable (let_variables vars bindings) mid ps later (let_typed vars places typed bindings n h.1) (let_stands vars places later (later_places env tests done later vars places among placed) bindings n h.1 made) inner m ty h.2 same fit (often_rest (Often t) env (called_by_bindings env bindings) (called_by env inner) often)
        (λ p c. a p (Contains-append_right (bindings_paths env bindings places n) others p c)))

    -- those of expressions in order
    all_calls_serializable : (vars : List (TypeId × ℕ)) (places : Places) (ps done : List Path) → AreTypedPlaces env t vars places → AreStandingPlaces env tests done vars places → (es : Exprs) (n : ℕ) (tys : List TypeId) → AreExprsOf env allowed vars tys es
        → allowed.nothing ≡ may_be_nothing (kind_of t.kind) → FitAnswers env ps → AreOften (Often t) env (called_by_all env es) → Among (exprs_paths env es places n) ps → AreSerializableCalls env t tests ps done (calls_all env es places n)
    all_calls_serializable vars places ps done typed placed NoExpr n [] h same fit often a = tt
    all_calls_serializable vars places ps done typed placed (AnExpr e es) n (ty ∷ tys) h same fit often a =
        let n1 = n + impure env e in
        serializable_more ps done (calls env e places n) (calls_all env es places n1)
        (calls_serializable vars places ps done typed placed e n ty h.0 same fit (often_first (Often t) env (called_by env e) (called_by_all env es) often) (λ p c. a p (Contains-append_left (expr_paths env e places n) (exprs_paths env es places n1) p c)))
        (λ later among made. all_calls_serializable vars places ps later typed (later_places env tests done later vars places among placed) es n1 tys h.1 same fit (often_rest (Often t) env (called_by env e) (called_by_all env es) often) (λ p c. a p (Contains-append_right (expr_paths env e places n) (exprs_paths env es places n1) p c)))
    all_calls_serializable vars places ps done typed placed NoExpr n (ty ∷ tys) h same fit often a = absurd h
    all_calls_serializable vars places ps done typed placed (AnExpr e es) n [] h same fit often a = absurd h

    -- those of the values of a `let`
    let_calls_serializable : (vars : List (TypeId × ℕ)) (places : Places) (ps done : List Path) → AreTypedPlaces env t vars places → AreStandingPlaces env tests done vars places → (bs : LetBindings) (n : ℕ) → AreBindingsOf env allowed vars bs
        → allowed.nothing ≡ may_be_nothing (kind_of t.kind) → FitAnswers env ps → AreOften (Often t) env (called_by_bindings env bs) → Among (bindings_paths env bs places n) ps → AreSerializableCalls env t tests ps done (calls_bindings env bs places n)
    let_calls_serializable vars places ps done typed placed NoBinding n h same fit often a = tt
    let_calls_serializable vars places ps done typed placed (ABinding x of e bs) n h same fit often a =
        let p = path env e places n in
        let mid = with places x.0 p in
        let n1 = n + impure env e in
        serializable_more ps done (calls env e places n) (calls_bindings env bs mid n1)
        (calls_serializable vars places ps done typed placed e n of h.1 same fit (often_first (Often t) env (called_by env e) (called_by_bindings env bs) often) (λ q c. a q (Contains-append_left (expr_paths env e places n) (bindings_paths env bs mid n1) q c)))
        (λ later among made. let_calls_serializable ((of, x.0) ∷ vars) mid ps later
        (with_place (λ ty o. IsTypedPlace env t o ty) vars places x.0 of p h.0 (record { path = p; is = refl; typed = path_typed vars places typed e n of h.1 }) typed)
        (with_place (λ ty o. IsStandingPlace env tests later o) vars places x.0 of p h.0
        (record { path = p; is = refl; stands = λ more b. path_stands vars places more (later_places env tests done more vars places (λ q d. b q (among q d)) placed) e n of h.1 (λ q d. b q (made q d)) }) (later_places env tests done later vars places among placed)) bs n1 h.2 same fit (often_rest (Often t) env (called_by env e) (called_by_bindings env bs) often)
        (λ q c. a q (Contains-append_right (expr_paths env e places n) (bindings_paths env bs mid n1) q c)))

-- ---- where no call may be nothing

module _ (env : Environment) (allowed : Allowed) where
  -- ordered calls hold an impure one
  turn_late : (callee : Callee) (kind : ReturnKind) (term : TermId) (qs : Paths) (k : ℕ) → calling env term ≡ ByTurns callee kind → holds_impure env (Called term qs k) ≡ true
  turn_late callee kind term qs k is = ap (λ d. takes_turn d || hold_impure env qs) is

  one_late : (p : Path) → holds_impure env p ≡ true → AreLate env (p ∷ [])
  one_late p e q c = ⊎_elim (λ (s : p ≡ q). subst (λ x. holds_impure env x ≡ true) s e) (λ d. absurd (none_contained q d)) (contained_cases p [] q c)

  none_late : AreLate env []
  none_late q c = absurd (none_contained q c)

  both_late : (xs ys : List Path) → AreLate env xs → AreLate env ys → AreLate env (xs ++ ys)
  both_late xs ys h k q c = ⊎_elim (λ d. h q d) (λ d. k q d) (Contains-append_cases xs ys q c)

  held_late : (p : Path) (holds : Bool) → holds_impure env p ≡ holds → AreLate env (cond holds (p ∷ []) [])
  held_late p true e = one_late p e
  held_late p false e = none_late

  case_late : (kind : ReturnKind) (callee : Callee) (p : Path) → allowed.nothing ≡ false → (IsTrue (may_be_nothing kind) → IsTrue allowed.nothing) → AreLate env (if_ordered env (ByCases callee kind) p)
  case_late return_kind.Plain callee p none fits = none_late
  case_late return_kind.Option callee p none fits = absurd (no_both (fits refl) none)
  case_late return_kind.Iterator callee p none fits = held_late p (holds_impure env p) refl

  term_late : {mk : Making} {d : Calling} (term : TermId) (c : Term) (qs : Paths) (k : ℕ) → allowed.nothing ≡ false → IsServed env allowed c mk d → calling env term ≡ d → AreLate env (if_ordered env d (term_path mk term qs k))
  term_late term c qs k none (takes_turns callee kind fits impure) is = one_late (Called term qs k) (turn_late callee kind term qs k is)
  term_late term c qs k none (has_cases callee kind fits) is = case_late kind callee (Called term qs k) none fits
  term_late term c qs k none (makes_variant of variant h) is = none_late
  term_late term c qs k none (makes_struct of h) is = none_late

  mutual
    pub calls_late : (vars : List (TypeId × ℕ)) (places : Places) (e : Expr) (n : ℕ) (ty : TypeId) → allowed.nothing ≡ false → IsExprOf env allowed vars ty e → AreLate env (calls env e places n)
    calls_late vars places (expr.Var of x) n ty none h = none_late
    calls_late vars places (expr.ConstBool b) n ty none h = none_late
    calls_late vars places (expr.ConstInt of v) n ty none h = none_late
    calls_late vars places (expr.ConstPrim of name) n ty none h = none_late
    calls_late vars places (expr.Term of term es) n ty none h =
        let c = some_of (slice_get env.terms term.0) _ h.1 in
        let qs = all_paths env es places n in
        both_late (calls_all env es places n) (if_ordered env (calling env term) (call_path env term qs (n + impure_all env es))) (all_calls_late vars places es n c.0.arg_tys none c.2.2)
        (term_late term c.0 qs (instance_of (calling env term) (n + impure_all env es)) none (served env allowed term c.0 c.1 c.2.0) refl)
    calls_late vars places (expr.Let of bindings inner) n ty none h =
        let mid = let_places env bindings places n in
        let m = n + impure_bindings env bindings in
        both_late (calls_bindings env bindings places n) (calls env inner mid m) (let_calls_late vars places bindings n none h.1) (calls_late (let_variables vars bindings) mid inner m ty none h.2)

    all_calls_late : (vars : List (TypeId × ℕ)) (places : Places) (es : Exprs) (n : ℕ) (tys : List TypeId) → allowed.nothing ≡ false → AreExprsOf env allowed vars tys es → AreLate env (calls_all env es places n)
    all_calls_late vars places NoExpr n tys none h = none_late
    all_calls_late vars places (AnExpr e es) n (ty ∷ tys) none h = both_late (calls env e places n) (calls_all env es places (n + impure env e)) (calls_late vars places e n ty none h.0) (all_calls_late vars places es (n + impure env e) tys none h.1)
    all_calls_late vars places (AnExpr e es) n [] none h = absurd h

    let_calls_late : (vars : List (TypeId × ℕ)) (places : Places) (bs : LetBindings) (n : ℕ) → allowed.nothing ≡ false → AreBindingsOf env allowed vars bs → AreLate env (calls_bindings env bs places n)
    let_calls_late vars places NoBinding n none h = none_late
    let_calls_late vars places (ABinding x of e bs) n none h =
        let mid = with places x.0 (path env e places n) in
        both_late (calls env e places n) (calls_bindings env bs mid (n + impure env e)) (calls_late vars places e n of none h.1) (let_calls_late ((of, x.0) ∷ vars) mid bs (n + impure env e) none h.2)

-- ---- each once

-- a call that is ready stays so after more calls
call_later : (env : Environment) (t : Term) (tests : List Test) (ps done later : List Path) (p : Path) → Among done later → IsSerializableCall env t tests ps done p → IsSerializableCall env t tests ps later p
call_later env t tests ps done later p a h = record {
  term = h.term;
  parameters = h.parameters;
  instance = h.instance;
  path = h.path;
  called = h.called;
  found = h.found;
  args = h.args;
  stand = all_stand_later env h.parameters tests done later a h.stand;
  kind = h.kind;
  external = h.external;
  inner = h.inner;
  fits = h.fits;
  item = h.item;
  often = h.often;
}

-- the firsts of calls that are ready
pub firsts_ready : {seen xs ys : List Path} (env : Environment) (t : Term) (tests : List Test) (ps done : List Path) → AreFirsts seen xs ys → Among done seen → AreSerializableCalls env t tests ps done xs → AreSerializableCalls env t tests ps seen ys
firsts_ready env t tests ps done (no_more seen) a h = tt
firsts_ready env t tests ps done (again seen x xs ys s more) a h = firsts_ready env t tests ps (x ∷ done) more (λ p c. ⊎_elim (λ (e : x ≡ p). subst (Contains seen) e s) (a p) (contained_cases x done p c)) h.1
firsts_ready env t tests ps done (first seen x xs ys new more) a h = (
  call_later env t tests ps done seen x a h.0,
  firsts_ready env t tests ps (x ∷ done) more (λ p c. ⊎_elim (λ (e : x ≡ p). subst (Contains (x ∷ seen)) e (head_contained x seen)) (λ d. tail_contained x seen p (a p d)) (contained_cases x done p c)) h.1,
)
