-- The expression of a condition gives a value exactly if its calls find something, and that value stands at its path.
use Rattle.std.proofs.Common.{◌≡◌, ⊎_elim, ℕ, ◌+◌, List, [], ◌∷◌, ◌++◌, map, Bool, true, false, cond, ◌&&◌, Option, Some, None, refl, sym, ap, ◌∙◌, subst, arith}
use Rattle.std.specs.Prelude.{Contains, IsSomeAnd, option_map, slice_get}
use Rattle.std.proofs.lemmas.Bool.{eq-eqb, ne_eqb}
use Rattle.std.proofs.lemmas.List.Elements.{Contains-append_left, Contains-append_right}
use Rattle.std.proofs.lemmas.List.Folds.{list_all-append}
use Rattle.std.proofs.lemmas.Option.{slice_get-map}
use Rattle.isle_base.specs.declared.ids.TermId.{TermId}
use Rattle.isle_base.specs.declared.ids.TypeId.{TypeId}
use Rattle.isle_base.specs.declared.ids.VariantId.{VariantId}
use Rattle.isle_core.specs.declared.types.ConstructorKind.TheVariants as constructor
use Rattle.isle_core.specs.declared.types.ReturnKind.{ReturnKind}
use Rattle.isle_core.specs.declared.types.ReturnKind.TheVariants as return_kind
use Rattle.isle_core.specs.declared.types.Term.{Term}
use Rattle.isle_core.specs.declared.types.TermKind.{TermKind}
use Rattle.isle_core.specs.declared.types.TermKind.TheVariants as kind
use Rattle.isle_core.specs.declared.values.Callee.{Callee}
use Rattle.isle_core.specs.declared.values.Callee.TheVariants.{External, Internal}
use Rattle.isle_core.specs.Answered.{item_of, answer_held}
use Rattle.isle_core.specs.Calling.{Calling, ByCases, NoCall, calling, calling_of, calling_by, kind_by, kind_of, pure_callee, instance_of, one_more, impure, impure_all, impure_bindings}
use Rattle.isle_core.specs.CalledTerms.{Constructor, CalledTerm, unless_made, called_by, called_by_all, called_by_bindings}
use Rattle.isle_core.specs.Choice.{Choice}
use Rattle.isle_core.specs.Constants.{int_value}
use Rattle.isle_core.specs.Eval.{Evaluated, Answered, Failed, EvaluatedAll, AllAnswered, OneFailed, Bound, AllBound, NotBound, then_all, before, then_one, then_bind, then_within, named, answered_item, answered, made_or_called, evaluated, evaluated_all, bound}
use Rattle.isle_core.specs.Expr as expr
use Rattle.isle_core.specs.Expr.{Expr, Exprs, NoExpr, AnExpr, LetBindings, NoBinding, ABinding}
use Rattle.isle_core.specs.ExprType.{IsMadeOf, IsTermKind, IsExprOf, AreExprsOf, AreBindingsOf, in_condition}
use Rattle.isle_core.specs.HasType.{HasType, HaveTypes}
use Rattle.isle_core.specs.Having.{const_of}
use Rattle.isle_core.specs.Lawful.{Fits, CallingFits, CalledTermFits}
use Rattle.isle_core.specs.Making.{Making, MakesVariant, MakesStruct, MakesNothing, making_kind, making_of, making}
use Rattle.isle_core.specs.Match.{Names, with}
use Rattle.isle_core.specs.Meaning.{Meaning, cases_of, case}
use Rattle.isle_core.specs.OccurringConstants.{TypedConstant, Named, expr_constants, exprs_constants, bindings_constants}
use Rattle.isle_core.specs.Opening.{answer_path}
use Rattle.isle_core.specs.Path.{Path, Called, Chosen, Paths, APath}
use Rattle.isle_core.specs.PatternType.{AreVariantsApart}
use Rattle.isle_core.specs.RightSide.{path_or, term_path, call_path, path, paths, let_places}
use Rattle.isle_core.specs.Rule.{Environment}
use Rattle.isle_core.specs.Terms.{sym_text, impure_callee}
use Rattle.isle_core.specs.Tests.{Places, found_tests, called_tests, all_called_tests, bindings_called_tests}
use Rattle.isle_core.specs.TypedVariables.{let_variables, IsNew}
use Rattle.isle_core.specs.Value.{Value, Answer, Plain, Found, Nothing, Several, Made}
use Rattle.isle_core.specs.ValueAt.{a_value, item_at, chosen_held, inner_held, is_found, is_item, held, value_before, case_held, call_held, made_held, none_made, value_at, values_at, holds, all_hold}
use Rattle.isle_core.specs.Served.{AreServed, IsSupplied}
use Rattle.isle_core.proofs.AnsweredTerms.{called_here}
use Rattle.isle_core.proofs.Contained.{head_contained, contained_cases}
use Rattle.isle_core.proofs.MadeTypes.{made_typed}
use Rattle.isle_core.proofs.PatternTests.{fit_there, Values, Agree, StandsAt, not_made, with_agrees, case_fits}
use Rattle.isle_core.proofs.TypedNames.{AreNamed}

-- ---- terms of conditions

-- how a term of a condition is called, or what it makes
pub data IsAsked (env : Environment) (c : Term) : Making → Calling → Type 0 where
  has_cases : (callee : Callee) (kind : ReturnKind) → IsAsked env c MakesNothing (ByCases callee kind)
  makes_variant : (ty : TypeId) (variant : VariantId) → IsMadeOf env c ty (MakesVariant ty variant) → IsAsked env c (MakesVariant ty variant) NoCall
  makes_struct : (ty : TypeId) → IsMadeOf env c ty (MakesStruct ty) → IsAsked env c (MakesStruct ty) NoCall

kind_asked : (env : Environment) (c : Term) (k : TermKind) → IsTermKind env in_condition c k → IsAsked env c (making_kind k) (calling_by (kind_of k) (impure_callee env c k) (pure_callee env c k))
kind_asked env c (kind.Decl true multi partial recursive (constructor.External func) x) h = has_cases (External (sym_text env func)) (kind_by multi partial)
kind_asked env c (kind.Decl true multi partial recursive constructor.Internal x) h = has_cases (Internal (sym_text env c.name)) (kind_by multi partial)
kind_asked env c (kind.Decl false multi partial recursive (constructor.External func) x) h = let bad : false ≡ true = h.1 refl in absurd cc
kind_asked env c (kind.Decl false multi partial recursive constructor.Internal x) h = let bad : false ≡ true = h.1 refl in absurd cc
kind_asked env c (kind.Variant ty variant) h = makes_variant ty variant h
kind_asked env c (kind.Struct ty) h = makes_struct ty h
kind_asked env c k h = absurd h

-- so of a term that is there
pub asked : (env : Environment) (term : TermId) (c : Term) → slice_get env.terms term.0 ≡ Some c → IsTermKind env in_condition c c.kind → IsAsked env c (making env term) (calling env term)
asked env term c there h = subst (λ o. IsAsked env c (making_of o) (calling_of env o)) (sym there) (kind_asked env c c.kind h)

-- what is there, and what holds of it
pub some_of : {A : Type 0} (o : Option A) (P : A → Type 0) → IsSomeAnd o P → (x : A) × (o ≡ Some x) × P x
some_of None P h = absurd h
some_of (Some x) P h = (x, refl, h)

-- none of them is impure
counts_none : {env : Environment} {c : Term} {mk : Making} {d : Calling} (n : ℕ) → IsAsked env c mk d → one_more d n ≡ n
counts_none n (has_cases callee kind) = refl
counts_none n (makes_variant ty variant made) = refl
counts_none n (makes_struct ty made) = refl

module _ (env : Environment) where
  mutual
    pub no_impure : (vars : List (TypeId × ℕ)) (ty : TypeId) (e : Expr) → IsExprOf env in_condition vars ty e → impure env e ≡ 0
    no_impure vars ty (expr.Var of x) h = refl
    no_impure vars ty (expr.ConstBool b) h = refl
    no_impure vars ty (expr.ConstInt of n) h = refl
    no_impure vars ty (expr.ConstPrim of name) h = refl
    no_impure vars ty (expr.Term of term es) h = let c = some_of (slice_get env.terms term.0) _ h.1 in counts_none (impure_all env es) (asked env term c.0 c.1 c.2.0) ∙ none_impure vars c.0.arg_tys es c.2.2
    no_impure vars ty (expr.Let of bs inner) h =
        let first = bindings_no_impure vars bs h.1 in
        let second = no_impure (let_variables vars bs) ty inner h.2 in
        omega (arith, first, second)

    pub none_impure : (vars : List (TypeId × ℕ)) (tys : List TypeId) (es : Exprs) → AreExprsOf env in_condition vars tys es → impure_all env es ≡ 0
    none_impure vars tys NoExpr h = refl
    none_impure vars (ty ∷ tys) (AnExpr e es) h =
        let first = no_impure vars ty e h.0 in
        let second = none_impure vars tys es h.1 in
        omega (arith, first, second)
    none_impure vars [] (AnExpr e es) h = absurd h

    pub bindings_no_impure : (vars : List (TypeId × ℕ)) (bs : LetBindings) → AreBindingsOf env in_condition vars bs → impure_bindings env bs ≡ 0
    bindings_no_impure vars NoBinding h = refl
    bindings_no_impure vars (ABinding x ty e bs) h =
        let first = no_impure vars ty e h.1 in
        let second = bindings_no_impure ((ty, x.0) ∷ vars) bs h.2 in
        omega (arith, first, second)

-- ---- what the meaning has

-- what supplies calls and constants supplies a part of both
pub supplied_less : (env : Environment) (m : Meaning) (terms others : List CalledTerm) (constants those : List TypedConstant) → ((o : CalledTerm) → Contains others o → Contains terms o) → ((c : TypedConstant) → Contains those c → Contains constants c)
    → IsSupplied env m terms constants → IsSupplied env m others those
supplied_less env m terms others constants those f g s = record { answers = λ o k. s.answers o (f o k); named = λ ty name k. s.named ty name (g (ty, Named name) k) }

-- a new variable of a `let`
let_named : (env : Environment) (vars : List (TypeId × ℕ)) (ty : TypeId) (x : ℕ) (v : Value) (names : Names) → IsNew vars x → HasType env v ty → AreNamed env vars names → AreNamed env ((ty, x) ∷ vars) (with names x v)
let_named env vars ty x v names new t h of y c =
    ⊎_elim (λ (e : (ty, x) ≡ (of, y)). subst (λ (w : TypeId × ℕ). IsSomeAnd (with names x v w.1) (λ u. HasType env u w.0)) e (subst (λ b. IsSomeAnd (cond b (Some v) (names x)) (λ u. HasType env u ty)) (sym (eq-eqb x x refl)) t))
    (λ d. subst (λ b. IsSomeAnd (cond b (Some v) (names y)) (λ u. HasType env u of)) (sym (ne_eqb x y (λ e. new of (subst (λ z. Contains {X = TypeId × ℕ} vars (of, z)) (sym e) d)))) (h of y d))
    (contained_cases {A = TypeId × ℕ} (ty, x) vars (of, y) c)

first_holds : (b c : Bool) → b ≡ true → c ≡ true → (b && c) ≡ true
first_holds b c h k = rw h k

fails_first : (b c : Bool) → b ≡ false → (b && c) ≡ false
fails_first b c h = rw h refl

fails_second : (b c : Bool) → c ≡ false → (b && c) ≡ false
fails_second true c h = h
fails_second false c h = refl

module _ (env : Environment) (m : Meaning) (choice : Choice) (args : List Value) (apart : AreVariantsApart env) where
  -- what stands at each path before any impure call
  abbrev val : Values
  val = value_at env m args (none_made choice)

  -- a value of the type, at the path, exactly if the tests hold; no call counts
  abbrev pub Gives : TypeId → (holds : Bool) → Path → List Made → Evaluated → Type 0
  Gives ty b p made (Answered v calls) = (calls ≡ made) × (b ≡ true) × (val p ≡ a_value v) × HasType env v ty
  Gives ty b p made (Failed calls) = b ≡ false

  -- so of values in order
  abbrev GivesAll : List TypeId → (holds : Bool) → Paths → List Made → EvaluatedAll → Type 0
  GivesAll tys b ps made (AllAnswered vs calls) = (calls ≡ made) × (b ≡ true) × (values_at env m args (none_made choice) ps ≡ Some vs) × HaveTypes env vs tys
  GivesAll tys b ps made (OneFailed calls) = b ≡ false

  -- so of the values of a `let`
  abbrev GivesBound : List (TypeId × ℕ) → (holds : Bool) → Places → List Made → Bound → Type 0
  GivesBound vars b places made (AllBound names calls) = (calls ≡ made) × (b ≡ true) × Agree val names places × AreNamed env vars names
  GivesBound vars b places made (NotBound calls) = b ≡ false

  -- ---- a call

  -- an answer that fits is a value, or nothing is found
  answer_gives : (callee : Callee) (kind : ReturnKind) (ty : TypeId) (b : Bool) (p : Path) (a : Answer) (made : List Made) → b ≡ true → Fits env kind (ty ∷ []) a → val p ≡ answer_held a
      → Gives ty (b && all_hold env m val (found_tests (ByCases callee kind) p)) (answer_path (ByCases callee kind) p) made (answered (choice p) (answer_held a) made)
  answer_gives callee return_kind.Plain ty b p (Plain (v ∷ [])) made t h e = (refl, rw t refl, e, h.0)
  answer_gives callee return_kind.Option ty b p (Found (v ∷ [])) made t h e = (refl, first_holds b (is_found (val p) && true) t (ap (λ x. is_found x && true) e), ap inner_held e, h.0)
  answer_gives callee return_kind.Option ty b p Nothing made t h e = fails_second b (is_found (val p) && true) (ap (λ x. is_found x && true) e)
  answer_gives callee return_kind.Plain ty b p (Plain []) made t h e = absurd h
  answer_gives callee return_kind.Plain ty b p (Plain (v ∷ w ∷ vs)) made t h e = absurd h.1
  answer_gives callee return_kind.Plain ty b p (Found vs) made t h e = absurd h
  answer_gives callee return_kind.Plain ty b p Nothing made t h e = absurd h
  answer_gives callee return_kind.Plain ty b p (Several items) made t h e = absurd h
  answer_gives callee return_kind.Option ty b p (Plain vs) made t h e = absurd h
  answer_gives callee return_kind.Option ty b p (Found []) made t h e = absurd h
  answer_gives callee return_kind.Option ty b p (Found (v ∷ w ∷ vs)) made t h e = absurd h.1
  answer_gives callee return_kind.Option ty b p (Several items) made t h e = absurd h
  answer_gives callee return_kind.Iterator ty b p (Plain vs) made t h e = absurd h
  answer_gives callee return_kind.Iterator ty b p (Found vs) made t h e = absurd h
  answer_gives callee return_kind.Iterator ty b p Nothing made t h e = absurd h
  answer_gives callee return_kind.Iterator ty b p (Several items) made t h e =
      item_gives (slice_get items (choice p)) (ap (chosen_held (choice p)) e ∙ ap item_at (slice_get-map item_of items (choice p))) (slice_get-map item_of items (choice p)) (λ vs there. fit_there (λ xs. HaveTypes env xs (ty ∷ [])) items (choice p) vs h there)
    where
      item_gives : (o : Option (List Value)) → val (Chosen p) ≡ item_at (option_map item_of o) → slice_get (map item_of items) (choice p) ≡ option_map item_of o → ((vs : List Value) → o ≡ Some vs → HaveTypes env vs (ty ∷ []))
          → Gives ty (b && (is_item (val (Chosen p)) && true)) (Chosen p) made (answered_item (slice_get (map item_of items) (choice p)) made)
      item_gives None at is types = rw is (fails_second b (is_item (val (Chosen p)) && true) (ap (λ x. is_item x && true) at))
      item_gives (Some (v ∷ [])) at is types = rw is (refl, first_holds b (is_item (val (Chosen p)) && true) t (ap (λ x. is_item x && true) at), at, (types (v ∷ []) refl).0)
      item_gives (Some []) at is types = absurd (types [] refl)
      item_gives (Some (v ∷ w ∷ vs)) at is types = absurd (types (v ∷ w ∷ vs) refl).1

  -- a term on values that stand at its arguments' paths
  term_gives : {mk : Making} {d : Calling} (term : TermId) (c : Term) (ps : Paths) (b : Bool) (made : List Made) (r : EvaluatedAll) → IsAsked env c mk d → calling env term ≡ d → (mk ≡ MakesNothing → CallingFits env m (c.ret_ty ∷ []) d) → GivesAll c.arg_tys b ps made r
      → Gives c.ret_ty (b && all_hold env m val (found_tests d (term_path mk term ps (instance_of d 0)))) (answer_path d (term_path mk term ps (instance_of d 0))) made (then_one r (made_or_called env m (choice (term_path mk term ps (instance_of d 0))) mk d))
  term_gives term c ps b made (OneFailed calls) (has_cases callee kind) is f h = fails_first b _ h
  term_gives term c ps b made (OneFailed calls) (makes_variant ty variant typed) is f h = fails_first b _ h
  term_gives term c ps b made (OneFailed calls) (makes_struct ty typed) is f h = fails_first b _ h
  term_gives term c ps b made (AllAnswered vs calls) (has_cases callee kind) is f h =
      let a = case m callee vs in
      let p = Called term ps 0 in
      let at : val p ≡ answer_held a = ap (λ d. call_held m d None (values_at env m args (none_made choice) ps)) is ∙ ap (case_held m (ByCases callee kind)) h.2 in
      subst (λ cs. Gives c.ret_ty (b && all_hold env m val (found_tests (ByCases callee kind) p)) (answer_path (ByCases callee kind) p) made (answered (choice p) (answer_held a) cs)) (sym h.0)
      (answer_gives callee kind c.ret_ty b p a made h.1 (case_fits env (c.ret_ty ∷ []) kind (cases_of m callee) vs (f refl).0) at)
  term_gives term c ps b made (AllAnswered vs calls) (makes_variant ty variant typed) is f h =
      (h.0, first_holds b true h.1 refl, ap (made_held env (MakesVariant ty variant)) h.2, made_typed env apart vs c.ret_ty (MakesVariant ty variant) c.arg_tys typed.0 typed.1 h.3)
  term_gives term c ps b made (AllAnswered vs calls) (makes_struct ty typed) is f h =
      (h.0, first_holds b true h.1 refl, ap (made_held env (MakesStruct ty)) h.2, made_typed env apart vs c.ret_ty (MakesStruct ty) c.arg_tys typed.0 typed.1 h.3)

  -- ---- one after the other

  all_give : (ty : TypeId) (tys : List TypeId) (b c : Bool) (p : Path) (ps : Paths) (made : List Made) (r : Evaluated) (rest : List Made → EvaluatedAll) → Gives ty b p made r → ((calls : List Made) → GivesAll tys c ps calls (rest calls))
      → GivesAll (ty ∷ tys) (b && c) (APath p ps) made (then_all r (λ v calls. before v (rest calls)))
  all_give ty tys b c p ps made (Failed calls) rest h k = fails_first b c h
  all_give ty tys b c p ps made (Answered v calls) rest h k = then_rest (rest calls) (k calls)
    where
      then_rest : (r : EvaluatedAll) → GivesAll tys c ps calls r → GivesAll (ty ∷ tys) (b && c) (APath p ps) made (before v r)
      then_rest (OneFailed more) l = fails_second b c l
      then_rest (AllAnswered vs more) l = (l.0 ∙ h.0, first_holds b c h.1 l.1, ap (λ x. value_before x (values_at env m args (none_made choice) ps)) h.2 ∙ ap (value_before (a_value v)) l.2, (h.3, l.3))

  bound_gives : (ty : TypeId) (vars : List (TypeId × ℕ)) (b c : Bool) (p : Path) (places : Places) (made : List Made) (r : Evaluated) (go : Value → List Made → Bound) → Gives ty b p made r → ((v : Value) (calls : List Made) → val p ≡ a_value v → HasType env v ty → GivesBound vars c places calls (go v calls))
      → GivesBound vars (b && c) places made (then_bind r go)
  bound_gives ty vars b c p places made (Failed calls) go h k = fails_first b c h
  bound_gives ty vars b c p places made (Answered v calls) go h k = then_rest (go v calls) (k v calls h.2 h.3)
    where
      then_rest : (r : Bound) → GivesBound vars c places calls r → GivesBound vars (b && c) places made r
      then_rest (NotBound more) l = fails_second b c l
      then_rest (AllBound names more) l = (l.0 ∙ h.0, first_holds b c h.1 l.1, l.2, l.3)

  within_gives : (ty : TypeId) (vars : List (TypeId × ℕ)) (b c : Bool) (places : Places) (p : Path) (made : List Made) (r : Bound) (go : Names → List Made → Evaluated) → GivesBound vars b places made r → ((names : Names) (calls : List Made) → Agree val names places → AreNamed env vars names → Gives ty c p calls (go names calls))
      → Gives ty (b && c) p made (then_within r go)
  within_gives ty vars b c places p made (NotBound calls) go h k = fails_first b c h
  within_gives ty vars b c places p made (AllBound names calls) go h k = then_rest (go names calls) (k names calls h.2 h.3)
    where
      then_rest : (r : Evaluated) → Gives ty c p calls r → Gives ty (b && c) p made r
      then_rest (Failed more) l = fails_second b c l
      then_rest (Answered v more) l = (l.0 ∙ h.0, first_holds b c h.1 l.1, l.2, l.3)

  -- ---- names and constants

  variable_gives : (ty : TypeId) (made : List Made) (o : Option Value) (q : Option Path) → StandsAt val o q → IsSomeAnd o (λ v. HasType env v ty) → Gives ty true (path_or q) made (named o made)
  variable_gives ty made (Some v) (Some p) s h = (refl, refl, s, h)
  variable_gives ty made (Some v) None s h = absurd s
  variable_gives ty made None q s h = absurd h

  constant_gives : (ty : TypeId) (p : Path) (made : List Made) (o : Option Value) → val p ≡ held o → IsSomeAnd o (λ v. HasType env v ty) → Gives ty true p made (named o made)
  constant_gives ty p made (Some v) e h = (refl, refl, e, h)
  constant_gives ty p made None e h = absurd h

  -- a constructor is served if it isn't made
  call_served : (term : TermId) (es : Exprs) (c : Term) → slice_get env.terms term.0 ≡ Some c → AreServed env m (called_by_all env es ++ unless_made env Constructor term) → making env term ≡ MakesNothing → CallingFits env m (c.ret_ty ∷ []) (calling env term)
  call_served term es c there served none =
      let o : CalledTerm = record { term = term; role = Constructor } in
      let fits : CalledTermFits env m o = served o (Contains-append_right (called_by_all env es) (unless_made env Constructor term) o (called_here env term (not_made (slice_get env.terms term.0) none))) in
      subst (λ t. IsSomeAnd t (λ (x : Term). CallingFits env m (x.ret_ty ∷ []) (calling env term))) there fits

  -- ---- the law

  mutual
    pub expr_gives : (vars : List (TypeId × ℕ)) (ty : TypeId) (e : Expr) (names : Names) (places : Places) (made : List Made) → IsExprOf env in_condition vars ty e → Agree val names places → AreNamed env vars names → IsSupplied env m (called_by env e) (expr_constants e)
        → Gives ty (all_hold env m val (called_tests env e places)) (path env e places 0) made (evaluated env m choice e names places 0 made)
    expr_gives vars ty (expr.Var of x) names places made h a n s = variable_gives ty made (names x.0) (places x.0) (a.by x.0) (n ty x.0 h.1)
    expr_gives vars ty (expr.ConstBool b) names places made h a n s = (refl, refl, refl, h.1)
    expr_gives vars ty (expr.ConstInt of k) names places made h a n s = (refl, refl, refl, subst (λ t. HasType env (int_value env t k) ty) (sym h.0) h.1)
    expr_gives vars ty (expr.ConstPrim of name) names places made h a n s =
        constant_gives ty (path env (expr.ConstPrim of name) places 0) made (const_of m (sym_text env name)) refl (subst (λ t. IsSomeAnd (const_of m (sym_text env name)) (λ v. HasType env v t)) h.0 (s.named of name (head_contained (of, Named name) [])))
    expr_gives vars ty (expr.Term of term es) names places made h a n s =
        let c = some_of (slice_get env.terms term.0) _ h.1 in
        let ps = paths env es places 0 in
        let none = none_impure env vars c.0.arg_tys es c.2.2 in
        let zero : 0 + impure_all env es ≡ 0 = omega (arith, none) in
        let d = calling env term in
        let own = unless_made env Constructor term in
        let inner = exprs_give vars c.0.arg_tys es names places made c.2.2 a n (supplied_less env m (called_by env (expr.Term of term es)) (called_by_all env es) (exprs_constants es) (exprs_constants es) (λ o k. Contains-append_left (called_by_all env es) own o k) (λ o k. k) s) in
        let given = term_gives term c.0 ps (all_hold env m val (all_called_tests env es places)) made (evaluated_all env m choice es names places 0 made) (asked env term c.0 c.1 c.2.0) refl (call_served term es c.0 c.1 s.answers) inner in
        subst (λ t. Gives t (all_hold env m val (called_tests env (expr.Term of term es) places)) (path env (expr.Term of term es) places 0) made (evaluated env m choice (expr.Term of term es) names places 0 made)) c.2.1
        (subst (λ b. Gives c.0.ret_ty b (path env (expr.Term of term es) places 0) made (evaluated env m choice (expr.Term of term es) names places 0 made)) (sym (list_all-append (holds env m val) (all_called_tests env es places) (found_tests d (call_path env term ps 0))))
        (subst (λ k. Gives c.0.ret_ty (all_hold env m val (all_called_tests env es places) && all_hold env m val (found_tests d (call_path env term ps 0))) (answer_path d (call_path env term ps k)) made (then_one (evaluated_all env m choice es names places 0 made) (made_or_called env m (choice (call_path env term ps k)) (making env term) d))) (sym zero) given))
    expr_gives vars ty (expr.Let of bs inner) names places made h a n s =
        let e = expr.Let of bs inner in
        let after = let_places env bs places 0 in
        let none = bindings_no_impure env vars bs h.1 in
        let zero : 0 + impure_bindings env bs ≡ 0 = omega (arith, none) in
        let first = bindings_give vars bs names places made h.1 a n
        (supplied_less env m (called_by env e) (called_by_bindings env bs) (expr_constants e) (bindings_constants bs) (λ o k. Contains-append_left (called_by_bindings env bs) (called_by env inner) o k) (λ c k. Contains-append_left (bindings_constants bs) (expr_constants inner) c k) s) in
        let rest = supplied_less env m (called_by env e) (called_by env inner) (expr_constants e) (expr_constants inner) (λ o k. Contains-append_right (called_by_bindings env bs) (called_by env inner) o k) (λ c k. Contains-append_right (bindings_constants bs) (expr_constants inner) c k) s in
        subst (λ b. Gives ty b (path env e places 0) made (evaluated env m choice e names places 0 made)) (sym (list_all-append (holds env m val) (bindings_called_tests env bs places) (called_tests env inner after)))
        (subst (λ k. Gives ty (all_hold env m val (bindings_called_tests env bs places) && all_hold env m val (called_tests env inner after)) (path env inner after k) made (then_within (bound env m choice bs names places 0 made) (λ all calls. evaluated env m choice inner all after k calls))) (sym zero)
        (within_gives ty (let_variables vars bs) (all_hold env m val (bindings_called_tests env bs places)) (all_hold env m val (called_tests env inner after)) after (path env inner after 0) made (bound env m choice bs names places 0 made) (λ all calls. evaluated env m choice inner all after 0 calls) first
        (λ names' calls a' n'. expr_gives (let_variables vars bs) ty inner names' after calls h.2 a' n' rest)))

    exprs_give : (vars : List (TypeId × ℕ)) (tys : List TypeId) (es : Exprs) (names : Names) (places : Places) (made : List Made) → AreExprsOf env in_condition vars tys es → Agree val names places → AreNamed env vars names → IsSupplied env m (called_by_all env es) (exprs_constants es)
        → GivesAll tys (all_hold env m val (all_called_tests env es places)) (paths env es places 0) made (evaluated_all env m choice es names places 0 made)
    exprs_give vars [] NoExpr names places made h a n s = (refl, refl, refl, tt)
    exprs_give vars (ty ∷ tys) (AnExpr e es) names places made h a n s =
        let terms = called_by_all env (AnExpr e es) in
        let constants = exprs_constants (AnExpr e es) in
        let none = no_impure env vars ty e h.0 in
        let zero : 0 + impure env e ≡ 0 = omega (arith, none) in
        let here = supplied_less env m terms (called_by env e) constants (expr_constants e) (λ o k. Contains-append_left (called_by env e) (called_by_all env es) o k) (λ c k. Contains-append_left (expr_constants e) (exprs_constants es) c k) s in
        let rest = supplied_less env m terms (called_by_all env es) constants (exprs_constants es) (λ o k. Contains-append_right (called_by env e) (called_by_all env es) o k) (λ c k. Contains-append_right (expr_constants e) (exprs_constants es) c k) s in
        let one = all_hold env m val (called_tests env e places) in
        let others = all_hold env m val (all_called_tests env es places) in
        subst (λ b. GivesAll (ty ∷ tys) b (paths env (AnExpr e es) places 0) made (evaluated_all env m choice (AnExpr e es) names places 0 made)) (sym (list_all-append (holds env m val) (called_tests env e places) (all_called_tests env es places)))
        (subst (λ k. GivesAll (ty ∷ tys) (one && others) (APath (path env e places 0) (paths env es places k)) made (then_all (evaluated env m choice e names places 0 made) (λ v calls. before v (evaluated_all env m choice es names places k calls)))) (sym zero)
        (all_give ty tys one others (path env e places 0) (paths env es places 0) made (evaluated env m choice e names places 0 made) (λ calls. evaluated_all env m choice es names places 0 calls) (expr_gives vars ty e names places made h.0 a n here)
        (λ calls. exprs_give vars tys es names places calls h.1 a n rest)))
    exprs_give vars [] (AnExpr e es) names places made h a n s = absurd h
    exprs_give vars (ty ∷ tys) NoExpr names places made h a n s = absurd h

    bindings_give : (vars : List (TypeId × ℕ)) (bs : LetBindings) (names : Names) (places : Places) (made : List Made) → AreBindingsOf env in_condition vars bs → Agree val names places → AreNamed env vars names → IsSupplied env m (called_by_bindings env bs) (bindings_constants bs)
        → GivesBound (let_variables vars bs) (all_hold env m val (bindings_called_tests env bs places)) (let_places env bs places 0) made (bound env m choice bs names places 0 made)
    bindings_give vars NoBinding names places made h a n s = (refl, refl, a, n)
    bindings_give vars (ABinding x ty e bs) names places made h a n s =
        let terms = called_by_bindings env (ABinding x ty e bs) in
        let constants = bindings_constants (ABinding x ty e bs) in
        let none = no_impure env vars ty e h.1 in
        let zero : 0 + impure env e ≡ 0 = omega (arith, none) in
        let here = supplied_less env m terms (called_by env e) constants (expr_constants e) (λ o k. Contains-append_left (called_by env e) (called_by_bindings env bs) o k) (λ c k. Contains-append_left (expr_constants e) (bindings_constants bs) c k) s in
        let rest = supplied_less env m terms (called_by_bindings env bs) constants (bindings_constants bs) (λ o k. Contains-append_right (called_by env e) (called_by_bindings env bs) o k) (λ c k. Contains-append_right (expr_constants e) (bindings_constants bs) c k) s in
        let p = path env e places 0 in
        let mid = with places x.0 p in
        let one = all_hold env m val (called_tests env e places) in
        let others = all_hold env m val (bindings_called_tests env bs mid) in
        subst (λ b. GivesBound (let_variables ((ty, x.0) ∷ vars) bs) b (let_places env (ABinding x ty e bs) places 0) made (bound env m choice (ABinding x ty e bs) names places 0 made)) (sym (list_all-append (holds env m val) (called_tests env e places) (bindings_called_tests env bs mid)))
        (subst (λ k. GivesBound (let_variables ((ty, x.0) ∷ vars) bs) (one && others) (let_places env bs mid k) made (then_bind (evaluated env m choice e names places 0 made) (λ v calls. bound env m choice bs (with names x.0 v) mid k calls))) (sym zero)
        (bound_gives ty (let_variables ((ty, x.0) ∷ vars) bs) one others p (let_places env bs mid 0) made (evaluated env m choice e names places 0 made) (λ v calls. bound env m choice bs (with names x.0 v) mid 0 calls) (expr_gives vars ty e names places made h.1 a n here)
        (λ v calls at typed. bindings_give ((ty, x.0) ∷ vars) bs (with names x.0 v) mid calls h.2 (with_agrees val names places x.0 v p at a) (let_named env vars ty x.0 v names h.0 typed n) rest)))
