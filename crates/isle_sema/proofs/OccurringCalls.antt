-- The impure calls of typed right sides have occurrences one after the other, so each occurrence stands once.
use Rattle.std.proofs.Common.{◌≡◌, ⊎_elim, ℕ, suc, ◌+◌, ◌≤◌, Bool, true, false, cond, List, [], ◌∷◌, ◌++◌, map, refl, sym, subst, arith}
use Rattle.std.specs.Prelude.{Contains, slice_get}
use Rattle.std.proofs.lemmas.List.{append-nil, append_assoc}
use Rattle.isle_core.specs.declared.BindingId.{BindingId}
use Rattle.isle_core.specs.declared.TermId.{TermId}
use Rattle.isle_core.specs.declared.TypeId.{TypeId}
use Rattle.isle_core.specs.declared.types.ReturnKind.{ReturnKind}
use Rattle.isle_core.specs.declared.types.ReturnKind.TheVariants as return_kind
use Rattle.isle_core.specs.declared.types.Term.{Term}
use Rattle.isle_core.specs.declared.values.Callee.{Callee}
use Rattle.isle_core.specs.Calling.{Calling, ByTurns, ByCases, calling, instance_of, one_more, impure, impure_all, impure_bindings}
use Rattle.isle_core.specs.Expr as expr
use Rattle.isle_core.specs.Expr.{Expr, Exprs, NoExpr, AnExpr, LetBindings, NoBinding, ABinding}
use Rattle.isle_core.specs.HoldsImpure.{holds_impure}
use Rattle.isle_core.specs.Making.{Making}
use Rattle.isle_core.specs.Match.{with}
use Rattle.isle_core.specs.Occurrences.{occurrence, occurrence_at, occurrences}
use Rattle.isle_core.specs.OrderedCalls.{if_ordered, calls, calls_all, calls_bindings}
use Rattle.isle_core.specs.Path.{Path, Called, Paths, at}
use Rattle.isle_core.specs.RightSide.{term_path, path, paths as all_paths, let_places}
use Rattle.isle_core.specs.Rule.{Environment}
use Rattle.isle_core.specs.StandsFor.{EachOnce, AreFirsts, no_more, again, first}
use Rattle.isle_core.specs.Tests.{Places}
use Rattle.isle_core.proofs.Contained.{contained_cases}
use Rattle.isle_core.specs.ExprType.{Allowed, IsExprOf, AreExprsOf, AreBindingsOf}
use Rattle.isle_core.specs.TypedVariables.{let_variables}
use Rattle.isle_sema.proofs.SerializableCalls.{some_of, IsServed, takes_turns, has_cases, makes_variant, makes_struct, served}

-- at most one occurrence, the next after n, and what holds after it
abbrev pub IsNext : ℕ → List ℕ → (ℕ → Type 0) → Type 0
IsNext n [] behind = behind n
IsNext n (k ∷ []) behind = (k ≡ suc n) × behind (suc n)
IsNext n (k ∷ j ∷ ks) behind = ⊥

-- the impure ones among these calls have the next occurrences after n, up to the end
abbrev pub AreOccurring : Environment → (end n : ℕ) → List Path → Type 0
AreOccurring env end n [] = n ≡ end
AreOccurring env end n (p ∷ ps) = IsNext n (occurrence_at env p) (λ j. AreOccurring env end j ps)

-- ---- typed right sides

module _ (env : Environment) (allowed : Allowed) (end : ℕ) where
  -- the call of a typed term, if its place counts, after those of its arguments
  turn_occurs : (kind : ReturnKind) (callee : Callee) (n k : ℕ) (term : TermId) (qs : Paths) (cs more : List Path) → calling env term ≡ ByTurns callee kind → ((after : List Path) → AreOccurring env end (n + k) after → AreOccurring env end n (cs ++ after)) → AreOccurring env end (n + suc k) more
      → AreOccurring env end n ((cs ++ Called term qs (suc (n + k)) ∷ []) ++ more)
  turn_occurs kind callee n k term qs cs more is h r =
      let p = Called term qs (suc (n + k)) in
      let last : n + suc k ≡ suc (n + k) = omega arith in
      subst (AreOccurring env end n) (sym (append_assoc cs (p ∷ []) more))
      (h (p ∷ more) (subst (λ d. IsNext (n + k) (occurrence d (suc (n + k))) (λ j. AreOccurring env end j more)) (sym is) (refl, subst (λ j. AreOccurring env end j more) last r)))

  -- a list by cases has no occurrence
  list_occurs : (holds : Bool) (callee : Callee) (n k : ℕ) (term : TermId) (qs : Paths) (cs more : List Path) → calling env term ≡ ByCases callee return_kind.Iterator → ((after : List Path) → AreOccurring env end (n + k) after → AreOccurring env end n (cs ++ after)) → AreOccurring env end (n + k) more
      → AreOccurring env end n ((cs ++ cond holds (Called term qs 0 ∷ []) []) ++ more)
  list_occurs true callee n k term qs cs more is h r =
      let p = Called term qs 0 in
      subst (AreOccurring env end n) (sym (append_assoc cs (p ∷ []) more)) (h (p ∷ more) (subst (λ d. IsNext (n + k) (occurrence d 0) (λ j. AreOccurring env end j more)) (sym is) r))
  list_occurs false callee n k term qs cs more is h r = subst (λ ps. AreOccurring env end n (ps ++ more)) (sym (append-nil cs)) (h more r)

  -- nor has another call by cases
  case_occurs : (kind : ReturnKind) (callee : Callee) (n k : ℕ) (term : TermId) (qs : Paths) (cs more : List Path) → calling env term ≡ ByCases callee kind → ((after : List Path) → AreOccurring env end (n + k) after → AreOccurring env end n (cs ++ after)) → AreOccurring env end (n + k) more
      → AreOccurring env end n ((cs ++ if_ordered env (ByCases callee kind) (Called term qs 0)) ++ more)
  case_occurs return_kind.Option callee n k term qs cs more is h r =
      let p = Called term qs 0 in
      subst (AreOccurring env end n) (sym (append_assoc cs (p ∷ []) more)) (h (p ∷ more) (subst (λ d. IsNext (n + k) (occurrence d 0) (λ j. AreOccurring env end j more)) (sym is) r))
  case_occurs return_kind.Plain callee n k term qs cs more is h r = subst (λ ps. AreOccurring env end n (ps ++ more)) (sym (append-nil cs)) (h more r)
  case_occurs return_kind.Iterator callee n k term qs cs more is h r = list_occurs (holds_impure env (Called term qs 0)) callee n k term qs cs more is h r

  term_occurs : {mk : Making} {d : Calling} (n k : ℕ) (term : TermId) (c : Term) (qs : Paths) (cs more : List Path) → IsServed env allowed c mk d → calling env term ≡ d → ((after : List Path) → AreOccurring env end (n + k) after → AreOccurring env end n (cs ++ after)) → AreOccurring env end (n + one_more d k) more
      → AreOccurring env end n ((cs ++ if_ordered env d (term_path mk term qs (instance_of d (n + k)))) ++ more)
  term_occurs n k term c qs cs more (takes_turns callee kind fits impure) is h r = turn_occurs kind callee n k term qs cs more is h r
  term_occurs n k term c qs cs more (has_cases callee kind fits) is h r = case_occurs kind callee n k term qs cs more is h r
  term_occurs n k term c qs cs more (makes_variant of variant made) is h r = subst (λ ps. AreOccurring env end n (ps ++ more)) (sym (append-nil cs)) (h more r)
  term_occurs n k term c qs cs more (makes_struct of made) is h r = subst (λ ps. AreOccurring env end n (ps ++ more)) (sym (append-nil cs)) (h more r)

  -- if nothing is called
  none_occurs : (n : ℕ) (more : List Path) → AreOccurring env end (n + 0) more → AreOccurring env end n more
  none_occurs n more r = let same : n + 0 ≡ n = omega arith in subst (λ j. AreOccurring env end j more) same r

  mutual
    -- the calls of a typed expression, and those after it
    calls_occur : (vars : List (TypeId × ℕ)) (places : Places) (e : Expr) (n : ℕ) (ty : TypeId) (more : List Path) → IsExprOf env allowed vars ty e → AreOccurring env end (n + impure env e) more → AreOccurring env end n (calls env e places n ++ more)
    calls_occur vars places (expr.Var of x) n ty more h r = none_occurs n more r
    calls_occur vars places (expr.ConstBool b) n ty more h r = none_occurs n more r
    calls_occur vars places (expr.ConstInt of v) n ty more h r = none_occurs n more r
    calls_occur vars places (expr.ConstPrim of name) n ty more h r = none_occurs n more r
    calls_occur vars places (expr.Term of term es) n ty more h r =
        let c = some_of (slice_get env.terms term.0) _ h.1 in
        term_occurs n (impure_all env es) term c.0 (all_paths env es places n) (calls_all env es places n) more (served env allowed term c.0 c.1 c.2.0) refl (λ after s. all_calls_occur vars places es n c.0.arg_tys after c.2.2 s) r
    calls_occur vars places (expr.Let of bindings inner) n ty more h r =
        let mid = let_places env bindings places n in
        let m = n + impure_bindings env bindings in
        let assoc : n + (impure_bindings env bindings + impure env inner) ≡ m + impure env inner = omega arith in
        subst (AreOccurring env end n) (sym (append_assoc (calls_bindings env bindings places n) (calls env inner mid m) more))
        (let_calls_occur vars places bindings n (calls env inner mid m ++ more) h.1 (calls_occur (let_variables vars bindings) mid inner m ty more h.2 (subst (λ j. AreOccurring env end j more) assoc r)))

    -- those of expressions in order
    all_calls_occur : (vars : List (TypeId × ℕ)) (places : Places) (es : Exprs) (n : ℕ) (tys : List TypeId) (more : List Path) → AreExprsOf env allowed vars tys es → AreOccurring env end (n + impure_all env es) more → AreOccurring env end n (calls_all env es places n ++ more)
    all_calls_occur vars places NoExpr n [] more h r = none_occurs n more r
    all_calls_occur vars places (AnExpr e es) n (ty ∷ tys) more h r =
        let n1 = n + impure env e in
        let assoc : n + (impure env e + impure_all env es) ≡ n + impure env e + impure_all env es = omega arith in
        subst (AreOccurring env end n) (sym (append_assoc (calls env e places n) (calls_all env es places n1) more))
        (calls_occur vars places e n ty (calls_all env es places n1 ++ more) h.0 (all_calls_occur vars places es n1 tys more h.1 (subst (λ j. AreOccurring env end j more) assoc r)))
    all_calls_occur vars places NoExpr n (ty ∷ tys) more h r = absurd h
    all_calls_occur vars places (AnExpr e es) n [] more h r = absurd h

    -- those of the values of a `let`
    let_calls_occur : (vars : List (TypeId × ℕ)) (places : Places) (bs : LetBindings) (n : ℕ) (more : List Path) → AreBindingsOf env allowed vars bs → AreOccurring env end (n + impure_bindings env bs) more → AreOccurring env end n (calls_bindings env bs places n ++ more)
    let_calls_occur vars places NoBinding n more h r = none_occurs n more r
    let_calls_occur vars places (ABinding x of e bs) n more h r =
        let n1 = n + impure env e in
        let mid = with places x.0 (path env e places n) in
        let assoc : n + (impure env e + impure_bindings env bs) ≡ n + impure env e + impure_bindings env bs = omega arith in
        subst (AreOccurring env end n) (sym (append_assoc (calls env e places n) (calls_bindings env bs mid n1) more))
        (calls_occur vars places e n of (calls_bindings env bs mid n1 ++ more) h.1 (let_calls_occur ((of, x.0) ∷ vars) mid bs n1 more h.2 (subst (λ j. AreOccurring env end j more) assoc r)))

-- the calls of a typed expression
pub expr_occurs : (env : Environment) (allowed : Allowed) (vars : List (TypeId × ℕ)) (places : Places) (e : Expr) (n : ℕ) (ty : TypeId) → IsExprOf env allowed vars ty e → AreOccurring env (n + impure env e) n (calls env e places n)
expr_occurs env allowed vars places e n ty h = subst (AreOccurring env (n + impure env e) n) (append-nil (calls env e places n)) (calls_occur env allowed (n + impure env e) vars places e n ty [] h refl)

-- ---- each occurrence once

-- occurrences after n, each once
abbrev pub AreOnceBehind : ℕ → List ℕ → Type 0
AreOnceBehind n ks = ((k : ℕ) → Contains ks k → suc n ≤ k) × EachOnce ks

less_behind : (n : ℕ) (ks : List ℕ) → AreOnceBehind (suc n) ks → AreOnceBehind n ks
less_behind n ks h = ((λ k c. let low = h.0 k c in omega (arith, low)), h.1)

-- without the next one
without_next : (n : ℕ) (os ks : List ℕ) (behind : ℕ → Type 0) → IsNext n os behind → ((j : ℕ) → behind j → AreOnceBehind j ks) → AreOnceBehind n ks
without_next n [] ks behind h go = go n h
without_next n (k ∷ []) ks behind h go = less_behind n ks (go (suc n) h.1)
without_next n (k ∷ j ∷ os) ks behind h go = absurd h

-- with the next one
with_next : (n : ℕ) (os ks : List ℕ) (behind : ℕ → Type 0) → IsNext n os behind → ((j : ℕ) → behind j → AreOnceBehind j ks) → AreOnceBehind n (os ++ ks)
with_next n [] ks behind h go = go n h
with_next n (k ∷ []) ks behind h go =
    let rest = go (suc n) h.1 in
    let next = h.0 in
    ((λ j c. ⊎_elim (λ (s : k ≡ j). omega (arith, next, s)) (λ d. let low = rest.0 j d in omega (arith, low)) (contained_cases k ks j c)), ((λ c. let low = rest.0 k c in omega (arith, low, next)), rest.1))
with_next n (k ∷ j ∷ os) ks behind h go = absurd h

-- the head and the rest of equal lists
list_same : (x y : Path) (xs ys : List Path) → x ∷ xs ≡ y ∷ ys → (x ≡ y) × (xs ≡ ys)
list_same x y xs ys e = (cc, cc)

-- the occurrences of the firsts of such calls, and those after the end
pub occur_once : {seen xs ys : List Path} (env : Environment) (ps : List Path) → AreFirsts seen xs ys → (bs : List BindingId) → ys ≡ map (at ps) bs → (n end : ℕ) (ks : List ℕ) → AreOccurring env end n xs → AreOnceBehind end ks → AreOnceBehind n (occurrences env ps bs ++ ks)
occur_once env ps (no_more seen) [] e n end ks h k = subst (λ m. AreOnceBehind m ks) (sym h) k
occur_once env ps (no_more seen) (b ∷ bs) e n end ks h k = absurd cc
occur_once env ps (again seen x xs ys s more) bs e n end ks h k = without_next n (occurrence_at env x) (occurrences env ps bs ++ ks) (λ j. AreOccurring env end j xs) h (λ j r. occur_once env ps more bs e j end ks r k)
occur_once env ps (first seen x xs ys new more) [] e n end ks h k = absurd cc
occur_once env ps (first seen x xs ys new more) (b ∷ bs) e n end ks h k =
    let same = list_same x (at ps b) ys (map (at ps) bs) e in
    subst (AreOnceBehind n) (sym (append_assoc (occurrence_at env (at ps b)) (occurrences env ps bs) ks))
    (subst (λ p. AreOnceBehind n (occurrence_at env p ++ (occurrences env ps bs ++ ks))) same.0
    (with_next n (occurrence_at env x) (occurrences env ps bs ++ ks) (λ j. AreOccurring env end j xs) h (λ j r. occur_once env ps more bs same.1 j end ks r k)))
