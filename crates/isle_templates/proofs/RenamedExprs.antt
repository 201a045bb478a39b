-- An expression with new numbers for its variables has the type that it had, over the variables under their new numbers.
use Rattle.std.proofs.Common.{◌≡◌, ⊎_elim, ℕ, List, [], ◌∷◌, ◌++◌, map, Option, Some, None, refl, sym, ap, subst}
use Rattle.std.specs.Prelude.{Contains, IsSomeAnd, slice_get}
use Rattle.std.proofs.lemmas.List.Elements.{Contains-append_left, Contains-append_right}
use Rattle.isle_base.specs.declared.ids.TypeId.{TypeId}
use Rattle.isle_core.proofs.Contained.{head_contained, tail_contained, contained_cases, none_contained}
use Rattle.isle_core.specs.declared.types.Term.{Term}
use Rattle.isle_core.specs.Expr as expr
use Rattle.isle_core.specs.Expr.{Expr, Exprs, NoExpr, AnExpr, LetBindings, NoBinding, ABinding}
use Rattle.isle_core.specs.ExprType.{Allowed, IsTermKind, IsExprOf, AreExprsOf, AreBindingsOf}
use Rattle.isle_core.specs.Rule.{Environment}
use Rattle.isle_core.specs.TypedVariables.{let_variables, IsNew}
use Rattle.isle_templates.specs.Renumbered.{place_of, number_or, bound_in, all_bound_in, bindings_bound_in, expr_renamed, exprs_renamed, bindings_renamed}
use Rattle.isle_templates.proofs.NewNumbers.{one_to_one, old_variable}
use Rattle.isle_templates.proofs.RenamedBuilt.{new_variable}

-- a variable that is there is there under its new number
new_contained : (order : List ℕ) (vars : List (TypeId × ℕ)) (v : TypeId × ℕ) → Contains vars v → Contains (map (new_variable order) vars) (new_variable order v)
new_contained order [] v c = absurd (none_contained v c)
new_contained order (w ∷ vars) v c = ⊎_elim
    (λ (e : w ≡ v). subst (λ u. Contains (map (new_variable order) (w ∷ vars)) (new_variable order u)) e (head_contained (new_variable order w) (map (new_variable order) vars)))
    (λ d. tail_contained (new_variable order w) (map (new_variable order) vars) (new_variable order v) (new_contained order vars v d))
    (contained_cases w vars v c)

-- variables that have new numbers
abbrev pub AreKnown : List ℕ → List (TypeId × ℕ) → Type 0
AreKnown order vars = (v : TypeId × ℕ) → Contains vars v → Contains order v.1

-- numbers that have new ones
abbrev pub AreAmong : List ℕ → List ℕ → Type 0
AreAmong order xs = (x : ℕ) → Contains xs x → Contains order x

-- the variables of a `let` under their new numbers
let_renamed : (order : List ℕ) (vars : List (TypeId × ℕ)) (bs : LetBindings) → let_variables (map (new_variable order) vars) (bindings_renamed order bs) ≡ map (new_variable order) (let_variables vars bs)
let_renamed order vars NoBinding = refl
let_renamed order vars (ABinding x ty e bs) = let_renamed order ((ty, x.0) ∷ vars) bs

-- one more that has a new number
one_known : (order : List ℕ) (vars : List (TypeId × ℕ)) (ty : TypeId) (x : ℕ) → AreKnown order vars → Contains order x → AreKnown order ((ty, x) ∷ vars)
one_known order vars ty x known c v d = ⊎_elim (λ (e : (ty, x) ≡ v). subst (λ u. Contains order u.1) e c) (λ f. known v f) (contained_cases (ty, x) vars v d)

-- those of a `let` have new numbers
let_known : (order : List ℕ) (vars : List (TypeId × ℕ)) (bs : LetBindings) → AreKnown order vars → AreAmong order (bindings_bound_in bs) → AreKnown order (let_variables vars bs)
let_known order vars NoBinding known among = known
let_known order vars (ABinding x ty e bs) known among =
    let_known order ((ty, x.0) ∷ vars) bs (one_known order vars ty x.0 known (among x.0 (head_contained x.0 (bound_in e ++ bindings_bound_in bs))))
    (λ y c. among y (tail_contained x.0 (bound_in e ++ bindings_bound_in bs) y (Contains-append_right (bound_in e) (bindings_bound_in bs) y c)))

-- a new variable is new under its new number
new_renamed : (order : List ℕ) (vars : List (TypeId × ℕ)) (x : ℕ) → AreKnown order vars → Contains order x → IsNew vars x → IsNew (map (new_variable order) vars) (number_or x (place_of order x))
new_renamed order vars x known c new ty d =
    let v = old_variable order vars (ty, number_or x (place_of order x)) d in
    let same = one_to_one order v.0.1 x (known v.0 v.1) c (ap (λ u. u.1) v.2) in
    new v.0.0 (subst (λ n. Contains {X = TypeId × ℕ} vars (v.0.0, n)) same v.1)

-- a call keeps its type if its arguments do
pub call_kept : (env : Environment) (allowed : Allowed) (vars others : List (TypeId × ℕ)) (ty : TypeId) (es fs : Exprs) (o : Option Term) → ((t : Term) → AreExprsOf env allowed vars t.arg_tys es → AreExprsOf env allowed others t.arg_tys fs)
    → IsSomeAnd o (λ (c : Term). IsTermKind env allowed c c.kind × (c.ret_ty ≡ ty) × AreExprsOf env allowed vars c.arg_tys es) → IsSomeAnd o (λ (c : Term). IsTermKind env allowed c c.kind × (c.ret_ty ≡ ty) × AreExprsOf env allowed others c.arg_tys fs)
call_kept env allowed vars others ty es fs (Some t) kept h = (h.0, h.1, kept t h.2)
call_kept env allowed vars others ty es fs None kept h = absurd h

module _ (env : Environment) (allowed : Allowed) (order : List ℕ) where
  mutual
    pub expr_renamed_typed : (e : Expr) (vars : List (TypeId × ℕ)) (ty : TypeId) → IsExprOf env allowed vars ty e → AreKnown order vars → AreAmong order (bound_in e) → IsExprOf env allowed (map (new_variable order) vars) ty (expr_renamed order e)
    expr_renamed_typed (expr.Var of x) vars ty h known among = (h.0, new_contained order vars (ty, x.0) h.1)
    expr_renamed_typed (expr.ConstBool b) vars ty h known among = h
    expr_renamed_typed (expr.ConstInt of n) vars ty h known among = h
    expr_renamed_typed (expr.ConstPrim of name) vars ty h known among = h
    expr_renamed_typed (expr.Term of term es) vars ty h known among = (h.0, call_kept env allowed vars (map (new_variable order) vars) ty es (exprs_renamed order es) (slice_get env.terms term.0) (λ t k. exprs_typed es vars t.arg_tys k known among) h.1)
    expr_renamed_typed (expr.Let of bs e) vars ty h known among = (
      h.0,
      bindings_typed bs vars h.1 known (λ x c. among x (Contains-append_left (bindings_bound_in bs) (bound_in e) x c)),
      subst (λ vs. IsExprOf env allowed vs ty (expr_renamed order e)) (sym (let_renamed order vars bs))
          (expr_renamed_typed e (let_variables vars bs) ty h.2 (let_known order vars bs known (λ x c. among x (Contains-append_left (bindings_bound_in bs) (bound_in e) x c)))
          (λ x c. among x (Contains-append_right (bindings_bound_in bs) (bound_in e) x c))),
    )

    exprs_typed : (es : Exprs) (vars : List (TypeId × ℕ)) (tys : List TypeId) → AreExprsOf env allowed vars tys es → AreKnown order vars → AreAmong order (all_bound_in es) → AreExprsOf env allowed (map (new_variable order) vars) tys (exprs_renamed order es)
    exprs_typed NoExpr vars [] h known among = tt
    exprs_typed (AnExpr e es) vars (ty ∷ tys) h known among = (
      expr_renamed_typed e vars ty h.0 known (λ x c. among x (Contains-append_left (bound_in e) (all_bound_in es) x c)),
      exprs_typed es vars tys h.1 known (λ x c. among x (Contains-append_right (bound_in e) (all_bound_in es) x c)),
    )
    exprs_typed (AnExpr e es) vars [] h known among = absurd h
    exprs_typed NoExpr vars (ty ∷ tys) h known among = absurd h

    bindings_typed : (bs : LetBindings) (vars : List (TypeId × ℕ)) → AreBindingsOf env allowed vars bs → AreKnown order vars → AreAmong order (bindings_bound_in bs) → AreBindingsOf env allowed (map (new_variable order) vars) (bindings_renamed order bs)
    bindings_typed NoBinding vars h known among = tt
    bindings_typed (ABinding x ty e bs) vars h known among =
        let later = bound_in e ++ bindings_bound_in bs in
        let own = among x.0 (head_contained x.0 later) in (
          new_renamed order vars x.0 known own h.0,
          expr_renamed_typed e vars ty h.1 known (λ y c. among y (tail_contained x.0 later y (Contains-append_left (bound_in e) (bindings_bound_in bs) y c))),
          bindings_typed bs ((ty, x.0) ∷ vars) h.2 (one_known order vars ty x.0 known own) (λ y c. among y (tail_contained x.0 later y (Contains-append_right (bound_in e) (bindings_bound_in bs) y c))),
        )
