-- What typed right sides and conditions are: built, in scope, and on built or pure terms.
use Rattle.std.proofs.Common.{◌≡◌, ℕ, true, false, List, [], ◌∷◌, ◌++◌, Option, Some, None, refl, sym, subst, ⊎_elim}
use Rattle.std.specs.Prelude.{Contains, slice_get, IsSomeAnd}
use Rattle.std.proofs.lemmas.List.Elements.{Contains-append_left, Contains-append_right, Contains-append_cases}
use Rattle.isle_core.specs.declared.TypeId.{TypeId}
use Rattle.isle_core.specs.declared.types.Term.{Term}
use Rattle.isle_core.specs.declared.types.TermKind.{TermKind}
use Rattle.isle_core.specs.declared.types.TermKind.TheVariants as kind
use Rattle.isle_core.specs.declared.types.ConstructorKind.TheVariants as constructor
use Rattle.isle_core.specs.Expr as expr
use Rattle.isle_core.specs.Expr.{Expr, Exprs, NoExpr, AnExpr, LetBindings, NoBinding, ABinding}
use Rattle.isle_core.specs.Pattern as pattern
use Rattle.isle_core.specs.Pattern.{Pattern, Patterns, NoPattern, APattern}
use Rattle.isle_core.specs.Rule.{IfLet, Rule, Environment}
use Rattle.isle_core.specs.BuiltRule.{IsBuiltExpr, AreBuiltExprs, AreBuiltBindings, IsBuiltKind, IsPureKind, HasTerms, AllHaveTerms, BindingsHaveTerms, HasBuiltTerms}
use Rattle.isle_core.specs.Scope.{variables, variables_within, all_variables, let_scope, IsInScope, AreInScope, AreLetsInScope, iflets_scope, AreIfLetsInScope, IsScopedRule}
use Rattle.isle_core.proofs.Contained.{head_contained, tail_contained, contained_cases, none_contained}
use Rattle.isle_core.specs.ExprType.{Allowed, in_condition, IsTermKind, IsExprOf, AreExprsOf, AreBindingsOf, AreIfLetsOf}
use Rattle.isle_core.specs.TypedVariables.{typed_variables, typed_within, all_typed, let_variables, iflets_typed, rule_typed}

-- the term that a typed expression is of
pub record IsCalled (env : Environment) (allowed : Allowed) (vars : List (TypeId × ℕ)) (ty : TypeId) (o : Option Term) (es : Exprs) : Type 0 where
  pub term : Term
  pub found : o ≡ Some term
  pub takes_part : IsTermKind env allowed term term.kind
  pub gives : term.ret_ty ≡ ty
  pub takes : AreExprsOf env allowed vars term.arg_tys es

pub called : (env : Environment) (allowed : Allowed) (vars : List (TypeId × ℕ)) (ty : TypeId) (o : Option Term) (es : Exprs) → IsSomeAnd o (λ (c : Term). IsTermKind env allowed c c.kind × (c.ret_ty ≡ ty) × AreExprsOf env allowed vars c.arg_tys es)
    → IsCalled env allowed vars ty o es
called env allowed vars ty None es h = absurd h
called env allowed vars ty (Some c) es h = record { term = c; found = refl; takes_part = h.0; gives = h.1; takes = h.2 }

-- ---- built

mutual
  pub built_expr : (env : Environment) (allowed : Allowed) (vars : List (TypeId × ℕ)) (ty : TypeId) (e : Expr) → IsExprOf env allowed vars ty e → IsBuiltExpr e
  built_expr env allowed vars ty (expr.Var of x) h = tt
  built_expr env allowed vars ty (expr.ConstBool b) h = tt
  built_expr env allowed vars ty (expr.ConstInt of n) h = tt
  built_expr env allowed vars ty (expr.ConstPrim of name) h = tt
  built_expr env allowed vars ty (expr.Term of term es) h = let c = called env allowed vars ty (slice_get env.terms term.0) es h.1 in built_exprs env allowed vars c.term.arg_tys es c.takes
  built_expr env allowed vars ty (expr.Let of bs e) h = (built_bindings env allowed vars bs h.1, built_expr env allowed (let_variables vars bs) ty e h.2)

  built_exprs : (env : Environment) (allowed : Allowed) (vars : List (TypeId × ℕ)) (tys : List TypeId) (es : Exprs) → AreExprsOf env allowed vars tys es → AreBuiltExprs es
  built_exprs env allowed vars [] NoExpr h = tt
  built_exprs env allowed vars (ty ∷ tys) (AnExpr e es) h = (built_expr env allowed vars ty e h.0, built_exprs env allowed vars tys es h.1)
  built_exprs env allowed vars [] (AnExpr e es) h = absurd h
  built_exprs env allowed vars (ty ∷ tys) NoExpr h = absurd h

  built_bindings : (env : Environment) (allowed : Allowed) (vars : List (TypeId × ℕ)) (bs : LetBindings) → AreBindingsOf env allowed vars bs → AreBuiltBindings bs
  built_bindings env allowed vars NoBinding h = tt
  built_bindings env allowed vars (ABinding x of e bs) h = (built_expr env allowed vars of e h.1, built_bindings env allowed ((of, x.0) ∷ vars) bs h.2)

-- ---- in scope

mutual
  -- a variable with its type is a variable
  typed_in_scope : (q : Pattern) (of : TypeId) (x : ℕ) → Contains (typed_variables q) (of, x) → Contains (variables q) x
  typed_in_scope (pattern.Var ty y) of x c = ⊎_elim (λ e. subst (λ (v : TypeId × ℕ). Contains (y.0 ∷ []) v.1) e (head_contained y.0 [])) (λ d. absurd (none_contained (of, x) d)) (contained_cases (ty, y.0) [] (of, x) c)
  typed_in_scope (pattern.BindPattern ty y q) of x c =
      ⊎_elim (λ e. subst (λ (v : TypeId × ℕ). Contains (y.0 ∷ variables q) v.1) e (head_contained y.0 (variables q))) (λ d. tail_contained y.0 (variables q) x (typed_in_scope q of x d)) (contained_cases (ty, y.0) (typed_variables q) (of, x) c)
  typed_in_scope (pattern.Term ty term qs) of x c = within_in_scope qs of x c
  typed_in_scope (pattern.And ty qs) of x c = within_in_scope qs of x c
  typed_in_scope (pattern.ConstBool b) of x c = absurd (none_contained (of, x) c)
  typed_in_scope (pattern.ConstInt ty n) of x c = absurd (none_contained (of, x) c)
  typed_in_scope (pattern.ConstPrim ty name) of x c = absurd (none_contained (of, x) c)
  typed_in_scope (pattern.Wildcard ty) of x c = absurd (none_contained (of, x) c)

  within_in_scope : (qs : Patterns) (of : TypeId) (x : ℕ) → Contains (typed_within qs) (of, x) → Contains (variables_within qs) x
  within_in_scope NoPattern of x c = absurd (none_contained (of, x) c)
  within_in_scope (APattern q qs) of x c =
      ⊎_elim (λ d. Contains-append_left (variables q) (variables_within qs) x (typed_in_scope q of x d)) (λ d. Contains-append_right (variables q) (variables_within qs) x (within_in_scope qs of x d)) (Contains-append_cases (typed_variables q) (typed_within qs) (of, x) c)

-- so of all patterns
all_in_scope : (qs : List Pattern) (of : TypeId) (x : ℕ) → Contains (all_typed qs) (of, x) → Contains (all_variables qs) x
all_in_scope [] of x c = absurd (none_contained (of, x) c)
all_in_scope (q ∷ qs) of x c =
    ⊎_elim (λ d. Contains-append_left (variables q) (all_variables qs) x (typed_in_scope q of x d)) (λ d. Contains-append_right (variables q) (all_variables qs) x (all_in_scope qs of x d)) (Contains-append_cases (typed_variables q) (all_typed qs) (of, x) c)

-- so of one variable more
one_within : (vars : List (TypeId × ℕ)) (scope : List ℕ) (ty : TypeId) (x : ℕ) → ((of : TypeId) (y : ℕ) → Contains vars (of, y) → Contains scope y) → (of : TypeId) (y : ℕ) → Contains ((ty, x) ∷ vars) (of, y) → Contains (scope ++ x ∷ []) y
one_within vars scope ty x h of y c =
    ⊎_elim (λ (e : (ty, x) ≡ (of, y)). Contains-append_right scope (x ∷ []) y (subst (λ (v : TypeId × ℕ). Contains (x ∷ []) v.1) e (head_contained x []))) (λ d. Contains-append_left scope (x ∷ []) y (h of y d)) (contained_cases (ty, x) vars (of, y) c)

-- and of those of a `let`
let_within : (bs : LetBindings) (vars : List (TypeId × ℕ)) (scope : List ℕ) → ((of : TypeId) (y : ℕ) → Contains vars (of, y) → Contains scope y) → (of : TypeId) (y : ℕ) → Contains (let_variables vars bs) (of, y) → Contains (let_scope scope bs) y
let_within NoBinding vars scope h = h
let_within (ABinding x ty e bs) vars scope h = let_within bs ((ty, x.0) ∷ vars) (scope ++ x.0 ∷ []) (one_within vars scope ty x.0 h)

mutual
  scoped_over : (env : Environment) (allowed : Allowed) (vars : List (TypeId × ℕ)) (scope : List ℕ) (ty : TypeId) (e : Expr) → ((of : TypeId) (y : ℕ) → Contains vars (of, y) → Contains scope y) → IsExprOf env allowed vars ty e → IsInScope scope e
  scoped_over env allowed vars scope ty (expr.Var of x) k h = k ty x.0 h.1
  scoped_over env allowed vars scope ty (expr.ConstBool b) k h = tt
  scoped_over env allowed vars scope ty (expr.ConstInt of n) k h = tt
  scoped_over env allowed vars scope ty (expr.ConstPrim of name) k h = tt
  scoped_over env allowed vars scope ty (expr.Term of term es) k h = let c = called env allowed vars ty (slice_get env.terms term.0) es h.1 in scoped_exprs env allowed vars scope c.term.arg_tys es k c.takes
  scoped_over env allowed vars scope ty (expr.Let of bs e) k h = (scoped_bindings env allowed vars scope bs k h.1, scoped_over env allowed (let_variables vars bs) (let_scope scope bs) ty e (let_within bs vars scope k) h.2)

  scoped_exprs : (env : Environment) (allowed : Allowed) (vars : List (TypeId × ℕ)) (scope : List ℕ) (tys : List TypeId) (es : Exprs) → ((of : TypeId) (y : ℕ) → Contains vars (of, y) → Contains scope y) → AreExprsOf env allowed vars tys es → AreInScope scope es
  scoped_exprs env allowed vars scope [] NoExpr k h = tt
  scoped_exprs env allowed vars scope (ty ∷ tys) (AnExpr e es) k h = (scoped_over env allowed vars scope ty e k h.0, scoped_exprs env allowed vars scope tys es k h.1)
  scoped_exprs env allowed vars scope [] (AnExpr e es) k h = absurd h
  scoped_exprs env allowed vars scope (ty ∷ tys) NoExpr k h = absurd h

  scoped_bindings : (env : Environment) (allowed : Allowed) (vars : List (TypeId × ℕ)) (scope : List ℕ) (bs : LetBindings) → ((of : TypeId) (y : ℕ) → Contains vars (of, y) → Contains scope y) → AreBindingsOf env allowed vars bs → AreLetsInScope scope bs
  scoped_bindings env allowed vars scope NoBinding k h = tt
  scoped_bindings env allowed vars scope (ABinding x ty e bs) k h = (scoped_over env allowed vars scope ty e k h.1, scoped_bindings env allowed ((ty, x.0) ∷ vars) (scope ++ x.0 ∷ []) bs (one_within vars scope ty x.0 k) h.2)

-- ---- conditions in scope

-- the variables of conditions with their types are among those in scope
iflets_within : (cs : List IfLet) (vars : List (TypeId × ℕ)) (scope : List ℕ) → ((of : TypeId) (y : ℕ) → Contains vars (of, y) → Contains scope y) → (of : TypeId) (y : ℕ) → Contains (iflets_typed vars cs) (of, y) → Contains (iflets_scope scope cs) y
iflets_within [] vars scope k = k
iflets_within (c ∷ cs) vars scope k = iflets_within cs (vars ++ typed_variables c.lhs) (scope ++ variables c.lhs) (more_within vars scope c.lhs k)
  where
    more_within : (vars : List (TypeId × ℕ)) (scope : List ℕ) (q : Pattern) → ((of : TypeId) (y : ℕ) → Contains vars (of, y) → Contains scope y) → (of : TypeId) (y : ℕ) → Contains (vars ++ typed_variables q) (of, y) → Contains (scope ++ variables q) y
    more_within vars scope q k of y c = ⊎_elim (λ d. Contains-append_left scope (variables q) y (k of y d)) (λ d. Contains-append_right scope (variables q) y (typed_in_scope q of y d)) (Contains-append_cases vars (typed_variables q) (of, y) c)

-- each variable of conditions' expressions is in scope
iflets_scoped : (env : Environment) (cs : List IfLet) (vars : List (TypeId × ℕ)) (scope : List ℕ) → ((of : TypeId) (y : ℕ) → Contains vars (of, y) → Contains scope y) → AreIfLetsOf env vars cs → AreIfLetsInScope scope cs
iflets_scoped env [] vars scope k h = tt
iflets_scoped env (c ∷ cs) vars scope k h = (
  scoped_over env in_condition vars scope h.0.ty c.rhs k h.0.rhs,
  iflets_scoped env cs (vars ++ typed_variables c.lhs) (scope ++ variables c.lhs) (iflets_within (c ∷ []) vars scope k) h.1,
)

-- so are those of a typed rule
pub scoped_rule : (env : Environment) (allowed : Allowed) (ty : TypeId) (r : Rule) → AreIfLetsOf env (all_typed r.args) r.iflets → IsExprOf env allowed (rule_typed r) ty r.rhs → IsScopedRule r
scoped_rule env allowed ty r h e =
    let k : (of : TypeId) (y : ℕ) → Contains (all_typed r.args) (of, y) → Contains (all_variables r.args) y = λ of y c. all_in_scope r.args of y c in
    record {
      iflets = iflets_scoped env r.iflets (all_typed r.args) (all_variables r.args) k h;
      rhs = scoped_over env allowed (rule_typed r) (iflets_scope (all_variables r.args) r.iflets) ty r.rhs (iflets_within r.iflets (all_typed r.args) (all_variables r.args) k) e;
    }

-- ---- terms of kinds

built_kind : (env : Environment) (allowed : Allowed) (t : Term) (k : TermKind) → IsTermKind env allowed t k → IsBuiltKind k
built_kind env allowed t (kind.Decl pure multi partial recursive (constructor.External func) by) h = tt
built_kind env allowed t (kind.Decl pure multi partial recursive constructor.Internal by) h = tt
built_kind env allowed t (kind.Decl pure multi partial recursive constructor.Absent by) h = absurd h
built_kind env allowed t (kind.Variant ty variant) h = tt
built_kind env allowed t (kind.Struct ty) h = tt

-- the terms of conditions are pure
pure_kind : (env : Environment) (t : Term) (k : TermKind) → IsTermKind env in_condition t k → IsPureKind k
pure_kind env t (kind.Decl true multi partial recursive (constructor.External func) by) h = tt
pure_kind env t (kind.Decl true multi partial recursive constructor.Internal by) h = tt
pure_kind env t (kind.Decl false multi partial recursive (constructor.External func) by) h = let bad : false ≡ true = h.1 refl in absurd cc
pure_kind env t (kind.Decl false multi partial recursive constructor.Internal by) h = let bad : false ≡ true = h.1 refl in absurd cc
pure_kind env t (kind.Decl pure multi partial recursive constructor.Absent by) h = absurd h
pure_kind env t (kind.Variant ty variant) h = tt
pure_kind env t (kind.Struct ty) h = tt

module _ (env : Environment) (allowed : Allowed) (K : TermKind → Type 0) (by : (t : Term) (k : TermKind) → IsTermKind env allowed t k → K k) where
  kind_at : (o : Option Term) (t : Term) → o ≡ Some t → K t.kind → IsSomeAnd o (λ (t : Term). K t.kind)
  kind_at o t is h = subst (λ (u : Option Term). IsSomeAnd u (λ (t : Term). K t.kind)) (sym is) h

  mutual
    terms_of : (vars : List (TypeId × ℕ)) (ty : TypeId) (e : Expr) → IsExprOf env allowed vars ty e → HasTerms K env.terms e
    terms_of vars ty (expr.Var of x) h = tt
    terms_of vars ty (expr.ConstBool b) h = tt
    terms_of vars ty (expr.ConstInt of n) h = tt
    terms_of vars ty (expr.ConstPrim of name) h = tt
    terms_of vars ty (expr.Term of term es) h =
        let c = called env allowed vars ty (slice_get env.terms term.0) es h.1 in
        (kind_at (slice_get env.terms term.0) c.term c.found (by c.term c.term.kind c.takes_part), terms_of_all vars c.term.arg_tys es c.takes)
    terms_of vars ty (expr.Let of bs e) h = (terms_of_let vars bs h.1, terms_of (let_variables vars bs) ty e h.2)

    terms_of_all : (vars : List (TypeId × ℕ)) (tys : List TypeId) (es : Exprs) → AreExprsOf env allowed vars tys es → AllHaveTerms K env.terms es
    terms_of_all vars [] NoExpr h = tt
    terms_of_all vars (ty ∷ tys) (AnExpr e es) h = (terms_of vars ty e h.0, terms_of_all vars tys es h.1)
    terms_of_all vars [] (AnExpr e es) h = absurd h
    terms_of_all vars (ty ∷ tys) NoExpr h = absurd h

    terms_of_let : (vars : List (TypeId × ℕ)) (bs : LetBindings) → AreBindingsOf env allowed vars bs → BindingsHaveTerms K env.terms bs
    terms_of_let vars NoBinding h = tt
    terms_of_let vars (ABinding x of e bs) h = (terms_of vars of e h.1, terms_of_let ((of, x.0) ∷ vars) bs h.2)

-- the terms of a right side are built
pub built_terms : (env : Environment) (allowed : Allowed) (vars : List (TypeId × ℕ)) (ty : TypeId) (e : Expr) → IsExprOf env allowed vars ty e → HasBuiltTerms env.terms e
built_terms env allowed vars ty e h = terms_of env allowed IsBuiltKind (built_kind env allowed) vars ty e h

-- those of a condition are pure
pub pure_terms : (env : Environment) (vars : List (TypeId × ℕ)) (ty : TypeId) (e : Expr) → IsExprOf env in_condition vars ty e → HasTerms IsPureKind env.terms e
pure_terms env vars ty e h = terms_of env in_condition IsPureKind (pure_kind env) vars ty e h
