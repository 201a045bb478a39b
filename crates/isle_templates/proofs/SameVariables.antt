-- An expression over variables is one over any list that has the same.
use Rattle.std.proofs.Common.{◌≡◌, ℕ, List, [], ◌∷◌, ◌++◌, subst, ⊎_elim}
use Rattle.std.specs.Prelude.{Contains, slice_get}
use Rattle.std.proofs.lemmas.List.Elements.{Contains-append_left, Contains-append_right, Contains-append_cases}
use Rattle.isle_base.specs.declared.ids.TypeId.{TypeId}
use Rattle.isle_core.proofs.Contained.{head_contained, tail_contained, contained_cases}
use Rattle.isle_core.specs.Expr as expr
use Rattle.isle_core.specs.Expr.{Expr, Exprs, NoExpr, AnExpr, LetBindings, NoBinding, ABinding}
use Rattle.isle_core.specs.ExprType.{Allowed, IsExprOf, AreExprsOf, AreBindingsOf}
use Rattle.isle_core.specs.Rule.{Environment}
use Rattle.isle_core.specs.TypedVariables.{let_variables, HaveOneType}
use Rattle.isle_templates.proofs.RenamedExprs.{call_kept}

-- variables that are all among others
abbrev pub AreIn : List (TypeId × ℕ) → List (TypeId × ℕ) → Type 0
AreIn vars others = (v : TypeId × ℕ) → Contains vars v → Contains others v

-- two lists of the same variables
pub record SameVariables (vars others : List (TypeId × ℕ)) : Type 0 where
  pub there : AreIn vars others
  pub back : AreIn others vars

append_in : (vars later others last : List (TypeId × ℕ)) → AreIn vars others → AreIn later last → AreIn (vars ++ later) (others ++ last)
append_in vars later others last first second v c = ⊎_elim
    (λ d. Contains-append_left others last v (first v d))
    (λ d. Contains-append_right others last v (second v d))
    (Contains-append_cases vars later v c)

pub same_append : (vars later others last : List (TypeId × ℕ)) → SameVariables vars others → SameVariables later last → SameVariables (vars ++ later) (others ++ last)
same_append vars later others last first second = record { there = append_in vars later others last first.there second.there; back = append_in others last vars later first.back second.back }

pub same_none : SameVariables [] []
same_none = record { there = λ v c. c; back = λ v c. c }

one_more : (w : TypeId × ℕ) (vars others : List (TypeId × ℕ)) → AreIn vars others → AreIn (w ∷ vars) (w ∷ others)
one_more w vars others among v c = ⊎_elim
    (λ (e : w ≡ v). subst (λ u. Contains (w ∷ others) u) e (head_contained w others))
    (λ d. tail_contained w others v (among v d))
    (contained_cases w vars v c)

same_more : (w : TypeId × ℕ) (vars others : List (TypeId × ℕ)) → SameVariables vars others → SameVariables (w ∷ vars) (w ∷ others)
same_more w vars others same = record { there = one_more w vars others same.there; back = one_more w others vars same.back }

-- with those of a `let` too
same_let : (bs : LetBindings) (vars others : List (TypeId × ℕ)) → SameVariables vars others → SameVariables (let_variables vars bs) (let_variables others bs)
same_let NoBinding vars others same = same
same_let (ABinding x ty e bs) vars others same = same_let bs ((ty, x.0) ∷ vars) ((ty, x.0) ∷ others) (same_more (ty, x.0) vars others same)

-- each has one type in both
pub one_type_over : (vars others : List (TypeId × ℕ)) → SameVariables vars others → HaveOneType vars → HaveOneType others
one_type_over vars others same one ty of x c d = one ty of x (same.back (ty, x) c) (same.back (of, x) d)

module _ (env : Environment) (allowed : Allowed) where
  mutual
    pub expr_over : (e : Expr) (vars others : List (TypeId × ℕ)) (ty : TypeId) → SameVariables vars others → IsExprOf env allowed vars ty e → IsExprOf env allowed others ty e
    expr_over (expr.Var of x) vars others ty same h = (h.0, same.there (ty, x.0) h.1)
    expr_over (expr.ConstBool b) vars others ty same h = h
    expr_over (expr.ConstInt of n) vars others ty same h = h
    expr_over (expr.ConstPrim of name) vars others ty same h = h
    expr_over (expr.Term of term es) vars others ty same h = (h.0, call_kept env allowed vars others ty es es (slice_get env.terms term.0) (λ t k. exprs_over es vars others t.arg_tys same k) h.1)
    expr_over (expr.Let of bs e) vars others ty same h = (h.0, bindings_over bs vars others same h.1, expr_over e (let_variables vars bs) (let_variables others bs) ty (same_let bs vars others same) h.2)

    exprs_over : (es : Exprs) (vars others : List (TypeId × ℕ)) (tys : List TypeId) → SameVariables vars others → AreExprsOf env allowed vars tys es → AreExprsOf env allowed others tys es
    exprs_over NoExpr vars others [] same h = tt
    exprs_over (AnExpr e es) vars others (ty ∷ tys) same h = (expr_over e vars others ty same h.0, exprs_over es vars others tys same h.1)
    exprs_over (AnExpr e es) vars others [] same h = absurd h
    exprs_over NoExpr vars others (ty ∷ tys) same h = absurd h

    bindings_over : (bs : LetBindings) (vars others : List (TypeId × ℕ)) → SameVariables vars others → AreBindingsOf env allowed vars bs → AreBindingsOf env allowed others bs
    bindings_over NoBinding vars others same h = tt
    bindings_over (ABinding x ty e bs) vars others same h = (
      λ of c. h.0 of (same.back (of, x.0) c),
      expr_over e vars others ty same h.1,
      bindings_over bs ((ty, x.0) ∷ vars) ((ty, x.0) ∷ others) (same_more (ty, x.0) vars others same) h.2,
    )
