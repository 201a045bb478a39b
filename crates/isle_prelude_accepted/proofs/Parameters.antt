-- Parameters that are apart are each bound at its type.
use Rattle.std.proofs.Common.{◌≡◌, ◌⊎◌, inl, inr, ℕ, suc, Bool, true, false, cond, List, [], ◌∷◌, ◌++◌, map, length, Option, Some, None, refl, sym, ap, ◌∙◌}
use Rattle.std.proofs.Common.{subst, arith}
use Rattle.std.specs.Str.{bytes_eq}
use Rattle.isle_core.specs.declared.TypeId.{TypeId}
use Rattle.isle_ast.specs.Tree as tree
use Rattle.isle_ast.specs.Tree.{Pattern}
use Rattle.isle_ast.specs.Views.{patterns_of}
use Rattle.isle_terms.specs.Scope.{Local, Scope, found_in, met, met_by}
use Rattle.isle_terms.specs.TypeNames.{type_named}
use Rattle.isle_terms.specs.Whole.{Whole}
use Rattle.isle_sema.specs.PatternPass.{patterns_pass, first_expected, later_expected}
use Rattle.isle_sema.specs.Templates.{params_met}
use Rattle.isle_prelude_accepted.proofs.Has.{Has, AreApart, own_bytes, other_bytes}
use Rattle.isle_prelude_accepted.proofs.Simple.{with_types}
use Rattle.isle_prelude_accepted.proofs.TypedPatterns.{AreBound}

-- ---- what is found among variables

-- a variable that is there stays
found_stays : (xs ys : List Local) (name : List ℕ) (l : Local) → found_in xs name ≡ Some l → found_in (xs ++ ys) name ≡ Some l
found_stays [] ys name l e = absurd cc
found_stays (x ∷ xs) ys name l e = by (bytes_eq x.name name) (found_stays xs ys name l) e
  where
    by : (b : Bool) → (found_in xs name ≡ Some l → found_in (xs ++ ys) name ≡ Some l) → cond b (Some x) (found_in xs name) ≡ Some l
        → cond b (Some x) (found_in (xs ++ ys) name) ≡ Some l
    by true rest k = k
    by false rest k = rest k

-- one more is found by its name alone
pub found_more : (xs : List Local) (x : Local) (name : List ℕ) → found_in xs name ≡ None → found_in (xs ++ x ∷ []) name ≡ cond (bytes_eq x.name name) (Some x) None
found_more [] x name e = refl
found_more (y ∷ ys) x name e = by (bytes_eq y.name name) (found_more ys x name) e
  where
    by : (b : Bool) → (found_in ys name ≡ None → found_in (ys ++ x ∷ []) name ≡ cond (bytes_eq x.name name) (Some x) None)
        → cond b (Some y) (found_in ys name) ≡ None
        → cond b (Some y) (found_in (ys ++ x ∷ []) name) ≡ cond (bytes_eq x.name name) (Some x) None
    by true rest k = absurd cc
    by false rest k = rest k

-- ---- parameters

-- none of these is bound
abbrev pub AreFree : List (List ℕ) → Scope → Type 0
AreFree names scope = (name : List ℕ) → Has names name → found_in scope.variables name ≡ None

-- a variable met first
abbrev pub first_met : Scope → List ℕ → Option TypeId → Scope
first_met scope name ty = record { variables = scope.variables ++ record { name = name; ty = ty; number = scope.next } ∷ []; next = suc scope.next }

pub met_first : (scope : Scope) (name : List ℕ) (ty : Option TypeId) → found_in scope.variables name ≡ None → met scope name ty ≡ first_met scope name ty
met_first scope name ty e = ap (λ o. met_by o scope name ty) e

-- what is bound stays so while parameters are met
params_keep : (scope : Scope) (params : List (List ℕ)) (tys : List (Option TypeId)) (name : List ℕ) (l : Local)
    → found_in scope.variables name ≡ Some l → found_in (params_met scope params tys).variables name ≡ Some l
params_keep scope [] tys name l e = e
params_keep scope (p ∷ ps) tys name l e =
    params_keep (met scope p (first_expected tys)) ps (later_expected tys) name l (by (first_expected tys) (found_in scope.variables p))
  where
    by : (ty : Option TypeId) (o : Option Local) → found_in (met_by o scope p ty).variables name ≡ Some l
    by ty None = found_stays scope.variables (record { name = p; ty = ty; number = scope.next } ∷ []) name l e
    by ty (Some x) = e

pub still_free : (scope : Scope) (p : List ℕ) (ps : List (List ℕ)) (ty : Option TypeId) → AreApart (p ∷ ps) → AreFree (p ∷ ps) scope
    → AreFree ps (first_met scope p ty)
still_free scope p ps ty apart free name i =
    let x : Local = record { name = p; ty = ty; number = scope.next } in
    found_more scope.variables x name (free name (inr i))
    ∙ ap (λ b. cond b (Some x) None) (other_bytes p name (λ e. apart.0 (subst (Has ps) (sym e) i)))

module _ (w : Whole) where
  pub params_bound : (scope : Scope) (params args : List (List ℕ)) → length params ≡ length args → AreApart params → AreFree params scope
      → AreBound w (with_types params args) (params_met scope params (map (type_named w.defs) args))
  params_bound scope [] args many apart free name ty i = absurd i
  params_bound scope (p ∷ ps) [] many apart free name ty i = absurd i
  params_bound scope (p ∷ ps) (t ∷ ts) many apart free name ty i =
      let x : Local = record { name = p; ty = type_named w.defs t; number = scope.next } in
      let first = met_first scope p (type_named w.defs t) (free p (inl refl)) in
      let new : found_in (first_met scope p (type_named w.defs t)).variables p ≡ Some x =
      found_more scope.variables x p (free p (inl refl)) ∙ ap (λ b. cond b (Some x) None) (own_bytes p) in
      let rest =
      params_bound (first_met scope p (type_named w.defs t)) ps ts (let e : suc (length ps) ≡ suc (length ts) = many in omega arith) apart.1
      (still_free scope p ps (type_named w.defs t) apart free) in
      by (subst (λ (s : Scope). found_in s.variables p ≡ Some x) (sym first) new)
      (λ j. subst (λ (s : Scope). (l : Local) × (found_in (params_met s ps (map (type_named w.defs) ts)).variables name ≡ Some l) × (l.ty ≡ type_named w.defs ty)) (sym first) (rest name ty j)) i
    where
      own : Local
      own = record { name = p; ty = type_named w.defs t; number = scope.next }

      after : Scope
      after = params_met (met scope p (type_named w.defs t)) ps (map (type_named w.defs) ts)

      Found : Type 0
      Found = (l : Local) × (found_in after.variables name ≡ Some l) × (l.ty ≡ type_named w.defs ty)

      by : found_in (met scope p (type_named w.defs t)).variables p ≡ Some own → (Has (with_types ps ts) (name, ty) → Found)
          → (◌≡◌ {A = List ℕ × List ℕ} (p, t) (name, ty)) ⊎ Has (with_types ps ts) (name, ty) → Found
      by there rest (inl e) =
          let same_name : p ≡ name = ap (λ (v : List ℕ × List ℕ). v.0) e in
          let same_type : t ≡ ty = ap (λ (v : List ℕ × List ℕ). v.1) e in
          (own, ap (found_in after.variables) (sym same_name) ∙ params_keep (met scope p (type_named w.defs t)) ps (map (type_named w.defs) ts) p own there, ap (type_named w.defs) same_type)
      by there rest (inr j) = rest j

  -- patterns that are variables bind as parameters do
  pub variables_bind : (scope : Scope) (params : List (List ℕ)) (tys : List (Option TypeId))
      → (patterns_pass w tys scope (patterns_of (map (λ (name : List ℕ). tree.Var name) params))).scope ≡ params_met scope params tys
  variables_bind scope [] tys = refl
  variables_bind scope (p ∷ ps) tys = variables_bind (met scope p (first_expected tys)) ps (later_expected tys)
