-- A template with patterns for its parameters has all variables of a pattern whose parameter stands in it.
use Rattle.std.proofs.Common.{◌≡◌, ℕ, List, [], ◌++◌, Some, sym, ap, ◌∙◌, subst, ⊎_elim}
use Rattle.std.specs.Prelude.{Contains, slice_get}
use Rattle.std.proofs.lemmas.List.Elements.{Contains-append_left, Contains-append_right, Contains-append_cases}
use Rattle.isle_base.specs.declared.ids.TypeId.{TypeId}
use Rattle.isle_base.specs.declared.ids.VarId.{VarId}
use Rattle.isle_core.proofs.Contained.{none_contained, contained_cases}
use Rattle.isle_core.specs.Pattern as pattern
use Rattle.isle_core.specs.Pattern.{Pattern, Patterns, NoPattern, APattern}
use Rattle.isle_core.specs.TypedVariables.{typed_variables, typed_within}
use Rattle.isle_templates.specs.Substituted.{pattern_or, argument, substituted, all_substituted}

module _ (args : List Pattern) (i : ℕ) (q : Pattern) (at : slice_get args i ≡ Some q) (v : TypeId × ℕ) (has : Contains (typed_variables q) v) where
  argument_keeps : (of ty : TypeId) (x : VarId) → ◌≡◌ {A = TypeId × ℕ} (of, x.0) (ty, i) → Contains (typed_variables (argument args of x)) v
  argument_keeps of ty x e = subst (λ o. Contains (typed_variables (pattern_or (pattern.Var of x) o)) v) (sym (ap (λ u. slice_get args u.1) e ∙ at)) has

  mutual
    pub substituted_keeps : (p : Pattern) (ty : TypeId) → Contains (typed_variables p) (ty, i) → Contains (typed_variables (substituted args p)) v
    substituted_keeps (pattern.Var of x) ty c = ⊎_elim (argument_keeps of ty x) (λ d. absurd (none_contained (ty, i) d)) (contained_cases (of, x.0) [] (ty, i) c)
    substituted_keeps (pattern.ConstBool b) ty c = absurd (none_contained (ty, i) c)
    substituted_keeps (pattern.ConstInt of n) ty c = absurd (none_contained (ty, i) c)
    substituted_keeps (pattern.ConstPrim of name) ty c = absurd (none_contained (ty, i) c)
    substituted_keeps (pattern.Wildcard of) ty c = absurd (none_contained (ty, i) c)
    substituted_keeps (pattern.Term of term ps) ty c = parts_keep ps ty c
    substituted_keeps (pattern.And of ps) ty c = parts_keep ps ty c
    substituted_keeps (pattern.BindPattern of x p) ty c =
        let own = typed_variables (argument args of x) in
        let inner = typed_variables (substituted args p) in
        ⊎_elim
        (λ e. Contains-append_left own (inner ++ []) v (argument_keeps of ty x e))
        (λ d. Contains-append_right own (inner ++ []) v (Contains-append_left inner [] v (substituted_keeps p ty d)))
        (contained_cases (of, x.0) (typed_variables p) (ty, i) c)

    parts_keep : (ps : Patterns) (ty : TypeId) → Contains (typed_within ps) (ty, i) → Contains (typed_within (all_substituted args ps)) v
    parts_keep NoPattern ty c = absurd (none_contained (ty, i) c)
    parts_keep (APattern p ps) ty c =
        let first = typed_variables (substituted args p) in
        let others = typed_within (all_substituted args ps) in
        ⊎_elim
        (λ d. Contains-append_left first others v (substituted_keeps p ty d))
        (λ d. Contains-append_right first others v (parts_keep ps ty d))
        (Contains-append_cases (typed_variables p) (typed_within ps) (ty, i) c)
