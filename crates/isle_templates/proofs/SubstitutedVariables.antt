-- The variables of a template with patterns for its parameters are those of the patterns.
use Rattle.std.proofs.Common.{◌≡◌, ℕ, zero, suc, List, [], ◌∷◌, ◌++◌, Some, sym, subst, ⊎_elim}
use Rattle.std.specs.Prelude.{Contains, slice_get}
use Rattle.std.proofs.lemmas.List.Elements.{Contains-append_left, Contains-append_right, Contains-append_cases}
use Rattle.std.proofs.lemmas.Option.{same_Some}
use Rattle.isle_base.specs.declared.ids.TypeId.{TypeId}
use Rattle.isle_base.specs.declared.ids.VarId.{VarId}
use Rattle.isle_core.proofs.Contained.{head_contained, tail_contained, none_contained}
use Rattle.isle_core.specs.Pattern as pattern
use Rattle.isle_core.specs.Pattern.{Pattern, Patterns, NoPattern, APattern}
use Rattle.isle_core.specs.TypedVariables.{typed_variables, typed_within, all_typed}
use Rattle.isle_templates.specs.Substituted.{pattern_or, argument, substituted, all_substituted}

-- a pattern stands for each of these parameters
abbrev pub AreThere : List Pattern → List (TypeId × ℕ) → Type 0
AreThere args vars = (ty : TypeId) (i : ℕ) → Contains vars (ty, i) → (p : Pattern) × (slice_get args i ≡ Some p)

-- the variables of one of them are among those of all
variables_at : (args : List Pattern) (i : ℕ) (p : Pattern) (v : TypeId × ℕ) → slice_get args i ≡ Some p → Contains (typed_variables p) v → Contains (all_typed args) v
variables_at (q ∷ args) zero p v e c = Contains-append_left (typed_variables q) (all_typed args) v (subst (λ x. Contains (typed_variables x) v) (sym (same_Some q p e)) c)
variables_at (q ∷ args) (suc i) p v e c = Contains-append_right (typed_variables q) (all_typed args) v (variables_at args i p v e c)
variables_at [] i p v e c = cc

module _ (args : List Pattern) (v : TypeId × ℕ) where
  argument_variables : (ty : TypeId) (x : VarId) → (p : Pattern) × (slice_get args x.0 ≡ Some p) → Contains (typed_variables (argument args ty x)) v → Contains (all_typed args) v
  argument_variables ty x there c = variables_at args x.0 there.0 v there.1 (subst (λ o. Contains (typed_variables (pattern_or (pattern.Var ty x) o)) v) there.1 c)

  none_there : Contains (typed_within NoPattern) v → Contains (all_typed args) v
  none_there c = absurd (none_contained v c)

  mutual
    pub substituted_variables : (p : Pattern) → AreThere args (typed_variables p) → Contains (typed_variables (substituted args p)) v → Contains (all_typed args) v
    substituted_variables (pattern.Var of x) there c = argument_variables of x (there of x.0 (head_contained (of, x.0) [])) c
    substituted_variables (pattern.ConstBool b) there c = none_there c
    substituted_variables (pattern.ConstInt of n) there c = none_there c
    substituted_variables (pattern.ConstPrim of name) there c = none_there c
    substituted_variables (pattern.Wildcard of) there c = none_there c
    substituted_variables (pattern.Term of term ps) there c = parts_variables ps there c
    substituted_variables (pattern.And of ps) there c = parts_variables ps there c
    substituted_variables (pattern.BindPattern of x p) there c =
        let own = argument args of x in
        let inner = substituted args p in
        ⊎_elim
        (λ d. argument_variables of x (there of x.0 (head_contained (of, x.0) (typed_variables p))) d)
        (λ d. ⊎_elim
        (λ f. substituted_variables p (λ ty i k. there ty i (tail_contained (of, x.0) (typed_variables p) (ty, i) k)) f)
        (λ f. none_there f)
        (Contains-append_cases (typed_variables inner) [] v d))
        (Contains-append_cases (typed_variables own) (typed_variables inner ++ []) v c)

    parts_variables : (ps : Patterns) → AreThere args (typed_within ps) → Contains (typed_within (all_substituted args ps)) v → Contains (all_typed args) v
    parts_variables NoPattern there c = none_there c
    parts_variables (APattern p ps) there c = ⊎_elim
        (λ d. substituted_variables p (λ ty i k. there ty i (Contains-append_left (typed_variables p) (typed_within ps) (ty, i) k)) d)
        (λ d. parts_variables ps (λ ty i k. there ty i (Contains-append_right (typed_variables p) (typed_within ps) (ty, i) k)) d)
        (Contains-append_cases (typed_variables (substituted args p)) (typed_within (all_substituted args ps)) v c)
