-- A template with built patterns for its parameters is a built pattern.
use Rattle.std.proofs.Common.{◌≡◌, ℕ, List, [], suc, refl, ap, sym, subst, ◌≤◌}
use Rattle.std.specs.Prelude.{Contains}
use Rattle.std.proofs.lemmas.List.Elements.{Contains-append_left, Contains-append_right}
use Rattle.isle_base.specs.declared.ids.TypeId.{TypeId}
use Rattle.isle_base.specs.declared.ids.VarId.{VarId}
use Rattle.isle_core.proofs.Contained.{head_contained, tail_contained}
use Rattle.isle_core.specs.declared.types.Term.{Term}
use Rattle.isle_core.specs.BuiltRule.{IsBuiltPattern, AreBuiltPatterns, count}
use Rattle.isle_core.specs.Pattern as pattern
use Rattle.isle_core.specs.Pattern.{Pattern, Patterns, NoPattern, APattern}
use Rattle.isle_core.specs.TypedVariables.{typed_variables, typed_within}
use Rattle.isle_templates.specs.Substituted.{argument, substituted, all_substituted}

-- as many patterns as before
substituted_count : (args : List Pattern) (ps : Patterns) → count (all_substituted args ps) ≡ count ps
substituted_count args NoPattern = refl
substituted_count args (APattern p ps) = ap suc (substituted_count args ps)

-- what stands for each of these parameters is built
abbrev pub AreBuiltFor : List Term → List Pattern → List (TypeId × ℕ) → Type 0
AreBuiltFor terms args vars = (ty : TypeId) (x : VarId) → Contains vars (ty, x.0) → IsBuiltPattern terms (argument args ty x)

module _ (terms : List Term) (args : List Pattern) where
  mutual
    pub substituted_built : (p : Pattern) → IsBuiltPattern terms p → AreBuiltFor terms args (typed_variables p) → IsBuiltPattern terms (substituted args p)
    substituted_built (pattern.Var of x) h given = given of x (head_contained (of, x.0) [])
    substituted_built (pattern.ConstBool b) h given = h
    substituted_built (pattern.ConstInt of n) h given = h
    substituted_built (pattern.ConstPrim of name) h given = h
    substituted_built (pattern.Wildcard of) h given = h
    substituted_built (pattern.Term of term ps) h given = (h.0, subst (λ n. n ≤ 256) (sym (substituted_count args ps)) h.1, parts_built ps h.2 given)
    substituted_built (pattern.And of ps) h given = parts_built ps h given
    substituted_built (pattern.BindPattern of x p) h given =
        let here = given of x (head_contained (of, x.0) (typed_variables p)) in
        let inner = substituted_built p h (λ t y c. given t y (tail_contained (of, x.0) (typed_variables p) (t, y.0) c)) in
        (here, (inner, tt))

    parts_built : (ps : Patterns) → AreBuiltPatterns terms ps → AreBuiltFor terms args (typed_within ps) → AreBuiltPatterns terms (all_substituted args ps)
    parts_built NoPattern h given = tt
    parts_built (APattern p ps) h given = (
      substituted_built p h.0 (λ t y c. given t y (Contains-append_left (typed_variables p) (typed_within ps) (t, y.0) c)),
      parts_built ps h.1 (λ t y c. given t y (Contains-append_right (typed_variables p) (typed_within ps) (t, y.0) c)),
    )
