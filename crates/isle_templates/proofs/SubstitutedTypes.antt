-- A template with patterns of its parameters' types is a pattern of its own type.
use Rattle.std.proofs.Common.{ℕ, List, [], ◌∷◌, Option, Some, None, subst}
use Rattle.std.specs.Prelude.{Contains}
use Rattle.std.proofs.lemmas.List.Elements.{Contains-append_left, Contains-append_right}
use Rattle.isle_base.specs.declared.ids.TypeId.{TypeId}
use Rattle.isle_base.specs.declared.ids.VarId.{VarId}
use Rattle.isle_core.proofs.Contained.{head_contained, tail_contained}
use Rattle.isle_core.specs.Pattern as pattern
use Rattle.isle_core.specs.Pattern.{Pattern, Patterns, NoPattern, APattern}
use Rattle.isle_core.specs.PatternType.{IsPatternOf, ArePartsOf, AreEachOf}
use Rattle.isle_core.specs.Rule.{Environment}
use Rattle.isle_core.specs.TypedVariables.{typed_variables, typed_within}
use Rattle.isle_templates.specs.Substituted.{argument, substituted, all_substituted}

-- what stands for each of these parameters is of its type
abbrev pub AreGiven : Environment → List Pattern → List (TypeId × ℕ) → Type 0
AreGiven env args vars = (ty : TypeId) (x : VarId) → Contains vars (ty, x.0) → IsPatternOf env ty (argument args ty x)

module _ (env : Environment) (args : List Pattern) where
  mutual
    pub substituted_typed : (ty : TypeId) (p : Pattern) → IsPatternOf env ty p → AreGiven env args (typed_variables p) → IsPatternOf env ty (substituted args p)
    substituted_typed ty (pattern.Var of x) h given = subst (λ t. IsPatternOf env t (argument args of x)) h (given of x (head_contained (of, x.0) []))
    substituted_typed ty (pattern.ConstBool b) h given = h
    substituted_typed ty (pattern.ConstInt of n) h given = h
    substituted_typed ty (pattern.ConstPrim of name) h given = h
    substituted_typed ty (pattern.Wildcard of) h given = h
    substituted_typed ty (pattern.Term of term ps) h given = (h.0, h.1, parts_typed _ ps h.2 given)
    substituted_typed ty (pattern.And of ps) h given = (h.0, each_typed ty ps h.1 given)
    substituted_typed ty (pattern.BindPattern of x p) h given =
        let here = subst (λ t. IsPatternOf env t (argument args of x)) h.0 (given of x (head_contained (of, x.0) (typed_variables p))) in
        let inner = substituted_typed ty p h.1 (λ t y c. given t y (tail_contained (of, x.0) (typed_variables p) (t, y.0) c)) in
        (h.0, (here, (inner, tt)))

    parts_typed : (o : Option (List TypeId)) (ps : Patterns) → ArePartsOf env o ps → AreGiven env args (typed_within ps) → ArePartsOf env o (all_substituted args ps)
    parts_typed (Some []) NoPattern h given = tt
    parts_typed (Some (ty ∷ tys)) (APattern p ps) h given = (
      substituted_typed ty p h.0 (λ t y c. given t y (Contains-append_left (typed_variables p) (typed_within ps) (t, y.0) c)),
      parts_typed (Some tys) ps h.1 (λ t y c. given t y (Contains-append_right (typed_variables p) (typed_within ps) (t, y.0) c)),
    )
    parts_typed (Some []) (APattern p ps) h given = absurd h
    parts_typed (Some (ty ∷ tys)) NoPattern h given = absurd h
    parts_typed None ps h given = absurd h

    each_typed : (ty : TypeId) (ps : Patterns) → AreEachOf env ty ps → AreGiven env args (typed_within ps) → AreEachOf env ty (all_substituted args ps)
    each_typed ty NoPattern h given = tt
    each_typed ty (APattern p ps) h given = (
      substituted_typed ty p h.0 (λ t y c. given t y (Contains-append_left (typed_variables p) (typed_within ps) (t, y.0) c)),
      each_typed ty ps h.1 (λ t y c. given t y (Contains-append_right (typed_variables p) (typed_within ps) (t, y.0) c)),
    )
