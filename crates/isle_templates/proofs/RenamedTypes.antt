-- A pattern with new numbers for its variables is of its own type.
use Rattle.std.proofs.Common.{ℕ, List, [], ◌∷◌, Option, Some, None}
use Rattle.isle_base.specs.declared.ids.TypeId.{TypeId}
use Rattle.isle_core.specs.Pattern as pattern
use Rattle.isle_core.specs.Pattern.{Pattern, Patterns, NoPattern, APattern}
use Rattle.isle_core.specs.PatternType.{IsPatternOf, ArePartsOf, AreEachOf}
use Rattle.isle_core.specs.Rule.{Environment}
use Rattle.isle_templates.specs.Renumbered.{renamed, all_renamed}

module _ (env : Environment) (order : List ℕ) where
  mutual
    pub renamed_typed : (ty : TypeId) (p : Pattern) → IsPatternOf env ty p → IsPatternOf env ty (renamed order p)
    renamed_typed ty (pattern.Var of x) h = h
    renamed_typed ty (pattern.ConstBool b) h = h
    renamed_typed ty (pattern.ConstInt of n) h = h
    renamed_typed ty (pattern.ConstPrim of name) h = h
    renamed_typed ty (pattern.Wildcard of) h = h
    renamed_typed ty (pattern.Term of term ps) h = (h.0, h.1, parts_typed _ ps h.2)
    renamed_typed ty (pattern.And of ps) h = (h.0, each_typed ty ps h.1)
    renamed_typed ty (pattern.BindPattern of x p) h = (h.0, renamed_typed ty p h.1)

    parts_typed : (o : Option (List TypeId)) (ps : Patterns) → ArePartsOf env o ps → ArePartsOf env o (all_renamed order ps)
    parts_typed (Some []) NoPattern h = tt
    parts_typed (Some (ty ∷ tys)) (APattern p ps) h = (renamed_typed ty p h.0, parts_typed (Some tys) ps h.1)
    parts_typed (Some []) (APattern p ps) h = absurd h
    parts_typed (Some (ty ∷ tys)) NoPattern h = absurd h
    parts_typed None ps h = absurd h

    each_typed : (ty : TypeId) (ps : Patterns) → AreEachOf env ty ps → AreEachOf env ty (all_renamed order ps)
    each_typed ty NoPattern h = tt
    each_typed ty (APattern p ps) h = (renamed_typed ty p h.0, each_typed ty ps h.1)
