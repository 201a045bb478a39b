-- The errors that places found tell of rules at these positions.
use Rattle.std.specs.Prelude.{◌≡◌, ◌↔◌, IsTrue, ℕ, zero, suc, List, [], ◌∷◌, ◌++◌, length, map, Bool, false, Some, None, slice_index_or}
use Rattle.isle_core.specs.declared.errors.Error.{Error}
use Rattle.isle_core.specs.declared.position.Pos.{Pos}
use Rattle.isle_core.specs.declared.rule_sets.FlatRule.{FlatRule}
use Rattle.isle_checks.specs.declared.placed.Check.TheVariants as check
use Rattle.isle_checks.specs.Firsts.{Found, AreFirstsOfTerm}
use Rattle.isle_checks.specs.Joined.{IsUnreachable}
use Rattle.isle_checks.specs.CheckList.{RuleError, errors_of, told}

-- the positions of flat rules
abbrev pub places_of : List FlatRule → List Pos
places_of fs = map (λ (f : FlatRule). f.pos) fs

-- of each rule it was told whether it is unreachable by itself
abbrev pub AreUnreachable : List FlatRule → List Bool → Type 0
AreUnreachable [] [] = Unit {0}
AreUnreachable (f ∷ fs) (u ∷ us) = (IsTrue u ↔ IsUnreachable f) × AreUnreachable fs us
AreUnreachable [] (u ∷ us) = ⊥
AreUnreachable (f ∷ fs) [] = ⊥

-- there is one rule, and it is reachable
abbrev pub IsSoundAlone : List FlatRule → Type 0
IsSoundAlone [] = ⊥
IsSoundAlone (f ∷ []) = IsUnreachable f → ⊥
IsSoundAlone (f ∷ g ∷ fs) = ⊥

-- of the first n rules
abbrev pub errors_below : List Pos → List Bool → (overlaps shadows : Found) → ℕ → List RuleError
errors_below ps us os ss zero = []
errors_below ps us os ss (suc n) = errors_below ps us os ss n ++ errors_of ps n (slice_index_or us n false) (slice_index_or os n None) (slice_index_or ss n None)

-- errors that say this joined those before
abbrev pub Joined : (old new : List Error) → List RuleError → Type 0
Joined old new es = map told new ≡ map told old ++ map Some es

-- the errors of a term's flat rules joined those before
pub record JoinedOf (multi : Bool) (fs : List FlatRule) (old new : List Error) : Type 0 where
  pub unreachable : List Bool
  pub overlaps : Found
  pub shadows : Found
  pub are_unreachable : AreUnreachable fs unreachable
  pub first_overlaps : AreFirstsOfTerm check.Overlaps multi fs overlaps
  pub first_shadows : AreFirstsOfTerm check.Shadows multi fs shadows
  pub joined : Joined old new (errors_below (places_of fs) unreachable overlaps shadows (length fs))
