-- The errors of terms that are recursive and not marked so.
use Rattle.std.specs.Prelude.{◌≡◌, ◌↔◌, IsTrue, ℕ, List, [], ◌∷◌, map, Bool, true, false, Option, Some, None, slice_get, codes}
use Rattle.std.specs.Option.{option_map_or}
use Rattle.isle_core.specs.declared.TermId.{TermId}
use Rattle.isle_core.specs.declared.errors.Error.{Error}
use Rattle.isle_core.specs.declared.errors.Error.TheVariants as error
use Rattle.isle_core.specs.declared.position.Pos.{Pos}
use Rattle.isle_core.specs.declared.rule_sets.RuleSet.{RuleSet}
use Rattle.isle_core.specs.declared.types.Term.{Term}
use Rattle.isle_core.specs.ExternalSig.{is_recursive}
use Rattle.isle_checks.specs.ClosedWalks.{IsOnClosedWalk}

-- a term is marked with `rec`
abbrev pub is_marked : List Term → TermId → Bool
is_marked terms id = option_map_or (λ (t : Term). is_recursive t.kind) (slice_get terms id.0) false

-- a term is on a closed walk and not marked
abbrev pub IsUnmarked : List Term → List (TermId × RuleSet) → TermId → Type 0
IsUnmarked terms sets id = IsOnClosedWalk terms sets id × (is_marked terms id ≡ false)

-- the declaration of a term that is told, and those of others
abbrev pub told_before : Bool → Option Term → List Pos → List Pos
told_before false t ps = ps
told_before true None ps = ps
told_before true (Some t) ps = t.decl_pos ∷ ps

-- the declarations of those terms of a list that are on a closed walk and not marked, in order
abbrev pub AreUnmarked : List Term → (all : List (TermId × RuleSet)) → List (TermId × RuleSet) → List Pos → Type 0
AreUnmarked terms all [] ps = ps ≡ []
AreUnmarked terms all (s ∷ sets) ps = (told : Bool) × (more : List Pos) × (IsTrue told ↔ IsUnmarked terms all s.0) × AreUnmarked terms all sets more × (ps ≡ told_before told (slice_get terms s.0.0) more)

-- what is said of such a term
abbrev pub words : List ℕ
words = codes "Term is recursive but does not have the `rec` attribute"

-- its error, at its declaration
abbrev pub recursion_error : Pos → Error
recursion_error pos = error.RecursionError words (record { from = pos; to = pos })

-- the errors of all such terms, in order
abbrev pub IsRecursionList : List Term → List (TermId × RuleSet) → List Error → Type 0
IsRecursionList terms sets errors = (ps : List Pos) × AreUnmarked terms sets sets ps × (errors ≡ map recursion_error ps)
