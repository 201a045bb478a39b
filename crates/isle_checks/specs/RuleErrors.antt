-- The errors of terms that use themselves by their rules and are not marked so.
use Rattle.std.specs.Prelude.{◌≡◌, ◌↔◌, IsTrue, List, [], ◌∷◌, map, Bool, slice_get}
use Rattle.isle_core.specs.declared.TermId.{TermId}
use Rattle.isle_core.specs.declared.errors.Error.{Error}
use Rattle.isle_core.specs.declared.position.Pos.{Pos}
use Rattle.isle_core.specs.Rule.{Environment}
use Rattle.isle_core.specs.Terms.{with_rules}
use Rattle.isle_checks.specs.Recursions.{told_before, recursion_error}
use Rattle.isle_checks.specs.RuleWalks.{IsUnmarkedTerm}

-- the declarations of those of some terms that are on a closed walk of rules and not marked, in order
abbrev pub AreUnmarkedTerms : Environment → List TermId → List Pos → Type 0
AreUnmarkedTerms env [] ps = ps ≡ []
AreUnmarkedTerms env (id ∷ ids) ps = (told : Bool) × (more : List Pos) × (IsTrue told ↔ IsUnmarkedTerm env id) × AreUnmarkedTerms env ids more × (ps ≡ told_before told (slice_get env.terms id.0) more)

-- the errors of all such terms of an environment, in order
abbrev pub IsRecursionOf : Environment → List Error → Type 0
IsRecursionOf env errors = (ps : List Pos) × AreUnmarkedTerms env (with_rules env) ps × (errors ≡ map recursion_error ps)
