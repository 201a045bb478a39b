-- The extractors of a predicate: what the patterns that want its flag match.
use Rattle.std.specs.Prelude.{◌≡◌, [], ◌∷◌, Bool, true, false, Some, None, if◌then◌else◌}
use Rattle.isle_core.specs.declared.TermId.{TermId}
use Rattle.isle_core.specs.declared.TypeId.{TypeId}
use Rattle.isle_core.specs.Calling.{extracting}
use Rattle.isle_core.specs.Choice.{Choice}
use Rattle.isle_core.specs.Making.{MakesNothing, making}
use Rattle.isle_core.specs.Match.{Names, extracted, matches}
use Rattle.isle_core.specs.Meaning.{Meaning}
use Rattle.isle_core.specs.Path.{Path, Extracted}
use Rattle.isle_core.specs.Pattern.{Pattern, NoPattern, APattern, ConstBool, Term}
use Rattle.isle_core.specs.Rule.{Environment}
use Rattle.isle_core.specs.Value.{Value, Truth}

-- what `when` and `when_not` of a predicate stand for: the extractor of its flag on true, and on false
abbrev pub wanting : TypeId → TermId → Bool → Pattern
wanting ty term flag = Term ty term (APattern (ConstBool flag) NoPattern)

-- an external extractor answers this value with this flag
pub record AnswersFlag (env : Environment) (m : Meaning) (choice : Choice) (term : TermId) (at : Path) (v : Value) (flag : Bool) : Type 0 where
  pub external : making env term ≡ MakesNothing
  pub answers : extracted m (choice (Extracted term at)) (extracting env term) v ≡ Some (Truth flag ∷ [])

-- the pattern that wants true matches exactly if the flag is true, and the one that wants false exactly if it isn't
pub record IsMatchedByOne (env : Environment) (m : Meaning) (choice : Choice) (ty : TypeId) (term : TermId) (at : Path) (v : Value) (names : Names) (flag : Bool) : Type 0 where
  pub when : matches env m choice (wanting ty term true) at v names ≡ (if flag then Some names else None)
  pub when_not : matches env m choice (wanting ty term false) at v names ≡ (if flag then None else Some names)

-- of each value whose flag is answered, one of the two patterns matches, and the other doesn't
abbrev pub AreComplements : Type 0
AreComplements =
    (env : Environment) (m : Meaning) (choice : Choice) (ty : TypeId) (term : TermId) (at : Path) (v : Value) (names : Names) (flag : Bool)
    → AnswersFlag env m choice term at v flag → IsMatchedByOne env m choice ty term at v names flag
