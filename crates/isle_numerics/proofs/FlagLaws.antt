-- The patterns that want a predicate's flag are complements.
use Rattle.std.proofs.Common.{◌≡◌, List, [], ◌∷◌, Bool, true, false, cond, Some, None, refl, ap, ◌∙◌}
use Rattle.std.specs.Prelude.{option_and_then}
use Rattle.isle_core.specs.declared.TermId.{TermId}
use Rattle.isle_core.specs.declared.TypeId.{TypeId}
use Rattle.isle_core.specs.Calling.{extracting}
use Rattle.isle_core.specs.Choice.{Choice}
use Rattle.isle_core.specs.Making.{Making, making}
use Rattle.isle_core.specs.Match.{Names, matches, matches_parts, taken_apart}
use Rattle.isle_core.specs.Meaning.{Meaning}
use Rattle.isle_core.specs.Opening.{opening}
use Rattle.isle_core.specs.Path.{Path, Extracted}
use Rattle.isle_core.specs.Pattern.{NoPattern, APattern, ConstBool}
use Rattle.isle_core.specs.Rule.{Environment}
use Rattle.isle_core.specs.SameValue.{same_value}
use Rattle.isle_core.specs.Value.{Value, Truth}
use Rattle.isle_numerics.specs.Flags.{wanting, AnswersFlag, AreComplements}

-- one part that wants a truth, against the flag
wants : (env : Environment) (m : Meaning) (choice : Choice) (term : TermId) (at : Path) (v : Value) (names : Names) (flag wanted : Bool) → AnswersFlag env m choice term at v flag
    → taken_apart env m (choice (Extracted term at)) (making env term) (extracting env term) v ≡ Some (Truth flag ∷ [])
wants env m choice term at v names flag wanted is =
    ap (λ (made : Making). taken_apart env m (choice (Extracted term at)) made (extracting env term) v) is.external ∙ is.answers

part : (env : Environment) (m : Meaning) (choice : Choice) (term : TermId) (at : Path) (names : Names) (flag wanted : Bool)
    → matches_parts env m choice (opening env term) (APattern (ConstBool wanted) NoPattern) 0 at (Truth flag ∷ []) names
    ≡ cond wanted (cond flag (Some names) None) (cond flag None (Some names))
unfolding same_value
part env m choice term at names true true = refl
part env m choice term at names true false = refl
part env m choice term at names false true = refl
part env m choice term at names false false = refl

either : (env : Environment) (m : Meaning) (choice : Choice) (ty : TypeId) (term : TermId) (at : Path) (v : Value) (names : Names) (flag wanted : Bool)
    → AnswersFlag env m choice term at v flag
    → matches env m choice (wanting ty term wanted) at v names ≡ cond wanted (cond flag (Some names) None) (cond flag None (Some names))
either env m choice ty term at v names flag wanted is =
    ap (option_and_then (λ (vs : List Value). matches_parts env m choice (opening env term) (APattern (ConstBool wanted) NoPattern) 0 at vs names))
    (wants env m choice term at v names flag wanted is)
    ∙ part env m choice term at names flag wanted

pub complements : AreComplements
complements env m choice ty term at v names flag is =
    record { when = either env m choice ty term at v names flag true is; when_not = either env m choice ty term at v names flag false is }
