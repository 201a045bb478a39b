-- What the two extractors of a predicate match: of each value whose flag is answered, the one or the other, and not both.
use Rattle.std.specs.Prelude.{◌≡◌, ℕ, ◌<◌, List, [], ◌∷◌, ◌++◌, length, Bool, not, Option, Some, None, IsSomeAnd, Contains, codes, if◌then◌else◌}
use Rattle.isle_base.specs.declared.ids.TermId.{TermId}
use Rattle.isle_core.specs.declared.position.Pos.{Pos}
use Rattle.isle_core.specs.Calling.{extracting}
use Rattle.isle_core.specs.Choice.{Choice}
use Rattle.isle_core.specs.Match.{Names, matches}
use Rattle.isle_core.specs.Meaning.{Meaning}
use Rattle.isle_core.specs.Path.{Path}
use Rattle.isle_core.specs.Pattern.{Pattern}
use Rattle.isle_core.specs.Rule.{Environment}
use Rattle.isle_core.specs.Terms.{term_name}
use Rattle.isle_core.specs.Value.{Value, Truth, Found}
use Rattle.isle_ast.specs.Tree.{Def}
use Rattle.isle_numerics.specs.declared.numeric_type.NumericType.{NumericType}
use Rattle.isle_numerics.specs.declared.operation.Operation.TheVariants.{Ask}
use Rattle.isle_numerics.specs.declared.operation.Predicate.{Predicate}
use Rattle.isle_numerics.specs.Definitions.{asked, matcher, name_of, numeric_defs, prefixed}
use Rattle.isle_numerics.specs.NumericTypes.{numeric_types}
use Rattle.isle_numerics.specs.Table.{operations}
use Rattle.isle_sema.specs.Templates.{templates}
use Rattle.isle_sema.specs.Typing.{Typed}
use Rattle.isle_templates.specs.Substituted.{template_of, whole_templates}
use Rattle.isle_terms.specs.Whole.{whole_of}
use Rattle.isle_writing.specs.Erased.{placed}
use Rattle.isle_prelude_laws.specs.HonestMeaning.{answer_to}

-- each definition of the numeric prelude stands among these, at some place
abbrev pub HoldNumbers : List Def → Type 0
HoldNumbers defs = (d : Def) → Contains numeric_defs d → (at : Pos) × Contains defs (placed at d)

-- a term of the environment that has this name
pub record IsTermOf (env : Environment) (name : List ℕ) (term : TermId) : Type 0 where
  pub there : term.0 < length env.terms
  pub named : term_name env term ≡ name

-- a predicate of a numeric type, and its terms: that whose flag is answered, that of the values where it is true, and that of the others
pub record IsPredicate (env : Environment) (ty : NumericType) (p : Predicate) (flagging when when_not : TermId) : Type 0 where
  pub numeric : Contains numeric_types ty
  pub among : Contains (operations ty.signed) (Ask p)
  pub flag : IsTermOf env (matcher (name_of ty) (asked (Ask p))) flagging
  pub holds : IsTermOf env (prefixed (name_of ty) (codes "when_" ++ asked (Ask p))) when
  pub fails : IsTermOf env (prefixed (name_of ty) (codes "when_not_" ++ asked (Ask p))) when_not

-- the pattern that stands for a use of an extractor without parameters
abbrev pub used_pattern : List Def → TermId → Option Pattern
used_pattern defs term = template_of (whole_templates (templates (whole_of defs))) term

-- the pattern matches the value exactly if this holds, and binds nothing
abbrev pub MatchesIf : Environment → Meaning → Value → Bool → Pattern → Type 0
MatchesIf env m v holds pattern =
    (choice : Choice) (at : Path) (names : Names) → matches env m choice pattern at v names ≡ (if holds then Some names else None)

-- where the flag of a value is answered, the first extractor matches exactly if it is true, and the second one exactly if it is false
abbrev pub AreComplements : List Def → Environment → (flagging when when_not : TermId) → Type 0
AreComplements defs env flagging when when_not =
    (m : Meaning) (v : Value) (flag : Bool) → answer_to m (extracting env flagging) v ≡ Some (Found (Truth flag ∷ []))
    → IsSomeAnd (used_pattern defs when) (MatchesIf env m v flag) × IsSomeAnd (used_pattern defs when_not) (MatchesIf env m v (not flag))

-- so it is of each predicate, if the definitions are typed and hold the numeric prelude
abbrev pub PredicatesComplement : Type 0
PredicatesComplement =
    (defs : List Def) (env : Environment) (ty : NumericType) (p : Predicate) (flagging when when_not : TermId)
    → Typed defs env → HoldNumbers defs → IsPredicate env ty p flagging when when_not → AreComplements defs env flagging when when_not
