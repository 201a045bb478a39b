-- The errors of rules, in order.
use Rattle.std.specs.Prelude.{◌≡◌, ◌↔◌, IsTrue, ℕ, zero, suc, List, [], ◌∷◌, ◌++◌, length, map, Bool, false, true, Option, Some, None, option_map, slice_get}
use Rattle.std.specs.Option.{option_map_or}
use Rattle.isle_core.specs.declared.TermId.{TermId}
use Rattle.isle_core.specs.declared.position.Pos.{Pos}
use Rattle.isle_core.specs.declared.position.Span.{Span}
use Rattle.isle_core.specs.declared.errors.Error.{Error}
use Rattle.isle_core.specs.declared.errors.Error.TheVariants as error
use Rattle.isle_core.specs.declared.types.Term.{Term}
use Rattle.isle_core.specs.Calling.{kind_of, is_several}
use Rattle.isle_core.specs.Terms.{with_rules}
use Rattle.isle_core.specs.Rule.{Environment, Rule, rules_of}
use Rattle.isle_checks.specs.Firsts.{IsFirst}
use Rattle.isle_checks.specs.RuleChecks.{UnreachableAt, OverlapsAt, ShadowsAt}

-- an error, its words aside: a rule that is unreachable by itself, an earlier rule that a later one overlaps, or a rule that another one shadows
pub data RuleError : Type 0 where
  Unreached : (rule : Option Span) → RuleError
  Overlap : (earlier later : Option Span) → RuleError
  Shadowed : (shadowed mask : Option Span) → RuleError

-- the span that begins and ends at a place
abbrev pub single : Pos → Span
single pos = record { from = pos; to = pos }

-- where the rule at a place stands
abbrev pub span_at : List Pos → ℕ → Option Span
span_at ps i = option_map single (slice_get ps i)

-- the rule at a place, where it is unreachable by itself
abbrev pub unreachable_of : List Pos → ℕ → Bool → List RuleError
unreachable_of ps j false = []
unreachable_of ps j true = Unreached (span_at ps j) ∷ []

-- the overlap of the rule at a place with an earlier one, if there is one
abbrev pub overlap_of : List Pos → ℕ → Option ℕ → List RuleError
overlap_of ps j None = []
overlap_of ps j (Some i) = Overlap (span_at ps i) (span_at ps j) ∷ []

-- the rule at a place under the one that shadows it, if there is one
abbrev pub shadow_of : List Pos → ℕ → Option ℕ → List RuleError
shadow_of ps j None = []
shadow_of ps j (Some i) = Shadowed (span_at ps j) (span_at ps i) ∷ []

-- the errors of the rule at a place
abbrev pub errors_of : List Pos → ℕ → (unreachable : Bool) → (overlap shadow : Option ℕ) → List RuleError
errors_of ps j unreachable overlap shadow = unreachable_of ps j unreachable ++ overlap_of ps j overlap ++ shadow_of ps j shadow

-- the positions of rules
abbrev pub positions : List Rule → List Pos
positions rules = map (λ (r : Rule). r.pos) rules

-- of the rule at a place these are the errors: that it is unreachable by itself, then the first earlier rule that overlaps it, then
-- the first that shadows it; rules of a term that answers several times (multi) may overlap, and shadow each other
pub record AreErrorsAt (env : Environment) (multi : Bool) (rules : List Rule) (j : ℕ) (es : List RuleError) : Type 0 where
  pub unreachable : Bool
  pub is_unreachable : IsTrue unreachable ↔ UnreachableAt env rules j
  pub overlap : Option ℕ
  pub first_overlap : IsFirst (λ i. (multi ≡ false) × OverlapsAt env rules i j) overlap
  pub shadow : Option ℕ
  pub first_shadow : IsFirst (λ i. (multi ≡ false) × ShadowsAt env rules i j) shadow
  pub are : es ≡ errors_of (positions rules) j unreachable overlap shadow

-- of the first n rules these are the errors, rule by rule
abbrev pub AreErrorsBelow : Environment → (multi : Bool) → List Rule → ℕ → List RuleError → Type 0
AreErrorsBelow env multi rules zero es = es ≡ []
AreErrorsBelow env multi rules (suc n) es = (front : List RuleError) × (last : List RuleError)
    × AreErrorsBelow env multi rules n front × AreErrorsAt env multi rules n last × (es ≡ front ++ last)

-- of all rules of a term
abbrev pub AreErrorsOf : Environment → (multi : Bool) → List Rule → List RuleError → Type 0
AreErrorsOf env multi rules es = AreErrorsBelow env multi rules (length rules) es

-- a term answers several times
abbrev pub is_multi : Environment → TermId → Bool
is_multi env id = option_map_or (λ (t : Term). is_several (kind_of t.kind)) (slice_get env.terms id.0) false

-- of the rules of a term in an environment
abbrev pub AreErrorsOfTerm : Environment → TermId → List RuleError → Type 0
AreErrorsOfTerm env id es = AreErrorsOf env (is_multi env id) (rules_of env id) es

-- of the rules of terms, term by term
abbrev pub AreErrorsOfTerms : Environment → List TermId → List RuleError → Type 0
AreErrorsOfTerms env [] es = es ≡ []
AreErrorsOfTerms env (id ∷ ids) es = (first : List RuleError) × (more : List RuleError) × AreErrorsOfTerm env id first × AreErrorsOfTerms env ids more × (es ≡ first ++ more)

-- what an error says beside its words; other kinds are none of these
abbrev pub told_spans : List Span → Option RuleError
told_spans [] = None
told_spans (a ∷ []) = None
told_spans (a ∷ b ∷ []) = Some (Overlap (Some a) (Some b))
told_spans (a ∷ b ∷ c ∷ more) = None

abbrev pub told : Error → Option RuleError
told (error.OverlapError msg rules) = told_spans rules
told (error.ShadowedError shadowed mask) = Some (Shadowed (Some shadowed) (Some mask))
told (error.ParseError msg span) = None
told (error.TypeError row msg span) = None
told (error.UnreachableError msg span) = Some (Unreached (Some span))
told (error.RecursionError msg span) = None

-- errors that say this, in order
abbrev pub Tell : List Error → List RuleError → Type 0
Tell errors es = map told errors ≡ map Some es

-- errors that say what is wrong with the rules of these terms
abbrev pub TellTerms : Environment → List TermId → List Error → Type 0
TellTerms env ids errors = (es : List RuleError) × AreErrorsOfTerms env ids es × Tell errors es

-- errors that say what is wrong with the rules of an environment
abbrev pub IsCheckList : Environment → List Error → Type 0
IsCheckList env errors = TellTerms env (with_rules env) errors

-- nothing is wrong with them
abbrev pub IsClean : Environment → Type 0
IsClean env = IsCheckList env []
