-- What there is to say of a term: arguments of its types, and lawful meanings.
use Rattle.std.specs.Prelude.{◌≡◌, List, [], Some, Contains, IsSomeAnd, slice_get}
use Rattle.std.specs.List.{AllByRecursion}
use Rattle.isle_core.specs.declared.TermId.{TermId}
use Rattle.isle_core.specs.declared.TypeId.{TypeId}
use Rattle.isle_core.specs.declared.types.Term.{Term}
use Rattle.isle_core.specs.CalledTerms.{CalledTerm, called}
use Rattle.isle_core.specs.HasType.{HasType, HaveTypes}
use Rattle.isle_core.specs.History.{AnsweredCall, NamesNone, IsHistory, AnswersSo}
use Rattle.isle_core.specs.Lawful.{IsLawful, result_types}
use Rattle.isle_core.specs.Meaning.{Meaning}
use Rattle.isle_core.specs.OccurringConstants.{rules_constants}
use Rattle.isle_core.specs.Rule.{Environment, rules_of}
use Rattle.isle_core.specs.Value.{Value}

-- a type has a value: an enum without variants has none
abbrev pub HasValue : Environment → TypeId → Type 0
HasValue env ty = (v : Value) × HasType env v ty

-- each type that a called term answers with has a value
abbrev pub AnswersInhabited : Environment → CalledTerm → Type 0
AnswersInhabited env o = IsSomeAnd (slice_get env.terms o.term.0) (λ (t : Term). AllByRecursion (HasValue env) (result_types o.role t))

-- if no constant is named and the terms that its rules call answer with inhabited types, each history of calls that its
-- rules may make is that of some lawful meaning, also the one without a call
abbrev pub HasMeanings : Environment → TermId → Type 0
HasMeanings env id =
    NamesNone (rules_constants (rules_of env id)) → ((o : CalledTerm) → Contains (called env (rules_of env id)) o → AnswersInhabited env o)
    → (history : List AnsweredCall) → IsHistory env (called env (rules_of env id)) history → (m : Meaning) × IsLawful env id m × AnswersSo m [] history

-- the term has well-typed arguments if its arguments' types have values, and lawful meanings
pub record IsMeant (env : Environment) (id : TermId) : Type 0 where
  pub term : Term
  pub found : slice_get env.terms id.0 ≡ Some term
  pub arguments : AllByRecursion (HasValue env) term.arg_tys → (args : List Value) × HaveTypes env args term.arg_tys
  pub meanings : HasMeanings env id
