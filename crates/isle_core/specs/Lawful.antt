-- When a meaning is lawful for a term.
use Rattle.std.specs.Prelude.{◌≡◌, List, [], ◌∷◌, All, Contains, Option, Some, None, IsSomeAnd, map, slice_get}
use Rattle.std.specs.List.{AllByRecursion}
use Rattle.isle_base.specs.declared.ids.Sym.{Sym}
use Rattle.isle_base.specs.declared.ids.TermId.{TermId}
use Rattle.isle_base.specs.declared.ids.TypeId.{TypeId}
use Rattle.isle_core.specs.declared.types.Term.{Term}
use Rattle.isle_core.specs.declared.types.ReturnKind.{ReturnKind}
use Rattle.isle_core.specs.declared.types.ReturnKind.TheVariants as return_kind
use Rattle.isle_core.specs.Value.{Value, Answer, Plain, Found, Nothing, Several}
use Rattle.isle_core.specs.Value as value
use Rattle.isle_core.specs.Constants.{int_value}
use Rattle.isle_core.specs.Meaning.{PureAnswers, TurnAnswers, Meaning, turns_of, cases_of}
use Rattle.isle_core.specs.Having.{const_of}
use Rattle.isle_core.specs.Calling.{Calling, ByTurns, ByCases, NoCall, calling, extracting}
use Rattle.isle_core.specs.HasType.{HasType, HaveTypes}
use Rattle.isle_core.specs.NamesApart.{ValuesConstants}
use Rattle.isle_core.specs.CalledTerms.{Role, Extractor, Constructor, CalledTerm, called}
use Rattle.isle_core.specs.OccurringConstants.{Constant, Truth, Number, Named, rules_constants}
use Rattle.isle_core.specs.Terms.{sym_text}
use Rattle.isle_core.specs.Rule.{Environment, rules_of}

-- ---- answers

-- an answer of this kind, with results of these types, in each item if there are several
abbrev pub Fits : Environment → ReturnKind → List TypeId → Answer → Type 0
Fits env return_kind.Plain tys (Plain vs) = HaveTypes env vs tys
Fits env return_kind.Plain tys (Found vs) = ⊥
Fits env return_kind.Plain tys Nothing = ⊥
Fits env return_kind.Plain tys (Several items) = ⊥
Fits env return_kind.Option tys (Plain vs) = ⊥
Fits env return_kind.Option tys (Found vs) = HaveTypes env vs tys
Fits env return_kind.Option tys Nothing = Unit {0}
Fits env return_kind.Option tys (Several items) = ⊥
Fits env return_kind.Iterator tys (Plain vs) = ⊥
Fits env return_kind.Iterator tys (Found vs) = ⊥
Fits env return_kind.Iterator tys Nothing = ⊥
Fits env return_kind.Iterator tys (Several items) = AllByRecursion (λ vs. HaveTypes env vs tys) items

-- the turns and the rest
abbrev pub all_turns : TurnAnswers → List Answer
all_turns a = a.rest ∷ a.turns

-- the cases and the rest
abbrev pub all_cases : PureAnswers → List Answer
all_cases a = a.rest ∷ map (λ (c : List Value × Answer). c.1) a.cases

-- the answers of what is called fit: an impure callee has turns, a pure one cases and no turns
abbrev pub CallingFits : Environment → Meaning → List TypeId → Calling → Type 0
CallingFits env m tys (ByTurns callee kind) = IsSomeAnd (turns_of m callee) (λ a. All (Fits env kind tys) (all_turns a))
CallingFits env m tys (ByCases callee kind) = IsSomeAnd (cases_of m callee) (λ a. All (Fits env kind tys) (all_cases a)) × (turns_of m callee ≡ None)
CallingFits env m tys NoCall = ⊥

-- how a term in its role is called
abbrev pub called_as : Environment → TermId → Role → Calling
called_as env term Constructor = calling env term
called_as env term Extractor = extracting env term

-- the types of its results: an extractor gives what a constructor takes
abbrev pub result_types : Role → Term → List TypeId
result_types Constructor t = t.ret_ty ∷ []
result_types Extractor t = t.arg_tys

-- the meaning answers a term in its role, with its kind and types
abbrev pub RoleFits : Environment → Meaning → TermId → Role → Type 0
RoleFits env m term role = IsSomeAnd (slice_get env.terms term.0) (λ (t : Term). CallingFits env m (result_types role t) (called_as env term role))

-- the meaning answers calls of the term as a constructor
abbrev pub AnswersFit : Environment → Meaning → TermId → Type 0
AnswersFit env m term = RoleFits env m term Constructor

-- so of a called term
abbrev pub CalledTermFits : Environment → Meaning → CalledTerm → Type 0
CalledTermFits env m o = RoleFits env m o.term o.role

-- ---- constants

-- the value of a constant of this type
abbrev pub constant_value : Environment → Meaning → TypeId → Constant → Option Value
constant_value env m ty (Truth b) = Some (value.Truth b)
constant_value env m ty (Number n) = Some (int_value env ty n)
constant_value env m ty (Named name) = const_of m (sym_text env name)

-- ---- the rules of a term

-- the meaning answers each term that the term's rules call; each named constant in them has a value of its type, and
-- constants of one type that have one value are one; no name but those of declared constants has a value, and that is of its
-- constant's type
pub record IsLawful (env : Environment) (term : TermId) (m : Meaning) : Type 0 where
  pub answers : (o : CalledTerm) → Contains (called env (rules_of env term)) o → CalledTermFits env m o
  pub named : (ty : TypeId) (name : Sym) → Contains (rules_constants (rules_of env term)) (ty, Named name) → IsSomeAnd (const_of m (sym_text env name)) (λ v. HasType env v ty)
  pub apart : (ty : TypeId) (c d : Constant) → Contains (rules_constants (rules_of env term)) (ty, c) → Contains (rules_constants (rules_of env term)) (ty, d) → constant_value env m ty c ≡ constant_value env m ty d → c ≡ d
  pub declared : ValuesConstants env m
