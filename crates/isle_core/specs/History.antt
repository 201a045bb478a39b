-- A history of calls with their answers, and when it is one that lawful answers may give.
use Rattle.std.specs.Prelude.{◌≡◌, List, [], ◌∷◌, ◌++◌, Bool, true, false, Option, Some, None, Contains, slice_get}
use Rattle.isle_base.specs.declared.ids.Sym.{Sym}
use Rattle.isle_base.specs.declared.ids.TypeId.{TypeId}
use Rattle.isle_core.specs.declared.types.ReturnKind.{ReturnKind}
use Rattle.isle_core.specs.declared.types.Term.{Term}
use Rattle.isle_core.specs.declared.values.Callee.{Callee}
use Rattle.isle_core.specs.Value.{Value, Answer, Made}
use Rattle.isle_core.specs.Meaning.{Meaning, same_values}
use Rattle.isle_core.specs.Answered.{answer}
use Rattle.isle_core.specs.Calling.{Calling, ByTurns, ByCases, NoCall}
use Rattle.isle_core.specs.CalledTerms.{Role, CalledTerm}
use Rattle.isle_core.specs.OccurringConstants.{TypedConstant, Named}
use Rattle.isle_core.specs.Lawful.{Fits, called_as, result_types}
use Rattle.isle_core.specs.Rule.{Environment}

-- a call with its answer
pub record AnsweredCall : Type 0 where
  pub callee : Callee
  pub args : List Value
  pub answer : Answer

-- what is asked of a callee: whether it is pure, how often it answers, and with which types
pub record Service : Type 0 where
  pub callee : Callee
  pub pure : Bool
  pub kind : ReturnKind
  pub types : List TypeId

-- that of a term in its role, by how it is called; of one that nothing is called for there is none
abbrev pub service_by : Role → Option Term → Calling → Option Service
service_by role None c = None
service_by role (Some t) (ByTurns callee kind) = Some (record { callee = callee; pure = false; kind = kind; types = result_types role t })
service_by role (Some t) (ByCases callee kind) = Some (record { callee = callee; pure = true; kind = kind; types = result_types role t })
service_by role (Some t) NoCall = None

-- that of a called term
abbrev pub service_of : Environment → CalledTerm → Option Service
service_of env o = service_by o.role (slice_get env.terms o.term.0) (called_as env o.term o.role)

-- a called term that may be answered: its callee has an answer of its kind and types, as if its types have values
pub record IsAnswerable (env : Environment) (o : CalledTerm) : Type 0 where
  pub service : Service
  pub is : service_of env o ≡ Some service
  pub answer : Answer
  pub fits : Fits env service.kind service.types answer

-- each called term may be answered, and of one callee all ask the same
pub record AreAnswerable (env : Environment) (os : List CalledTerm) : Type 0 where
  pub each : (o : CalledTerm) → Contains os o → IsAnswerable env o
  pub alike : (o p : CalledTerm) (s t : Service) → Contains os o → Contains os p → service_of env o ≡ Some s → service_of env p ≡ Some t → s.callee ≡ t.callee → s ≡ t

-- no constant among them is named
abbrev pub NamesNone : List TypedConstant → Type 0
NamesNone cs = (ty : TypeId) (name : Sym) → Contains cs (ty, Named name) → ⊥

-- a call that one of the called terms makes, with an answer of its callee's kind and types
pub record IsCallOf (env : Environment) (os : List CalledTerm) (c : AnsweredCall) : Type 0 where
  pub from : CalledTerm
  pub among : Contains os from
  pub service : Service
  pub is : service_of env from ≡ Some service
  pub callee : service.callee ≡ c.callee
  pub fits : Fits env service.kind service.types c.answer

-- two calls of a pure callee with equal arguments have one answer
abbrev pub AnswersAlike : Environment → List CalledTerm → List AnsweredCall → Type 0
AnswersAlike env os h = (c d : AnsweredCall) (o : CalledTerm) (s : Service) → Contains h c → Contains h d → Contains os o → service_of env o ≡ Some s → s.pure ≡ true → s.callee ≡ c.callee → c.callee ≡ d.callee → same_values c.args d.args ≡ true → c.answer ≡ d.answer

-- a history of such calls
pub record IsHistory (env : Environment) (os : List CalledTerm) (h : List AnsweredCall) : Type 0 where
  pub calls : (c : AnsweredCall) → Contains h c → IsCallOf env os c
  pub alike : AnswersAlike env os h

-- the meaning answers each call of a history so, after the calls made before
abbrev pub AnswersSo : Meaning → List Made → List AnsweredCall → Type 0
AnswersSo m made [] = Unit {0}
AnswersSo m made (c ∷ h) = (answer m c.callee c.args made ≡ c.answer) × AnswersSo m (made ++ record { callee = c.callee; args = c.args } ∷ []) h
