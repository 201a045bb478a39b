-- The functions that are asked by cases: external extractors, and the constructors of pure terms.
use Rattle.std.specs.Prelude.{List, [], ◌∷◌, Option, Some, None, find, option_map}
use Rattle.std.specs.List.{cons_option}
use Rattle.isle_core.specs.declared.TypeId.{TypeId}
use Rattle.isle_core.specs.declared.types.Term.{Term}
use Rattle.isle_core.specs.declared.types.TermKind.{TermKind}
use Rattle.isle_core.specs.declared.values.Callee.{Callee}
use Rattle.isle_core.specs.Calling.{Calling, ByTurns, ByCases, NoCall, extracting_kind, pure_callee}
use Rattle.isle_core.specs.Rule.{Environment}
use Rattle.isle_core.specs.Terms.{goes_to}

-- the types of what such a function takes, and of what it gives
pub record Asked : Type 0 where
  pub params : List TypeId
  pub results : List TypeId

-- the constructor of a term takes its arguments, and gives what it makes of them
abbrev pub constructor_types : Term → Asked
constructor_types t = record { params = t.arg_tys; results = t.ret_ty ∷ [] }

-- its extractor takes what is made, and gives the arguments
abbrev pub extractor_types : Term → Asked
extractor_types t = record { params = t.ret_ty ∷ []; results = t.arg_tys }

-- what is answered by cases
abbrev pub by_cases : Calling → Option Callee
by_cases (ByTurns callee kind) = None
by_cases (ByCases callee kind) = Some callee
by_cases NoCall = None

-- what calls of a term of this kind as an extractor go to, where that is external
abbrev pub extractor_callee : Environment → TermKind → Option Callee
extractor_callee env kind = by_cases (extracting_kind env kind)

-- the function of these types that calls go to, where they do, in front of others
abbrev pub put_first : Asked → Option Callee → List (Callee × Asked) → List (Callee × Asked)
put_first a callee fns = cons_option (option_map (λ (c : Callee). (c, a)) callee) fns

-- those of a term, the one of its extractor first, in front of others
abbrev pub asked_before : Environment → Term → List (Callee × Asked) → List (Callee × Asked)
asked_before env t fns = put_first (extractor_types t) (extractor_callee env t.kind) (put_first (constructor_types t) (pure_callee env t t.kind) fns)

-- those of terms, in order
abbrev pub asked_in : Environment → List Term → List (Callee × Asked)
asked_in env [] = []
asked_in env (t ∷ ts) = asked_before env t (asked_in env ts)

-- the types of the first of these that calls of the callee go to
abbrev pub first_asked : List (Callee × Asked) → Callee → Option Asked
first_asked fns callee = option_map (λ (f : Callee × Asked). f.1) (find (λ (f : Callee × Asked). goes_to callee (Some f.0)) fns)

-- so of all of the environment
abbrev pub asked_as : Environment → Callee → Option Asked
asked_as env callee = first_asked (asked_in env env.terms) callee
