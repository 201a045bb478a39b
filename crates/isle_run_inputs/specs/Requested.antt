-- What names stand for in an environment: the term that is run, what impure callees answer, and constants.
use Rattle.std.specs.Prelude.{ℕ, List, [], Option, find, option_map, slice_get}
use Rattle.std.specs.Str.{bytes_eq}
use Rattle.std.specs.Option.{option_map_or}
use Rattle.isle_core.specs.declared.Sym.{Sym}
use Rattle.isle_core.specs.declared.TermId.{TermId}
use Rattle.isle_core.specs.declared.TypeId.{TypeId}
use Rattle.isle_core.specs.declared.types.Term.{Term}
use Rattle.isle_core.specs.declared.values.Callee.{Callee}
use Rattle.isle_core.specs.Rule.{Environment}
use Rattle.isle_core.specs.Terms.{with_rules, term_name, sym_text, impure_callee, goes_to}

-- the first term with rules that has this name
abbrev pub requested_term : Environment → List ℕ → Option TermId
requested_term env name = find (λ (id : TermId). bytes_eq name (term_name env id)) (with_rules env)

-- the types of a term's arguments
abbrev pub arg_types : Environment → TermId → List TypeId
arg_types env id = option_map_or (λ (t : Term). t.arg_tys) (slice_get env.terms id.0) []

-- those of the term that has this name; if none has rules and it, there are none
abbrev pub requested_types : Environment → List ℕ → List TypeId
requested_types env name = option_map_or (arg_types env) (requested_term env name) []

-- the type of what the first of these terms answers that calls of the callee go to
abbrev pub first_type : Environment → List Term → Callee → Option TypeId
first_type env terms callee = option_map (λ (t : Term). t.ret_ty) (find (λ (t : Term). goes_to callee (impure_callee env t t.kind)) terms)

-- the type of what a call of an impure callee answers
abbrev pub answer_type : Environment → Callee → Option TypeId
answer_type env callee = first_type env env.terms callee

-- the type of the first of these constants that has the name
abbrev pub first_constant : Environment → List (Sym × TypeId) → List ℕ → Option TypeId
first_constant env consts name = option_map (λ (c : Sym × TypeId). c.1) (find (λ (c : Sym × TypeId). bytes_eq name (sym_text env c.0)) consts)

-- the type of the first constant that has this name
abbrev pub constant_type : Environment → List ℕ → Option TypeId
constant_type env name = first_constant env env.types.consts name
