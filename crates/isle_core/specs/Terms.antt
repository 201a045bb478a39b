-- The terms of an environment: which have rules, what they are called, and which are impure.
use Rattle.std.specs.Prelude.{ℕ, List, [], map, filter, length, Bool, true, false, ◌==◌, Option, Some, None, slice_get, slice_index_or}
use Rattle.std.specs.List.{list_any, range_with_len}
use Rattle.std.specs.Str.{bytes_eq}
use Rattle.std.specs.Option.{option_map_or}
use Rattle.isle_base.specs.declared.ids.TermId.{TermId}
use Rattle.isle_base.specs.declared.ids.Sym.{Sym}
use Rattle.isle_core.specs.declared.types.Term.{Term}
use Rattle.isle_core.specs.declared.types.TypeEnv.{TypeEnv}
use Rattle.isle_core.specs.declared.types.TermKind.{TermKind}
use Rattle.isle_core.specs.declared.types.TermKind.TheVariants as kind
use Rattle.isle_core.specs.declared.types.ConstructorKind.{ConstructorKind}
use Rattle.isle_core.specs.declared.types.ConstructorKind.TheVariants as constructor
use Rattle.isle_core.specs.declared.values.Callee.{Callee}
use Rattle.isle_core.specs.declared.values.Callee.TheVariants.{External, Internal}
use Rattle.isle_core.specs.Rule.{Environment, Rule}
use Rattle.isle_core.specs.Value.{Made}

-- the text of a symbol
abbrev pub symbol_text : TypeEnv → Sym → List ℕ
symbol_text types s = slice_index_or types.syms s.0 []

-- the text of a symbol of an environment
abbrev pub sym_text : Environment → Sym → List ℕ
sym_text env s = symbol_text env.types s

-- the ids of the terms, in order
abbrev pub term_ids : Environment → List TermId
term_ids env = map (λ (i : ℕ). record { 0 = i }) (range_with_len 0 (length env.terms))

-- whether a rule of the term is there
abbrev pub has_rules : Environment → TermId → Bool
has_rules env id = list_any (λ (r : Rule). r.root_term.0 == id.0) env.rules

-- the terms with rules, in order of ids
abbrev pub with_rules : Environment → List TermId
with_rules env = filter (has_rules env) (term_ids env)

-- the name of a term
abbrev pub term_name : Environment → TermId → List ℕ
term_name env id = option_map_or (λ (t : Term). sym_text env t.name) (slice_get env.terms id.0) []

-- what a call of a term as a constructor goes to, where it is declared
abbrev pub callee_by : Environment → Term → ConstructorKind → Option Callee
callee_by env t constructor.Absent = None
callee_by env t constructor.Internal = Some (Internal (sym_text env t.name))
callee_by env t (constructor.External func) = Some (External (sym_text env func))

-- what a call of an impure term goes to
abbrev pub impure_callee : Environment → Term → TermKind → Option Callee
impure_callee env t (kind.Variant ty variant) = None
impure_callee env t (kind.Struct ty) = None
impure_callee env t (kind.Decl true multi partial recursive by extractor) = None
impure_callee env t (kind.Decl false multi partial recursive by extractor) = callee_by env t by

-- whether a call goes there
abbrev pub goes_to : Callee → Option Callee → Bool
goes_to callee None = false
goes_to (External a) (Some (External b)) = bytes_eq a b
goes_to (Internal a) (Some (Internal b)) = bytes_eq a b
goes_to (External a) (Some (Internal b)) = false
goes_to (Internal a) (Some (External b)) = false

-- whether a call goes to an impure term
abbrev pub is_impure : Environment → Callee → Bool
is_impure env callee = list_any (λ (t : Term). goes_to callee (impure_callee env t t.kind)) env.terms

-- the calls of impure terms
abbrev pub impure_calls : Environment → List Made → List Made
impure_calls env calls = filter (λ (c : Made). is_impure env c.callee) calls
