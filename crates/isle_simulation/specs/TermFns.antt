-- The functions of terms, as far as calls see them.
use Rattle.std.specs.Prelude.{◌≡◌, List, length, map, Option, Some, option_map, Contains, slice_get}
use Rattle.std.specs.List.{IsDistinct, filter_map}
use Rattle.std.specs.Str.{bytes_eq}
use Rattle.isle_base.specs.declared.ids.TermId.{TermId}
use Rattle.isle_core.specs.declared.types.ConstructorKind.{ConstructorKind}
use Rattle.isle_core.specs.declared.types.ConstructorKind.TheVariants as constructor
use Rattle.isle_core.specs.declared.types.Term.{Term}
use Rattle.isle_core.specs.declared.types.TermKind.{TermKind}
use Rattle.isle_core.specs.declared.types.TermKind.TheVariants as kind
use Rattle.isle_core.specs.Calling.{kind_of}
use Rattle.isle_core.specs.Terms.{sym_text, with_rules}
use Rattle.isle_core.specs.Rule.{Environment}
use Rattle.isle_tree.specs.WellFormed.{Head, Callables, IsTermName}
use Rattle.isle_simulation.specs.TraitFns.{trait_fns_of}

-- the head of a term's function
abbrev pub head : Environment → Term → Head
head env t = record { term = sym_text env t.name; params = length t.arg_tys; kind = kind_of t.kind }

-- the head of the function of the term of this number
abbrev pub head_at : Environment → TermId → Option Head
head_at env id = option_map (head env) (slice_get env.terms id.0)

-- the heads of the functions: those of the terms with rules, in order of ids
abbrev pub heads_of : Environment → List Head
heads_of env = filter_map (head_at env) (with_rules env)

-- what functions may call
abbrev pub callables_of : Environment → Callables
callables_of env = record { trait_fns = trait_fns_of env; heads = heads_of env }

-- made by rules
abbrev pub IsByRules : ConstructorKind → Type 0
IsByRules constructor.Absent = ⊥
IsByRules constructor.Internal = Unit {0}
IsByRules (constructor.External func) = ⊥

-- so of a term of this kind
abbrev pub IsRuled : TermKind → Type 0
IsRuled (kind.Decl pure multi partial recursive by extractor) = IsByRules by
IsRuled (kind.Variant ty variant) = ⊥
IsRuled (kind.Struct ty) = ⊥

-- functions of terms may be called by their names: these are words, no two of them equal, and each term that is made by rules has one
pub record HasTermFns (env : Environment) : Type 0 where
  pub named : (id : TermId) (t : Term) → Contains (with_rules env) id → slice_get env.terms id.0 ≡ Some t → IsTermName (sym_text env t.name)
  pub distinct : IsDistinct bytes_eq (map (λ (h : Head). h.term) (heads_of env))
  pub ruled : (id : TermId) (t : Term) → slice_get env.terms id.0 ≡ Some t → IsRuled t.kind → Contains (with_rules env) id
