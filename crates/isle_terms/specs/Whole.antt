-- All definitions of a program over the types that they give, and what names mean in them.
use Rattle.std.specs.Prelude.{ℕ, List, [], Bool, ◌||◌, Option, Some, None, is_some, map, option_map, option_and_then, slice_get}
use Rattle.isle_core.specs.declared.Sym.{Sym}
use Rattle.isle_core.specs.declared.TermId.{TermId}
use Rattle.isle_core.specs.declared.TypeId.{TypeId}
use Rattle.isle_core.specs.declared.types.TypeEnv.{TypeEnv}
use Rattle.isle_ast.specs.Tree.{Def}
use Rattle.isle_ast.specs.declared.tree.Def.{Def as CodeDef}
use Rattle.isle_ast.specs.Views.{defs}
use Rattle.isle_declarations.specs.DeclaredTypes.{Constant, constants}
use Rattle.isle_declarations.specs.Symbols.{index_of}
use Rattle.isle_declarations.specs.Signatures.{Signature, signatures, externs, extractors, rule_defs, signature_named, term_named, func_named, extractor_named, has_rule}
use Rattle.isle_declarations.specs.Terms.{terms, is_made}
use Rattle.isle_types.specs.TypeEnvironment.{type_env_of}
use Rattle.isle_terms.specs.TypeNames.{type_named}

-- the definitions, and the symbols, types and constants that they give
pub record Whole : Type 0 where
  pub types : TypeEnv
  pub defs : List Def

-- the declaration of a name
abbrev pub declared : Whole → List ℕ → Option Signature
declared w name = signature_named (signatures w.defs) name

-- the term of a name: declared, or made by a type
abbrev pub termed : Whole → List ℕ → Option Signature
termed w name = signature_named (terms w.defs) name

-- a term is made, or has an external constructor or a rule
abbrev pub has_constructor : Whole → Signature → Bool
has_constructor w s = is_made s.origin || is_some (func_named (externs w.defs) s.term) || has_rule (rule_defs w.defs) s.term

-- a term is made, or has an extractor
abbrev pub has_extractor : Whole → Signature → Bool
has_extractor w s = is_made s.origin || is_some (extractor_named (extractors w.defs) s.term)

-- the types that are expected of a term's arguments: of a term that is not there, none
abbrev pub arg_types : Whole → Option Signature → List (Option TypeId)
arg_types w None = []
arg_types w (Some s) = map (type_named w.defs) s.args

-- the type that a term gives
abbrev pub ret_type : Whole → Option Signature → Option TypeId
ret_type w None = None
ret_type w (Some s) = type_named w.defs s.ret

-- the number of a term: of one that is not there, none
abbrev pub number_of : Whole → Option Signature → Option TermId
number_of w s = option_and_then (λ (d : Signature). term_named (terms w.defs) d.term) s

-- the type of a constant, if it is declared
abbrev pub constant_type : Whole → List ℕ → Option TypeId
constant_type w name = option_map (λ (c : Sym × TypeId). c.1) (option_and_then (slice_get w.types.consts) (index_of (map (λ (c : Constant). c.name) (constants w.defs)) name))

-- the definitions over their types
abbrev pub whole_of : List Def → Whole
whole_of defs = record { types = type_env_of defs; defs = defs }

-- the code's definitions over their types
abbrev pub whole : List CodeDef → Whole
whole ds = whole_of (defs ds)
