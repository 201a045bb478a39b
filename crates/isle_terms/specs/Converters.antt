-- Converters: which there are, between which types, and what may be wrong with one.
use Rattle.std.specs.Prelude.{ℕ, List, [], ◌∷◌, Bool, true, false, ◌==◌, ◌&&◌, ◌||◌, not, Option, Some, None, is_some, filter_map, find, option_map, option_and_then, if◌then◌else◌}
use Rattle.std.specs.Str.{bytes_eq}
use Rattle.isle_core.specs.declared.TermId.{TermId}
use Rattle.isle_core.specs.declared.TypeId.{TypeId}
use Rattle.isle_ast.specs.Tree.{Def, TypeDecl, Decl, ExternConstructor, ExternExtractor, ExternConst, Extractor, Converter, Rule, Passed}
use Rattle.isle_declarations.specs.Signatures.{Signature, signatures, signature_named, term_named}
use Rattle.isle_declarations.specs.Terms.{terms}
use Rattle.isle_types.specs.TypeRows.{on}
use Rattle.isle_terms.specs.TypeNames.{type_named}
use Rattle.isle_terms.specs.TermPass.{tree_before}
use Rattle.isle_terms.specs.Whole.{Whole, termed}

-- a term that makes a value of one type from a value of another
pub record Conversion : Type 0 where
  pub from : List ℕ
  pub to : List ℕ
  pub term : List ℕ

-- the converter that a definition is
abbrev pub converter_of : Def → Option Conversion
converter_of (Converter from to term pos) = Some (record { from = from; to = to; term = term })
converter_of (TypeDecl name is_extern is_nodebug body pos) = None
converter_of (Decl term pure multi partial recursive args ret pos) = None
converter_of (ExternConstructor term func pos) = None
converter_of (ExternExtractor term func infallible pos) = None
converter_of (ExternConst name ty pos) = None
converter_of (Extractor term params template pos) = None
converter_of (Rule name prio term args iflets rhs pos) = None
converter_of (Passed head pos) = None

-- the converters, in order
abbrev pub converters : List Def → List Conversion
converters = filter_map converter_of

-- ---- their types

-- the types that it stands between, if both are declared
abbrev pub types_of : List Def → Conversion → Option (TypeId × TypeId)
types_of defs c = option_and_then (λ (from : TypeId). option_map (λ (to : TypeId). (from, to)) (type_named defs c.to)) (type_named defs c.from)

-- two types are these two
abbrev pub are_types : TypeId → TypeId → TypeId × TypeId → Bool
are_types from to found = (found.0.0 == from.0) && (found.1.0 == to.0)

-- it makes a value of one type from a value of the other
abbrev pub converts : List Def → TypeId → TypeId → Conversion → Bool
converts defs from to c = on (types_of defs c) (are_types from to)

-- the first that does so
abbrev pub converter_between : List Def → List Conversion → TypeId → TypeId → Option Conversion
converter_between defs cs from to = find (converts defs from to) cs

-- ---- what may be wrong

-- there is one name, and it is this one
abbrev pub is_only : List ℕ → List (List ℕ) → Bool
is_only name [] = false
is_only name (n ∷ []) = bytes_eq n name
is_only name (n ∷ m ∷ names) = false

-- its term takes exactly the one type, and gives the other
abbrev pub fits : Conversion → Signature → Bool
fits c s = is_only c.from s.args && bytes_eq s.ret c.to

-- one of its types is not declared, or there is an earlier one between them
abbrev pub repeats_after : List Def → List Conversion → Option (TypeId × TypeId) → Bool
repeats_after defs before None = true
repeats_after defs before (Some found) = is_some (converter_between defs before found.0 found.1)

-- so, or its term does not fit it, if it is declared
abbrev pub is_misfit : List Def → List Conversion → Conversion → Bool
is_misfit defs before c = repeats_after defs before (types_of defs c) || on (signature_named (signatures defs) c.term) (λ (s : Signature). not (fits c s))

-- ---- where one is inserted

-- the term of the converter that makes what is expected of another type, if there is one
abbrev pub conversion : Whole → (of expected : Option TypeId) → Option Signature
conversion w None expected = None
conversion w (Some of) None = None
conversion w (Some of) (Some expected) =
    if of.0 == expected.0 then None else option_and_then (λ (c : Conversion). termed w c.term) (converter_between w.defs (converters w.defs) of expected)

-- what is expected within it: the other type
abbrev pub within : (by : Option Signature) → (of expected : Option TypeId) → Option TypeId
within None of expected = expected
within (Some s) of expected = of

-- ---- the environment's converters

-- its types and its term, if all are declared
abbrev pub converter_pass : Whole → Conversion → Option (TypeId × TypeId × TermId)
converter_pass w c = option_and_then (λ (found : TypeId × TypeId). option_map (λ (term : TermId). (found.0, found.1, term)) (term_named (terms w.defs) c.term)) (types_of w.defs c)

-- so in order
abbrev pub converters_pass : Whole → List Conversion → Option (List (TypeId × TypeId × TermId))
converters_pass w [] = Some []
converters_pass w (c ∷ cs) = tree_before (converter_pass w c) (converters_pass w cs)
