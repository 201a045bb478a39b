-- The definitions of the rule text of the numeric prelude, in order.
use Rattle.std.specs.Prelude.{ℕ, List, [], ◌∷◌, ◌++◌, map, drop, Bool, true, false, not, ◌==◌, ◌&&◌, codes, if◌then◌else◌}
use Rattle.std.specs.List.{flat_map, filter}
use Rattle.isle_core.specs.declared.position.Pos.{Pos}
use Rattle.isle_core.specs.Int.{type_name}
use Rattle.isle_ast.specs.Tree.{Def, TypeDecl, Decl, ExternConstructor, ExternExtractor, ExternConst, Extractor, Converter, Rule, Passed, Pattern, NoPattern, APattern, Truth, Var, And, Term}
use Rattle.isle_numerics.specs.declared.conversion.Conversion.{Conversion}
use Rattle.isle_numerics.specs.declared.conversion.Conversion.TheVariants.{Into, TryInto, UnwrapInto, TruncateInto, CastSigned, CastUnsigned}
use Rattle.isle_numerics.specs.declared.numeric_type.NumericType.{NumericType}
use Rattle.isle_numerics.specs.declared.operation.Operation.{Operation}
use Rattle.isle_numerics.specs.NumericTypes.{numeric_types, int_type}
use Rattle.isle_numerics.specs.Operations.{row}
use Rattle.isle_numerics.specs.Table.{arguments, given, is_predicate, operations}
use Rattle.isle_numerics.specs.Conversions.{conversions, have_one_sign}

-- the place that all definitions get
abbrev pub no_place : Pos
no_place = record { file = 0; offset = 0 }

-- the name of a type
abbrev pub name_of : NumericType → List ℕ
name_of ty = type_name (int_type ty)

-- a type's name, and a word after `_`
abbrev pub prefixed : List ℕ → List ℕ → List ℕ
prefixed ty word = ty ++ (codes "_" ++ word)

-- the declaration of a pure term
abbrev pub declared : List ℕ → Bool → List (List ℕ) → List ℕ → Def
declared term partial args ret = Decl term true false partial false args ret no_place

-- a pure term that the Rust function of its name computes
abbrev pub constructed : List ℕ → Bool → List (List ℕ) → List ℕ → List Def
constructed term partial args ret = declared term partial args ret ∷ ExternConstructor term term no_place ∷ []

-- ---- operations

-- what a predicate is of: its name without `is_`
abbrev pub asked : Operation → List ℕ
asked op = drop 3 (row op).name

-- the name of the extractor that answers a predicate's flag
abbrev pub matcher : List ℕ → List ℕ → List ℕ
matcher ty base = prefixed ty (codes "matches_" ++ base)

-- the pattern of the values for which an extractor's flag is the one given
abbrev pub flagged : List ℕ → Bool → Pattern
flagged term flag = Term term (APattern (Truth flag) NoPattern)

-- the pattern of the values for which an extractor's flag is true, each bound to x
abbrev pub extracted : List ℕ → Pattern
extracted term = And (APattern (flagged term true) (APattern (Var (codes "x")) NoPattern))

-- the extractor of a predicate's flag
abbrev pub matching : List ℕ → List ℕ → List Def
matching ty base =
    declared (matcher ty base) false (codes "bool" ∷ []) ty
    ∷ ExternExtractor (matcher ty base) (matcher ty base) false no_place ∷ []

-- a declared extractor with these parameters, and the pattern that it stands for
abbrev pub standing : List ℕ → List ℕ → List (List ℕ) → List (List ℕ) → Pattern → List Def
standing ty term args params template =
    declared term false args ty ∷ Extractor term params template no_place ∷ []

-- the extractors of a predicate: its flag, the value where it holds, and whether it holds or not
abbrev pub extractors : List ℕ → List ℕ → List Def
extractors ty base =
    matching ty base
    ++ (standing ty (prefixed ty (codes "extract_" ++ base)) (ty ∷ []) (codes "x" ∷ []) (extracted (matcher ty base))
    ++ (standing ty (prefixed ty (codes "when_" ++ base)) [] [] (flagged (matcher ty base) true)
    ++ standing ty (prefixed ty (codes "when_not_" ++ base)) [] [] (flagged (matcher ty base) false)))

-- the types of an operation's arguments, at the type of this name
abbrev pub argument_types : List ℕ → Operation → List (List ℕ)
argument_types ty op = map (λ (arg : List ℕ × List ℕ). arg.1) (arguments ty (row op).takes)

-- the definitions of an operation, at the type of this name
abbrev pub operation_defs : List ℕ → Operation → List Def
operation_defs ty op =
    constructed (prefixed ty (row op).name) (row op).is_partial (argument_types ty op) (given ty (row op).gives)
    ++ (if is_predicate op then extractors ty (asked op) else [])

-- the definitions of a type's operations
abbrev pub type_defs : NumericType → List Def
type_defs ty = flat_map (operation_defs (name_of ty)) (operations ty.signed)

-- ---- conversions

-- what stands between the names of two types, or after the first one
abbrev pub conversion_name : List ℕ → List ℕ → Conversion → List ℕ
conversion_name from to Into = prefixed from (codes "into_" ++ to)
conversion_name from to TryInto = prefixed from (codes "try_into_" ++ to)
conversion_name from to UnwrapInto = prefixed from (codes "unwrap_into_" ++ to)
conversion_name from to TruncateInto = prefixed from (codes "truncate_into_" ++ to)
conversion_name from to CastSigned = prefixed from (codes "cast_signed")
conversion_name from to CastUnsigned = prefixed from (codes "cast_unsigned")

-- only that which may fail gives nothing where it does
abbrev pub is_trial : Conversion → Bool
is_trial Into = false
is_trial TryInto = true
is_trial UnwrapInto = false
is_trial TruncateInto = false
is_trial CastSigned = false
is_trial CastUnsigned = false

-- a conversion that never fails is put in where a type is wanted and the other stands
abbrev pub implied : List ℕ → List ℕ → Conversion → List Def
implied from to Into = Converter from to (conversion_name from to Into) no_place ∷ []
implied from to TryInto = []
implied from to UnwrapInto = []
implied from to TruncateInto = []
implied from to CastSigned = []
implied from to CastUnsigned = []

-- the definitions of a conversion between the types of these names
abbrev pub conversion_defs : List ℕ → List ℕ → Conversion → List Def
conversion_defs from to c =
    constructed (conversion_name from to c) (is_trial c) (from ∷ []) to ++ implied from to c

-- a type's name, `_from_` and another one's
abbrev pub from_name : List ℕ → List ℕ → List ℕ
from_name to from = prefixed to (codes "from_" ++ from)

-- the extractor from the second type to the first: the Rust function is named the other way round
abbrev pub back_defs : List ℕ → List ℕ → List Def
back_defs from to =
    declared (from_name to from) false (to ∷ []) from
    ∷ ExternExtractor (from_name to from) (from_name from to) false no_place ∷ []

-- the definitions of a pair of types
abbrev pub pair_defs : NumericType → NumericType → List Def
pair_defs from to =
    flat_map (conversion_defs (name_of from) (name_of to)) (conversions from to) ++ back_defs (name_of from) (name_of to)

-- two types differ in their sign or in their width
abbrev pub is_other : NumericType → NumericType → Bool
is_other one two = not (have_one_sign one two && (one.byte_width == two.byte_width))

-- the types but this one, in order
abbrev pub others : NumericType → List NumericType
others ty = filter (λ (other : NumericType). is_other ty other) numeric_types

-- the definitions of the pairs whose first type is this one
abbrev pub conversions_from : NumericType → List Def
conversions_from from = flat_map (pair_defs from) (others from)

-- ---- all of them

-- the definitions of the numeric prelude
unfoldable pub numeric_defs : List Def
numeric_defs = flat_map type_defs numeric_types ++ flat_map conversions_from numeric_types

-- the term that a definition declares
abbrev pub declared_term : Def → List (List ℕ)
declared_term (TypeDecl name is_extern is_nodebug body at) = []
declared_term (Decl term pure multi partial recursive args ret at) = term ∷ []
declared_term (ExternConstructor term func at) = []
declared_term (ExternExtractor term func infallible at) = []
declared_term (ExternConst name ty at) = []
declared_term (Extractor term params template at) = []
declared_term (Converter from to term at) = []
declared_term (Rule name prio term args iflets rhs at) = []
declared_term (Passed head at) = []

-- the names of all terms of the numeric prelude
unfoldable pub numeric_terms : List (List ℕ)
numeric_terms = flat_map declared_term numeric_defs
