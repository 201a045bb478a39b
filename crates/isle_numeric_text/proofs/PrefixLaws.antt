-- Each term of the numeric prelude has a name that begins with that of one of the ten types, and `_` after it; so none is empty.
use Rattle.std.proofs.Common.{ℕ, ◌<◌, List, [], ◌∷◌, ◌++◌, length, length-append, map, Bool, true, false, cond, codes, refl, sym, subst, arith}
use Rattle.std.specs.List.{AllByRecursion, Contains, flat_map, filter}
use Rattle.std.proofs.lemmas.List.Elements.{All-filter, All-from_recursion, recursion_from_All}
use Rattle.isle_ast.specs.Tree.{Def}
use Rattle.isle_core.proofs.AllLaws.{all_append, all_by, all_each}
use Rattle.isle_numerics.specs.declared.conversion.Conversion.{Conversion}
use Rattle.isle_numerics.specs.declared.conversion.Conversion.TheVariants.{Into, TryInto, UnwrapInto, TruncateInto, CastSigned, CastUnsigned}
use Rattle.isle_numerics.specs.declared.numeric_type.NumericType.{NumericType}
use Rattle.isle_numerics.specs.declared.operation.Operation.{Operation}
use Rattle.isle_numerics.specs.Conversions.{conversions}
use Rattle.isle_numerics.specs.Definitions.{asked, conversion_name, extractors, from_name, is_other, name_of, numeric_terms, operation_defs, pair_defs, prefixed, type_defs}
use Rattle.isle_numerics.specs.NumericTypes.{IsNumeric, int_type, numeric_types}
use Rattle.isle_numerics.specs.Operations.{row}
use Rattle.isle_numerics.specs.Table.{is_predicate, operations}
use Rattle.isle_numeric_text.specs.Among.{defs_among, pairs_among, terms_of}
use Rattle.isle_numeric_text.specs.TermPrefix.{IsPrefixed}
use Rattle.isle_numeric_text.proofs.NumericNames.{type_begins}
use Rattle.isle_numeric_text.proofs.TermLaws.{among_terms, numeric_among_terms, pair_terms, pairs_terms, type_terms}

-- ---- lists

-- each of these names is so
abbrev Prefixed : List (List ℕ) → Type 0
Prefixed names = AllByRecursion IsPrefixed names

-- each of these types is one of the ten
abbrev Numeric : List NumericType → Type 0
Numeric types = AllByRecursion IsNumeric types

of_each : {X : Type 0} (f : X → List (List ℕ)) → ((x : X) → Prefixed (f x)) → (xs : List X) → Prefixed (flat_map f xs)
of_each f h [] = tt
of_each f h (x ∷ xs) = all_append IsPrefixed (f x) (flat_map f xs) (h x) (of_each f h xs)

of_types : (f : NumericType → List (List ℕ)) → ((ty : NumericType) → IsNumeric ty → Prefixed (f ty)) → (types : List NumericType) → Numeric types
    → Prefixed (flat_map f types)
of_types f h [] a = tt
of_types f h (ty ∷ types) a = all_append IsPrefixed (f ty) (flat_map f types) (h ty a.0) (of_types f h types a.1)

of_map : {X : Type 0} (f : X → List ℕ) → ((x : X) → IsPrefixed (f x)) → (xs : List X) → Prefixed (map f xs)
of_map f h [] = tt
of_map f h (x ∷ xs) = (h x, of_map f h xs)

others_numeric : (from : NumericType) (types : List NumericType) → Numeric types → Numeric (filter (is_other from) types)
others_numeric from types a =
    recursion_from_All IsNumeric (filter (is_other from) types) (All-filter (is_other from) IsNumeric types (All-from_recursion IsNumeric types a))

-- ---- operations

begun : (ty : NumericType) → IsNumeric ty → (rest : List ℕ) → IsPrefixed (prefixed (name_of ty) rest)
begun ty h rest = record { ty = ty; numeric = h; rest = rest; is = refl }

asked_if : (b : Bool) (ds : List Def) → Prefixed (terms_of ds) → Prefixed (terms_of (cond b ds []))
asked_if true ds h = h
asked_if false ds h = tt

of_operation : (ty : NumericType) → IsNumeric ty → (op : Operation) → Prefixed (terms_of (operation_defs (name_of ty) op))
of_operation ty h op = (
  begun ty h (row op).name,
  asked_if (is_predicate op) (extractors (name_of ty) (asked op)) (
    begun ty h (codes "matches_" ++ asked op),
    (
      begun ty h (codes "extract_" ++ asked op),
      (begun ty h (codes "when_" ++ asked op), (begun ty h (codes "when_not_" ++ asked op), tt)),
    ),
  ),
)

of_type : (ty : NumericType) → IsNumeric ty → Prefixed (terms_of (type_defs ty))
of_type ty h =
    subst (λ ts. Prefixed ts) (type_terms ty) (of_each (λ (op : Operation). terms_of (operation_defs (name_of ty) op)) (of_operation ty h) (operations ty.signed))

-- ---- conversions

of_conversion : (from : NumericType) → IsNumeric from → (to : List ℕ) (c : Conversion) → IsPrefixed (conversion_name (name_of from) to c)
of_conversion from h to Into = begun from h (codes "into_" ++ to)
of_conversion from h to TryInto = begun from h (codes "try_into_" ++ to)
of_conversion from h to UnwrapInto = begun from h (codes "unwrap_into_" ++ to)
of_conversion from h to TruncateInto = begun from h (codes "truncate_into_" ++ to)
of_conversion from h to CastSigned = begun from h (codes "cast_signed")
of_conversion from h to CastUnsigned = begun from h (codes "cast_unsigned")

of_pair : (from : NumericType) → IsNumeric from → (to : NumericType) → IsNumeric to → Prefixed (terms_of (pair_defs from to))
of_pair from h to k =
    subst (λ ts. Prefixed ts) (pair_terms from to)
    (all_append IsPrefixed (map (conversion_name (name_of from) (name_of to)) (conversions from to)) (from_name (name_of to) (name_of from) ∷ [])
    (of_map (conversion_name (name_of from) (name_of to)) (of_conversion from h (name_of to)) (conversions from to))
    (begun to k (codes "from_" ++ name_of from), tt))

of_pairs : (types : List NumericType) → Numeric types → (from : NumericType) → IsNumeric from → Prefixed (terms_of (pairs_among types from))
of_pairs types a from h =
    subst (λ ts. Prefixed ts) (pairs_terms types from)
    (of_types (λ (to : NumericType). terms_of (pair_defs from to)) (of_pair from h) (filter (is_other from) types) (others_numeric from types a))

-- ---- all of them

of_among : (types : List NumericType) → Numeric types → Prefixed (terms_of (defs_among types))
of_among types a =
    subst (λ ts. Prefixed ts) (among_terms types)
    (all_append IsPrefixed (flat_map (λ (ty : NumericType). terms_of (type_defs ty)) types)
    (flat_map (λ (from : NumericType). terms_of (pairs_among types from)) types)
    (of_types (λ (ty : NumericType). terms_of (type_defs ty)) of_type types a)
    (of_types (λ (from : NumericType). terms_of (pairs_among types from)) (of_pairs types a) types a))

pub terms_prefixed : AllByRecursion IsPrefixed numeric_terms
terms_prefixed = subst (λ ts. Prefixed ts) numeric_among_terms (of_among numeric_types (all_by IsNumeric numeric_types (λ ty c. c)))

-- a term's name begins with that of one of the ten types, and `_` after it
pub term_prefixed : (name : List ℕ) → Contains numeric_terms name → IsPrefixed name
term_prefixed name c = all_each IsPrefixed numeric_terms name terms_prefixed c

-- none of the names is empty
pub term_filled : (name : List ℕ) → Contains numeric_terms name → 0 < length name
term_filled name c =
    let h : IsPrefixed name = term_prefixed name c in
    subst (λ n. 0 < length n) (sym h.is) (omega (arith, (type_begins (int_type h.ty)).word.0, length-append (name_of h.ty) (codes "_" ++ h.rest)))
