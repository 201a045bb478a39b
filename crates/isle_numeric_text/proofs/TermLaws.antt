-- The terms of definitions that are made one list after another.
use Rattle.std.proofs.Common.{◌≡◌, ℕ, ◌+◌, ◌<◌, List, [], ◌∷◌, ◌++◌, length, get_or, take, map, refl, sym, ap, ◌∙◌, append_assoc}
use Rattle.std.specs.List.{flat_map, filter}
use Rattle.std.proofs.lemmas.List.{flat_map_more, take_more}
use Rattle.isle_ast.specs.Tree.{Def}
use Rattle.isle_numerics.specs.declared.conversion.Conversion.{Conversion}
use Rattle.isle_numerics.specs.declared.conversion.Conversion.TheVariants.{Into, TryInto, UnwrapInto, TruncateInto, CastSigned, CastUnsigned}
use Rattle.isle_numerics.specs.declared.numeric_type.NumericType.{NumericType}
use Rattle.isle_numerics.specs.declared.operation.Operation.{Operation}
use Rattle.isle_numerics.specs.NumericTypes.{numeric_types}
use Rattle.isle_numerics.specs.Conversions.{conversions}
use Rattle.isle_numerics.specs.Table.{operations}
use Rattle.isle_numerics.specs.Definitions.{declared_term, name_of, operation_defs, type_defs, conversion_defs, conversion_name, from_name, back_defs, pair_defs, is_other, numeric_terms}
use Rattle.isle_numeric_text.specs.Among.{defs_among, pairs_among, terms_of}
use Rattle.isle_numeric_text.proofs.TextLaws.{numeric_among}

terms_joined : (ds es : List Def) → terms_of (ds ++ es) ≡ terms_of ds ++ terms_of es
terms_joined [] es = refl
terms_joined (d ∷ ds) es = ap (λ ts. declared_term d ++ ts) (terms_joined ds es) ∙ sym (append_assoc (declared_term d) (terms_of ds) (terms_of es))

all_terms : {X : Type 0} (f : X → List Def) (xs : List X) → terms_of (flat_map f xs) ≡ flat_map (λ x. terms_of (f x)) xs
all_terms f [] = refl
all_terms f (x ∷ xs) = terms_joined (f x) (flat_map f xs) ∙ ap (λ ts. terms_of (f x) ++ ts) (all_terms f xs)

pub type_terms : (ty : NumericType) → flat_map (λ (op : Operation). terms_of (operation_defs (name_of ty) op)) (operations ty.signed) ≡ terms_of (type_defs ty)
type_terms ty = sym (all_terms (operation_defs (name_of ty)) (operations ty.signed))

-- a conversion's definitions declare its term alone
conversion_term : (from to : List ℕ) (c : Conversion) → terms_of (conversion_defs from to c) ≡ conversion_name from to c ∷ []
conversion_term from to Into = refl
conversion_term from to TryInto = refl
conversion_term from to UnwrapInto = refl
conversion_term from to TruncateInto = refl
conversion_term from to CastSigned = refl
conversion_term from to CastUnsigned = refl

conversion_terms : (from to : List ℕ) (cs : List Conversion) → terms_of (flat_map (conversion_defs from to) cs) ≡ map (conversion_name from to) cs
conversion_terms from to [] = refl
conversion_terms from to (c ∷ cs) =
    terms_joined (conversion_defs from to c) (flat_map (conversion_defs from to) cs)
    ∙ ap (λ ts. ts ++ terms_of (flat_map (conversion_defs from to) cs)) (conversion_term from to c)
    ∙ ap (λ ts. conversion_name from to c ∷ ts) (conversion_terms from to cs)

pub pair_terms : (from to : NumericType)
    → map (conversion_name (name_of from) (name_of to)) (conversions from to) ++ from_name (name_of to) (name_of from) ∷ [] ≡ terms_of (pair_defs from to)
pair_terms from to =
    ap (λ ts. ts ++ from_name (name_of to) (name_of from) ∷ []) (sym (conversion_terms (name_of from) (name_of to) (conversions from to)))
    ∙ sym (terms_joined (flat_map (conversion_defs (name_of from) (name_of to)) (conversions from to)) (back_defs (name_of from) (name_of to)))

pub pairs_terms : (types : List NumericType) (from : NumericType)
    → flat_map (λ (to : NumericType). terms_of (pair_defs from to)) (filter (is_other from) types) ≡ terms_of (pairs_among types from)
unfolding pairs_among
pairs_terms types from = sym (all_terms (pair_defs from) (filter (is_other from) types))

pub among_terms : (types : List NumericType)
    → flat_map (λ (ty : NumericType). terms_of (type_defs ty)) types ++ flat_map (λ (from : NumericType). terms_of (pairs_among types from)) types
    ≡ terms_of (defs_among types)
unfolding defs_among
among_terms types =
    ap (λ ts. ts ++ flat_map (λ (from : NumericType). terms_of (pairs_among types from)) types) (sym (all_terms type_defs types))
    ∙ ap (λ ts. terms_of (flat_map type_defs types) ++ ts) (sym (all_terms (pairs_among types) types))
    ∙ sym (terms_joined (flat_map type_defs types) (flat_map (pairs_among types) types))

pub numeric_among_terms : terms_of (defs_among numeric_types) ≡ numeric_terms
unfolding numeric_terms
numeric_among_terms = ap terms_of numeric_among

-- some names after others
pub then_terms : (old mid new one two all : List (List ℕ)) → mid ≡ old ++ one → new ≡ mid ++ two → one ++ two ≡ all → new ≡ old ++ all
then_terms old mid new one two all e f g = f ∙ ap (λ ts. ts ++ two) e ∙ append_assoc old one two ∙ ap (λ ts. old ++ ts) g

-- the names of one thing more
pub terms_step : {X : Type 0} (f : X → List (List ℕ)) (xs : List X) (i : ℕ) (d : X) (old mid new : List (List ℕ)) → i < length xs
    → mid ≡ old ++ flat_map f (take i xs) → new ≡ mid ++ f (get_or xs i d)
    → new ≡ old ++ flat_map f (take (i + 1) xs)
terms_step f xs i d old mid new lt e k =
    k ∙ ap (λ ts. ts ++ f (get_or xs i d)) e ∙ flat_map_more f old (take i xs) (get_or xs i d) ∙ ap (λ ys. old ++ flat_map f ys) (sym (take_more xs i d lt))
