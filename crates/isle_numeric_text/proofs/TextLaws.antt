-- The texts of definitions that are made one list after another.
use Rattle.std.proofs.Common.{◌≡◌, ℕ, List, [], ◌∷◌, ◌++◌, refl, sym, ap, ◌∙◌}
use Rattle.std.proofs.lemmas.List.{append_assoc}
use Rattle.std.specs.List.{flat_map}
use Rattle.isle_ast.specs.Tree.{Def}
use Rattle.isle_writing.specs.Text.{def_texts}
use Rattle.isle_writing.proofs.WrittenLaw.{texts_joined}
use Rattle.isle_numerics.specs.declared.conversion.Conversion.{Conversion}
use Rattle.isle_numerics.specs.declared.numeric_type.NumericType.{NumericType}
use Rattle.isle_numerics.specs.declared.operation.Operation.{Operation}
use Rattle.isle_numerics.specs.Conversions.{conversions}
use Rattle.isle_numerics.specs.Table.{operations}
use Rattle.std.specs.List.{filter}
use Rattle.isle_numerics.specs.NumericTypes.{numeric_types}
use Rattle.isle_numerics.specs.Definitions.{name_of, operation_defs, type_defs, conversion_defs, back_defs, pair_defs, is_other, numeric_defs}
use Rattle.isle_numeric_text.specs.Among.{defs_among, pairs_among}

pub all_texts : {X : Type 0} (f : X → List Def) (xs : List X) → def_texts (flat_map f xs) ≡ flat_map (λ x. def_texts (f x)) xs
all_texts f [] = refl
all_texts f (x ∷ xs) = texts_joined (f x) (flat_map f xs) ∙ ap (λ t. def_texts (f x) ++ t) (all_texts f xs)

pub type_texts : (ty : NumericType) → flat_map (λ (op : Operation). def_texts (operation_defs (name_of ty) op)) (operations ty.signed) ≡ def_texts (type_defs ty)
type_texts ty = sym (all_texts (operation_defs (name_of ty)) (operations ty.signed))

pub pair_texts : (from to : NumericType)
    → flat_map (λ (c : Conversion). def_texts (conversion_defs (name_of from) (name_of to) c)) (conversions from to) ++ def_texts (back_defs (name_of from) (name_of to))
    ≡ def_texts (pair_defs from to)
pair_texts from to =
    ap (λ t. t ++ def_texts (back_defs (name_of from) (name_of to))) (sym (all_texts (conversion_defs (name_of from) (name_of to)) (conversions from to)))
    ∙ sym (texts_joined (flat_map (conversion_defs (name_of from) (name_of to)) (conversions from to)) (back_defs (name_of from) (name_of to)))

-- one text after another
pub then_texts : (old mid new one two all : List ℕ) → mid ≡ old ++ one → new ≡ mid ++ two → one ++ two ≡ all → new ≡ old ++ all
then_texts old mid new one two all e f g = f ∙ ap (λ t. t ++ two) e ∙ append_assoc old one two ∙ ap (λ t. old ++ t) g

pub pairs_texts : (types : List NumericType) (from : NumericType)
    → flat_map (λ (to : NumericType). def_texts (pair_defs from to)) (filter (is_other from) types) ≡ def_texts (pairs_among types from)
unfolding pairs_among
pairs_texts types from = sym (all_texts (pair_defs from) (filter (is_other from) types))

pub among_texts : (types : List NumericType)
    → flat_map (λ (ty : NumericType). def_texts (type_defs ty)) types ++ flat_map (λ (from : NumericType). def_texts (pairs_among types from)) types
    ≡ def_texts (defs_among types)
unfolding defs_among
among_texts types =
    ap (λ t. t ++ flat_map (λ (from : NumericType). def_texts (pairs_among types from)) types) (sym (all_texts type_defs types))
    ∙ ap (λ t. def_texts (flat_map type_defs types) ++ t) (sym (all_texts (pairs_among types) types))
    ∙ sym (texts_joined (flat_map type_defs types) (flat_map (pairs_among types) types))

pub numeric_among : defs_among numeric_types ≡ numeric_defs
unfolding numeric_defs defs_among pairs_among
numeric_among = refl
