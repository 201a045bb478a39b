-- The definitions among any types, of which the prelude has those among the ten; and the terms that definitions declare.
use Rattle.std.specs.Prelude.{ℕ, List, ◌++◌}
use Rattle.std.specs.List.{flat_map, filter}
use Rattle.isle_ast.specs.Tree.{Def}
use Rattle.isle_numerics.specs.declared.numeric_type.NumericType.{NumericType}
use Rattle.isle_numerics.specs.Definitions.{declared_term, is_other, pair_defs, type_defs}

-- the definitions of the pairs whose first type is this one, and whose second is another one of these
unfoldable pub pairs_among : List NumericType → NumericType → List Def
pairs_among types from = flat_map (pair_defs from) (filter (is_other from) types)

-- the definitions of these types' operations, and of the pairs among them
unfoldable pub defs_among : List NumericType → List Def
defs_among types = flat_map type_defs types ++ flat_map (pairs_among types) types

-- the names of the terms that definitions declare
abbrev pub terms_of : List Def → List (List ℕ)
terms_of ds = flat_map declared_term ds
