-- What may be wrong with what a type is declared as.
use Rattle.std.specs.Prelude.{ℕ, List, [], Bool, false, not, map, length, nat_le}
use Rattle.std.specs.List.{list_any}
use Rattle.isle_ast.specs.declared.tree.AstBody.{AstBody}
use Rattle.isle_ast.specs.declared.tree.AstBody.TheVariants.{Primitive, Enum, Struct}
use Rattle.isle_ast.specs.declared.tree.AstFields.{AstFields}
use Rattle.isle_ast.specs.declared.tree.AstFields.TheVariants.{Unit, Named, Tuple}
use Rattle.isle_ast.specs.declared.tree.AstVariant.{AstVariant}
use Rattle.isle_declarations.specs.Repeats.{repeats}
pub use Rattle.isle_declarations.specs.DeclaredTypes.{field_types}

-- the names of fields; those of a tuple have none
abbrev pub field_names : AstFields → List (List ℕ)
field_names Unit = []
field_names (Named fields) = map (λ (f : List ℕ × List ℕ). f.0) fields
field_names (Tuple types) = []

-- the names of variants
abbrev pub variant_names : List AstVariant → List (List ℕ)
variant_names variants = map (λ (v : AstVariant). v.name) variants

-- some fields of a type: of one of its variants, or of the struct
abbrev pub any_fields : (AstFields → Bool) → AstBody → Bool
any_fields test (Primitive rust) = false
any_fields test (Enum variants) = list_any (λ (v : AstVariant). test v.fields) variants
any_fields test (Struct fields) = test fields

-- two fields have one name
abbrev pub fields_repeat : AstFields → Bool
fields_repeat fields = repeats (field_names fields)

-- two variants have one name
abbrev pub variants_repeat : AstBody → Bool
variants_repeat (Primitive rust) = false
variants_repeat (Enum variants) = repeats (variant_names variants)
variants_repeat (Struct fields) = false

-- there are more than 256 fields
abbrev pub are_many : AstFields → Bool
are_many fields = not (nat_le (length (field_types fields)) 256)
