-- The types of a program, by their names, and what they ask of the fields of values.
use Rattle.std.specs.Prelude.{ℕ, ◌+◌, List, [], ◌∷◌, Bool, ◌&&◌, not, find, codes, is_some, Option, Some, None, option_map, if◌then◌else◌}
use Rattle.std.specs.Fmt.{decimal}
use Rattle.std.specs.Str.{bytes_eq}
use Rattle.isle_printer.specs.Bytes.{same_bytes}
use Rattle.isle_spelling.specs.Literal.{type_named}
use Rattle.isle_tree.specs.declared.tree.TFields.{TFields}
use Rattle.isle_tree.specs.declared.tree.TFields.TheVariants as shape
use Rattle.isle_tree.specs.declared.tree.TypeBody.{TypeBody}
use Rattle.isle_tree.specs.declared.tree.TypeBody.TheVariants as type_body
use Rattle.isle_tree.specs.declared.tree.TypeItem.{TypeItem}

-- the type that is declared under a name
abbrev pub type_item : List TypeItem → List ℕ → Option TypeItem
type_item types name = find (λ (t : TypeItem). bytes_eq name t.name) types

-- whether one is
abbrev pub is_declared : List TypeItem → List ℕ → Bool
is_declared types name = is_some (type_item types name)

-- a name of a type that is neither builtin nor empty
abbrev pub is_foreign : List ℕ → Bool
is_foreign name = not (same_bytes [] name) && (not (same_bytes (codes "bool") name) && not (is_some (type_named name)))

-- the fields of a tuple from the i-th on: their numbers are their names
abbrev pub tuple_fields : ℕ → List (List ℕ) → List (List ℕ × List ℕ)
tuple_fields i [] = []
tuple_fields i (ty ∷ tys) = (decimal i, ty) ∷ tuple_fields (i + 1) tys

-- the names of fields with those of their types
abbrev pub field_types : TFields → List (List ℕ × List ℕ)
field_types shape.Unit = []
field_types (shape.Named fs) = fs
field_types (shape.Tuple tys) = tuple_fields 0 tys

-- what stands beside a name in pairs
abbrev pub second_named : {A : Type 0} → List (List ℕ × A) → List ℕ → Option A
second_named {A} pairs name = option_map (λ (x : List ℕ × A). x.1) (find (λ (x : List ℕ × A). bytes_eq name x.0) pairs)

-- the type of the field of this name, of fields that have names
abbrev pub named_type : TFields → List ℕ → Option (List ℕ)
named_type shape.Unit name = None
named_type (shape.Named fs) name = second_named fs name
named_type (shape.Tuple tys) name = None

-- what a type asks of the fields of a variant or a struct: these names and types in order, or nothing, as its fields aren't
-- known; or it has no such variant and is no such struct
pub data Asked : Type 0 where
  These : List (List ℕ × List ℕ) → Asked
  Anything : Asked
  Nowhere : Asked

-- the fields of the variant of this name, of a type that is an enum
abbrev pub variant_fields : TypeBody → (variant : List ℕ) → Option TFields
variant_fields (type_body.Enum vs) variant = second_named vs variant
variant_fields (type_body.Struct fs) variant = None

-- the fields of a type that is a struct
abbrev pub struct_fields : TypeBody → Option TFields
struct_fields (type_body.Enum vs) = None
struct_fields (type_body.Struct fs) = Some fs

-- what is asked of what may have these fields
abbrev pub of_fields : Option TFields → Asked
of_fields None = Nowhere
of_fields (Some fs) = These (field_types fs)

-- so of the variant of this name
abbrev pub body_variant : TypeBody → (variant : List ℕ) → Asked
body_variant body variant = of_fields (variant_fields body variant)

-- so of a struct
abbrev pub body_struct : TypeBody → Asked
body_struct body = of_fields (struct_fields body)

-- what a type asks that isn't declared
abbrev pub foreign_asked : List ℕ → Asked
foreign_asked name = if is_foreign name then Anything else Nowhere

-- what a type of this name asks of a variant
abbrev pub variant_by : Option TypeItem → (name variant : List ℕ) → Asked
variant_by None name variant = foreign_asked name
variant_by (Some t) name variant = body_variant t.body variant

-- what it asks of a struct
abbrev pub struct_by : Option TypeItem → List ℕ → Asked
struct_by None name = foreign_asked name
struct_by (Some t) name = body_struct t.body

-- what the type of this name asks of a variant of an enum
abbrev pub variant_asked : List TypeItem → (name ty variant : List ℕ) → Asked
variant_asked types name ty variant = if same_bytes name ty then variant_by (type_item types name) name variant else Nowhere

-- what it asks of a struct
abbrev pub struct_asked : List TypeItem → (name ty : List ℕ) → Asked
struct_asked types name ty = if same_bytes name ty then struct_by (type_item types name) name else Nowhere

-- whether it takes opaque numbers under a name: those of its own, if it is not declared
abbrev pub takes_opaque : List TypeItem → (name ty : List ℕ) → Bool
takes_opaque types name ty = same_bytes name ty && (is_foreign name && not (is_declared types name))
