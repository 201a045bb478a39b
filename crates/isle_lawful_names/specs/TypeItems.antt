-- The declared types of the emitted text.
use Rattle.std.specs.Prelude.{ℕ, List, [], ◌∷◌, map, filter_map, not, Bool, Option, Some, None, slice_get, if◌then◌else◌}
use Rattle.isle_core.specs.declared.Sym.{Sym}
use Rattle.isle_core.specs.declared.TypeId.{TypeId}
use Rattle.isle_core.specs.declared.types.Field.{Field}
use Rattle.isle_core.specs.declared.types.Fields.{Fields}
use Rattle.isle_core.specs.declared.types.Fields.TheVariants as fields
use Rattle.isle_core.specs.declared.types.Variant.{Variant}
use Rattle.isle_core.specs.declared.types.TypeDef.{TypeDef}
use Rattle.isle_core.specs.declared.types.TypeDef.TheVariants as def
use Rattle.isle_core.specs.declared.types.TypeEnv.{TypeEnv}
use Rattle.isle_core.specs.Rule.{Environment}
use Rattle.isle_core.specs.Terms.{symbol_text}
use Rattle.isle_simulation.specs.TypeTexts.{def_text}
use Rattle.isle_tree.specs.declared.tree.TFields.{TFields}
use Rattle.isle_tree.specs.declared.tree.TFields.TheVariants as shape
use Rattle.isle_tree.specs.declared.tree.TypeBody.{TypeBody}
use Rattle.isle_tree.specs.declared.tree.TypeBody.TheVariants as type_body
use Rattle.isle_tree.specs.declared.tree.TypeItem.{TypeItem}

-- the name of the type of this number, as `type_text` of each environment with these types
abbrev pub text_at : TypeEnv → TypeId → List ℕ
text_at types ty = def_text types (slice_get types.types ty.0)

-- a named field: its name, and its type's
abbrev pub named_field : TypeEnv → Field → List ℕ × List ℕ
named_field types f = (symbol_text types f.name, text_at types f.ty)

-- named fields, or Unit in place of none
abbrev pub named_shape : TypeEnv → List Field → TFields
named_shape types [] = shape.Unit
named_shape types (f ∷ fs) = shape.Named (map (named_field types) (f ∷ fs))

-- fields of these types without names, or Unit in place of none
abbrev pub tuple_shape : TypeEnv → List TypeId → TFields
tuple_shape types [] = shape.Unit
tuple_shape types (ty ∷ tys) = shape.Tuple (map (text_at types) (ty ∷ tys))

-- the fields of a variant or a struct
abbrev pub fields_shape : TypeEnv → Fields → TFields
fields_shape types fields.Unit = shape.Unit
fields_shape types (fields.Struct named) = named_shape types named
fields_shape types (fields.Tuple tys) = tuple_shape types tys

-- a variant: its name and its fields
abbrev pub variant_item : TypeEnv → Variant → List ℕ × TFields
variant_item types v = (symbol_text types v.name, fields_shape types v.fields)

-- a type of this name that is made of this
abbrev pub item_of : TypeEnv → Sym → (is_nodebug : Bool) → TypeBody → TypeItem
item_of types name is_nodebug body = record { name = symbol_text types name; debug = not is_nodebug; body = body }

-- the declared type of an enum or a struct that is not extern; others have none
abbrev pub type_item : TypeEnv → TypeDef → Option TypeItem
type_item types (def.Enum name is_extern is_nodebug variants pos) =
    if is_extern then None else Some (item_of types name is_nodebug (type_body.Enum (map (variant_item types) variants)))
type_item types (def.Struct name is_extern is_nodebug fields pos) =
    if is_extern then None else Some (item_of types name is_nodebug (type_body.Struct (fields_shape types fields)))
type_item types (def.Builtin ty) = None
type_item types (def.Primitive name rust pos) = None

-- the declared types, in order
abbrev pub items_in : TypeEnv → List TypeItem
items_in types = filter_map (type_item types) types.types

-- so of an environment
abbrev pub type_items_of : Environment → List TypeItem
type_items_of env = items_in env.types
