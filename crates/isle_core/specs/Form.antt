-- The forms of values that made terms make and take apart: variants and structs.
use Rattle.std.specs.Prelude.{ℕ, List, [], ◌∷◌, map, pos, Bool, false, ◌&&◌, Option, Some, None, option_and_then, option_map, slice_get}
use Rattle.std.specs.Str.{bytes_eq}
use Rattle.isle_base.specs.declared.ids.Sym.{Sym}
use Rattle.isle_base.specs.declared.ids.TypeId.{TypeId}
use Rattle.isle_base.specs.declared.ids.VariantId.{VariantId}
use Rattle.isle_core.specs.declared.types.Fields.{Fields}
use Rattle.isle_core.specs.declared.types.TypeDef.{TypeDef}
use Rattle.isle_core.specs.declared.types.TypeDef.TheVariants as def
use Rattle.isle_core.specs.declared.types.Variant.{Variant as VariantDef}
use Rattle.isle_core.specs.HasType.{typed_fields}
use Rattle.isle_core.specs.Making.{Making, MakesVariant, MakesStruct, MakesNothing}
use Rattle.isle_core.specs.Value.{Value, Truth, Int, Opaque, Variant, Struct, FieldValues, NoField, Field}
use Rattle.isle_core.specs.Rule.{Environment}
use Rattle.isle_core.specs.Terms.{sym_text}

-- ---- forms

-- a variant of this name of an enum of this name, or a struct of this name, with its fields
pub record Form : Type 0 where
  pub ty : Sym
  pub variant : Option Sym
  pub fields : Fields

-- that of a variant of an enum
abbrev pub form_of_variant : Sym → VariantDef → Form
form_of_variant ty v = record { ty = ty; variant = Some v.name; fields = v.fields }

-- that of the variant of this number
abbrev pub variant_form : VariantId → TypeDef → Option Form
variant_form variant (def.Enum name is_extern is_nodebug variants place) = option_map (form_of_variant name) (slice_get variants variant.0)
variant_form variant (def.Builtin ty) = None
variant_form variant (def.Primitive name rust place) = None
variant_form variant (def.Struct name is_extern is_nodebug fields place) = None

-- that of a struct
abbrev pub struct_form : TypeDef → Option Form
struct_form (def.Struct name is_extern is_nodebug fields place) = Some (record { ty = name; variant = None; fields = fields })
struct_form (def.Builtin ty) = None
struct_form (def.Primitive name rust place) = None
struct_form (def.Enum name is_extern is_nodebug variants place) = None

-- that of what a term makes
abbrev pub form : Environment → Making → Option Form
form env (MakesVariant ty variant) = option_and_then (variant_form variant) (slice_get env.types.types ty.0)
form env (MakesStruct ty) = option_and_then struct_form (slice_get env.types.types ty.0)
form env MakesNothing = None

-- the types of the fields
abbrev pub form_types : Environment → Form → List TypeId
form_types env f = map (λ (field : List ℕ × TypeId). field.1) (typed_fields env f.fields)

-- ---- making a value

-- fields with these names and these values
abbrev pub field_values : List (List ℕ × TypeId) → List Value → FieldValues
field_values (f ∷ fs) (v ∷ vs) = Field f.0 v (field_values fs vs)
field_values [] vs = NoField
field_values (f ∷ fs) [] = NoField

-- a value of a type of this name, of a variant of it or of a struct
abbrev pub value_named : Environment → Sym → Option Sym → FieldValues → Value
value_named env ty (Some variant) fs = Variant (sym_text env ty) (sym_text env variant) fs
value_named env ty None fs = Struct (sym_text env ty) fs

-- the value of a form, whose fields have these values; if there is no form, an opaque number under no name, and of no type
abbrev pub form_value : Environment → Option Form → List Value → Value
form_value env (Some f) vs = value_named env f.ty f.variant (field_values (typed_fields env f.fields) vs)
form_value env None vs = Opaque [] (pos 0)

-- what a term makes of these values
abbrev pub made_value : Environment → Making → List Value → Value
made_value env made vs = form_value env (form env made) vs

-- ---- taking a value apart

-- whether a value is a variant or a struct of these names
abbrev pub is_named : Environment → Sym → Option Sym → Value → Bool
is_named env ty (Some variant) (Variant of name fs) = bytes_eq of (sym_text env ty) && bytes_eq name (sym_text env variant)
is_named env ty None (Struct of fs) = bytes_eq of (sym_text env ty)
is_named env ty (Some variant) (Struct of fs) = false
is_named env ty None (Variant of name fs) = false
is_named env ty variant (Truth b) = false
is_named env ty variant (Int of n) = false
is_named env ty variant (Opaque of n) = false

-- whether it is of the form; an opaque number is of none
abbrev pub is_of_form : Environment → Option Form → Value → Bool
is_of_form env (Some f) v = is_named env f.ty f.variant v
is_of_form env None v = false

-- whether it is what a term makes
abbrev pub is_made_by : Environment → Making → Value → Bool
is_made_by env made v = is_of_form env (form env made) v

-- the values of fields
abbrev pub values_of : FieldValues → List Value
values_of NoField = []
values_of (Field name v fs) = v ∷ values_of fs

-- the values of a variant's or a struct's fields; other values have none
abbrev pub parts : Value → List Value
parts (Variant ty name fs) = values_of fs
parts (Struct ty fs) = values_of fs
parts (Truth b) = []
parts (Int ty n) = []
parts (Opaque ty n) = []

-- ---- names apart

-- the name of a variant or a struct
abbrev pub form_name : Environment → Form → List ℕ × Option (List ℕ)
form_name env f = (sym_text env f.ty, option_map (sym_text env) f.variant)
