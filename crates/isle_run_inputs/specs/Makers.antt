-- What a written name makes at a type: a variant of it, or the struct itself.
use Rattle.std.specs.Prelude.{ℕ, List, Option, Some, None, option_map, option_and_then, codes}
use Rattle.isle_core.specs.declared.TypeId.{TypeId}
use Rattle.isle_core.specs.declared.types.TypeDef.{TypeDef}
use Rattle.isle_core.specs.declared.types.TypeDef.TheVariants as def
use Rattle.isle_core.specs.HasType.{variant_fields, struct_fields}
use Rattle.isle_core.specs.Printed.{after_prefix}
use Rattle.isle_core.specs.Rule.{Environment}
use Rattle.isle_core.specs.Terms.{sym_text}
use Rattle.isle_core.specs.Value.{Value, Variant, Struct, FieldValues}

-- what is made: a variant of an enum, or a struct, of these names
pub data Maker : Type 0 where
  OfVariant : (ty variant : List ℕ) → Maker
  OfStruct : (ty : List ℕ) → Maker

-- the name of a variant, in a written name: what stands after the enum's name and `.`
abbrev pub variant_part : (ty name : List ℕ) → Option (List ℕ)
variant_part ty name = option_and_then (after_prefix (codes ".")) (after_prefix ty name)

-- what a written name says at a type; no name says anything at a builtin or primitive type
abbrev pub maker_at : Environment → TypeDef → (name : List ℕ) → Option Maker
maker_at env (def.Enum own is_extern is_nodebug variants at) name = option_map (OfVariant (sym_text env own)) (variant_part (sym_text env own) name)
maker_at env (def.Struct own is_extern is_nodebug fields at) name = Some (OfStruct name)
maker_at env (def.Builtin of) name = None
maker_at env (def.Primitive own rust at) name = None

-- the fields of it, with their types, if the type has such a variant or is the struct of this name
abbrev pub maker_fields : Environment → TypeDef → Maker → Option (List (List ℕ × TypeId))
maker_fields env d (OfVariant ty variant) = variant_fields env d ty variant
maker_fields env d (OfStruct ty) = struct_fields env d ty

-- what a written name makes at a type, with its fields
abbrev pub making : Environment → TypeDef → (name : List ℕ) → Option (Maker × List (List ℕ × TypeId))
making env d name = option_and_then (λ m. option_map (λ fields. (m, fields)) (maker_fields env d m)) (maker_at env d name)

-- the value that is made of fields
abbrev pub made_of : Maker → FieldValues → Value
made_of (OfVariant ty variant) fields = Variant ty variant fields
made_of (OfStruct ty) fields = Struct ty fields
