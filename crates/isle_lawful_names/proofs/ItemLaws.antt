-- Declared types are well formed, and no two have one name.
use Rattle.std.proofs.Common.{◌≡◌, ℕ, List, [], ◌∷◌, map, Bool, true, false, refl, arith}
use Rattle.std.specs.Prelude.{filter_map}
use Rattle.std.specs.List.{AllByRecursion, IsDistinct, cons_option}
use Rattle.std.specs.Str.{bytes_eq}
use Rattle.isle_core.specs.declared.TypeId.{TypeId}
use Rattle.isle_core.specs.declared.types.Field.{Field}
use Rattle.isle_core.specs.declared.types.Fields.{Fields}
use Rattle.isle_core.specs.declared.types.Fields.TheVariants as fields
use Rattle.isle_core.specs.declared.types.Variant.{Variant}
use Rattle.isle_core.specs.declared.types.TypeDef.{TypeDef}
use Rattle.isle_core.specs.declared.types.TypeDef.TheVariants as def
use Rattle.isle_core.specs.declared.types.TypeEnv.{TypeEnv}
use Rattle.isle_core.specs.BuiltinType.{IsBuiltinDef}
use Rattle.isle_spelling.specs.Identifier.{IsIdentifier}
use Rattle.isle_tree.specs.declared.tree.TypeItem.{TypeItem}
use Rattle.isle_tree.specs.WellFormed.{IsField, AreFields, IsVariant, IsTypeItem, declared_names}
use Rattle.isle_lawful_names.specs.TypeItems.{text_at, named_field, fields_shape, variant_item, type_item, items_in}
use Rattle.isle_lawful_names.specs.LawfulNames.{IsFieldNamed, AreFieldsNamed, IsVariantNamed, IsLawfulType, emitted_name, emitted_names, AreLawful}
use Rattle.isle_core.specs.TypedParts.{IsThere, AreFieldsTyped, ArePartsTyped, AreTypesTyped}
use Rattle.isle_lawful_names.proofs.TextLaws.{text_is}

-- ---- each is well formed

module _ (has_rules : Bool) (types : TypeEnv) (lawful : AreLawful has_rules types) where
  texts_are : (tys : List TypeId) → AllByRecursion (IsThere types) tys → AllByRecursion IsIdentifier (map (text_at types) tys)
  texts_are [] h = tt
  texts_are (ty ∷ tys) h = (text_is has_rules types ty lawful h.0, texts_are tys h.1)

  fields_are : (fs : List Field) → AllByRecursion (IsFieldNamed types) fs → AllByRecursion (IsThere types) (map (λ (f : Field). f.ty) fs) → AllByRecursion IsField (map (named_field types) fs)
  fields_are [] h there = tt
  fields_are (f ∷ fs) h there = ((h.0, text_is has_rules types f.ty lawful there.0), fields_are fs h.1 there.1)

  shape_is : (fs : Fields) → AreFieldsNamed types fs → AreFieldsTyped types fs → AreFields (fields_shape types fs)
  shape_is fields.Unit h typed = tt
  shape_is (fields.Struct []) h typed = tt
  shape_is (fields.Struct (f ∷ fs)) h typed = (omega arith, fields_are (f ∷ fs) h typed.there)
  shape_is (fields.Tuple []) h typed = tt
  shape_is (fields.Tuple (ty ∷ tys)) h typed = (omega arith, texts_are (ty ∷ tys) typed.there)

  variants_are : (vs : List Variant) → AllByRecursion (IsVariantNamed types) vs → AllByRecursion (λ (v : Variant). AreFieldsTyped types v.fields) vs → AllByRecursion IsVariant (map (variant_item types) vs)
  variants_are [] h typed = tt
  variants_are (v ∷ vs) h typed = ((h.0.0, shape_is v.fields h.0.1 typed.0), variants_are vs h.1 typed.1)

  one_is : (d : TypeDef) (rest : List TypeItem) → IsLawfulType has_rules types d → ArePartsTyped types d → AllByRecursion IsTypeItem rest → AllByRecursion IsTypeItem (cons_option (type_item types d) rest)
  one_is (def.Enum name true is_nodebug variants pos) rest h typed more = more
  one_is (def.Enum name false is_nodebug variants pos) rest h typed more = (record { name = h.name.name.identifier; body = variants_are variants h.parts typed }, more)
  one_is (def.Struct name true is_nodebug fields pos) rest h typed more = more
  one_is (def.Struct name false is_nodebug fields pos) rest h typed more = (record { name = h.name.name.identifier; body = shape_is fields h.parts typed }, more)
  one_is (def.Builtin ty) rest h typed more = more
  one_is (def.Primitive name rust pos) rest h typed more = more

  all_are : (ds : List TypeDef) → AllByRecursion (IsLawfulType has_rules types) ds → AllByRecursion (ArePartsTyped types) ds → AllByRecursion IsTypeItem (filter_map (type_item types) ds)
  all_are [] h typed = tt
  all_are (d ∷ ds) h typed = one_is d (filter_map (type_item types) ds) h.0 typed.0 (all_are ds h.1 typed.1)

-- all names in declared types are names of Rust
pub items_are : (has_rules : Bool) (types : TypeEnv) → AreLawful has_rules types → AreTypesTyped types → AllByRecursion IsTypeItem (items_in types)
items_are has_rules types h typed = all_are has_rules types h types.types h.types typed.types

-- ---- their names are apart

one_among : (P : List ℕ → Type 0) (types : TypeEnv) (d : TypeDef) (rest : List TypeItem) → P (emitted_name types d) → AllByRecursion P (declared_names rest) → AllByRecursion P (declared_names (cons_option (type_item types d) rest))
one_among P types (def.Enum name true is_nodebug variants pos) rest h more = more
one_among P types (def.Enum name false is_nodebug variants pos) rest h more = (h, more)
one_among P types (def.Struct name true is_nodebug fields pos) rest h more = more
one_among P types (def.Struct name false is_nodebug fields pos) rest h more = (h, more)
one_among P types (def.Builtin ty) rest h more = more
one_among P types (def.Primitive name rust pos) rest h more = more

-- what holds of the emitted names holds of the declared ones
among : (P : List ℕ → Type 0) (types : TypeEnv) (ds : List TypeDef) → AllByRecursion P (emitted_names types ds) → AllByRecursion P (declared_names (filter_map (type_item types) ds))
among P types [] h = tt
among P types (d ∷ ds) h = one_among P types d (filter_map (type_item types) ds) h.0 (among P types ds h.1)

one_apart : (types : TypeEnv) (d : TypeDef) (rest : List TypeItem) → AllByRecursion (λ y. bytes_eq (emitted_name types d) y ≡ false) (declared_names rest) → IsDistinct bytes_eq (declared_names rest)
    → IsDistinct bytes_eq (declared_names (cons_option (type_item types d) rest))
unfolding IsDistinct
one_apart types (def.Enum name true is_nodebug variants pos) rest h more = more
one_apart types (def.Enum name false is_nodebug variants pos) rest h more = (h, more)
one_apart types (def.Struct name true is_nodebug fields pos) rest h more = more
one_apart types (def.Struct name false is_nodebug fields pos) rest h more = (h, more)
one_apart types (def.Builtin ty) rest h more = more
one_apart types (def.Primitive name rust pos) rest h more = more

all_apart : (types : TypeEnv) (ds : List TypeDef) → IsDistinct bytes_eq (emitted_names types ds) → IsDistinct bytes_eq (declared_names (filter_map (type_item types) ds))
unfolding IsDistinct
all_apart types [] h = tt
all_apart types (d ∷ ds) h =
    one_apart types d (filter_map (type_item types) ds) (among (λ y. bytes_eq (emitted_name types d) y ≡ false) types ds h.0) (all_apart types ds h.1)

-- no two declared types have one name
pub items_apart : (has_rules : Bool) (types : TypeEnv) → AreLawful has_rules types → IsDistinct bytes_eq (declared_names (items_in types))
items_apart has_rules types h = all_apart types types.types h.apart.types

-- ---- none is declared

none_of : (types : TypeEnv) (ds : List TypeDef) → AllByRecursion IsBuiltinDef ds → filter_map (type_item types) ds ≡ []
none_of types [] h = refl
none_of types (def.Builtin ty ∷ ds) h = none_of types ds h.1
none_of types (def.Primitive name rust pos ∷ ds) h = absurd h.0
none_of types (def.Enum name is_extern is_nodebug variants pos ∷ ds) h = absurd h.0
none_of types (def.Struct name is_extern is_nodebug fields pos ∷ ds) h = absurd h.0

-- if all types are builtin, none is declared
pub no_items : (types : TypeEnv) → AllByRecursion IsBuiltinDef types.types → items_in types ≡ []
no_items types h = none_of types types.types h
