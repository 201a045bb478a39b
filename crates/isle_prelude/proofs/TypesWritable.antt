-- Types of immediates, arrays and instructions' data can be written.
use Rattle.std.proofs.Common.{ℕ, zero, suc, List, [], ◌∷◌, map, Bool, true, false, refl, cond, codes, arith, flat_map}
use Rattle.std.specs.Prelude.{filter, not, replicate}
use Rattle.std.specs.List.{AllByRecursion}
use Rattle.std.specs.Str.{bytes_eq}
use Rattle.isle_ast.specs.Tree.{Def}
use Rattle.isle_ast.specs.declared.tree.AstVariant.{AstVariant}
use Rattle.isle_meta.specs.declared.clif.ImmField.{ImmField}
use Rattle.isle_meta.specs.declared.clif.Instruction.{Instruction}
use Rattle.isle_meta.specs.declared.clif.InstructionFormat.{InstructionFormat}
use Rattle.isle_meta.specs.FormatRow.{all_fields}
use Rattle.isle_meta.specs.Immediates.{imm_names, type_of, values_of}
use Rattle.isle_spelling.specs.Identifier.{IsIdentifier}
use Rattle.isle_prelude.specs.Arrays.{array_defs, arrays, block_array_defs, block_array_sizes, value_array_defs, value_array_sizes}
use Rattle.isle_prelude.specs.Ascending.{ascending}
use Rattle.isle_prelude.specs.CommonDefs.{imm_defs, imm_enum}
use Rattle.isle_prelude.specs.Declaring.{bare, extern_enum, primitive}
use Rattle.isle_prelude.specs.Immediates.{enum_types, enum_values, is_enum, plain_types}
use Rattle.isle_prelude.specs.InstructionData.{block_fields, counted_values, data_defs, format_variant, imm_field, raw_block_fields, value_fields}
use Rattle.isle_prelude.specs.NumberedNames.{block_array, block_array_type, value_array, value_array_type}
use Rattle.isle_writing.specs.Writable.{AreNames, AreWritable, IsVariant, IsWritable, NamesOne}
use Rattle.isle_writing.proofs.Joined.{writable_each, writable_joined}
use Rattle.isle_writing.proofs.Names.{names_one}
use Rattle.isle_prelude.proofs.AllLaws.{all_each, all_front, all_behind, all_joined, all_kept, all_mapped}
use Rattle.isle_prelude.proofs.FixedNames.{block_named, blocks_named, blocks_type_named, call_named, data_named, flags_named, list_named, opcode_named, pack_named, unpack_named, value_named, values_named, values_type_named}
use Rattle.isle_meta.proofs.NameWords.{identifier_named, identifiers_named}
use Rattle.isle_prelude.proofs.OrderedLaws.{ascending_named}
use Rattle.isle_prelude.proofs.SupportedLaws.{IsNamedFormat}

-- ---- types of immediates

-- the names of an immediate are identifiers
abbrev IsNamedField : ImmField → Type 0
IsNamedField i = AllByRecursion IsIdentifier (imm_names i)

-- so are those of all immediates of formats
fields_named : (fs : List InstructionFormat) → AllByRecursion IsNamedFormat fs → AllByRecursion IsNamedField (all_fields fs)
fields_named fs h = all_each IsNamedFormat IsNamedField (λ (f : InstructionFormat). f.imm_fields) (λ f k. each f.imm_fields k.1) fs h
  where
    each : (is : List ImmField) → AllByRecursion IsIdentifier (flat_map imm_names is) → AllByRecursion IsNamedField is
    each [] k = tt
    each (i ∷ is) k = (all_front IsIdentifier (imm_names i) (flat_map imm_names is) k, each is (all_behind IsIdentifier (imm_names i) (flat_map imm_names is) k))

-- the types of those that pass a test
types_named : (test : ImmField → Bool) (is : List ImmField) → AllByRecursion IsNamedField is → AreNames (ascending (map type_of (filter test is)))
types_named test is h =
    ascending_named (map type_of (filter test is))
    (all_mapped IsNamedField (λ (w : List ℕ). NamesOne w) type_of (λ i k. identifier_named (type_of i) k.1.0) (filter test is) (all_kept IsNamedField test is h))

-- the values of a type
enum_named : (is : List ImmField) (name : List ℕ) → AllByRecursion IsNamedField is → AreNames (enum_values is name)
enum_named [] name h = tt
enum_named (i ∷ is) name h = one (bytes_eq name (type_of i)) (enum_named is name h.1)
  where
    one : (b : Bool) → AreNames (enum_values is name) → AreNames (cond b (ascending (values_of i)) (enum_values is name))
    one true k = ascending_named (values_of i) (identifiers_named (values_of i) h.0.1.1)
    one false k = k

-- variants without fields
bare_variants : (names : List (List ℕ)) → AreNames names → AllByRecursion (λ (v : AstVariant). IsVariant v) (map bare names)
bare_variants names h = all_mapped (λ (w : List ℕ). NamesOne w) (λ (v : AstVariant). IsVariant v) bare (λ name k. (k, tt)) names h

-- an enum
enum_writable : (name : List ℕ) (variants : List AstVariant) → NamesOne name → AllByRecursion (λ (v : AstVariant). IsVariant v) variants
    → IsWritable (extern_enum name variants)
enum_writable name variants h k = ((h, k), omega arith)

pub primitive_writable : (name : List ℕ) → NamesOne name → IsWritable (primitive name)
primitive_writable name h = ((h, h), omega arith)

imms_writable : (is : List ImmField) → AllByRecursion IsNamedField is → AreWritable (imm_defs is)
imms_writable is h =
    all_joined (λ (d : Def). IsWritable d) (map primitive (plain_types is)) _
    (all_mapped (λ (w : List ℕ). NamesOne w) (λ (d : Def). IsWritable d) primitive primitive_writable (plain_types is) (types_named (λ (i : ImmField). not (is_enum i)) is h)) (
      primitive_writable (codes "MemFlagsData") flags_named,
      all_mapped (λ (w : List ℕ). NamesOne w) (λ (d : Def). IsWritable d) (imm_enum is) (λ name k. enum_writable name _ k (bare_variants (enum_values is name) (enum_named is name h)))
          (enum_types is) (types_named is_enum is h),
    )

-- the types of immediates
pub field_types_writable : (fs : List InstructionFormat) → AllByRecursion IsNamedFormat fs → AreWritable (imm_defs (all_fields fs))
field_types_writable fs h = imms_writable (all_fields fs) (fields_named fs h)

-- ---- arrays

pub repeated_named : (n : ℕ) (name : List ℕ) → NamesOne name → AreNames (replicate n name)
repeated_named zero name h = tt
repeated_named (suc n) name h = (h, repeated_named n name h)

array_writable : (array array_type item : List ℕ) (n : ℕ) → NamesOne array → NamesOne array_type → NamesOne item → AreWritable (array_defs array array_type item n)
array_writable array array_type item n h k l = (
  enum_writable array_type [] k tt,
  (((h, repeated_named n item l, k), omega arith), (((h, pack_named array h.0), omega arith), (((h, unpack_named array h.0), omega arith), tt))),
)

pub arrays_writable : (fs : List InstructionFormat) → AreWritable (arrays fs)
arrays_writable fs =
    writable_joined (flat_map value_array_defs (value_array_sizes fs)) (flat_map block_array_defs (block_array_sizes fs))
    (writable_each value_array_defs (λ n. array_writable (value_array n) (value_array_type n) (codes "Value") n (values_named n) (values_type_named n) value_named) (value_array_sizes fs))
    (writable_each block_array_defs (λ n. array_writable (block_array n) (block_array_type n) (codes "BlockCall") n (blocks_named n) (blocks_type_named n) call_named) (block_array_sizes fs))

-- ---- instructions' data

-- a field's name and its type
abbrev IsField : List ℕ × List ℕ → Type 0
IsField f = NamesOne f.0 × NamesOne f.1

counted_named : (n : ℕ) → AllByRecursion IsField (counted_values n)
counted_named zero = tt
counted_named (suc zero) = ((names_one (codes "arg") (omega arith, refl) refl, value_named), tt)
counted_named (suc (suc n)) = ((names_one (codes "args") (omega arith, refl) refl, values_type_named (suc (suc n))), tt)

values_fields : (has_list : Bool) (n : ℕ) → AllByRecursion IsField (value_fields has_list n)
values_fields true n = ((names_one (codes "args") (omega arith, refl) refl, list_named), tt)
values_fields false n = counted_named n

blocks_fields : (n : ℕ) → AllByRecursion IsField (block_fields n)
blocks_fields zero = tt
blocks_fields (suc zero) = ((names_one (codes "destination") (omega arith, refl) refl, call_named), tt)
blocks_fields (suc (suc n)) = ((names_one (codes "blocks") (omega arith, refl) refl, blocks_type_named (suc (suc n))), tt)

raw_fields : (n : ℕ) → AllByRecursion IsField (raw_block_fields n)
raw_fields zero = tt
raw_fields (suc n) = ((names_one (codes "block") (omega arith, refl) refl, block_named), tt)

imm_fields_named : (is : List ImmField) → AllByRecursion IsIdentifier (flat_map imm_names is) → AllByRecursion IsField (map imm_field is)
imm_fields_named [] h = tt
imm_fields_named (i ∷ is) h =
    let own : AllByRecursion IsIdentifier (imm_names i) = all_front IsIdentifier (imm_names i) (flat_map imm_names is) h in
    ((identifier_named i.member own.0, identifier_named (type_of i) own.1.0), imm_fields_named is (all_behind IsIdentifier (imm_names i) (flat_map imm_names is) h))

variant_named : (f : InstructionFormat) → IsNamedFormat f → IsVariant (format_variant f)
variant_named f h = (
  identifier_named f.name h.0,
  (
    (names_one (codes "opcode") (omega arith, refl) refl, opcode_named),
    all_joined IsField (value_fields f.has_value_list f.num_value_operands) _ (values_fields f.has_value_list f.num_value_operands)
        (all_joined IsField (block_fields f.num_block_operands) _ (blocks_fields f.num_block_operands)
        (all_joined IsField (raw_block_fields f.num_raw_block_operands) _ (raw_fields f.num_raw_block_operands) (imm_fields_named f.imm_fields h.1))),
  ),
)

-- the variants of opcodes
opcodes_named : (is : List Instruction) → AllByRecursion (λ (i : Instruction). IsIdentifier i.camel_name) is
    → AllByRecursion (λ (v : AstVariant). IsVariant v) (map (λ (i : Instruction). bare i.camel_name) is)
opcodes_named [] h = tt
opcodes_named (i ∷ is) h = ((identifier_named i.camel_name h.0, tt), opcodes_named is h.1)

-- blocks, opcodes and instructions' data
pub data_writable : (fs : List InstructionFormat) (is : List Instruction) → AllByRecursion IsNamedFormat fs
    → AllByRecursion (λ (i : Instruction). IsIdentifier i.camel_name) is → AreWritable (data_defs fs is)
data_writable fs is h k = (
  enum_writable (codes "Block") [] block_named tt,
  (
    enum_writable (codes "Opcode") _ opcode_named (opcodes_named is k),
    (enum_writable (codes "InstructionData") _ data_named (all_mapped IsNamedFormat (λ (v : AstVariant). IsVariant v) format_variant variant_named fs h), tt),
  ),
)
