-- The pieces of types and arrays are the texts of their definitions.
use Rattle.std.proofs.Common.{◌≡◌, ℕ, zero, suc, List, [], ◌∷◌, ◌++◌, map, replicate, Bool, true, false, refl, sym, ap, ap₂, ◌∙◌, append_assoc, append-nil, flat_map, codes}
use Rattle.isle_ast.specs.Tree.{Def}
use Rattle.isle_ast.specs.declared.tree.AstVariant.{AstVariant}
use Rattle.isle_meta.specs.declared.clif.ImmField.{ImmField}
use Rattle.isle_meta.specs.declared.clif.Instruction.{Instruction}
use Rattle.isle_meta.specs.declared.clif.InstructionFormat.{InstructionFormat}
use Rattle.isle_meta.specs.FormatRow.{all_fields}
use Rattle.isle_meta.specs.Immediates.{type_of}
use Rattle.isle_prelude.specs.Arrays.{array_defs, arrays, block_array_defs, block_array_sizes, value_array_defs, value_array_sizes}
use Rattle.isle_prelude.specs.CommonDefs.{imm_defs, imm_enum}
use Rattle.isle_prelude.specs.Declaring.{always_taken_by, bare, extern_enum, made_by, plain_decl, primitive}
use Rattle.isle_prelude.specs.Immediates.{enum_types, enum_values, plain_types}
use Rattle.isle_prelude.specs.InstructionData.{block_fields, data_defs, format_fields, format_variant, imm_field, raw_block_fields, value_fields}
use Rattle.isle_prelude.specs.NumberedNames.{block_array, block_array_type, pack, unpack, value_array, value_array_type}
use Rattle.isle_prelude.specs.TypePieces.{array_decl_piece, array_piece, array_type_piece, arrays_piece, bare_line, block_array_piece, block_fields_piece, common_piece, data_types_piece, empty_tail, enum_head, enum_piece, fields_piece, format_line, function_piece, imm_enum_piece, imm_field_piece, imm_piece, items_piece, made_head, numbered, opcode_field, opcode_line, primitive_piece, raw_block_piece, taken_head, value_array_piece, value_fields_piece}
use Rattle.isle_writing.specs.Text.{def_text, def_texts, field_text, named_text, spaced, variants_text}

-- ---- lists of definitions

pub texts_append : (xs ys : List Def) → def_texts (xs ++ ys) ≡ def_texts xs ++ def_texts ys
texts_append [] ys = refl
texts_append (x ∷ xs) ys = ap (λ z. def_text x ++ z) (texts_append xs ys) ∙ sym (append_assoc (def_text x) (def_texts xs) (def_texts ys))

module _ {X : Type 0} where
  -- what comes of each
  pub each_text : (f : X → List Def) (g : X → List ℕ) → ((x : X) → def_texts (f x) ≡ g x) → (xs : List X) → def_texts (flat_map f xs) ≡ flat_map g xs
  each_text f g e [] = refl
  each_text f g e (x ∷ xs) = texts_append (f x) (flat_map f xs) ∙ ap₂ (λ y z. y ++ z) (e x) (each_text f g e xs)

  -- one of each
  mapped_text : (f : X → Def) (g : X → List ℕ) → ((x : X) → def_text (f x) ≡ g x) → (xs : List X) → def_texts (map f xs) ≡ flat_map g xs
  mapped_text f g e [] = refl
  mapped_text f g e (x ∷ xs) = ap₂ (λ y z. y ++ z) (e x) (mapped_text f g e xs)

-- ---- types

primitive_law : (name : List ℕ) → def_text (primitive name) ≡ primitive_piece name
unfolding def_text primitive_piece
primitive_law name = ap (λ z. codes "(type " ++ (name ++ (codes " (primitive " ++ z))) (append_assoc name (codes ")") (codes ")\n"))

enum_law : (name : List ℕ) (vs : List AstVariant) (text : List ℕ) → variants_text vs ≡ text → def_text (extern_enum name vs) ≡ enum_piece name text
unfolding def_text enum_head
enum_law name vs text e =
    ap (λ z. codes "(type " ++ (name ++ (codes " extern (enum" ++ z))) (append_assoc (variants_text vs) (codes ")") (codes ")\n") ∙ ap (λ z. z ++ codes "))\n") e)
    ∙ ap (λ z. codes "(type " ++ z) (sym (append_assoc name (codes " extern (enum") (text ++ codes "))\n")))

bare_law : (names : List (List ℕ)) → variants_text (map bare names) ≡ flat_map bare_line names
unfolding bare_line
bare_law [] = refl
bare_law (name ∷ names) = ap (λ z. codes "\n  " ++ (name ++ z)) (bare_law names)

-- ---- immediates

imm_enum_law : (fields : List ImmField) (name : List ℕ) → def_text (imm_enum fields name) ≡ imm_enum_piece fields name
imm_enum_law fields name = enum_law name (map bare (enum_values fields name)) (flat_map bare_line (enum_values fields name)) (bare_law (enum_values fields name))

imm_law : (fields : List ImmField) → def_texts (imm_defs fields) ≡ imm_piece fields
imm_law fields =
    texts_append (map primitive (plain_types fields)) (primitive (codes "MemFlagsData") ∷ map (imm_enum fields) (enum_types fields))
    ∙ ap₂ (λ y z. y ++ z) (mapped_text primitive primitive_piece primitive_law (plain_types fields))
    (ap₂ (λ y z. y ++ z) (primitive_law (codes "MemFlagsData")) (mapped_text (imm_enum fields) (imm_enum_piece fields) (imm_enum_law fields) (enum_types fields)))

-- ---- arrays

-- items with a blank before each, and one more
items_more : (item : List ℕ) (n : ℕ) → spaced (codes " ") (replicate (suc n) item) ≡ spaced (codes " ") (replicate n item) ++ (codes " " ++ item)
items_more item zero = ap (λ z. codes " " ++ z) (append-nil item)
items_more item (suc n) =
    ap (λ z. codes " " ++ (item ++ z)) (items_more item n)
    ∙ ap (λ z. codes " " ++ z) (sym (append_assoc item (spaced (codes " ") (replicate n item)) (codes " " ++ item)))

items_law : (item : List ℕ) (n : ℕ) → spaced [] (replicate n item) ≡ items_piece n item
items_law item zero = refl
items_law item (suc zero) = append-nil item
items_law item (suc (suc n)) =
    ap (λ z. item ++ z) (items_more item n)
    ∙ sym (append_assoc item (spaced (codes " ") (replicate n item)) (codes " " ++ item))
    ∙ ap (λ z. z ++ (codes " " ++ item)) (items_law item (suc n))

array_type_law : (array_type : List ℕ) (n : ℕ) → def_text (extern_enum (numbered array_type n) []) ≡ array_type_piece array_type n
unfolding def_text empty_tail
array_type_law array_type n = refl

array_decl_law : (term array_type item : List ℕ) (n : ℕ) → def_text (plain_decl (numbered term n) (replicate n item) (numbered array_type n)) ≡ array_decl_piece term array_type item n
unfolding def_text
array_decl_law term array_type item n =
    ap (λ z. codes "(decl " ++ (numbered term n ++ (codes " (" ++ (z ++ (codes ") " ++ (numbered array_type n ++ codes ")\n")))))) (items_law item n)

pack_law : (term : List ℕ) (n : ℕ) → def_text (made_by (numbered term n) (pack (numbered term n))) ≡ function_piece made_head (codes " pack_") term n
unfolding def_text made_head
pack_law term n = refl

unpack_law : (term : List ℕ) (n : ℕ) → def_text (always_taken_by (numbered term n) (unpack (numbered term n))) ≡ function_piece taken_head (codes " unpack_") term n
unfolding def_text taken_head
unpack_law term n = refl

array_law : (term array_type item : List ℕ) (n : ℕ) → def_texts (array_defs (numbered term n) (numbered array_type n) item n) ≡ array_piece term array_type item n
unfolding array_piece
array_law term array_type item n =
    ap₂ (λ y z. y ++ z) (array_type_law array_type n)
    (ap₂ (λ y z. y ++ z) (array_decl_law term array_type item n)
    (ap₂ (λ y z. y ++ z) (pack_law term n) (append-nil _ ∙ unpack_law term n)))

value_array_law : (n : ℕ) → def_texts (value_array_defs n) ≡ value_array_piece n
unfolding value_array value_array_type numbered value_array_piece
value_array_law n = array_law (codes "value_array_") (codes "ValueArray") (codes "Value") n

block_array_law : (n : ℕ) → def_texts (block_array_defs n) ≡ block_array_piece n
unfolding block_array block_array_type numbered block_array_piece
block_array_law n = array_law (codes "block_array_") (codes "BlockArray") (codes "BlockCall") n

arrays_law : (fs : List InstructionFormat) → def_texts (arrays fs) ≡ arrays_piece fs
arrays_law fs =
    texts_append (flat_map value_array_defs (value_array_sizes fs)) (flat_map block_array_defs (block_array_sizes fs))
    ∙ ap₂ (λ y z. y ++ z) (each_text value_array_defs value_array_piece value_array_law (value_array_sizes fs))
    (each_text block_array_defs block_array_piece block_array_law (block_array_sizes fs))

-- ---- instructions' data

named_joined : (xs ys : List (List ℕ × List ℕ)) → named_text (xs ++ ys) ≡ named_text xs ++ named_text ys
named_joined [] ys = refl
named_joined (x ∷ xs) ys = ap (λ z. field_text x.0 x.1 ++ z) (named_joined xs ys) ∙ sym (append_assoc (field_text x.0 x.1) (named_text xs) (named_text ys))

value_fields_law : (has_list : Bool) (n : ℕ) → named_text (value_fields has_list n) ≡ value_fields_piece has_list n
unfolding value_array_type numbered
value_fields_law true n = refl
value_fields_law false zero = refl
value_fields_law false (suc zero) = refl
value_fields_law false (suc (suc n)) = append-nil (field_text (codes "args") (value_array_type (suc (suc n))))

block_fields_law : (n : ℕ) → named_text (block_fields n) ≡ block_fields_piece n
unfolding block_array_type numbered
block_fields_law zero = refl
block_fields_law (suc zero) = refl
block_fields_law (suc (suc n)) = append-nil (field_text (codes "blocks") (block_array_type (suc (suc n))))

raw_block_law : (n : ℕ) → named_text (raw_block_fields n) ≡ raw_block_piece n
raw_block_law zero = refl
raw_block_law (suc n) = refl

imm_fields_law : (fields : List ImmField) → named_text (map imm_field fields) ≡ flat_map imm_field_piece fields
imm_fields_law [] = refl
imm_fields_law (i ∷ is) = ap (λ z. field_text i.member (type_of i) ++ z) (imm_fields_law is)

fields_law : (f : InstructionFormat) → named_text (format_fields f) ≡ opcode_field ++ fields_piece f
unfolding opcode_field
fields_law f =
    let values : List (List ℕ × List ℕ) = value_fields f.has_value_list f.num_value_operands in
    let blocks : List (List ℕ × List ℕ) = block_fields f.num_block_operands in
    let raw : List (List ℕ × List ℕ) = raw_block_fields f.num_raw_block_operands in
    let imms : List (List ℕ × List ℕ) = map imm_field f.imm_fields in
    ap (λ z. codes " (opcode Opcode)" ++ z)
    (named_joined values (blocks ++ (raw ++ imms))
    ∙ ap₂ (λ y z. y ++ z) (value_fields_law f.has_value_list f.num_value_operands)
    (named_joined blocks (raw ++ imms)
    ∙ ap₂ (λ y z. y ++ z) (block_fields_law f.num_block_operands)
    (named_joined raw imms ∙ ap₂ (λ y z. y ++ z) (raw_block_law f.num_raw_block_operands) (imm_fields_law f.imm_fields))))

format_lines_law : (fs : List InstructionFormat) → variants_text (map format_variant fs) ≡ flat_map format_line fs
unfolding format_line
format_lines_law [] = refl
format_lines_law (f ∷ fs) =
    ap₂ (λ y z. codes "\n  (" ++ ((f.name ++ y) ++ z)) (ap (λ z. z ++ codes ")") (fields_law f) ∙ append_assoc opcode_field (fields_piece f) (codes ")")) (format_lines_law fs)

opcode_lines_law : (is : List Instruction) → variants_text (map (λ (i : Instruction). bare i.camel_name) is) ≡ flat_map opcode_line is
unfolding opcode_line bare_line
opcode_lines_law [] = refl
opcode_lines_law (i ∷ is) = ap (λ z. codes "\n  " ++ (i.camel_name ++ z)) (opcode_lines_law is)

data_law : (fs : List InstructionFormat) (is : List Instruction) → def_texts (data_defs fs is) ≡ data_types_piece fs is
data_law fs is =
    ap₂ (λ y z. y ++ z) (enum_law (codes "Block") [] [] refl)
    (ap₂ (λ y z. y ++ z) (enum_law (codes "Opcode") (map (λ (i : Instruction). bare i.camel_name) is) (flat_map opcode_line is) (opcode_lines_law is))
    (append-nil _ ∙ enum_law (codes "InstructionData") (map format_variant fs) (flat_map format_line fs) (format_lines_law fs)))

-- ---- what both files begin with

pub common_law : (fs : List InstructionFormat) (is : List Instruction) → def_texts (imm_defs (all_fields fs) ++ (arrays fs ++ data_defs fs is)) ≡ common_piece fs is
common_law fs is =
    texts_append (imm_defs (all_fields fs)) (arrays fs ++ data_defs fs is)
    ∙ ap₂ (λ y z. y ++ z) (imm_law (all_fields fs)) (texts_append (arrays fs) (data_defs fs is) ∙ ap₂ (λ y z. y ++ z) (arrays_law fs) (data_law fs is))
