-- Which files declare a term that has the name of a flag.
use Rattle.std.proofs.Common.{◌≡◌, ℕ, List, [], ◌∷◌, ◌++◌, map, Bool, true, false, Option, Some, None, refl, ap, ap₂, ◌∙◌, flat_map}
use Rattle.std.specs.Prelude.{◌&&◌, ◌||◌, is_some, slice_get}
use Rattle.std.specs.List.{list_any}
use Rattle.std.specs.Option.{option_and_then}
use Rattle.isle_ast.specs.Tree.{Def}
use Rattle.isle_lexer.specs.Word.{is_flag}
use Rattle.isle_meta.specs.declared.clif.ImmField.{ImmField}
use Rattle.isle_meta.specs.declared.clif.Instruction.{Instruction}
use Rattle.isle_meta.specs.declared.clif.InstructionFormat.{InstructionFormat}
use Rattle.isle_meta.specs.declared.tables.Tables.{Tables}
use Rattle.isle_meta.specs.FormatRow.{all_fields}
use Rattle.isle_prelude.specs.Arrays.{arrays, block_array_defs, block_array_sizes, value_array_defs, value_array_sizes}
use Rattle.isle_prelude.specs.ClifFiles.{file_defs, instruction_defs, making, of_format}
use Rattle.isle_prelude.specs.CommonDefs.{common_defs, imm_defs, imm_enum}
use Rattle.isle_prelude.specs.Declaring.{primitive}
use Rattle.isle_prelude.specs.Immediates.{enum_types, plain_types}
use Rattle.isle_prelude.specs.InstructionData.{data_defs}
use Rattle.isle_prelude.specs.Manners.{Manner}
use Rattle.isle_prelude.specs.NumberedNames.{block_array, value_array}
use Rattle.isle_writing.specs.Spelt.{declare_flag, declares_flag}
use Rattle.isle_writing.proofs.Joined.{no_flag_each, no_flag_joined}

-- whether an instruction stands in a file that takes instructions in this manner
abbrev pub is_taken : (Bool → Instruction → Option Manner) → List InstructionFormat → Instruction → Bool
is_taken manner formats i = is_some (option_and_then (λ (f : InstructionFormat). manner f.has_value_list i) (slice_get formats i.format))

-- whether it does, and its term has the name of a flag
abbrev pub is_flagged : (Bool → Instruction → Option Manner) → List InstructionFormat → Instruction → Bool
is_flagged manner formats i = is_taken manner formats i && is_flag i.name

-- ---- what stands in front of instructions

no_flag_types : {X : Type 0} (f : X → Def) → ((x : X) (ds : List Def) → declare_flag (f x ∷ ds) ≡ declare_flag ds) → (xs : List X) → declare_flag (map f xs) ≡ false
no_flag_types f h [] = refl
no_flag_types f h (x ∷ xs) = h x (map f xs) ∙ no_flag_types f h xs

no_flag_imms : (is : List ImmField) → declare_flag (imm_defs is) ≡ false
no_flag_imms is =
    no_flag_joined (map primitive (plain_types is)) _ (no_flag_types primitive (λ name ds. refl) (plain_types is))
    (no_flag_types (imm_enum is) (λ name ds. refl) (enum_types is))

no_flag_values : (n : ℕ) → declare_flag (value_array_defs n) ≡ false
unfolding value_array
no_flag_values n = refl

no_flag_blocks : (n : ℕ) → declare_flag (block_array_defs n) ≡ false
unfolding block_array
no_flag_blocks n = refl

no_flag_common : (t : Tables) → declare_flag (common_defs t) ≡ false
no_flag_common t =
    no_flag_joined (imm_defs (all_fields t.formats)) _ (no_flag_imms (all_fields t.formats))
    (no_flag_joined (arrays t.formats) (data_defs t.formats t.instructions)
    (no_flag_joined (flat_map value_array_defs (value_array_sizes t.formats)) (flat_map block_array_defs (block_array_sizes t.formats))
    (no_flag_each value_array_defs no_flag_values (value_array_sizes t.formats)) (no_flag_each block_array_defs no_flag_blocks (block_array_sizes t.formats)))
    refl)

-- ---- instructions

-- one of the first list or of the second does
flag_joined : (ds es : List Def) → declare_flag (ds ++ es) ≡ (declare_flag ds || declare_flag es)
flag_joined [] es = refl
flag_joined (d ∷ ds) es = one (declares_flag d) (flag_joined ds es)
  where
    one : (b : Bool) → declare_flag (ds ++ es) ≡ (declare_flag ds || declare_flag es) → (b || declare_flag (ds ++ es)) ≡ ((b || declare_flag ds) || declare_flag es)
    one true e = refl
    one false e = e

or_none : (b : Bool) → (b || false) ≡ b
or_none true = refl
or_none false = refl

flag_making : (maker : Option (List ℕ)) (m : Manner) (f : InstructionFormat) (i : Instruction) → declare_flag (making maker m f i) ≡ false
flag_making None m f i = refl
flag_making (Some maker) m f i = refl

flag_taken : (o : Option Manner) (f : InstructionFormat) (i : Instruction) → declare_flag (instruction_defs o f i) ≡ (is_some o && is_flag i.name)
flag_taken None f i = refl
flag_taken (Some m) f i = ap (λ b. is_flag i.name || b) (flag_making m.maker m f i) ∙ or_none (is_flag i.name)

flag_of : (manner : Bool → Instruction → Option Manner) (o : Option InstructionFormat) (i : Instruction)
    → declare_flag (of_format manner o i) ≡ (is_some (option_and_then (λ (f : InstructionFormat). manner f.has_value_list i) o) && is_flag i.name)
flag_of manner None i = refl
flag_of manner (Some f) i = flag_taken (manner f.has_value_list i) f i

flag_rows : (manner : Bool → Instruction → Option Manner) (formats : List InstructionFormat) (is : List Instruction)
    → declare_flag (flat_map (λ (i : Instruction). of_format manner (slice_get formats i.format) i) is) ≡ list_any (is_flagged manner formats) is
flag_rows manner formats [] = refl
flag_rows manner formats (i ∷ is) =
    flag_joined (of_format manner (slice_get formats i.format) i) (flat_map (λ (i : Instruction). of_format manner (slice_get formats i.format) i) is)
    ∙ ap₂ (λ b c. b || c) (flag_of manner (slice_get formats i.format) i) (flag_rows manner formats is)

-- a file declares a term that has the name of a flag just if it takes an instruction of such a name
pub flag_file : (manner : Bool → Instruction → Option Manner) (t : Tables)
    → declare_flag (file_defs manner t) ≡ list_any (is_flagged manner t.formats) t.instructions
flag_file manner t =
    flag_joined (common_defs t) (flat_map (λ (i : Instruction). of_format manner (slice_get t.formats i.format) i) t.instructions)
    ∙ ap₂ (λ b c. b || c) (no_flag_common t) (flag_rows manner t.formats t.instructions)
