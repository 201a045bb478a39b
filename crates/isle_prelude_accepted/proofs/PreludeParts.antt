-- What the definitions of a prelude come to, part by part.
use Rattle.std.proofs.Common.{◌≡◌, ℕ, List, [], ◌∷◌, ◌++◌, map, Bool, true, false, Option, Some, None, refl, ap, ap₂, ◌∙◌}
use Rattle.std.specs.Prelude.{flat_map, slice_get, codes}
use Rattle.isle_ast.specs.Tree.{Def}
use Rattle.isle_meta.specs.declared.clif.Instruction.{Instruction}
use Rattle.isle_meta.specs.declared.clif.InstructionFormat.{InstructionFormat}
use Rattle.isle_meta.specs.declared.tables.Tables.{Tables}
use Rattle.isle_meta.specs.FormatRow.{all_fields}
use Rattle.isle_prelude.specs.Arrays.{value_array_sizes, block_array_sizes, value_array_defs, block_array_defs, arrays}
use Rattle.isle_prelude.specs.ClifFiles.{instruction_defs, of_format, opt_defs}
use Rattle.isle_prelude.specs.CommonDefs.{imm_enum, imm_defs, common_defs}
use Rattle.isle_prelude.specs.Declaring.{primitive}
use Rattle.isle_prelude.specs.Immediates.{plain_types, enum_types}
use Rattle.isle_prelude.specs.InstructionData.{data_defs}
use Rattle.isle_prelude.specs.Manners.{opt_manner}
use Rattle.isle_prelude.specs.WrittenPrelude.{shared_types, opt_terms, ctor_defs, ctor_sizes, written_defs}
use Rattle.isle_prelude_accepted.specs.Accepted.{prelude_defs}
use Rattle.isle_prelude_accepted.proofs.Families.{flat_append, flat_flat, flat_mapped}

-- ten parts, put together as the definitions are
abbrev pub put : {X : Type 0} → (a b c d e f g h i j : List X) → List X
put a b c d e f g h i j = (a ++ (b ++ c)) ++ (((d ++ (e ++ f)) ++ ((g ++ h) ++ i)) ++ j)

pub put_same : {X : Type 0} (a b c d e f g h i j : List X) (c' d' f' g' h' j' : List X) → c ≡ c' → d ≡ d' → f ≡ f' → g ≡ g' → h ≡ h' → j ≡ j'
    → put a b c d e f g h i j ≡ put a b c' d' e f' g' h' i j'
put_same a b c d e f g h i j c' d' f' g' h' j' ec ed ef eg eh ej =
    ap₂ (λ x y. x ++ y) (ap (λ x. a ++ (b ++ x)) ec)
    (ap₂ (λ x y. x ++ y) (ap₂ (λ x y. x ++ y) (ap₂ (λ x y. x ++ (e ++ y)) ed ef) (ap (λ x. x ++ i) (ap₂ (λ x y. x ++ y) eg eh))) ej)

module _ (t : Tables) where
  -- what comes of an instruction
  abbrev pub row_defs : Instruction → List Def
  row_defs i = of_format opt_manner (slice_get t.formats i.format) i

  module _ {X : Type 0} (q : Def → List X) where
    -- what comes of all
    pub whole : flat_map q (prelude_defs t)
        ≡ put (flat_map q shared_types) (flat_map q opt_terms) (flat_map (λ (n : ℕ). flat_map q (ctor_defs n)) (ctor_sizes t))
        (flat_map (λ (x : List ℕ). q (primitive x)) (plain_types (all_fields t.formats)))
        (q (primitive (codes "MemFlagsData"))) (flat_map (λ (x : List ℕ). q (imm_enum (all_fields t.formats) x)) (enum_types (all_fields t.formats)))
        (flat_map (λ (n : ℕ). flat_map q (value_array_defs n)) (value_array_sizes t.formats))
        (flat_map (λ (n : ℕ). flat_map q (block_array_defs n)) (block_array_sizes t.formats))
        (flat_map q (data_defs t.formats t.instructions)) (flat_map (λ (i : Instruction). flat_map q (row_defs i)) t.instructions)
    whole =
        let fs = all_fields t.formats in
        let ctors = flat_map ctor_defs (ctor_sizes t) in
        let plain = map primitive (plain_types fs) in
        let enums = map (imm_enum fs) (enum_types fs) in
        let values = flat_map value_array_defs (value_array_sizes t.formats) in
        let blocks = flat_map block_array_defs (block_array_sizes t.formats) in
        let kinds = data_defs t.formats t.instructions in
        flat_append q (written_defs t) (opt_defs t)
        ∙ ap₂ (λ x y. x ++ y)
        (flat_append q shared_types (opt_terms ++ ctors) ∙ ap (λ x. flat_map q shared_types ++ x) (flat_append q opt_terms ctors ∙ ap (λ x. flat_map q opt_terms ++ x) (flat_flat q ctor_defs (ctor_sizes t))))
        (flat_append q (common_defs t) (flat_map row_defs t.instructions)
        ∙ ap₂ (λ x y. x ++ y)
        (flat_append q (imm_defs fs) (arrays t.formats ++ kinds)
        ∙ ap₂ (λ x y. x ++ y)
        (flat_append q plain (primitive (codes "MemFlagsData") ∷ enums) ∙ ap₂ (λ x y. x ++ (q (primitive (codes "MemFlagsData")) ++ y)) (flat_mapped q primitive (plain_types fs)) (flat_mapped q (imm_enum fs) (enum_types fs)))
        (flat_append q (arrays t.formats) kinds
        ∙ ap (λ x. x ++ flat_map q kinds)
        (flat_append q values blocks ∙ ap₂ (λ x y. x ++ y) (flat_flat q value_array_defs (value_array_sizes t.formats)) (flat_flat q block_array_defs (block_array_sizes t.formats)))))
        (flat_flat q row_defs t.instructions))

-- what holds of nothing, and of an instruction taken in a manner, holds of an instruction
pub row_cases : (P : List Def → Type 0) (i : Instruction) → P []
    → ((f : InstructionFormat) → f.has_value_list ≡ false → P (instruction_defs (opt_manner false i) f i)) → (o : Option InstructionFormat)
    → P (of_format opt_manner o i)
row_cases P i none some None = none
row_cases P i none some (Some f) = by f.has_value_list refl
  where
    by : (b : Bool) → f.has_value_list ≡ b → P (instruction_defs (opt_manner b i) f i)
    by true e = none
    by false e = some f e
