-- An optimizer's definitions convert nothing.
use Rattle.std.proofs.Common.{◌≡◌, ℕ, zero, suc, List, [], ◌∷◌, ◌++◌, map, Bool, true, false, Option, Some, None, refl, ap, ◌∙◌}
use Rattle.std.specs.Prelude.{◌||◌, slice_get, codes}
use Rattle.std.specs.List.{flat_map, cons_option}
use Rattle.std.proofs.lemmas.List.Elements.{filter_map-append}
use Rattle.isle_ast.specs.Tree.{Def}
use Rattle.isle_meta.specs.FormatRow.{all_fields}
use Rattle.isle_meta.specs.declared.clif.ImmField.{ImmField}
use Rattle.isle_meta.specs.declared.clif.Instruction.{Instruction}
use Rattle.isle_meta.specs.declared.clif.InstructionFormat.{InstructionFormat}
use Rattle.isle_meta.specs.declared.tables.Tables.{Tables}
use Rattle.isle_prelude.specs.Arrays.{value_array_sizes, block_array_sizes, value_array_defs, block_array_defs, arrays}
use Rattle.isle_prelude.specs.ClifFiles.{instruction_defs, of_format, opt_defs}
use Rattle.isle_prelude.specs.CommonDefs.{imm_enum, imm_defs, common_defs}
use Rattle.isle_prelude.specs.Declaring.{primitive}
use Rattle.isle_prelude.specs.Immediates.{plain_types, enum_types}
use Rattle.isle_prelude.specs.InstructionData.{data_defs}
use Rattle.isle_prelude.specs.Manners.{optimized, opt_manner}
use Rattle.isle_prelude.specs.WrittenPrelude.{shared_types, ctor_defs, opt_terms, ctor_sizes, written_defs}
use Rattle.isle_terms.specs.Converters.{converter_of, converters}
use Rattle.isle_prelude_laws.specs.RoundTrip.{opt_source}

-- definitions without converters
abbrev ConvertsNothing : List Def → Type 0
ConvertsNothing ds = converters ds ≡ []

both_convert : (xs ys : List Def) → ConvertsNothing xs → ConvertsNothing ys → ConvertsNothing (xs ++ ys)
both_convert xs ys h k = filter_map-append converter_of xs ys ∙ ap (λ cs. cs ++ converters ys) h ∙ k

flat_converts : {A : Type 0} (each : A → List Def) (xs : List A) → ((x : A) → ConvertsNothing (each x)) → ConvertsNothing (flat_map each xs)
flat_converts each [] h = refl
flat_converts each (x ∷ xs) h = both_convert (each x) (flat_map each xs) (h x) (flat_converts each xs h)

map_converts : {A : Type 0} (each : A → Def) (xs : List A) → ((x : A) → converter_of (each x) ≡ None) → ConvertsNothing (map each xs)
map_converts each [] h = refl
map_converts each (x ∷ xs) h = ap (λ o. cons_option o (converters (map each xs))) (h x) ∙ map_converts each xs h

written_converts : (t : Tables) → ConvertsNothing (written_defs t)
written_converts t = both_convert shared_types (opt_terms ++ flat_map ctor_defs (ctor_sizes t)) refl (both_convert opt_terms (flat_map ctor_defs (ctor_sizes t)) refl (flat_converts ctor_defs (ctor_sizes t) (λ n. refl)))

imm_converts : (is : List ImmField) → ConvertsNothing (imm_defs is)
imm_converts is =
    both_convert (map primitive (plain_types is)) (primitive (codes "MemFlagsData") ∷ map (imm_enum is) (enum_types is)) (map_converts primitive (plain_types is) (λ n. refl)) (map_converts (imm_enum is) (enum_types is) (λ n. refl))

common_converts : (t : Tables) → ConvertsNothing (common_defs t)
common_converts t =
    both_convert (imm_defs (all_fields t.formats)) (arrays t.formats ++ data_defs t.formats t.instructions) (imm_converts (all_fields t.formats))
    (both_convert (arrays t.formats) (data_defs t.formats t.instructions)
    (both_convert (flat_map value_array_defs (value_array_sizes t.formats)) (flat_map block_array_defs (block_array_sizes t.formats)) (flat_converts value_array_defs (value_array_sizes t.formats) (λ n. refl)) (flat_converts block_array_defs (block_array_sizes t.formats) (λ n. refl))) refl)

taken_converts : (results : ℕ) (has_effects : Bool) (f : InstructionFormat) (i : Instruction)
    → ConvertsNothing (instruction_defs (Some (optimized results has_effects)) f i)
taken_converts zero e f i = refl
taken_converts (suc zero) false f i = refl
taken_converts (suc zero) true f i = refl
taken_converts (suc (suc n)) e f i = refl

format_converts : (o : Option InstructionFormat) (i : Instruction) → ConvertsNothing (of_format opt_manner o i)
format_converts None i = refl
format_converts (Some f) i = by f.has_value_list
  where
    by : (b : Bool) → ConvertsNothing (instruction_defs (opt_manner b i) f i)
    by true = refl
    by false = taken_converts i.value_results (i.can_trap || i.other_side_effects) f i

-- nothing is converted
pub opt_converts : (t : Tables) → converters (opt_source t) ≡ []
opt_converts t =
    both_convert (written_defs t) (opt_defs t) (written_converts t)
    (both_convert (common_defs t) (flat_map (λ (i : Instruction). of_format opt_manner (slice_get t.formats i.format) i) t.instructions) (common_converts t)
    (flat_converts (λ (i : Instruction). of_format opt_manner (slice_get t.formats i.format) i) t.instructions (λ i. format_converts (slice_get t.formats i.format) i)))
