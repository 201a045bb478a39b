-- The written prelude of supported and plain tables, followed by the file of an optimizer, is valid input.
use Rattle.std.proofs.Common.{◌≡◌, inl, inr, ℕ, List, [], ◌∷◌, ◌++◌, map, Option, Some, None, refl, sym, ap₂, ◌∙◌, subst}
use Rattle.std.specs.Prelude.{flat_map, slice_get, codes, ◌||◌}
use Rattle.std.specs.List.{AllByRecursion}
use Rattle.isle_core.proofs.AllLaws.{all_append}
use Rattle.isle_ast.specs.Tree.{Def}
use Rattle.isle_types.specs.Builtins.{builtin_names}
use Rattle.isle_types.specs.TypeNames.{declared_names}
use Rattle.isle_meta.specs.declared.clif.Instruction.{Instruction}
use Rattle.isle_meta.specs.declared.clif.InstructionFormat.{InstructionFormat}
use Rattle.isle_meta.specs.declared.tables.Tables.{Tables}
use Rattle.isle_meta.specs.FormatRow.{all_fields}
use Rattle.isle_table_check.specs.SupportedTables as tables
use Rattle.isle_prelude.specs.Arrays.{value_array_sizes, block_array_sizes, value_array_defs, block_array_defs, arrays}
use Rattle.isle_prelude.specs.ClifFiles.{making, instruction_defs, of_format, opt_defs}
use Rattle.isle_prelude.specs.CommonDefs.{imm_enum, imm_defs, common_defs}
use Rattle.isle_prelude.specs.Declaring.{primitive}
use Rattle.isle_prelude.specs.Immediates.{plain_types, enum_types}
use Rattle.isle_prelude.specs.InstructionData.{data_defs}
use Rattle.isle_prelude.specs.Manners.{Manner, optimized, opt_manner}
use Rattle.isle_prelude.specs.WrittenPrelude.{shared_types, opt_terms, ctor_defs, ctor_sizes, written_defs}
use Rattle.isle_writing.specs.Erased.{erased, all_erased}
use Rattle.isle_prelude_accepted.specs.Accepted.{prelude_defs, IsPreludeLawful}
use Rattle.isle_prelude_accepted.specs.Plain.{ArePlain}
use Rattle.isle_prelude_accepted.proofs.Has.{Has, apart_parts}
use Rattle.isle_prelude_accepted.proofs.CommonSound.{shared_sound, flags_sound, terms_sound, ctors_sound, values_sound, blocks_sound, plain_sound, enums_sound}
use Rattle.isle_prelude_accepted.proofs.DataSound.{data_sound}
use Rattle.isle_prelude_accepted.proofs.InstructionSound.{row_sound}
use Rattle.isle_prelude_accepted.proofs.MadeNames.{made_apart, made_undeclared}
use Rattle.isle_prelude_accepted.proofs.PreludeNames.{types_apart}
use Rattle.isle_prelude_accepted.proofs.PreludeParts.{row_defs, row_cases}
use Rattle.isle_prelude_accepted.proofs.PreludeTerms.{declared_apart, makers_apart, takers_apart, heads_apart, functions_apart}
use Rattle.isle_prelude_accepted.proofs.Simple.{AreSimple, IsSound}
use Rattle.isle_prelude_accepted.proofs.SimpleLawful.{simple_lawful}
use Rattle.isle_prelude_accepted.proofs.Supported.{AreSupported, tables_supported}

-- ---- what holds of each part

all_mapped : {A : Type 0} (P : Def → Type 0) (g : A → Def) (xs : List A) → ((x : A) → Has xs x → P (g x)) → AllByRecursion P (map g xs)
all_mapped P g [] h = tt
all_mapped P g (x ∷ xs) h = (h x (inl refl), all_mapped P g xs (λ y k. h y (inr k)))

all_flat : {A : Type 0} (P : Def → Type 0) (g : A → List Def) (xs : List A) → ((x : A) → Has xs x → AllByRecursion P (g x)) → AllByRecursion P (flat_map g xs)
all_flat P g [] h = tt
all_flat P g (x ∷ xs) h = all_append P (g x) (flat_map g xs) (h x (inl refl)) (all_flat P g xs (λ y k. h y (inr k)))

-- what holds of all parts of a prelude
record HoldsOfParts (P : Def → Type 0) (t : Tables) : Type 0 where
  shared : AllByRecursion P shared_types
  terms : AllByRecursion P opt_terms
  ctors : (n : ℕ) → Has (ctor_sizes t) n → AllByRecursion P (ctor_defs n)
  plain : (name : List ℕ) → Has (plain_types (all_fields t.formats)) name → P (primitive name)
  flags : P (primitive (codes "MemFlagsData"))
  enums : (name : List ℕ) → Has (enum_types (all_fields t.formats)) name → P (imm_enum (all_fields t.formats) name)
  values : (n : ℕ) → Has (value_array_sizes t.formats) n → AllByRecursion P (value_array_defs n)
  blocks : (n : ℕ) → Has (block_array_sizes t.formats) n → AllByRecursion P (block_array_defs n)
  kinds : AllByRecursion P (data_defs t.formats t.instructions)
  rows : (i : Instruction) → Has t.instructions i → AllByRecursion P (row_defs t i)

-- holds of all definitions
all_of : (P : Def → Type 0) (t : Tables) → HoldsOfParts P t → AllByRecursion P (prelude_defs t)
all_of P t h =
    let fs = all_fields t.formats in
    let ctors = flat_map ctor_defs (ctor_sizes t) in
    let imms = imm_defs fs in
    let lists = arrays t.formats in
    let kinds = data_defs t.formats t.instructions in
    all_append P (written_defs t) (opt_defs t)
    (all_append P shared_types (opt_terms ++ ctors) h.shared (all_append P opt_terms ctors h.terms (all_flat P ctor_defs (ctor_sizes t) h.ctors)))
    (all_append P (common_defs t) (flat_map (row_defs t) t.instructions)
    (all_append P imms (lists ++ kinds)
    (all_append P (map primitive (plain_types fs)) (primitive (codes "MemFlagsData") ∷ map (imm_enum fs) (enum_types fs)) (all_mapped P primitive (plain_types fs) h.plain) (h.flags, all_mapped P (imm_enum fs) (enum_types fs) h.enums))
    (all_append P lists kinds
    (all_append P (flat_map value_array_defs (value_array_sizes t.formats)) (flat_map block_array_defs (block_array_sizes t.formats))
    (all_flat P value_array_defs (value_array_sizes t.formats) h.values) (all_flat P block_array_defs (block_array_sizes t.formats) h.blocks))
    h.kinds))
    (all_flat P (row_defs t) t.instructions h.rows))

-- ---- places

-- a definition without a place
abbrev HasNoPlace : Def → Type 0
HasNoPlace d = erased d ≡ d

rows_placeless : (i : Instruction) (o : Option InstructionFormat) → AllByRecursion HasNoPlace (of_format opt_manner o i)
rows_placeless i o = row_cases (AllByRecursion HasNoPlace) i tt (λ f e. by (optimized i.value_results (i.can_trap || i.other_side_effects)) f) o
  where
    made : (k : Option (List ℕ)) (m : Manner) (f : InstructionFormat) → AllByRecursion HasNoPlace (making k m f i)
    made None m f = tt
    made (Some k) m f = (refl, tt)

    by : (m : Manner) (f : InstructionFormat) → AllByRecursion HasNoPlace (instruction_defs (Some m) f i)
    by m f = (refl, (refl, made m.maker m f))

all_placeless : (t : Tables) → AllByRecursion HasNoPlace (prelude_defs t)
all_placeless t = all_of HasNoPlace t (record {
  shared = (refl, (refl, (refl, (refl, (refl, (refl, tt))))));
  terms = (refl, (refl, (refl, (refl, (refl, (refl, (refl, (refl, tt))))))));
  ctors = λ n k. (refl, (refl, tt));
  plain = λ name k. refl;
  flags = refl;
  enums = λ name k. refl;
  values = λ n k. (refl, (refl, (refl, (refl, tt))));
  blocks = λ n k. (refl, (refl, (refl, (refl, tt))));
  kinds = (refl, (refl, (refl, tt)));
  rows = λ i k. rows_placeless i (slice_get t.formats i.format);
})

same_without : (ds : List Def) → AllByRecursion HasNoPlace ds → all_erased ds ≡ ds
same_without [] h = refl
same_without (d ∷ ds) h = ap₂ (λ x xs. x ∷ xs) h.0 (same_without ds h.1)

-- ---- all

module _ (t : Tables) (s : AreSupported t) (plain : ArePlain t) where
  all_sound : AllByRecursion (IsSound (prelude_defs t)) (prelude_defs t)
  all_sound = all_of (IsSound (prelude_defs t)) t (record {
    shared = shared_sound t;
    terms = terms_sound t;
    ctors = ctors_sound t s plain;
    plain = plain_sound t s plain;
    flags = flags_sound t;
    enums = enums_sound t s plain;
    values = values_sound t s plain;
    blocks = blocks_sound t s plain;
    kinds = data_sound t s plain;
    rows = row_sound t s plain;
  })

  prelude_simple : AreSimple (prelude_defs t)
  prelude_simple = record {
    sound = all_sound;
    types = types_apart t s;
    made = made_apart (prelude_defs t) (prelude_defs t) all_sound (apart_parts builtin_names (declared_names (prelude_defs t)) (types_apart t s)).1;
    declared = declared_apart t s;
    unmade = made_undeclared (prelude_defs t) (prelude_defs t) all_sound;
    externs_apart = makers_apart t s;
    extractors_apart = takers_apart t s;
    heads = heads_apart t s;
    functions_apart = functions_apart t;
  }

-- supported and plain tables give a lawful environment
pub prelude_lawful : (t : Tables) → tables.AreSupported t → ArePlain t → IsPreludeLawful t
prelude_lawful t supported plain printed defs files same =
    simple_lawful defs (subst AreSimple (sym (same ∙ same_without (prelude_defs t) (all_placeless t))) (prelude_simple t (tables_supported t supported) plain)) printed files
