-- The names in a prelude: none is declared twice.
use Rattle.std.proofs.Common.{◌≡◌, ℕ, List, [], ◌∷◌, ◌++◌, map, true, false, Option, Some, None, refl, sym, ap, ◌∙◌, subst}
use Rattle.std.specs.Prelude.{flat_map, filter_map, filter, not, slice_get, codes, ◌||◌}
use Rattle.std.specs.List.{AllByRecursion, cons_option}
use Rattle.isle_ast.specs.Tree.{Def}
use Rattle.isle_declarations.specs.DeclaredTypes.{DeclaredType, type_of}
use Rattle.isle_types.specs.Builtins.{builtin_names}
use Rattle.isle_types.specs.TypeNames.{type_names}
use Rattle.isle_meta.specs.declared.clif.ImmField.{ImmField}
use Rattle.isle_meta.specs.Immediates.{type_of as imm_type_of}
use Rattle.isle_meta.specs.declared.clif.Instruction.{Instruction}
use Rattle.isle_meta.specs.declared.clif.InstructionFormat.{InstructionFormat}
use Rattle.isle_meta.specs.declared.tables.Tables.{Tables}
use Rattle.isle_meta.specs.FormatRow.{all_fields}
use Rattle.isle_meta.specs.TableNames.{is_builtin, is_among, prelude_types, IsImmediateType}
use Rattle.isle_spelling.specs.Names.{is_numbered}
use Rattle.isle_prelude.specs.Arrays.{value_array_size, value_array_sizes, block_array_sizes, above_one}
use Rattle.isle_prelude.specs.ClifFiles.{making, instruction_defs, of_format}
use Rattle.isle_prelude.specs.Immediates.{is_enum, plain_types, enum_types}
use Rattle.isle_prelude.specs.Manners.{Manner, optimized, opt_manner}
use Rattle.isle_prelude.specs.NumberedNames.{value_array_type, block_array_type}
use Rattle.isle_prelude.specs.WrittenPrelude.{ctor_sizes}
use Rattle.isle_prelude_accepted.specs.Accepted.{prelude_defs}
use Rattle.isle_prelude_accepted.proofs.Has.{Has, AreApart, has_front, has_back, has_all, apart_parts, apart_map}
use Rattle.isle_prelude_accepted.proofs.ArrayNames.{value_type_same, block_type_same, value_type_kind, block_type_kind}
use Rattle.isle_prelude_accepted.proofs.AscendingLists.{ascending_apart, numbers_apart}
use Rattle.isle_prelude_accepted.proofs.Families.{first_of_four, first_by, found_flat, flat_none, flat_single, flat_same, map_same, Disjoint, IsFamily, Grouped}
use Rattle.isle_prelude_accepted.proofs.Families.{One, Both, grouped_apart, grouped_names}
use Rattle.isle_prelude_accepted.proofs.PreludeParts.{put_same, row_defs, whole, row_cases}
use Rattle.isle_prelude_accepted.proofs.Supported.{AreSupported, none_repeated}
use Rattle.isle_prelude_accepted.proofs.TableFacts.{field_sound, fields_alike, plain_from, enum_from}

-- ---- what is in ascending order is apart

plain_apart : (fields : List ImmField) → AreApart (plain_types fields)
plain_apart fields = ascending_apart (map imm_type_of (filter (λ (i : ImmField). not (is_enum i)) fields))

enums_apart : (fields : List ImmField) → AreApart (enum_types fields)
enums_apart fields = ascending_apart (map imm_type_of (filter is_enum fields))

pub value_sizes_apart : (fs : List InstructionFormat) → AreApart (value_array_sizes fs)
value_sizes_apart fs = numbers_apart (filter_map value_array_size fs)

pub block_sizes_apart : (fs : List InstructionFormat) → AreApart (block_array_sizes fs)
block_sizes_apart fs = numbers_apart (filter_map (λ (f : InstructionFormat). above_one f.num_block_operands) fs)

-- ---- families of names

-- names by numbers are apart, and of a class if each is
pub numbered_family : (class : List ℕ → ℕ) (k : ℕ) (name : ℕ → List ℕ) (ns : List ℕ) → ((i j : ℕ) → name i ≡ name j → i ≡ j)
    → ((n : ℕ) → class (name n) ≡ k) → AreApart ns → IsFamily class (k, map name ns)
numbered_family class k name ns same each h = (apart_map name ns (λ i j _ _ e. same i j e) h, all ns)
  where
    all : (ms : List ℕ) → AllByRecursion (λ x. class x ≡ k) (map name ms)
    all [] = tt
    all (m ∷ ms) = (each m, all ms)

pub nothing : (class : List ℕ → ℕ) → IsFamily class (9, [])
nothing class = (tt, tt)

-- the kinds of names of types: builtin ones, written ones, arrays, and others
abbrev type_class : List ℕ → ℕ
type_class x = first_of_four (is_builtin x) (is_among x prelude_types) (is_numbered (codes "ValueArray") x) (is_numbered (codes "BlockArray") x)

value_type_class : (n : ℕ) → type_class (value_array_type n) ≡ 2
value_type_class n = let k = value_type_kind n in first_by _ _ _ _ false false true (is_numbered (codes "BlockArray") (value_array_type n)) k.0 k.1 k.2 refl

block_type_class : (n : ℕ) → type_class (block_array_type n) ≡ 3
block_type_class n = let k = block_type_kind n in first_by _ _ _ _ false false false true k.0 k.1 k.2 k.3

imm_class : (x : List ℕ) → IsImmediateType x → type_class x ≡ 4
imm_class x h = first_by _ _ _ _ false false false false h.own h.free h.no_values h.no_blocks

-- ---- types

-- the name of the type that a definition declares
abbrev type_in : Def → List (List ℕ)
type_in d = map (λ (t : DeclaredType). t.name) (cons_option (type_of d) [])

-- the written types
abbrev shared_names : List (List ℕ)
shared_names = codes "Type" ∷ codes "Value" ∷ codes "Inst" ∷ codes "ValueList" ∷ codes "ValueSlice" ∷ codes "BlockCall" ∷ []

-- the type of flags, which both files have
abbrev flags_name : List (List ℕ)
flags_name = codes "MemFlagsData" ∷ []

-- the types of blocks, opcodes and instructions' data
abbrev data_names : List (List ℕ)
data_names = codes "Block" ∷ codes "Opcode" ∷ codes "InstructionData" ∷ []

no_types : (i : Instruction) (o : Option InstructionFormat) → flat_map type_in (of_format opt_manner o i) ≡ []
no_types i o = row_cases (λ ds. flat_map type_in ds ≡ []) i refl (λ f e. by (optimized i.value_results (i.can_trap || i.other_side_effects)) f) o
  where
    made : (k : Option (List ℕ)) (m : Manner) (f : InstructionFormat) → flat_map type_in (making k m f i) ≡ []
    made None m f = refl
    made (Some k) m f = refl

    by : (m : Manner) (f : InstructionFormat) → flat_map type_in (instruction_defs (Some m) f i) ≡ []
    by m f = made m.maker m f

-- the names of types, in groups
abbrev type_groups : Tables → Grouped
type_groups t =
    Both (One (0, builtin_names))
    (Both (Both (One (1, shared_names)) (Both (One (9, [])) (One (9, []))))
    (Both (Both (Both (One (4, plain_types (all_fields t.formats))) (Both (One (1, flags_name)) (One (4, enum_types (all_fields t.formats)))))
    (Both (Both (One (2, map value_array_type (value_array_sizes t.formats))) (One (3, map block_array_type (block_array_sizes t.formats)))) (One (1, data_names))))
    (One (9, []))))

types_grouped : (t : Tables) → type_names (prelude_defs t) ≡ grouped_names (type_groups t)
types_grouped t =
    let fs = all_fields t.formats in
    ap (λ names. builtin_names ++ names) (found_flat type_of (λ (x : DeclaredType). x.name) (prelude_defs t) ∙ whole t type_in
    ∙ put_same shared_names [] (flat_map (λ (n : ℕ). []) (ctor_sizes t)) (flat_map (λ (x : List ℕ). x ∷ []) (plain_types fs)) flags_name
    (flat_map (λ (x : List ℕ). x ∷ []) (enum_types fs))
    (flat_map (λ (n : ℕ). value_array_type n ∷ []) (value_array_sizes t.formats))
    (flat_map (λ (n : ℕ). block_array_type n ∷ []) (block_array_sizes t.formats)) data_names
    (flat_map (λ (i : Instruction). flat_map type_in (row_defs t i)) t.instructions) [] (plain_types fs) (enum_types fs)
    (map value_array_type (value_array_sizes t.formats)) (map block_array_type (block_array_sizes t.formats)) []
    (flat_none (ctor_sizes t)) (flat_single (λ x. x) (plain_types fs) ∙ map_same (plain_types fs)) (flat_single (λ x. x) (enum_types fs) ∙ map_same (enum_types fs))
    (flat_single value_array_type (value_array_sizes t.formats)) (flat_single block_array_type (block_array_sizes t.formats))
    (flat_same (λ (i : Instruction). flat_map type_in (row_defs t i)) (λ i. []) t.instructions (λ i. no_types i (slice_get t.formats i.format)) ∙ flat_none t.instructions))

-- names of immediates' types are of no other class
imm_family : (names : List (List ℕ)) → AreApart names → ((x : List ℕ) → Has names x → IsImmediateType x) → IsFamily type_class (4, names)
imm_family names h each = (h, has_all (λ x. type_class x ≡ 4) names (λ x i. imm_class x (each x i)))

written_apart : AreApart (shared_names ++ (flags_name ++ data_names))
written_apart = none_repeated (shared_names ++ (flags_name ++ data_names)) refl

module _ (t : Tables) (s : AreSupported t) where
  pub types_apart : AreApart (type_names (prelude_defs t))
  types_apart =
      let fs = all_fields t.formats in
      let first = apart_parts shared_names (flags_name ++ data_names) written_apart in
      let last = apart_parts flags_name data_names first.1 in
      let plain =
      imm_family (plain_types fs) (plain_apart fs)
      (λ x i. (let f = plain_from fs x i in subst IsImmediateType f.2 (field_sound t.formats f.0 s.formats f.1).type)) in
      let enums =
      imm_family (enum_types fs) (enums_apart fs) (λ x i. (let f = enum_from fs x i in subst IsImmediateType f.2 (field_sound t.formats f.0 s.formats f.1).type)) in
      let unlike : Disjoint (plain_types fs) (enum_types fs) =
      λ x i j. (let f = plain_from fs x i in let g = enum_from fs x j in
      absurd (let both : false ≡ true = sym f.3 ∙ fields_alike t.formats s.formats f.0 g.0 f.1 g.1 (f.2 ∙ sym g.2) ∙ g.3 in cc)) in
      let shared_flags : Disjoint shared_names flags_name = λ x i j. first.2 x i (has_left x j) in
      let shared_data : Disjoint shared_names data_names = λ x i j. first.2 x i (has_right x j) in
      subst AreApart (sym (types_grouped t)) (grouped_apart type_class (type_groups t) (
        (none_repeated builtin_names refl, (refl, (refl, (refl, (refl, (refl, (refl, (refl, (refl, (refl, (refl, (refl, (refl, (refl, tt)))))))))))))),
        (
          (none_repeated shared_names refl, (refl, (refl, (refl, (refl, (refl, (refl, tt))))))),
          (
            nothing type_class,
            (
              nothing type_class,
              (
                plain,
                (
                  (none_repeated flags_name refl, (refl, tt)),
                  (
                    enums,
                    (
                      numbered_family type_class 2 value_array_type (value_array_sizes t.formats) value_type_same value_type_class (value_sizes_apart t.formats),
                      (
                        numbered_family type_class 3 block_array_type (block_array_sizes t.formats) block_type_same block_type_class (block_sizes_apart t.formats),
                        (
                          (none_repeated data_names refl, (refl, (refl, (refl, tt)))),
                          (nothing type_class, tt),
                        ),
                      ),
                    ),
                  ),
                ),
              ),
            ),
          ),
        ),
      ) (
        (tt, (tt, (tt, (tt, (tt, (tt, (tt, (tt, (tt, (tt, tt)))))))))),
        (
          (tt, (tt, (tt, (shared_flags, (tt, (tt, (tt, (shared_data, (tt, tt))))))))),
          (
            (empty, (tt, (tt, (tt, (tt, (tt, (tt, (empty, tt)))))))),
            (
              (tt, (tt, (tt, (tt, (tt, (tt, (empty, tt))))))),
              (
                (tt, (unlike, (tt, (tt, (tt, (tt, tt)))))),
                (
                  (tt, (tt, (tt, (last.2, (tt, tt))))),
                  (
                    (tt, (tt, (tt, (tt, tt)))),
                    (
                      (tt, (tt, (tt, tt))),
                      (
                        (tt, (tt, tt)),
                        (
                          (tt, tt),
                          (tt, tt),
                        ),
                      ),
                    ),
                  ),
                ),
              ),
            ),
          ),
        ),
      ))
    where
      empty : Disjoint [] []
      empty x i j = i

      has_left : (x : List ℕ) → Has flags_name x → Has (flags_name ++ data_names) x
      has_left x j = has_front flags_name data_names x j

      has_right : (x : List ℕ) → Has data_names x → Has (flags_name ++ data_names) x
      has_right x j = has_back flags_name data_names x j
