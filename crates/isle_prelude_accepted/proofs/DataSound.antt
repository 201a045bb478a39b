-- The types of blocks, opcodes and instructions' data are sound among the definitions of a prelude.
use Rattle.std.proofs.Common.{◌≡◌, inl, inr, ℕ, zero, suc, ◌≤◌, List, [], ◌∷◌, ◌++◌, map, length, Bool, true, false, cond, Some, None, refl, sym, ap, ap₂, ◌∙◌}
use Rattle.std.proofs.Common.{subst, arith}
use Rattle.std.specs.Prelude.{codes, ◌||◌, ◌==◌, nat_lt, flat_map}
use Rattle.std.specs.List.{AllByRecursion}
use Rattle.std.specs.Option.{option_to_list}
use Rattle.std.proofs.lemmas.Bool.Decides.{nat_tests}
use Rattle.std.proofs.lemmas.List.{map-append, length-map, append_assoc}
use Rattle.isle_core.proofs.AllLaws.{all_append, all_back}
use Rattle.isle_types.specs.Bodies.{variant_names}
use Rattle.isle_spelling.specs.Identifier.{IsIdentifier}
use Rattle.isle_meta.specs.declared.clif.ImmField.{ImmField}
use Rattle.isle_meta.specs.declared.clif.InstructionFormat.{InstructionFormat}
use Rattle.isle_meta.specs.declared.tables.Tables.{Tables}
use Rattle.isle_meta.specs.FormatRow.{values_field, blocks_field, raw_block_field, field_names, own_names}
use Rattle.isle_meta.specs.Immediates.{imm_names}
use Rattle.isle_prelude.specs.InstructionData.{value_fields, block_fields, raw_block_fields, imm_field, format_fields, format_variant, data_defs}
use Rattle.isle_prelude_accepted.specs.Plain.{ArePlain, IsShortFormat}
use Rattle.isle_prelude_accepted.proofs.Has.{Has, AreApart, has_flat, all_has}
use Rattle.isle_prelude_accepted.proofs.ArrayNames.{type_name}
use Rattle.isle_prelude_accepted.proofs.CommonSound.{camels_sound, camel_variants}
use Rattle.isle_prelude_accepted.proofs.OperandLists.{types_in}
use Rattle.isle_prelude_accepted.proofs.PreludeMembers.{E, IsType, value_type, list_type, call_type, block_type, opcode_type, values_type, blocks_type}
use Rattle.isle_prelude_accepted.proofs.PreludeMembers.{imm_type, value_size_there, block_size_there}
use Rattle.isle_prelude_accepted.proofs.RowSound.{field_types_are}
use Rattle.isle_prelude_accepted.proofs.Simple.{IsSound, IsSoundVariant}
use Rattle.isle_prelude_accepted.proofs.Supported.{AreSupported}
use Rattle.isle_prelude_accepted.proofs.TableFacts.{format_at, formats_apart, camels_apart}

-- ---- the names of a format's fields

-- the names of fields
abbrev names_in : List (List ℕ × List ℕ) → List (List ℕ)
names_in fields = map (λ (f : List ℕ × List ℕ). f.0) fields

above_one_field : (n : ℕ) → nat_lt 1 (suc (suc n)) ≡ true
above_one_field n = grind (arith, nat_tests)

values_names : (has_list : Bool) (n : ℕ)
    → names_in (value_fields has_list n) ≡ option_to_list (cond (has_list || nat_lt 1 n) (Some (codes "args")) (cond (n == 1) (Some (codes "arg")) None))
values_names true n = refl
values_names false zero = refl
values_names false (suc zero) = refl
values_names false (suc (suc n)) =
    ap (λ b. option_to_list (cond b (Some (codes "args")) (cond (suc (suc n) == 1) (Some (codes "arg")) None))) (sym (above_one_field n))

blocks_names : (n : ℕ) → names_in (block_fields n) ≡ option_to_list (cond (nat_lt 1 n) (Some (codes "blocks")) (cond (n == 1) (Some (codes "destination")) None))
blocks_names zero = refl
blocks_names (suc zero) = refl
blocks_names (suc (suc n)) =
    ap (λ b. option_to_list (cond b (Some (codes "blocks")) (cond (suc (suc n) == 1) (Some (codes "destination")) None))) (sym (above_one_field n))

raw_names : (n : ℕ) → n ≤ 1 → names_in (raw_block_fields n) ≡ option_to_list (cond (n == 1) (Some (codes "block")) None)
raw_names zero le = refl
raw_names (suc zero) le = refl
raw_names (suc (suc n)) le = absurd (omega (arith, le))

members : (fields : List ImmField) → names_in (map imm_field fields) ≡ map (λ (i : ImmField). i.member) fields
members [] = refl
members (i ∷ is) = ap (λ xs. i.member ∷ xs) (members is)

-- part by part
names_are : (f : InstructionFormat)
    → names_in (format_fields f) ≡ codes "opcode" ∷ (names_in (value_fields f.has_value_list f.num_value_operands) ++ (names_in (block_fields f.num_block_operands) ++ (names_in (raw_block_fields f.num_raw_block_operands) ++ names_in (map imm_field f.imm_fields))))
names_are f =
    let first = λ (x : List ℕ × List ℕ). x.0 in
    let vs = value_fields f.has_value_list f.num_value_operands in
    let bs = block_fields f.num_block_operands in
    let rs = raw_block_fields f.num_raw_block_operands in
    let is = map imm_field f.imm_fields in
    ap (λ xs. codes "opcode" ∷ xs)
    (map-append first vs (bs ++ (rs ++ is)) ∙ ap (λ xs. names_in vs ++ xs) (map-append first bs (rs ++ is) ∙ ap (λ xs. names_in bs ++ xs) (map-append first rs is)))

-- they are those that rows tell
names_told : (f : InstructionFormat) → f.num_raw_block_operands ≤ 1 → names_in (format_fields f) ≡ field_names f
names_told f le =
    let V = option_to_list (values_field f) in
    let B = option_to_list (blocks_field f) in
    let R = option_to_list (raw_block_field f) in
    let M = map (λ (i : ImmField). i.member) f.imm_fields in
    names_are f
    ∙ ap (λ xs. codes "opcode" ∷ xs)
    (ap₂ (λ x y. x ++ y) (values_names f.has_value_list f.num_value_operands) (ap₂ (λ x y. x ++ y) (blocks_names f.num_block_operands) (ap₂ (λ x y. x ++ y) (raw_names f.num_raw_block_operands le) (members f.imm_fields)))
    ∙ sym (append_assoc (V ++ B) R M ∙ append_assoc V B (R ++ M)))

-- ---- each is an identifier

values_named : (has_list : Bool) (n : ℕ) → AllByRecursion IsIdentifier (names_in (value_fields has_list n))
values_named true n = (record { begins = refl; word = refl; unused = refl; free = refl }, tt)
values_named false zero = tt
values_named false (suc zero) = (record { begins = refl; word = refl; unused = refl; free = refl }, tt)
values_named false (suc (suc n)) = (record { begins = refl; word = refl; unused = refl; free = refl }, tt)

blocks_named : (n : ℕ) → AllByRecursion IsIdentifier (names_in (block_fields n))
blocks_named zero = tt
blocks_named (suc zero) = (record { begins = refl; word = refl; unused = refl; free = refl }, tt)
blocks_named (suc (suc n)) = (record { begins = refl; word = refl; unused = refl; free = refl }, tt)

raw_named : (n : ℕ) → AllByRecursion IsIdentifier (names_in (raw_block_fields n))
raw_named zero = tt
raw_named (suc n) = (record { begins = refl; word = refl; unused = refl; free = refl }, tt)

members_named : (fields : List ImmField) → AllByRecursion IsIdentifier (flat_map imm_names fields) → AllByRecursion IsIdentifier (names_in (map imm_field fields))
members_named [] h = tt
members_named (i ∷ is) h = (h.0, members_named is (all_back IsIdentifier (imm_names i) (flat_map imm_names is) h))

fields_named : (f : InstructionFormat) → AllByRecursion IsIdentifier (flat_map imm_names f.imm_fields) → AllByRecursion IsIdentifier (names_in (format_fields f))
fields_named f h =
    subst (AllByRecursion IsIdentifier) (sym (names_are f)) (
      record { begins = refl; word = refl; unused = refl; free = refl },
      all_append IsIdentifier _ _ (values_named f.has_value_list f.num_value_operands)
          (all_append IsIdentifier _ _ (blocks_named f.num_block_operands) (all_append IsIdentifier _ _ (raw_named f.num_raw_block_operands) (members_named f.imm_fields h))),
    )

-- ---- each has a known type

module _ (t : Tables) (s : AreSupported t) (plain : ArePlain t) where
  values_known : (f : InstructionFormat) → Has t.formats f → (n : ℕ) → f.num_value_operands ≡ n → (b : Bool) → f.has_value_list ≡ b
      → AllByRecursion (IsType t) (types_in (value_fields b n))
  values_known f k n e true l = (list_type t, tt)
  values_known f k zero e false l = tt
  values_known f k (suc zero) e false l = (value_type t, tt)
  values_known f k (suc (suc n)) e false l =
      let o = (format_at [] t.formats f s.formats k).1 in
      (values_type t (suc (suc n)) (value_size_there t f n k l e (λ none. o.controlled l (omega (arith, e)) none)), tt)

  blocks_known : (f : InstructionFormat) → Has t.formats f → (n : ℕ) → f.num_block_operands ≡ n → AllByRecursion (IsType t) (types_in (block_fields n))
  blocks_known f k zero e = tt
  blocks_known f k (suc zero) e = (call_type t, tt)
  blocks_known f k (suc (suc n)) e = (blocks_type t (suc (suc n)) (block_size_there t f n k e), tt)

  raws_known : (n : ℕ) → AllByRecursion (IsType t) (types_in (raw_block_fields n))
  raws_known zero = tt
  raws_known (suc n) = (block_type t, tt)

  imms_known : (f : InstructionFormat) → Has t.formats f → (fs : List ImmField) → ((i : ImmField) → Has fs i → Has f.imm_fields i)
      → AllByRecursion (IsType t) (types_in (map imm_field fs))
  imms_known f k [] all = tt
  imms_known f k (i ∷ is) all =
      (imm_type t i (has_flat (λ (g : InstructionFormat). g.imm_fields) t.formats f i k (all i (inl refl))), imms_known f k is (λ x j. all x (inr j)))

  fields_known : (f : InstructionFormat) → Has t.formats f → AllByRecursion (IsType t) (types_in (format_fields f))
  fields_known f k =
      subst (AllByRecursion (IsType t)) (sym (field_types_are f)) (
        opcode_type t,
        all_append (IsType t) _ _ (values_known f k f.num_value_operands refl f.has_value_list refl)
            (all_append (IsType t) _ _ (blocks_known f k f.num_block_operands refl) (all_append (IsType t) _ _ (raws_known f.num_raw_block_operands) (imms_known f k f.imm_fields (λ i j. j)))),
      )

  -- ---- formats as variants

  format_sound : (f : InstructionFormat) → Has t.formats f → IsSoundVariant (E t) (format_variant f)
  format_sound f k =
      let o = (format_at [] t.formats f s.formats k).1 in
      let told = names_told f o.raw_blocks in
      let few = (all_has IsShortFormat t.formats f plain.formats k).fields in
      let a = length-map (format_fields f) (λ (x : List ℕ × List ℕ). x.0) in
      let b = length-map (format_fields f) (λ (x : List ℕ × List ℕ). x.1) in
      let c = ap length told in
      record {
        named = o.names.0;
        fields = fields_named f o.names.1;
        apart = subst AreApart (sym told) o.fields;
        known = fields_known f k;
        few = omega (arith, few, a, b, c);
      }

  formats_sound : (fs : List InstructionFormat) → ((f : InstructionFormat) → Has fs f → Has t.formats f)
      → AllByRecursion (IsSoundVariant (E t)) (map format_variant fs)
  formats_sound [] all = tt
  formats_sound (f ∷ fs) all = (format_sound f (all f (inl refl)), formats_sound fs (λ x k. all x (inr k)))

  format_variants : (fs : List InstructionFormat) → variant_names (map format_variant fs) ≡ own_names fs
  format_variants [] = refl
  format_variants (f ∷ fs) = ap (λ xs. f.name ∷ xs) (format_variants fs)

  pub data_sound : AllByRecursion (IsSound (E t)) (data_defs t.formats t.instructions)
  data_sound = (
    (type_name (codes "Block") (record { begins = refl; word = refl; unused = refl; free = refl }) refl refl refl refl, (tt, tt)),
    (
      (
        type_name (codes "Opcode") (record { begins = refl; word = refl; unused = refl; free = refl }) refl refl refl refl,
        (camels_sound t s plain t.instructions (λ i k. k), subst AreApart (sym (camel_variants t s plain t.instructions)) (camels_apart t.formats [] t.instructions s.instructions).0),
      ),
      (
        (
          type_name (codes "InstructionData") (record { begins = refl; word = refl; unused = refl; free = refl }) refl refl refl refl,
          (formats_sound t.formats (λ f k. k), subst AreApart (sym (format_variants t.formats)) (formats_apart [] t.formats s.formats).0),
        ),
        tt,
      ),
    ),
  )
