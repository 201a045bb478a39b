-- What is known of the rows of supported tables.
use Rattle.std.proofs.Common.{◌≡◌, ◌≢◌, ◌⊎◌, inl, inr, ⊎_elim, ℕ, zero, suc, ◌<◌, ◌≤◌, List, [], ◌∷◌, ◌++◌, length, map, Bool, true, false, Some, None, refl}
use Rattle.std.proofs.Common.{sym, ap, ◌∙◌, subst, arith}
use Rattle.std.specs.Prelude.{IsTrue, IsSomeAnd, slice_get, codes, ◌||◌, ◌&&◌}
use Rattle.std.specs.List.{AllByRecursion}
use Rattle.std.specs.Str.{bytes_eq}
use Rattle.std.proofs.lemmas.Bool.{or_parts}
use Rattle.std.proofs.lemmas.Bool.Decides.{eqb_tells, leb_tells}
use Rattle.isle_spelling.specs.Identifier.{IsIdentifier}
use Rattle.isle_meta.specs.declared.clif.ImmField.{ImmField}
use Rattle.isle_meta.specs.declared.clif.Instruction.{Instruction}
use Rattle.isle_meta.specs.declared.clif.InstructionFormat.{InstructionFormat}
use Rattle.isle_meta.specs.declared.shapes.Shape.{Shape}
use Rattle.isle_meta.specs.declared.tables.Tables.{Tables}
use Rattle.isle_meta.specs.FormatRow as format
use Rattle.isle_meta.specs.FormatRow.{format_names, field_names, all_fields}
use Rattle.isle_meta.specs.InstructionRow as instruction
use Rattle.isle_meta.specs.InstructionRow.{operand_names, count_of, is_value, is_varargs, is_block, is_raw_block, imm_types, types_differ}
use Rattle.isle_meta.specs.InstructionRow.{takes_type_to_optimize, takes_type_to_lower}
use Rattle.isle_meta.specs.Immediates.{type_of, are_misshapen}
use Rattle.isle_meta.specs.ClifRows.{FormatBreaks, InstructionBreaks}
use Rattle.isle_meta.specs.FirstRow.{shapes, IsFirstRow}
use Rattle.isle_meta.specs.TableNames.{is_among, repeats_after, repeats, IsImmediateType, IsTermName, is_reserved_term}
use Rattle.isle_meta.proofs.FirstRows.{BreaksNone, none_broken}
use Rattle.isle_table_check.specs.SupportedTables as tables
use Rattle.isle_prelude_accepted.proofs.Has.{Has, AreApart, has_front, has_back, own_bytes}

-- ---- what can't fail

stable_test : (b c : Bool) → ((b ≡ c → ⊥) → ⊥) → b ≡ c
stable_test true true h = refl
stable_test false false h = refl
stable_test true false h = absurd (h (λ e. absurd cc))
stable_test false true h = absurd (h (λ e. absurd cc))

stable_identifier : (name : List ℕ) → ((IsIdentifier name → ⊥) → ⊥) → IsIdentifier name
stable_identifier name h = record {
  begins = stable_test _ true (λ n. h (λ i. n i.begins));
  word = stable_test _ true (λ n. h (λ i. n i.word));
  unused = stable_test _ false (λ n. h (λ i. n i.unused));
  free = stable_test _ false (λ n. h (λ i. n i.free));
}

stable_type : (name : List ℕ) → ((IsImmediateType name → ⊥) → ⊥) → IsImmediateType name
stable_type name h = record {
  declared = record {
    name = record {
      identifier = stable_identifier name (λ n. h (λ i. n i.declared.name.identifier));
      no_local = stable_test _ false (λ n. h (λ i. n i.declared.name.no_local));
      no_arg = stable_test _ false (λ n. h (λ i. n i.declared.name.no_arg));
    };
    free = stable_test _ false (λ n. h (λ i. n i.declared.free));
    generic = stable_test _ false (λ n. h (λ i. n i.declared.generic));
  };
  own = stable_test _ false (λ n. h (λ i. n i.own));
  free = stable_test _ false (λ n. h (λ i. n i.free));
  no_values = stable_test _ false (λ n. h (λ i. n i.no_values));
  no_blocks = stable_test _ false (λ n. h (λ i. n i.no_blocks));
}

stable_term : (name : List ℕ) → ((IsTermName name → ⊥) → ⊥) → IsTermName name
stable_term name h = record {
  begins = stable_test _ true (λ n. h (λ i. n i.begins));
  word = stable_test _ true (λ n. h (λ i. n i.word));
  free = stable_test _ false (λ n. h (λ i. n i.free));
}

stable_all : {A : Type 0} (P : A → Type 0) → ((x : A) → ((P x → ⊥) → ⊥) → P x) → (xs : List A) → ((AllByRecursion P xs → ⊥) → ⊥) → AllByRecursion P xs
stable_all P each [] h = tt
stable_all P each (x ∷ xs) h = (each x (λ n. h (λ a. n a.0)), stable_all P each xs (λ n. h (λ a. n a.1)))

stable_number : (a b : ℕ) → ((a ≢ b) → ⊥) → a ≡ b
stable_number a b h = ⊎_elim (λ e. e.1) (λ e. absurd (h e.1)) (eqb_tells a b)

stable_false : (b : Bool) → (IsTrue b → ⊥) → b ≡ false
stable_false true h = absurd (h refl)
stable_false false h = refl

-- ---- names that repeat

any_there : (name : List ℕ) (names : List (List ℕ)) → Has names name → is_among name names ≡ true
any_there name [] i = absurd i
any_there name (x ∷ xs) (inl e) = ap (λ b. b || is_among name xs) (ap (bytes_eq name) e ∙ own_bytes name)
any_there name (x ∷ xs) (inr i) = by (bytes_eq name x) (any_there name xs i)
  where
    by : (b : Bool) → is_among name xs ≡ true → (b || is_among name xs) ≡ true
    by true k = refl
    by false k = k

pub none_among : (name : List ℕ) (names : List (List ℕ)) → is_among name names ≡ false → Has names name → ⊥
none_among name names e i = absurd (let both : true ≡ false = sym (any_there name names i) ∙ e in cc)

apart_after : (earlier names : List (List ℕ)) → repeats_after earlier names ≡ false → AreApart names × ((x : List ℕ) → Has names x → Has earlier x → ⊥)
apart_after earlier [] h = (tt, λ x i j. i)
apart_after earlier (name ∷ names) h =
    let parts = or_parts (is_among name earlier) (repeats_after (earlier ++ name ∷ []) names) h in
    let rest = apart_after (earlier ++ name ∷ []) names parts.1 in
    (((λ i. rest.1 name i (has_back earlier (name ∷ []) name (inl refl))), rest.0), λ x i j. by rest.1 parts.0 x i j)
  where
    by : ((y : List ℕ) → Has names y → Has (earlier ++ name ∷ []) y → ⊥) → is_among name earlier ≡ false → (x : List ℕ) → (name ≡ x) ⊎ Has names x
        → Has earlier x → ⊥
    by rest first x (inl e) j = none_among name earlier first (subst (Has earlier) (sym e) j)
    by rest first x (inr i) j = rest x i (has_front earlier (name ∷ []) x j)

pub none_repeated : (names : List (List ℕ)) → repeats names ≡ false → AreApart names
none_repeated names h = (apart_after [] names h).0

-- ---- formats

-- a format breaks no shape, after those before it
pub record IsSupportedFormat (before : List InstructionFormat) (f : InstructionFormat) : Type 0 where
  pub names : AllByRecursion IsIdentifier (format_names f)
  pub new : Has (format.own_names before) f.name → ⊥
  pub fields : AreApart (field_names f)
  pub types : AllByRecursion IsImmediateType (map type_of f.imm_fields)
  pub blocks : f.num_block_operands ≤ 2
  pub raw_blocks : f.num_raw_block_operands ≤ 1
  pub shaped : are_misshapen (all_fields before) f.imm_fields ≡ false
  pub controlled : f.has_value_list ≡ false → 1 < f.num_value_operands → f.typevar_operand ≡ None → ⊥

at_most : (n m : ℕ) → (m < n → ⊥) → n ≤ m
at_most n m h = ⊎_elim (λ e. e.1) (λ e. absurd (h e.1)) (leb_tells n m)

format_sound : (before : List InstructionFormat) (f : InstructionFormat) → BreaksNone (FormatBreaks before f) shapes → IsSupportedFormat before f
format_sound before f h =
    let repeated = or_parts (is_among f.name (format.own_names before)) (repeats (field_names f)) (stable_false _ h.1.0) in
    record {
      names = stable_all IsIdentifier stable_identifier (format_names f) h.0;
      new = none_among f.name (format.own_names before) repeated.0;
      fields = none_repeated (field_names f) repeated.1;
      types = stable_all IsImmediateType stable_type (map type_of f.imm_fields) h.1.1.0;
      blocks = at_most f.num_block_operands 2 h.1.1.1.1.1.1.0;
      raw_blocks = at_most f.num_raw_block_operands 1 h.1.1.1.1.1.1.1.0;
      shaped = stable_false _ h.1.1.1.1.1.1.1.1.1.1.0;
      controlled = λ list many none. h.1.1.1.1.1.1.1.1.1.1.1.1.0 (list, many, none);
    }

-- so of all
unfoldable pub AreSupportedFormats : List InstructionFormat → List InstructionFormat → Type 0
AreSupportedFormats before [] = Unit {0}
AreSupportedFormats before (f ∷ fs) = IsSupportedFormat before f × AreSupportedFormats (before ++ f ∷ []) fs

-- ---- instructions

-- an instruction fits its format
pub record Fits (f : InstructionFormat) (i : Instruction) : Type 0 where
  pub no_ty : (takes_type_to_optimize f i || takes_type_to_lower f i) ≡ true → Has (operand_names i) (codes "ty") → ⊥
  pub values : f.has_value_list ≡ false → count_of is_value i ≡ f.num_value_operands
  pub no_varargs : f.has_value_list ≡ false → count_of is_varargs i ≡ 0
  pub blocks : count_of is_block i ≡ f.num_block_operands
  pub raw_blocks : count_of is_raw_block i ≡ f.num_raw_block_operands
  pub many_imms : length (imm_types i) ≡ length f.imm_fields
  pub imms : types_differ (imm_types i) (map (λ (field : ImmField). field.rust_type) f.imm_fields) ≡ false

-- an instruction breaks no shape, after those before it
pub record IsSupportedInstruction (formats : List InstructionFormat) (before : List Instruction) (i : Instruction) : Type 0 where
  pub term : IsTermName i.name
  pub camel : IsIdentifier i.camel_name
  pub operands : AllByRecursion IsIdentifier (operand_names i)
  pub new : Has (instruction.own_names before) i.name → ⊥
  pub new_camel : Has (instruction.camel_names before) i.camel_name → ⊥
  pub apart : AreApart (operand_names i)
  pub free : is_reserved_term i.name ≡ false
  pub format : InstructionFormat
  pub found : slice_get formats i.format ≡ Some format
  pub fits : Fits format i

found_below : {A : Type 0} (xs : List A) (n : ℕ) → (length xs ≤ n → ⊥) → (x : A) × (slice_get xs n ≡ Some x)
found_below [] n h = absurd (h (omega arith))
found_below (x ∷ xs) zero h = (x, refl)
found_below (x ∷ xs) (suc n) h = found_below xs n (λ le. h (omega (arith, le)))

none_above : (n : ℕ) → (0 < n → ⊥) → n ≡ 0
none_above zero h = refl
none_above (suc n) h = absurd (h (omega arith))

instruction_sound : (formats : List InstructionFormat) (before : List Instruction) (i : Instruction)
    → BreaksNone (InstructionBreaks formats before i) shapes
    → IsSupportedInstruction formats before i
instruction_sound formats before i h =
    let f = found_below formats i.format h.1.1.1.1.0 in
    let of = λ (P : InstructionFormat → Type 0) (k : IsSomeAnd (slice_get formats i.format) P → ⊥) (p : P f.0). k (subst (λ o. IsSomeAnd o P) (sym f.1) p) in
    let tests =
    or_parts (is_among i.name (instruction.own_names before) || is_among i.camel_name (instruction.camel_names before)) (repeats (operand_names i))
    (stable_false _ h.1.0) in
    let own = or_parts (is_among i.name (instruction.own_names before)) (is_among i.camel_name (instruction.camel_names before)) tests.0 in
    let names : (IsTermName i.name × IsIdentifier i.camel_name × AllByRecursion IsIdentifier (operand_names i) → ⊥) → ⊥ = h.0 in
    record {
      term = stable_term i.name (λ n. names (λ k. n k.0));
      camel = stable_identifier i.camel_name (λ n. names (λ k. n k.1));
      operands = stable_all IsIdentifier stable_identifier (operand_names i) (λ n. names (λ k. n k.2));
      new = none_among i.name (instruction.own_names before) own.0;
      new_camel = none_among i.camel_name (instruction.camel_names before) own.1;
      apart = none_repeated (operand_names i) tests.1;
      free = stable_false _ h.1.1.0;
      format = f.0;
      found = f.1;
      fits = record {
        no_ty = λ takes there. of (λ x. instruction.TyOperand x i) h.1.1.1.0 (both _ _ takes (any_there (codes "ty") (operand_names i) there));
        values = λ list. stable_number _ _ (λ n. of (λ x. instruction.ValueCount x i) h.1.1.1.1.1.0 (list, inl n));
        no_varargs = λ list. none_above _ (λ lt. of (λ x. instruction.ValueCount x i) h.1.1.1.1.1.0 (list, inr lt));
        blocks = stable_number _ _ (of (λ x. instruction.BlockCount x i) h.1.1.1.1.1.1.0);
        raw_blocks = stable_number _ _ (of (λ x. instruction.RawBlockCount x i) h.1.1.1.1.1.1.1.0);
        many_imms = stable_number _ _ (of (λ x. instruction.ImmCount x i) h.1.1.1.1.1.1.1.1.0);
        imms = stable_false _ (of (λ x. instruction.ImmType x i) h.1.1.1.1.1.1.1.1.1.0);
      };
    }
  where
    both : (a b : Bool) → a ≡ true → b ≡ true → (a && b) ≡ true
    both true b e k = k
    both false b e k = absurd cc

-- so of all
unfoldable pub AreSupportedInstructions : List InstructionFormat → List Instruction → List Instruction → Type 0
AreSupportedInstructions formats before [] = Unit {0}
AreSupportedInstructions formats before (i ∷ is) = IsSupportedInstruction formats before i × AreSupportedInstructions formats (before ++ i ∷ []) is

-- ---- tables

formats_sound : (before fs : List InstructionFormat) → IsFirstRow (λ (f : InstructionFormat). f.name) FormatBreaks before fs None → AreSupportedFormats before fs
unfolding AreSupportedFormats
formats_sound before [] h = tt
formats_sound before (f ∷ fs) (inl h) = absurd (let e : None ≡ Some _ = h.2 in cc)
formats_sound before (f ∷ fs) (inr h) = (format_sound before f (none_broken (FormatBreaks before f) shapes h.0), formats_sound (before ++ f ∷ []) fs h.1)

instructions_sound : (formats : List InstructionFormat) (before is : List Instruction)
    → IsFirstRow (λ (i : Instruction). i.name) (InstructionBreaks formats) before is None → AreSupportedInstructions formats before is
unfolding AreSupportedInstructions
instructions_sound formats before [] h = tt
instructions_sound formats before (i ∷ is) (inl h) = absurd (let e : None ≡ Some _ = h.2 in cc)
instructions_sound formats before (i ∷ is) (inr h) =
    (instruction_sound formats before i (none_broken (InstructionBreaks formats before i) shapes h.0), instructions_sound formats (before ++ i ∷ []) is h.1)

-- the rows of formats and of instructions are supported
pub record AreSupported (t : Tables) : Type 0 where
  pub formats : AreSupportedFormats [] t.formats
  pub instructions : AreSupportedInstructions t.formats [] t.instructions

-- supported tables have such rows
pub tables_supported : (t : Tables) → tables.AreSupported t → AreSupported t
tables_supported t h =
    record {
      formats = formats_sound [] t.formats h.0;
      instructions = instructions_sound t.formats [] t.instructions h.1.0;
    }
