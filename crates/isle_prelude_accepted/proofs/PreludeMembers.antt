-- What stands among the definitions of a prelude.
use Rattle.std.proofs.Common.{◌≡◌, ◌⊎◌, inl, inr, ℕ, suc, List, [], ◌++◌, map, Bool, true, false, cond, Option, Some, None, refl, ap, ap₂, ◌∙◌, subst, arith}
use Rattle.std.specs.Prelude.{flat_map, filter_map, codes, ◌==◌}
use Rattle.std.proofs.lemmas.Bool.Decides.{nat_tests}
use Rattle.std.proofs.lemmas.Option.{same_Some}
use Rattle.isle_ast.specs.Tree.{Def, TypeDecl, Decl}
use Rattle.isle_ast.specs.declared.tree.AstBody.{AstBody}
use Rattle.isle_declarations.specs.DeclaredTypes.{DeclaredType, type_of, types}
use Rattle.isle_declarations.specs.Heads.{terms_of}
use Rattle.isle_declarations.specs.Signatures.{Signature, signature_of, signatures}
use Rattle.isle_declarations.specs.declared.terms.Origin.TheVariants as origin
use Rattle.isle_types.specs.Builtins.{builtin_names}
use Rattle.isle_types.specs.TypeNames.{declared_names, type_names}
use Rattle.isle_meta.specs.declared.clif.ImmField.{ImmField}
use Rattle.isle_meta.specs.declared.clif.Instruction.{Instruction}
use Rattle.isle_meta.specs.declared.clif.InstructionFormat.{InstructionFormat}
use Rattle.isle_meta.specs.declared.tables.Tables.{Tables}
use Rattle.isle_meta.specs.FormatRow.{all_fields}
use Rattle.isle_meta.specs.Immediates.{type_of as imm_type_of}
use Rattle.isle_prelude.specs.Arrays.{sized, value_array_size, value_array_sizes, block_array_sizes, value_array_defs, block_array_defs, arrays, above_one}
use Rattle.isle_prelude.specs.ClifFiles.{opt_defs}
use Rattle.isle_prelude.specs.CommonDefs.{imm_enum, imm_defs, common_defs}
use Rattle.isle_prelude.specs.Declaring.{primitive, extern_enum}
use Rattle.isle_prelude.specs.Immediates.{plain_types, enum_types}
use Rattle.isle_prelude.specs.InstructionData.{data_defs}
use Rattle.isle_prelude.specs.NumberedNames.{value_array_type, block_array_type}
use Rattle.isle_prelude.specs.WrittenPrelude.{shared_types, opt_terms, ctor_defs, ctor_sizes, written_defs}
use Rattle.isle_writing.specs.Erased.{no_place}
use Rattle.isle_prelude_accepted.specs.Accepted.{prelude_defs}
use Rattle.isle_prelude_accepted.proofs.Has.{Has, has_front, has_back, has_map, has_flat, has_found, has_source}
use Rattle.isle_prelude_accepted.proofs.AscendingLists.{numbers_has, numbers_from}
use Rattle.isle_prelude_accepted.proofs.PreludeParts.{row_defs}
use Rattle.isle_prelude_accepted.proofs.PreludeTerms.{above_from}
use Rattle.isle_prelude_accepted.proofs.TableFacts.{imm_type_there}

-- ---- sizes

sized_from : (o : Option ℕ) (has_list is_one : Bool) (m n : ℕ) → sized o has_list is_one m ≡ Some n → m ≡ n
sized_from None has_list is_one m n e = absurd cc
sized_from (Some v) true is_one m n e = absurd cc
sized_from (Some v) false true m n e = absurd cc
sized_from (Some v) false false m n e = same_Some m n e

two_not_one : (n : ℕ) → (suc (suc n) == 1) ≡ false
two_not_one n = grind (arith, nat_tests)

two_not_zero : (n : ℕ) → (suc (suc n) == 0) ≡ false
two_not_zero n = grind (arith, nat_tests)

above_two : (n : ℕ) → above_one (suc (suc n)) ≡ Some (suc (suc n))
above_two n = ap₂ (λ (a b : Bool). cond a None (cond b None (Some (suc (suc n))))) (two_not_zero n) (two_not_one n)

-- ---- definitions

module _ (t : Tables) where
  -- the definitions
  abbrev pub E : List Def
  E = prelude_defs t

  -- the immediates
  abbrev pub fields : List ImmField
  fields = all_fields t.formats

  -- what comes of all instructions
  abbrev rows : List Def
  rows = flat_map (row_defs t) t.instructions

  -- the types of blocks, opcodes and instructions' data
  abbrev kinds : List Def
  kinds = data_defs t.formats t.instructions

  written : (d : Def) → Has (written_defs t) d → Has E d
  written d i = has_front (written_defs t) (opt_defs t) d i

  generated : (d : Def) → Has (opt_defs t) d → Has E d
  generated d i = has_back (written_defs t) (opt_defs t) d i

  pub in_shared : (d : Def) → Has shared_types d → Has E d
  in_shared d i = written d (has_front shared_types (opt_terms ++ flat_map ctor_defs (ctor_sizes t)) d i)

  pub in_terms : (d : Def) → Has opt_terms d → Has E d
  in_terms d i = written d (has_back shared_types (opt_terms ++ flat_map ctor_defs (ctor_sizes t)) d (has_front opt_terms (flat_map ctor_defs (ctor_sizes t)) d i))

  pub in_ctors : (n : ℕ) (d : Def) → Has (ctor_sizes t) n → Has (ctor_defs n) d → Has E d
  in_ctors n d k i =
      written d (has_back shared_types (opt_terms ++ flat_map ctor_defs (ctor_sizes t)) d (has_back opt_terms (flat_map ctor_defs (ctor_sizes t)) d (has_flat ctor_defs (ctor_sizes t) n d k i)))

  common : (d : Def) → Has (common_defs t) d → Has E d
  common d i = generated d (has_front (common_defs t) rows d i)

  imms : (d : Def) → Has (imm_defs fields) d → Has E d
  imms d i = common d (has_front (imm_defs fields) (arrays t.formats ++ kinds) d i)

  pub in_plain : (name : List ℕ) → Has (plain_types fields) name → Has E (primitive name)
  in_plain name i = imms (primitive name) (has_front (map primitive (plain_types fields)) _ (primitive name) (has_map primitive (plain_types fields) name i))

  pub in_enums : (name : List ℕ) → Has (enum_types fields) name → Has E (imm_enum fields name)
  in_enums name i =
      imms (imm_enum fields name)
      (has_back (map primitive (plain_types fields)) _ (imm_enum fields name) (inr (has_map (imm_enum fields) (enum_types fields) name i)))

  behind : (d : Def) → Has (arrays t.formats ++ kinds) d → Has E d
  behind d i = common d (has_back (imm_defs fields) (arrays t.formats ++ kinds) d i)

  pub in_values : (n : ℕ) (d : Def) → Has (value_array_sizes t.formats) n → Has (value_array_defs n) d → Has E d
  in_values n d k i =
      behind d (has_front (arrays t.formats) kinds d (has_front (flat_map value_array_defs (value_array_sizes t.formats)) _ d (has_flat value_array_defs (value_array_sizes t.formats) n d k i)))

  pub in_blocks : (n : ℕ) (d : Def) → Has (block_array_sizes t.formats) n → Has (block_array_defs n) d → Has E d
  in_blocks n d k i =
      behind d (has_front (arrays t.formats) kinds d (has_back (flat_map value_array_defs (value_array_sizes t.formats)) _ d (has_flat block_array_defs (block_array_sizes t.formats) n d k i)))

  pub in_data : (d : Def) → Has (data_defs t.formats t.instructions) d → Has E d
  in_data d i = behind d (has_back (arrays t.formats) kinds d i)

  pub in_rows : (i : Instruction) (d : Def) → Has t.instructions i → Has (row_defs t i) d → Has E d
  in_rows i d k j = generated d (has_back (common_defs t) rows d (has_flat (row_defs t) t.instructions i d k j))

  -- ---- types

  -- the name of a type is one of the types
  abbrev pub IsType : List ℕ → Type 0
  IsType name = Has (type_names E) name

  type_there : (name : List ℕ) (x n : Bool) (body : AstBody) → Has E (TypeDecl name x n body no_place) → IsType name
  type_there name x n body i =
      has_back builtin_names (declared_names E) name
      (has_map (λ (y : DeclaredType). y.name) (types E) (record { name = name; body = body }) (has_found type_of E (TypeDecl name x n body no_place) _ i refl))

  shared_type : (name : List ℕ) → Has shared_types (primitive name) → IsType name
  shared_type name i = type_there name false false _ (in_shared (primitive name) i)

  pub type_type : IsType (codes "Type")
  type_type = shared_type (codes "Type") (inl refl)

  pub value_type : IsType (codes "Value")
  value_type = shared_type (codes "Value") (inr (inl refl))

  pub inst_type : IsType (codes "Inst")
  inst_type = shared_type (codes "Inst") (inr (inr (inl refl)))

  pub list_type : IsType (codes "ValueList")
  list_type = shared_type (codes "ValueList") (inr (inr (inr (inl refl))))

  pub slice_type : IsType (codes "ValueSlice")
  slice_type = shared_type (codes "ValueSlice") (inr (inr (inr (inr (inl refl)))))

  pub call_type : IsType (codes "BlockCall")
  call_type = shared_type (codes "BlockCall") (inr (inr (inr (inr (inr (inl refl))))))

  pub block_type : IsType (codes "Block")
  block_type = type_there (codes "Block") true false _ (in_data _ (inl refl))

  pub opcode_type : IsType (codes "Opcode")
  opcode_type = type_there (codes "Opcode") true false _ (in_data _ (inr (inl refl)))

  pub data_type : IsType (codes "InstructionData")
  data_type = type_there (codes "InstructionData") true false _ (in_data _ (inr (inr (inl refl))))

  pub values_type : (n : ℕ) → Has (value_array_sizes t.formats) n → IsType (value_array_type n)
  values_type n k = type_there (value_array_type n) true false _ (in_values n (extern_enum (value_array_type n) []) k (inl refl))

  pub blocks_type : (n : ℕ) → Has (block_array_sizes t.formats) n → IsType (block_array_type n)
  blocks_type n k = type_there (block_array_type n) true false _ (in_blocks n (extern_enum (block_array_type n) []) k (inl refl))

  pub imm_type : (i : ImmField) → Has fields i → IsType (imm_type_of i)
  imm_type i h = by (imm_type_there fields i h)
    where
      by : Has (plain_types fields) (imm_type_of i) ⊎ Has (enum_types fields) (imm_type_of i) → IsType (imm_type_of i)
      by (inl k) = type_there (imm_type_of i) false false _ (in_plain (imm_type_of i) k)
      by (inr k) = type_there (imm_type_of i) true false _ (in_enums (imm_type_of i) k)

  -- ---- declared terms

  pub term_there : (term : List ℕ) (pure multi partial recursive : Bool) (args : List (List ℕ)) (ret : List ℕ)
      → Has E (Decl term pure multi partial recursive args ret no_place) → Has (terms_of (signatures E)) term
  term_there term pure multi partial recursive args ret i =
      let s : Signature =
      record { term = term; pure = pure; multi = multi; partial = partial; recursive = recursive; args = args; ret = ret; pos = no_place; origin = origin.Declared } in
      has_map (λ (x : Signature). x.term) (signatures E) s (has_found signature_of E (Decl term pure multi partial recursive args ret no_place) s i refl)

  -- ---- sizes

  -- the size of a value array is that of a format
  pub value_size_from : (n : ℕ) → Has (value_array_sizes t.formats) n → (f : InstructionFormat) × Has t.formats f × (f.num_value_operands ≡ n)
  value_size_from n k =
      let r = has_source value_array_size t.formats n (numbers_from (filter_map value_array_size t.formats) n k) in
      (r.0, r.1, sized_from r.0.typevar_operand r.0.has_value_list (r.0.num_value_operands == 1) r.0.num_value_operands n r.2)

  pub block_size_from : (n : ℕ) → Has (block_array_sizes t.formats) n → (f : InstructionFormat) × Has t.formats f × (f.num_block_operands ≡ n)
  block_size_from n k =
      let r =
      has_source (λ (f : InstructionFormat). above_one f.num_block_operands) t.formats n
      (numbers_from (filter_map (λ (f : InstructionFormat). above_one f.num_block_operands) t.formats) n k) in
      (r.0, r.1, above_from r.0.num_block_operands n r.2)

  pub ctor_size_from : (n : ℕ) → Has (ctor_sizes t) n → Has (value_array_sizes t.formats) n
  ctor_size_from n k = let r = has_source above_one (value_array_sizes t.formats) n k in subst (Has (value_array_sizes t.formats)) (above_from r.0 n r.2) r.1

  -- several values that stand in no list are in an array
  pub value_size_there : (f : InstructionFormat) (n : ℕ) → Has t.formats f → f.has_value_list ≡ false → f.num_value_operands ≡ suc (suc n)
      → (f.typevar_operand ≡ None → ⊥) → Has (value_array_sizes t.formats) (suc (suc n))
  value_size_there f n i list many typed =
      numbers_has (filter_map value_array_size t.formats) (suc (suc n)) (has_found value_array_size t.formats f (suc (suc n)) i (by f.typevar_operand typed))
    where
      size : (o : Option ℕ) → sized o f.has_value_list (f.num_value_operands == 1) f.num_value_operands ≡ sized o false (suc (suc n) == 1) (suc (suc n))
      size o = ap₂ (λ b m. sized o b (m == 1) m) list many

      by : (o : Option ℕ) → (o ≡ None → ⊥) → sized o f.has_value_list (f.num_value_operands == 1) f.num_value_operands ≡ Some (suc (suc n))
      by None k = absurd (k refl)
      by (Some v) k = size (Some v) ∙ ap (λ b. sized (Some v) false b (suc (suc n))) (two_not_one n)

  pub ctor_size_there : (n : ℕ) → Has (value_array_sizes t.formats) (suc (suc n)) → Has (ctor_sizes t) (suc (suc n))
  ctor_size_there n i = has_found above_one (value_array_sizes t.formats) (suc (suc n)) (suc (suc n)) i (above_two n)

  pub block_size_there : (f : InstructionFormat) (n : ℕ) → Has t.formats f → f.num_block_operands ≡ suc (suc n) → Has (block_array_sizes t.formats) (suc (suc n))
  block_size_there f n i many =
      numbers_has (filter_map (λ (g : InstructionFormat). above_one g.num_block_operands) t.formats) (suc (suc n))
      (has_found (λ (g : InstructionFormat). above_one g.num_block_operands) t.formats f (suc (suc n)) i (ap above_one many ∙ above_two n))
