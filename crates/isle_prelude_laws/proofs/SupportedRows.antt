-- What supported tables say of an instruction and its format.
use Rattle.std.proofs.Common.{◌≡◌, ℕ, ◌<◌, List, [], length, false, inl, Some, None, refl, sym, ◌∙◌, subst, arith}
use Rattle.std.specs.Prelude.{Contains, IsSomeAnd, filter, slice_get}
use Rattle.std.proofs.lemmas.List.{length-map}
use Rattle.std.proofs.lemmas.List.Sums.{length-filter}
use Rattle.isle_meta.specs.InstructionRow as instruction
use Rattle.isle_meta.specs.InstructionRow.{is_value, is_block, count_of}
use Rattle.isle_meta.specs.ClifRows.{FormatBreaks, InstructionBreaks}
use Rattle.isle_meta.specs.FirstRow.{shapes}
use Rattle.isle_meta.specs.declared.clif.ClifOperand.{ClifOperand}
use Rattle.isle_meta.specs.declared.clif.Instruction.{Instruction}
use Rattle.isle_meta.specs.declared.clif.InstructionFormat.{InstructionFormat}
use Rattle.isle_meta.specs.declared.clif.OperandClass.{OperandClass}
use Rattle.isle_meta.specs.declared.shapes.Shape.{Shape}
use Rattle.isle_meta.specs.declared.shapes.Shape.TheVariants.{ValueCount, BlockCount, NoTypevar}
use Rattle.isle_meta.specs.declared.tables.Tables.{Tables}
use Rattle.isle_prelude.specs.Operands.{names_of}
use Rattle.isle_meta.proofs.FirstRows.{not_broken, row_there}
use Rattle.isle_table_check.specs.SupportedTables.{AreSupported}

-- ---- what is supported

of_format : (fs : List InstructionFormat) (i : Instruction) (f : InstructionFormat) (P : InstructionFormat → Type 0) → slice_get fs i.format ≡ Some f
    → P f → IsSomeAnd (slice_get fs i.format) P
of_format fs i f P h p = subst (λ o. IsSomeAnd o P) (sym h) p

equal_or : (a b : ℕ) → ((a ≡ b → ⊥) → ⊥) → a ≡ b
equal_or a b h = grind (arith, h)

names_counted : (is : OperandClass → _) (i : Instruction) → length (names_of is i) ≡ count_of is i
names_counted is i = length-map (filter (λ (o : ClifOperand). is o.class) i.operands_in) (λ (o : ClifOperand). o.name) ∙ length-filter (λ (o : ClifOperand). is o.class) i.operands_in

module _ (t : Tables) (supported : AreSupported t) (i : Instruction) (f : InstructionFormat) (among : Contains t.instructions i) (is : slice_get t.formats i.format ≡ Some f) (listless : f.has_value_list ≡ false) where
  own_row : (shape : Shape) → Contains shapes shape → (earlier : List Instruction) × (InstructionBreaks t.formats earlier i shape → ⊥)
  own_row shape s =
      let r = row_there (λ (j : Instruction). j.name) (InstructionBreaks t.formats) [] t.instructions i supported.1.0 among in
      (r.0, not_broken (InstructionBreaks t.formats r.0 i) shapes shape r.1 s)

  -- as many values as the format's
  pub values_counted : length (names_of is_value i) ≡ f.num_value_operands
  values_counted =
      let r = own_row ValueCount (5, omega arith, refl) in
      names_counted is_value i ∙ equal_or (count_of is_value i) f.num_value_operands (λ differ. r.1 (of_format t.formats i f (λ g. instruction.ValueCount g i) is (listless, inl differ)))

  -- as many blocks
  pub blocks_counted : length (names_of is_block i) ≡ f.num_block_operands
  blocks_counted =
      let r = own_row BlockCount (6, omega arith, refl) in
      names_counted is_block i ∙ equal_or (count_of is_block i) f.num_block_operands (λ differ. r.1 (of_format t.formats i f (λ g. instruction.BlockCount g i) is differ))

  -- several values have a controlling type
  pub has_typevar : (formats : Contains t.formats f) → 1 < f.num_value_operands → f.typevar_operand ≡ None → ⊥
  has_typevar formats many none =
      let r = row_there (λ (g : InstructionFormat). g.name) FormatBreaks [] t.formats f supported.0 formats in
      not_broken (FormatBreaks r.0 f) shapes NoTypevar r.1 (12, omega arith, refl) (listless, many, none)
