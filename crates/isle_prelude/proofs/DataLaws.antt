-- The data of instructions as patterns and as expressions can be written.
use Rattle.std.proofs.Common.{ℕ, List, [], ◌∷◌, ◌++◌, length, map, Bool, true, false, codes}
use Rattle.std.specs.Prelude.{filter}
use Rattle.std.specs.List.{AllByRecursion}
use Rattle.isle_meta.specs.declared.clif.ClifOperand.{ClifOperand}
use Rattle.isle_meta.specs.declared.clif.Instruction.{Instruction}
use Rattle.isle_meta.specs.declared.clif.InstructionFormat.{InstructionFormat}
use Rattle.isle_meta.specs.declared.clif.OperandClass.{OperandClass}
use Rattle.isle_meta.specs.InstructionRow.{is_block, is_raw_block, is_value, is_varargs}
use Rattle.isle_spelling.specs.Identifier.{IsIdentifier}
use Rattle.isle_prelude.specs.ClifFiles.{block_patterns, counted_expr, counted_pattern, data_expr, data_pattern, data_term, list_pattern, opcode_term, operand_names, value_patterns, variable_exprs, variables}
use Rattle.isle_prelude.specs.DataParts.{expr_parts, pattern_parts}
use Rattle.isle_prelude.specs.NumberedNames.{block_array, unwrap_head, value_array, value_array_ctor}
use Rattle.isle_prelude.specs.Operands.{is_imm, names_of}
use Rattle.isle_prelude.proofs.AllLaws.{all_joined, all_kept, all_mapped}
use Rattle.isle_prelude.proofs.FixedNames.{IsHead, blocks_head, ctor_head, data_head, opcode_head, slice_head, unwrap_is_head, values_head}
use Rattle.isle_prelude.proofs.ManyLaws.{AllMake, AllTake, Makes, Takes, call_makes, call_on_makes, name_makes, names_make, over_takes, term_takes, variable_takes, variables_take}
use Rattle.isle_meta.proofs.NameWords.{identifier_named}

-- ---- an instruction's operands

-- the names of operands are identifiers
abbrev pub AreIdentifiers : List (List ℕ) → Type 0
AreIdentifiers = AllByRecursion IsIdentifier

kind_named : (is : OperandClass → Bool) (os : List ClifOperand) → AreIdentifiers (map (λ (o : ClifOperand). o.name) os)
    → AreIdentifiers (map (λ (o : ClifOperand). o.name) (filter (λ (o : ClifOperand). is o.class) os))
kind_named is os h =
    all_mapped (λ (o : ClifOperand). IsIdentifier o.name) IsIdentifier (λ (o : ClifOperand). o.name) (λ o k. k) (filter (λ (o : ClifOperand). is o.class) os)
    (all_kept (λ (o : ClifOperand). IsIdentifier o.name) (λ (o : ClifOperand). is o.class) os (own os h))
  where
    own : (os : List ClifOperand) → AreIdentifiers (map (λ (o : ClifOperand). o.name) os) → AllByRecursion (λ (o : ClifOperand). IsIdentifier o.name) os
    own [] k = tt
    own (o ∷ os) k = (k.0, own os k.1)

-- those of a kind are identifiers if all are
of_kind : (is : OperandClass → Bool) (i : Instruction) → AreIdentifiers (operand_names i) → AreIdentifiers (names_of is i)
of_kind is i h = kind_named is i.operands_in h

-- ---- patterns

list_takes : (values rest : List (List ℕ)) → AreIdentifiers values → AreIdentifiers rest → Takes 1 (list_pattern values rest)
list_takes [] rest h k = over_takes 0 (codes "value_list_slice") rest slice_head k
list_takes (x ∷ xs) rest h k = over_takes 0 (unwrap_head (length (x ∷ xs))) (x ∷ (xs ++ rest)) (unwrap_is_head (length (x ∷ xs))) (h.0, all_joined IsIdentifier xs rest h.1 k)

counted_take : (array : List ℕ) (names : List (List ℕ)) → IsHead array → AreIdentifiers names → AllTake 1 (counted_pattern array names)
counted_take array [] h k = tt
counted_take array (x ∷ []) h k = (variable_takes 1 x k.0, tt)
counted_take array (x ∷ y ∷ names) h k = (over_takes 0 array (x ∷ y ∷ names) h k, tt)

values_take : (has_list : Bool) (i : Instruction) → AreIdentifiers (operand_names i) → AllTake 1 (value_patterns has_list i)
values_take true i h = (list_takes (names_of is_value i) (names_of is_varargs i) (of_kind is_value i h) (of_kind is_varargs i h), tt)
values_take false i h = counted_take (value_array (length (names_of is_value i))) (names_of is_value i) (values_head (length (names_of is_value i))) (of_kind is_value i h)

blocks_take : (i : Instruction) → AreIdentifiers (operand_names i) → AllTake 1 (block_patterns i)
blocks_take i h = counted_take (block_array (length (names_of is_block i))) (names_of is_block i) (blocks_head (length (names_of is_block i))) (of_kind is_block i h)

-- the names that an instruction's data has beside those of its operands can be written
abbrev pub IsDataNamed : InstructionFormat → Instruction → Type 0
IsDataNamed f i = IsIdentifier f.name × IsIdentifier i.camel_name

opcode_named : (f : InstructionFormat) (i : Instruction) → IsDataNamed f i → IsHead (opcode_term i)
opcode_named f i n = opcode_head i.camel_name (identifier_named i.camel_name n.1).0.1

term_named : (f : InstructionFormat) (i : Instruction) → IsDataNamed f i → IsHead (data_term f)
term_named f i n = data_head f.name (identifier_named f.name n.0).0.1

-- the data of an instruction as a pattern
pub data_takes : (f : InstructionFormat) (i : Instruction) → IsDataNamed f i → AreIdentifiers (operand_names i) → Takes 2 (data_pattern f i)
data_takes f i n h =
    let raw : AllTake 1 (variables (names_of is_raw_block i)) = variables_take 1 (names_of is_raw_block i) (of_kind is_raw_block i h) in
    let imms : AllTake 1 (variables (names_of is_imm i)) = variables_take 1 (names_of is_imm i) (of_kind is_imm i h) in
    let parts : AllTake 1 (pattern_parts f i) = (
      over_takes 0 (opcode_term i) [] (opcode_named f i n) tt,
      all_joined (Takes 1) (value_patterns f.has_value_list i) _ (values_take f.has_value_list i h)
          (all_joined (Takes 1) (block_patterns i) _ (blocks_take i h) (all_joined (Takes 1) (variables (names_of is_raw_block i)) _ raw imms)),
    ) in
    term_takes 1 (data_term f) (pattern_parts f i) (term_named f i n) parts

-- ---- expressions

counted_make : (array : List ℕ) (names : List (List ℕ)) → IsHead array → AreIdentifiers names → AllMake 1 (counted_expr array names)
counted_make array [] h k = tt
counted_make array (x ∷ []) h k = (name_makes 1 x k.0, tt)
counted_make array (x ∷ y ∷ names) h k = (call_on_makes 0 array (x ∷ y ∷ names) h k, tt)

-- an array of an instruction's values that is made, or the one
made_values : (i : Instruction) → AreIdentifiers (operand_names i) → AllMake 1 (counted_expr (value_array_ctor (length (names_of is_value i))) (names_of is_value i))
made_values i h = counted_make (value_array_ctor (length (names_of is_value i))) (names_of is_value i) (ctor_head (length (names_of is_value i))) (of_kind is_value i h)

-- and of its blocks
made_blocks : (i : Instruction) → AreIdentifiers (operand_names i) → AllMake 1 (counted_expr (block_array (length (names_of is_block i))) (names_of is_block i))
made_blocks i h = counted_make (block_array (length (names_of is_block i))) (names_of is_block i) (blocks_head (length (names_of is_block i))) (of_kind is_block i h)

-- the data of an instruction as an expression
pub data_makes : (f : InstructionFormat) (i : Instruction) → IsDataNamed f i → AreIdentifiers (operand_names i) → Makes 2 (data_expr f i)
data_makes f i n h =
    let raw : AllMake 1 (variable_exprs (names_of is_raw_block i)) = names_make 1 (names_of is_raw_block i) (of_kind is_raw_block i h) in
    let imms : AllMake 1 (variable_exprs (names_of is_imm i)) = names_make 1 (names_of is_imm i) (of_kind is_imm i h) in
    let parts : AllMake 1 (expr_parts f i) = (
      call_on_makes 0 (opcode_term i) [] (opcode_named f i n) tt,
      all_joined (Makes 1) (counted_expr (value_array_ctor (length (names_of is_value i))) (names_of is_value i)) _ (made_values i h)
          (all_joined (Makes 1) (counted_expr (block_array (length (names_of is_block i))) (names_of is_block i)) _ (made_blocks i h)
          (all_joined (Makes 1) (variable_exprs (names_of is_raw_block i)) _ raw imms)),
    ) in
    call_makes 1 (data_term f) (expr_parts f i) (term_named f i n) parts
