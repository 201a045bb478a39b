-- The parts of an instruction's data.
use Rattle.std.specs.Prelude.{List, [], ◌∷◌, ◌++◌, length}
use Rattle.isle_ast.specs.Tree.{Pattern, Expr}
use Rattle.isle_meta.specs.InstructionRow.{is_block, is_raw_block, is_value}
use Rattle.isle_meta.specs.declared.clif.Instruction.{Instruction}
use Rattle.isle_meta.specs.declared.clif.InstructionFormat.{InstructionFormat}
use Rattle.isle_prelude.specs.ClifFiles.{block_patterns, call_on, counted_expr, opcode_term, term_over, value_patterns, variable_exprs, variables}
use Rattle.isle_prelude.specs.NumberedNames.{block_array, value_array_ctor}
use Rattle.isle_prelude.specs.Operands.{is_imm, names_of}

-- in a pattern
abbrev pub pattern_parts : InstructionFormat → Instruction → List Pattern
pattern_parts f i =
    term_over (opcode_term i) []
    ∷ (value_patterns f.has_value_list i ++ (block_patterns i ++ (variables (names_of is_raw_block i) ++ variables (names_of is_imm i))))

-- in an expression
abbrev pub expr_parts : InstructionFormat → Instruction → List Expr
expr_parts f i =
    call_on (opcode_term i) []
    ∷ (counted_expr (value_array_ctor (length (names_of is_value i))) (names_of is_value i)
    ++ (counted_expr (block_array (length (names_of is_block i))) (names_of is_block i)
    ++ (variable_exprs (names_of is_raw_block i) ++ variable_exprs (names_of is_imm i))))
