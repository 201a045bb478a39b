-- The parts of an instruction's definitions.
use Rattle.std.specs.Prelude.{ℕ, List, [], ◌∷◌, ◌++◌, map}
use Rattle.isle_ast.specs.Tree.{Def, Pattern, Expr}
use Rattle.isle_ast.specs.Tree as tree
use Rattle.isle_ast.specs.Views.{patterns_of, exprs_of}
use Rattle.isle_meta.specs.declared.clif.ClifOperand.{ClifOperand}
use Rattle.isle_meta.specs.declared.clif.Instruction.{Instruction}
use Rattle.isle_meta.specs.declared.clif.InstructionFormat.{InstructionFormat}
use Rattle.isle_prelude.specs.ClifFiles.{data_expr, data_pattern, declaration, extractor, making, typed_first}
use Rattle.isle_prelude.specs.Manners.{Manner, type_variable}
use Rattle.isle_prelude.specs.Operands.{operand_type}

-- the types of operands
abbrev pub operand_types : List ClifOperand → List (List ℕ)
operand_types os = map (λ (o : ClifOperand). operand_type o.class) os

-- their names
abbrev pub names_in : List ClifOperand → List (List ℕ)
names_in os = map (λ (o : ClifOperand). o.name) os

-- what an extractor stands for
abbrev pub template : Manner → InstructionFormat → Instruction → Pattern
template m f i = tree.Term m.taker (patterns_of (m.in_front ++ (data_pattern f i ∷ [])))

-- what the rule that makes an instruction gives
abbrev pub right_side : (maker : List ℕ) → Manner → InstructionFormat → Instruction → Expr
right_side maker m f i = tree.Call maker (exprs_of (typed_first m.is_typed (tree.Name type_variable) (data_expr f i ∷ [])))

-- the definitions of an instruction that is taken
abbrev pub taken_defs : Manner → InstructionFormat → Instruction → List Def
taken_defs m f i = declaration m i ∷ extractor m f i ∷ making m.maker m f i
