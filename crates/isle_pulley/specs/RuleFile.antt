-- The definitions of the rule file: the type of instructions, and of each operation a term and its rule.
use Rattle.std.specs.Prelude.{ℕ, pos, List, [], ◌∷◌, ◌++◌, false, None, map, codes}
use Rattle.std.specs.List.{flat_map}
use Rattle.isle_ast.specs.Tree.{Def, Expr, NoExpr, AnExpr, NoLet, ALet}
use Rattle.isle_ast.specs.Tree as tree
use Rattle.isle_ast.specs.Views.{exprs_of}
use Rattle.isle_ast.specs.declared.tree.AstBody.TheVariants as body
use Rattle.isle_ast.specs.declared.tree.AstFields.{AstFields}
use Rattle.isle_ast.specs.declared.tree.AstFields.TheVariants as fields
use Rattle.isle_ast.specs.declared.tree.AstVariant.{AstVariant}
use Rattle.isle_meta.specs.declared.pulley.PulleyInst.{PulleyInst}
use Rattle.isle_writing.specs.Erased.{no_place}
use Rattle.isle_pulley_rows.specs.declared.operand.Operand.{Operand}
use Rattle.isle_pulley_rows.specs.declared.operand.Operand.TheVariants.{Normal, Writable, Binop, Trap}
use Rattle.isle_pulley_rows.specs.declared.operation.Operation.{Operation}
use Rattle.isle_pulley.specs.Places.{written, temporary}
use Rattle.isle_pulley_rows.specs.Operands.{Field}
use Rattle.isle_pulley_rows.specs.Operations.{operations}
use Rattle.isle_pulley_rows.specs.Results.{results}

-- ---- the type of instructions

-- the fields of an operand in the instruction, each with its type: what is written has the type of a place
abbrev pub inst_fields : Operand → List Field
inst_fields (Normal name ty) = (name, ty) ∷ []
inst_fields (Writable name ty) = (name, written ty) ∷ []
inst_fields (Binop dst src1 src2) = (codes "dst", written dst) ∷ (codes "src1", src1) ∷ (codes "src2", src2) ∷ []
inst_fields Trap = (codes "code", codes "TrapCode") ∷ []

-- fields of a variant, which without any is a unit
abbrev pub named : List Field → AstFields
named [] = fields.Unit
named (f ∷ fs) = fields.Named (f ∷ fs)

-- the variant of an operation
abbrev pub variant_of : Operation → AstVariant
variant_of op = record { name = op.name; fields = named (flat_map inst_fields op.operands) }

-- ( type RawInst ( enum variant* ) )
abbrev pub raw_inst_type : List Operation → Def
raw_inst_type ops = tree.TypeDecl (codes "RawInst") false false (body.Enum (map variant_of ops)) no_place

-- ---- terms

-- the term of an operation
abbrev pub term_of : Operation → List ℕ
term_of op = codes "pulley_" ++ op.snake

-- the names of the arguments that an operand gives its term: what is written gives none
abbrev pub argument_names : Operand → List (List ℕ)
argument_names (Normal name ty) = name ∷ []
argument_names (Writable name ty) = []
argument_names (Binop dst src1 src2) = codes "src1" ∷ codes "src2" ∷ []
argument_names Trap = codes "code" ∷ []

-- their types
abbrev pub argument_types : Operand → List (List ℕ)
argument_types (Normal name ty) = ty ∷ []
argument_types (Writable name ty) = []
argument_types (Binop dst src1 src2) = src1 ∷ src2 ∷ []
argument_types Trap = codes "TrapCode" ∷ []

-- the names of a term's arguments, in order
abbrev pub param_names : List Operand → List (List ℕ)
param_names os = flat_map argument_names os

-- their types
abbrev pub param_types : List Operand → List (List ℕ)
param_types os = flat_map argument_types os

-- what a term with results of these types gives: an effect, the result, or a pair of registers
abbrev pub answer_type : List (List ℕ) → List ℕ
answer_type [] = codes "SideEffectNoResult"
answer_type (r ∷ []) = r
answer_type (a ∷ b ∷ more) = codes "ValueRegs"

-- ( decl pulley_SNAKE ( T* ) T )
abbrev pub declaration : Operation → Def
declaration op = tree.Decl (term_of op) false false false false (param_types op.operands) (answer_type (results op.operands)) no_place

-- ---- rules

-- what stands for operands in the instruction, in order: the first that is written has the first of these names, each later one the second
abbrev pub inst_names : (next last : List ℕ) → List Operand → List (List ℕ)
inst_names next last [] = []
inst_names next last (Normal name ty ∷ os) = name ∷ inst_names next last os
inst_names next last (Writable name ty ∷ os) = next ∷ inst_names last last os
inst_names next last (Binop dst src1 src2 ∷ os) = next ∷ codes "src1" ∷ codes "src2" ∷ inst_names last last os
inst_names next last (Trap ∷ os) = codes "code" ∷ inst_names next last os

-- variables as expressions
abbrev pub variables : List (List ℕ) → List Expr
variables names = map (λ (name : List ℕ). tree.Name name) names

-- the instruction, with these names for what it writes
abbrev pub raw_inst : (next last : List ℕ) → Operation → Expr
raw_inst next last op = tree.Call (codes "RawInst." ++ op.name) (exprs_of (variables (inst_names next last op.operands)))

-- a call of a term without arguments
abbrev pub bare_call : List ℕ → Expr
bare_call term = tree.Call term NoExpr

-- a call of a term with one argument
abbrev pub call_on : List ℕ → Expr → Expr
call_on term e = tree.Call term (AnExpr e NoExpr)

-- `( _ Unit ( emit E ) )`
abbrev pub emitted : Expr → tree.Lets
emitted e = ALet (codes "_") (codes "Unit") (call_on (codes "emit") e) NoLet

-- a place of this type for a while, under a name, before others
abbrev pub placed : (name ty : List ℕ) → tree.Lets → tree.Lets
placed name ty more = ALet name (written ty) (bare_call (temporary ty)) more

-- what a rule gives, by the types of its results
abbrev pub body_of : List (List ℕ) → Operation → Expr
body_of [] op = call_on (codes "SideEffectNoResult.Inst") (raw_inst (codes "dst") (codes "dst") op)
body_of (r ∷ []) op = tree.Let (placed (codes "dst") r (emitted (raw_inst (codes "dst") (codes "dst") op))) (tree.Name (codes "dst"))
body_of (a ∷ b ∷ more) op =
    tree.Let (placed (codes "dst1") a (placed (codes "dst2") b (emitted (raw_inst (codes "dst1") (codes "dst2") op))))
    (tree.Call (codes "value_regs") (AnExpr (tree.Name (codes "dst1")) (AnExpr (tree.Name (codes "dst2")) NoExpr)))

-- ( rule ( pulley_SNAKE x* ) BODY )
abbrev pub rule_of : Operation → Def
rule_of op = tree.Rule None (pos 0) (term_of op) (map (λ (name : List ℕ). tree.Var name) (param_names op.operands)) [] (body_of (results op.operands) op) no_place

-- ---- the file

-- the term of an operation and its rule
abbrev pub operation_defs : Operation → List Def
operation_defs op = declaration op ∷ rule_of op ∷ []

-- the definitions of operations
abbrev pub file_defs : List Operation → List Def
file_defs ops = raw_inst_type ops ∷ flat_map operation_defs ops

-- the definitions of the rule file
abbrev pub pulley_defs : (ops extended : List PulleyInst) → List Def
pulley_defs ops extended = file_defs (operations ops extended)
