-- The definitions with which the rules of an assembler begin, whatever its instructions are.
use Rattle.std.specs.Prelude.{ℕ, List, [], ◌∷◌, ◌++◌, false, codes}
use Rattle.isle_ast.specs.Tree.{Def}
use Rattle.isle_ast.specs.Tree as tree
use Rattle.isle_ast.specs.Views.{lets_of}
use Rattle.isle_ast.specs.declared.tree.AstBody.TheVariants as body
use Rattle.isle_ast.specs.declared.tree.AstFields.TheVariants as fields
use Rattle.isle_ast.specs.declared.tree.AstVariant.{AstVariant}
use Rattle.isle_writing.specs.Erased.{no_place}
use Rattle.isle_assembler.specs.Declaring.{call_on, plain_decl, plain_rule, term_over}

-- a field of a variant, with its type
abbrev pub field : (name ty : List ℕ) → List ℕ × List ℕ
field name ty = (name, ty)

-- the field of the instruction
abbrev pub inst_field : List ℕ × List ℕ
inst_field = field (codes "inst") (codes "MInst")

-- a variant with these fields
abbrev pub variant : List ℕ → List (List ℕ × List ℕ) → AstVariant
variant name named = record { name = name; fields = fields.Named named }

-- what an instruction's raw term gives: an instruction, and the registers of its results
abbrev pub outputs_variants : List AstVariant
outputs_variants =
    variant (codes "SideEffect") (inst_field ∷ [])
    ∷ variant (codes "RetGpr") (inst_field ∷ field (codes "gpr") (codes "Gpr") ∷ [])
    ∷ variant (codes "RetXmm") (inst_field ∷ field (codes "xmm") (codes "Xmm") ∷ [])
    ∷ variant (codes "RetValueRegs") (inst_field ∷ field (codes "regs") (codes "ValueRegs") ∷ [])
    ∷ []

-- its type
abbrev pub outputs_type : Def
outputs_type = tree.TypeDecl (codes "AssemblerOutputs") false false (body.Enum outputs_variants) no_place

-- ( decl N ( AssemblerOutputs ) T )
abbrev pub converts_to : (term ret : List ℕ) → Def
converts_to term ret = plain_decl term (codes "AssemblerOutputs" ∷ []) ret

-- ( rule ( N ( AssemblerOutputs.V inst x ) ) ( let ( ( _ Unit ( emit inst ) ) ) x ) )
abbrev pub emits : (term variant x : List ℕ) → Def
emits term variant x =
    plain_rule term (term_over (codes "AssemblerOutputs." ++ variant) (codes "inst" ∷ x ∷ []) ∷ [])
    (tree.Let (lets_of ((codes "_", codes "Unit", call_on (codes "emit") (codes "inst" ∷ [])) ∷ [])) (tree.Name x))

-- the term that emits an instruction and gives its register
abbrev pub emit_defs : (term variant x ret : List ℕ) → List Def
emit_defs term variant x ret = converts_to term ret ∷ emits term variant x ∷ []

-- the term that puts an instruction off, which has no result
abbrev pub defer_defs : List Def
defer_defs =
    converts_to (codes "defer_side_effect") (codes "SideEffectNoResult")
    ∷ plain_rule (codes "defer_side_effect") (term_over (codes "AssemblerOutputs.SideEffect") (codes "inst" ∷ []) ∷ [])
    (call_on (codes "SideEffectNoResult.Inst") (codes "inst" ∷ []))
    ∷ []

-- all of them
abbrev pub head_defs : List Def
head_defs =
    outputs_type
    ∷ (emit_defs (codes "emit_ret_gpr") (codes "RetGpr") (codes "gpr") (codes "Gpr")
    ++ (emit_defs (codes "emit_ret_xmm") (codes "RetXmm") (codes "xmm") (codes "Xmm")
    ++ (emit_defs (codes "emit_ret_value_regs") (codes "RetValueRegs") (codes "regs") (codes "ValueRegs")
    ++ defer_defs)))
