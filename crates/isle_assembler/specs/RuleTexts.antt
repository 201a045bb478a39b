-- The rules' text of an assembler as the code writes it, piece by piece. That it is the text of its definitions is a law.
use Rattle.std.specs.Prelude.{ℕ, List, [], ◌++◌, true, Option, Some, None, if◌then◌else◌, codes}
use Rattle.std.specs.List.{flat_map}
use Rattle.isle_assembler_rows.specs.declared.constructor.Constructor.{Constructor}
use Rattle.isle_assembler.specs.declared.signature.Signature.{Signature}
use Rattle.isle_assembler.specs.declared.signature.Signature.TheVariants.{Raw, Made}
use Rattle.isle_meta.specs.declared.machine.Alternate.{Alternate}
use Rattle.isle_meta.specs.declared.machine.Inst.{Inst}
use Rattle.isle_meta.specs.declared.machine.Operand.{Operand}
use Rattle.isle_assembler.specs.AssemblerDefs.{choice_signature}
use Rattle.isle_assembler_rows.specs.Constructors.{constructors, conversion, result_type, temporary}
use Rattle.isle_assembler.specs.Methods.{separated}
use Rattle.isle_assembler_rows.specs.Operands.{locations, raw_operands, trap_names}
use Rattle.isle_assembler.specs.Signatures.{is_param, param_types, taken}
use Rattle.isle_assembler_rows.specs.TermNames.{choice_term, is_left_out, made_term, raw_term}

-- ---- parameters

-- names, each after a blank
abbrev pub names_text : List (List ℕ) → List ℕ
names_text names = flat_map (λ name. codes " " ++ name) names

-- the names of a term's parameters
unfoldable pub params_text : Signature → Inst → List ℕ
params_text s i = names_text (locations (taken s i)) ++ names_text (trap_names i.has_trap)

-- their types, with blanks between them
unfoldable pub types_text : Signature → Inst → List ℕ
types_text s i = separated true (codes " ") (param_types s i)

-- a new register after a blank
abbrev pub temporary_text : Constructor → List ℕ
temporary_text c = codes " (" ++ (temporary c ++ codes ")")

-- what is handed to the raw term for an operand, after a blank
abbrev pub handed_text : Constructor → Operand → List ℕ
handed_text c o = if is_param c o then codes " " ++ o.location else temporary_text c

-- all that is handed to it
unfoldable pub all_handed_text : Constructor → Inst → List ℕ
all_handed_text c i = flat_map (handed_text c) (raw_operands i) ++ names_text (trap_names i.has_trap)

-- ---- definitions

-- a declared term's parameters and result, to the end of the line
unfoldable pub signature_text : Signature → Inst → (ret : List ℕ) → List ℕ
signature_text s i ret = codes " (" ++ (types_text s i ++ (codes ") " ++ (ret ++ codes ")\n")))

-- the raw term
unfoldable pub raw_text : Inst → List ℕ
raw_text i =
    codes "(decl " ++ (raw_term i.name ++ (signature_text Raw i (codes "AssemblerOutputs")
    ++ (codes "(extern constructor " ++ (raw_term i.name ++ (codes " " ++ (raw_term i.name ++ codes ")\n"))))))

-- the declaration of a constructor's term
unfoldable pub made_decl_text : Inst → Constructor → List ℕ
made_decl_text i c = codes "(decl " ++ (made_term c i.name ++ signature_text (Made c) i (result_type c))

-- its rule
unfoldable pub made_rule_text : Inst → Constructor → List ℕ
made_rule_text i c =
    codes "(rule (" ++ (made_term c i.name ++ (params_text (Made c) i ++ (codes ") (" ++ (conversion c
    ++ (codes " (" ++ (raw_term i.name ++ (all_handed_text c i ++ codes ")))\n")))))))

-- the declaration of the term that takes an alternate
unfoldable pub choice_decl_text : Inst → Constructor → Alternate → List ℕ
choice_decl_text i c a = codes "(decl " ++ (choice_term c i.name a.feature ++ signature_text (choice_signature c a.feature) i (result_type c))

-- a call on a term of a constructor, to the end of the line
unfoldable pub call_text : Inst → Constructor → (name : List ℕ) → List ℕ
call_text i c name = codes "(" ++ (made_term c name ++ (params_text (Made c) i ++ codes "))\n"))

-- the head of a rule of the term that takes an alternate, before a blank
unfoldable pub choice_head_text : Inst → Constructor → Alternate → List ℕ
choice_head_text i c a = choice_term c i.name a.feature ++ (params_text (Made c) i ++ codes ") ")

-- the rule that takes the alternate
unfoldable pub alternate_rule_text : Inst → Constructor → Alternate → List ℕ
alternate_rule_text i c a =
    codes "(rule 1 (" ++ (choice_head_text i c a ++ (codes "(if-let true (has_" ++ (a.feature ++ (codes ")) " ++ call_text i c a.name))))

-- the rule that takes the instruction
unfoldable pub usual_rule_text : Inst → Constructor → Alternate → List ℕ
usual_rule_text i c a = codes "(rule 0 (" ++ (choice_head_text i c a ++ call_text i c i.name)

-- the term that takes an alternate, if there is one
abbrev pub choice_text : Inst → Constructor → Option Alternate → List ℕ
choice_text i c None = []
choice_text i c (Some a) = choice_decl_text i c a ++ (alternate_rule_text i c a ++ usual_rule_text i c a)

-- the definitions of a constructor
abbrev pub constructor_text : Inst → Constructor → List ℕ
constructor_text i c = made_decl_text i c ++ (made_rule_text i c ++ choice_text i c i.alternate)

-- those of an instruction
abbrev pub row_text : Inst → List ℕ
row_text i = if is_left_out i then [] else raw_text i ++ flat_map (constructor_text i) (constructors i)

-- ---- those with which the text begins

-- the type of what a raw term gives
unfoldable pub outputs_text : List ℕ
outputs_text =
    codes "(type AssemblerOutputs (enum\n  (SideEffect (inst MInst))\n  (RetGpr (inst MInst) (gpr Gpr))\n  (RetXmm (inst MInst) (xmm Xmm))\n"
    ++ codes "  (RetValueRegs (inst MInst) (regs ValueRegs))))\n"

-- the term that emits an instruction and gives its register
unfoldable pub emit_text : (term variant x ret : List ℕ) → List ℕ
emit_text term variant x ret =
    codes "(decl " ++ (term ++ (codes " (AssemblerOutputs) " ++ (ret ++ (codes ")\n(rule (" ++ (term ++ (codes " (AssemblerOutputs."
    ++ (variant ++ (codes " inst " ++ (x ++ (codes ")) (let ((_ Unit (emit inst))) " ++ (x ++ codes "))\n")))))))))))

-- the term that puts an instruction off
unfoldable pub defer_text : List ℕ
defer_text =
    codes "(decl defer_side_effect (AssemblerOutputs) SideEffectNoResult)\n"
    ++ codes "(rule (defer_side_effect (AssemblerOutputs.SideEffect inst)) (SideEffectNoResult.Inst inst))\n"

-- all of them
unfoldable pub head_text : List ℕ
head_text =
    outputs_text
    ++ (emit_text (codes "emit_ret_gpr") (codes "RetGpr") (codes "gpr") (codes "Gpr")
    ++ (emit_text (codes "emit_ret_xmm") (codes "RetXmm") (codes "xmm") (codes "Xmm")
    ++ (emit_text (codes "emit_ret_value_regs") (codes "RetValueRegs") (codes "regs") (codes "ValueRegs")
    ++ defer_text)))

-- the whole text
unfoldable pub rule_text : List Inst → List ℕ
rule_text is = head_text ++ flat_map row_text is
