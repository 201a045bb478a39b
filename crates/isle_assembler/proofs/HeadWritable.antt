-- The definitions with which an assembler's rules begin can be written.
use Rattle.std.proofs.Common.{◌≡◌, ℕ, List, [], ◌∷◌, ◌++◌, true, Some, refl, arith, codes}
use Rattle.std.specs.Prelude.{slice_index}
use Rattle.isle_ast.specs.Tree as tree
use Rattle.isle_grammar.specs.Grammar.{IsTerm, pattern_head}
use Rattle.isle_lexer.specs.Word.{Plain, symbol_kind}
use Rattle.isle_writing.specs.Writable.{AreWritable, IsExpr, IsPattern, IsPlain, IsWord, NamesOne}
use Rattle.isle_writing.proofs.Joined.{writable_joined}
use Rattle.isle_writing.proofs.Names.{begins_symbol, call_head, names_one, plain_name, plain_variable, term_head, word_joined}
use Rattle.isle_assembler.specs.HeadDefs.{defer_defs, emit_defs, head_defs, outputs_type}
use Rattle.isle_assembler.proofs.TypeWords.{outputs_named}

-- ---- words

inst_named : NamesOne (codes "inst")
inst_named = names_one (codes "inst") (omega arith, refl) refl

minst_named : NamesOne (codes "MInst")
minst_named = names_one (codes "MInst") (omega arith, refl) refl

-- a word that is a variable in patterns and in expressions
record IsVariable (w : List ℕ) : Type 0 where
  named : NamesOne w
  taken : IsPattern (tree.Var w)
  made : IsExpr (tree.Name w)

variable_from : (w : List ℕ) → IsWord w → begins_symbol (slice_index w 0) ≡ true → symbol_kind w ≡ Plain → IsVariable w
variable_from w h k p = record { named = names_one w h k; taken = plain_variable w h k p; made = plain_name w h k p }

inst_variable : IsVariable (codes "inst")
inst_variable = variable_from (codes "inst") (omega arith, refl) refl refl

gpr_variable : IsVariable (codes "gpr")
gpr_variable = variable_from (codes "gpr") (omega arith, refl) refl refl

xmm_variable : IsVariable (codes "xmm")
xmm_variable = variable_from (codes "xmm") (omega arith, refl) refl refl

regs_variable : IsVariable (codes "regs")
regs_variable = variable_from (codes "regs") (omega arith, refl) refl refl

gpr_named : NamesOne (codes "Gpr")
gpr_named = names_one (codes "Gpr") (omega arith, refl) refl

xmm_named : NamesOne (codes "Xmm")
xmm_named = names_one (codes "Xmm") (omega arith, refl) refl

regs_named : NamesOne (codes "ValueRegs")
regs_named = names_one (codes "ValueRegs") (omega arith, refl) refl

-- ---- definitions

type_writable : AreWritable (outputs_type ∷ [])
type_writable =
    let inst : NamesOne (codes "inst") × NamesOne (codes "MInst") = (inst_named, minst_named) in (
      (
        (
          outputs_named,
          (
            (names_one (codes "SideEffect") (omega arith, refl) refl, (inst, tt)),
            (
              (names_one (codes "RetGpr") (omega arith, refl) refl, (inst, ((gpr_variable.named, gpr_named), tt))),
              (
                (names_one (codes "RetXmm") (omega arith, refl) refl, (inst, ((xmm_variable.named, xmm_named), tt))),
                ((names_one (codes "RetValueRegs") (omega arith, refl) refl, (inst, ((regs_variable.named, regs_named), tt))), tt),
              ),
            ),
          ),
        ),
        omega arith,
      ),
      tt,
    )

-- a variant of what a raw term gives, as a term of patterns
output_word : (v : List ℕ) → IsPlain v → IsWord (codes "AssemblerOutputs." ++ v)
output_word v h = word_joined (codes "AssemblerOutputs.") v (omega arith, refl) h

output_head : (v : List ℕ) → IsPlain v → pattern_head (codes "AssemblerOutputs." ++ v) ≡ Some (IsTerm (codes "AssemblerOutputs." ++ v))
output_head v h = term_head (codes "AssemblerOutputs." ++ v) refl refl

emit_writable : (term variant x ret : List ℕ) → NamesOne term → IsPlain variant → IsVariable x → NamesOne ret → AreWritable (emit_defs term variant x ret)
emit_writable term variant x ret t v y r =
    let ignored : NamesOne (codes "_") = names_one (codes "_") (omega arith, refl) refl in
    let unit : NamesOne (codes "Unit") = names_one (codes "Unit") (omega arith, refl) refl in
    let emit : IsWord (codes "emit") = (omega arith, refl) in (
      ((t, (outputs_named, tt), r), omega arith),
      (
        (
          (
            tt,
            omega arith,
            t,
            ((output_word variant v, output_head variant v, (inst_variable.taken, (y.taken, tt))), tt),
            tt,
            ((ignored, unit, (emit, call_head (codes "emit") refl refl, (inst_variable.made, tt)), tt), y.made),
          ),
          omega arith,
        ),
        tt,
      ),
    )

defer_writable : AreWritable defer_defs
defer_writable =
    let defer : NamesOne (codes "defer_side_effect") = names_one (codes "defer_side_effect") (omega arith, refl) refl in
    let given : IsWord (codes "SideEffectNoResult.Inst") = (omega arith, refl) in (
      ((defer, (outputs_named, tt), names_one (codes "SideEffectNoResult") (omega arith, refl) refl), omega arith),
      (
        (
          (
            tt,
            omega arith,
            defer,
            ((output_word (codes "SideEffect") refl, output_head (codes "SideEffect") refl, (inst_variable.taken, tt)), tt),
            tt,
            (given, call_head (codes "SideEffectNoResult.Inst") refl refl, (inst_variable.made, tt)),
          ),
          omega arith,
        ),
        tt,
      ),
    )

pub head_writable : AreWritable head_defs
head_writable =
    let gpr = emit_writable (codes "emit_ret_gpr") (codes "RetGpr") (codes "gpr") (codes "Gpr")
    (names_one (codes "emit_ret_gpr") (omega arith, refl) refl) refl gpr_variable gpr_named in
    let xmm = emit_writable (codes "emit_ret_xmm") (codes "RetXmm") (codes "xmm") (codes "Xmm")
    (names_one (codes "emit_ret_xmm") (omega arith, refl) refl) refl xmm_variable xmm_named in
    let regs =
    emit_writable (codes "emit_ret_value_regs") (codes "RetValueRegs") (codes "regs") (codes "ValueRegs")
    (names_one (codes "emit_ret_value_regs") (omega arith, refl) refl) refl regs_variable regs_named in
    let gprs = emit_defs (codes "emit_ret_gpr") (codes "RetGpr") (codes "gpr") (codes "Gpr") in
    let xmms = emit_defs (codes "emit_ret_xmm") (codes "RetXmm") (codes "xmm") (codes "Xmm") in
    let pairs = emit_defs (codes "emit_ret_value_regs") (codes "RetValueRegs") (codes "regs") (codes "ValueRegs") in (
      type_writable.0,
      writable_joined gprs (xmms ++ (pairs ++ defer_defs)) gpr
          (writable_joined xmms (pairs ++ defer_defs) xmm (writable_joined pairs defer_defs regs defer_writable)),
    )
