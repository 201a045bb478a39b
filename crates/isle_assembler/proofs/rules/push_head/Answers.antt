use Rattle.std.proofs.Common.{◌≡◌, ◌++◌, ◌∙◌, subst, OnOk, codes, string_bytes}
use Rattle.isle_assembler.specs.RuleTexts.{defer_text, emit_text, head_text, outputs_text}
use Rattle.isle_assembler.proofs.Appended.{more}
use Rattle.isle_assembler.proofs.rules.push_head.Goals as goal

pub returns : goal.returns
unfolding head_text
returns c =
    let t0 = string_bytes c.args.text.now in
    let t1 = string_bytes c.push_outputs.new.text in
    let t2 = string_bytes c.push_emit.new.text in
    let t3 = string_bytes c.push_emit-2.new.text in
    let t4 = string_bytes c.push_emit-3.new.text in
    let b5 = defer_text in
    let b4 = emit_text (codes "emit_ret_value_regs") (codes "RetValueRegs") (codes "regs") (codes "ValueRegs") ++ b5 in
    let b3 = emit_text (codes "emit_ret_xmm") (codes "RetXmm") (codes "xmm") (codes "Xmm") ++ b4 in
    let b2 = emit_text (codes "emit_ret_gpr") (codes "RetGpr") (codes "gpr") (codes "Gpr") ++ b3 in
    subst (λ z. OnOk c.push_defer.result (string_bytes c.push_defer.new.text ≡ z))
    (more t3 t4 (emit_text (codes "emit_ret_value_regs") (codes "RetValueRegs") (codes "regs") (codes "ValueRegs")) b5 c.in_ok-push_emit-3.ensures
    ∙ more t2 t3 (emit_text (codes "emit_ret_xmm") (codes "RetXmm") (codes "xmm") (codes "Xmm")) b4 c.in_ok-push_emit-2.ensures
    ∙ more t1 t2 (emit_text (codes "emit_ret_gpr") (codes "RetGpr") (codes "gpr") (codes "Gpr")) b3 c.in_ok-push_emit.ensures
    ∙ more t0 t1 outputs_text b2 c.in_ok-push_outputs.ensures)
    c.push_defer.ensures
