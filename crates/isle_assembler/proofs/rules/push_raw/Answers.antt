use Rattle.std.proofs.Common.{◌≡◌, ◌++◌, ◌∙◌, ap, subst, OnOk, codes, string_bytes}
use Rattle.isle_assembler.specs.declared.signature.Signature.TheVariants.{Raw}
use Rattle.isle_assembler.specs.RuleTexts.{raw_text, signature_text}
use Rattle.isle_assembler_rows.specs.TermNames.{raw_term}
use Rattle.isle_assembler.proofs.Appended.{more}
use Rattle.isle_assembler.proofs.rules.push_raw.Goals as goal

pub returns : goal.returns
unfolding raw_text
returns c =
    let t0 = string_bytes c.args.text.now in
    let t1 = string_bytes c.push_str.new.self in
    let t2 = string_bytes c.push_raw_term.new.text in
    let t3 = string_bytes c.push_signature.new.text in
    let t4 = string_bytes c.push_str-2.new.self in
    let t5 = string_bytes c.push_raw_term-2.new.text in
    let t6 = string_bytes c.push_str-3.new.self in
    let t7 = string_bytes c.push_raw_term-3.new.text in
    let b8 = codes ")\n" in
    let b7 = raw_term c.args.inst.now.name ++ b8 in
    let b6 = codes " " ++ b7 in
    let b5 = raw_term c.args.inst.now.name ++ b6 in
    let b4 = codes "(extern constructor " ++ b5 in
    let b3 = signature_text Raw c.args.inst.now (codes "AssemblerOutputs") ++ b4 in
    let b2 = raw_term c.args.inst.now.name ++ b3 in
    subst (λ z. OnOk c.push_pieces.result (string_bytes c.push_pieces.new.text ≡ z))
    (more t6 t7 (raw_term c.args.inst.now.name) b8 (c.in_ok-push_raw_term-3.ensures ∙ ap (λ z. t6 ++ raw_term z) c.as_str-3.ensures)
    ∙ more t5 t6 (codes " ") b7 c.in_ok-push_str-3.ensures.bytes
    ∙ more t4 t5 (raw_term c.args.inst.now.name) b6 (c.in_ok-push_raw_term-2.ensures ∙ ap (λ z. t4 ++ raw_term z) c.as_str-2.ensures)
    ∙ more t3 t4 (codes "(extern constructor ") b5 c.in_ok-push_str-2.ensures.bytes
    ∙ more t2 t3 (signature_text Raw c.args.inst.now (codes "AssemblerOutputs")) b4 c.in_ok-push_signature.ensures
    ∙ more t1 t2 (raw_term c.args.inst.now.name) b3 (c.in_ok-push_raw_term.ensures ∙ ap (λ z. t1 ++ raw_term z) c.as_str.ensures)
    ∙ more t0 t1 (codes "(decl ") b2 c.in_ok-push_str.ensures.bytes)
    c.push_pieces.ensures
