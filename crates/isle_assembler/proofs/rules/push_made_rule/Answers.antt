use Rattle.std.proofs.Common.{◌≡◌, ◌++◌, ◌∙◌, ap, subst, OnOk, codes, string_bytes}
use Rattle.isle_assembler.specs.declared.signature.Signature.TheVariants.{Made}
use Rattle.isle_assembler_rows.specs.Constructors.{conversion}
use Rattle.isle_assembler.specs.RuleTexts.{all_handed_text, made_rule_text, params_text}
use Rattle.isle_assembler_rows.specs.TermNames.{made_term, raw_term}
use Rattle.isle_assembler.proofs.Appended.{more}
use Rattle.isle_assembler.proofs.rules.push_made_rule.Goals as goal

pub returns : goal.returns
unfolding made_rule_text
returns c =
    let t0 = string_bytes c.args.text.now in
    let t1 = string_bytes c.push_str.new.self in
    let t2 = string_bytes c.push_made_term.new.text in
    let t3 = string_bytes c.push_params.new.text in
    let t4 = string_bytes c.push_str-2.new.self in
    let t5 = string_bytes c.push_str-3.new.self in
    let t6 = string_bytes c.push_str-4.new.self in
    let t7 = string_bytes c.push_raw_term.new.text in
    let t8 = string_bytes c.push_handed.new.text in
    let b9 = codes ")))\n" in
    let b8 = all_handed_text c.args.c c.args.inst.now ++ b9 in
    let b7 = raw_term c.args.inst.now.name ++ b8 in
    let b6 = codes " (" ++ b7 in
    let b5 = conversion c.args.c ++ b6 in
    let b4 = codes ") (" ++ b5 in
    let b3 = params_text (Made c.args.c) c.args.inst.now ++ b4 in
    let b2 = made_term c.args.c c.args.inst.now.name ++ b3 in
    subst (λ z. OnOk c.push_pieces.result (string_bytes c.push_pieces.new.text ≡ z))
    (more t7 t8 (all_handed_text c.args.c c.args.inst.now) b9 c.in_ok-push_handed.ensures
    ∙ more t6 t7 (raw_term c.args.inst.now.name) b8 (c.in_ok-push_raw_term.ensures ∙ ap (λ z. t6 ++ raw_term z) c.as_str-2.ensures)
    ∙ more t5 t6 (codes " (") b7 c.in_ok-push_str-4.ensures.bytes
    ∙ more t4 t5 (conversion c.args.c) b6 (c.in_ok-push_str-3.ensures.bytes ∙ ap (λ z. t4 ++ z) c.conversion.ensures)
    ∙ more t3 t4 (codes ") (") b5 c.in_ok-push_str-2.ensures.bytes
    ∙ more t2 t3 (params_text (Made c.args.c) c.args.inst.now) b4 c.in_ok-push_params.ensures
    ∙ more t1 t2 (made_term c.args.c c.args.inst.now.name) b3 (c.in_ok-push_made_term.ensures ∙ ap (λ z. t1 ++ made_term c.args.c z) c.as_str.ensures)
    ∙ more t0 t1 (codes "(rule (") b2 c.in_ok-push_str.ensures.bytes)
    c.push_pieces.ensures
