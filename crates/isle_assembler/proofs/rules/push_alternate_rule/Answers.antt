use Rattle.std.proofs.Common.{◌≡◌, ℕ, List, ◌++◌, ◌∙◌, ap, append_assoc, subst, OnOk, codes, string_bytes}
use Rattle.isle_assembler.specs.RuleTexts.{alternate_rule_text, call_text, choice_head_text}
use Rattle.isle_assembler.proofs.Appended.{more}
use Rattle.isle_assembler.proofs.rules.push_alternate_rule.Goals as goal

pub returns : goal.returns
unfolding alternate_rule_text
returns c =
    let t0 = string_bytes c.args.text.now in
    let t1 = string_bytes c.push_str.new.self in
    let t2 = string_bytes c.push_choice_head.new.text in
    let t3 = string_bytes c.push_pieces.new.text in
    let feature = c.args.alternate.now.feature in
    let asked : List ℕ → List ℕ = λ z. codes "(if-let true (has_" ++ (z ++ codes ")) ") in
    let b4 = call_text c.args.inst.now c.args.c c.args.alternate.now.name in
    let b3 = codes "(if-let true (has_" ++ (feature ++ (codes ")) " ++ b4)) in
    let b2 = choice_head_text c.args.inst.now c.args.c c.args.alternate.now ++ b3 in
    subst (λ z. OnOk c.push_call.result (string_bytes c.push_call.new.text ≡ z))
    (ap (λ z. t3 ++ call_text c.args.inst.now c.args.c z) c.as_str-2.ensures
    ∙ more t2 t3 (asked feature) b4 (c.in_ok-push_pieces.ensures ∙ ap (λ z. t2 ++ asked z) c.as_str.ensures)
    ∙ ap (λ z. t2 ++ (codes "(if-let true (has_" ++ z)) (append_assoc feature (codes ")) ") b4)
    ∙ more t1 t2 (choice_head_text c.args.inst.now c.args.c c.args.alternate.now) b3 c.in_ok-push_choice_head.ensures
    ∙ more t0 t1 (codes "(rule 1 (") b2 c.in_ok-push_str.ensures.bytes)
    c.push_call.ensures
