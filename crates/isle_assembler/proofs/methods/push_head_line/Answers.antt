use Rattle.std.proofs.Common.{◌≡◌, ◌++◌, ◌∙◌, ap, subst, OnOk, codes, string_bytes}
use Rattle.isle_assembler.specs.Methods.{head_line, listed, params}
use Rattle.isle_assembler_rows.specs.TermNames.{raw_term}
use Rattle.isle_assembler.proofs.Appended.{more}
use Rattle.isle_assembler.proofs.methods.push_head_line.Goals as goal

pub returns : goal.returns
unfolding head_line
returns c =
    let t0 = string_bytes c.args.text.now in
    let t1 = string_bytes c.push_str.new.self in
    let t2 = string_bytes c.push_raw_term.new.text in
    let t3 = string_bytes c.push_str-2.new.self in
    let t4 = string_bytes c.push_params.new.text in
    let b5 = codes ") -> AssemblerOutputs {\n" in
    let b4 = listed (params c.args.inst.now) ++ b5 in
    let b3 = codes "(&mut self, " ++ b4 in
    let b2 = raw_term c.args.inst.now.name ++ b3 in
    subst (λ z. OnOk c.push_pieces.result (string_bytes c.push_pieces.new.text ≡ z))
    (more t3 t4 (listed (params c.args.inst.now)) b5 c.in_ok-push_params.ensures
    ∙ more t2 t3 (codes "(&mut self, ") b4 c.in_ok-push_str-2.ensures.bytes
    ∙ more t1 t2 (raw_term c.args.inst.now.name) b3 (c.in_ok-push_raw_term.ensures ∙ ap (λ z. t1 ++ raw_term z) c.as_str.ensures)
    ∙ more t0 t1 (codes "        fn ") b2 c.in_ok-push_str.ensures.bytes)
    c.push_pieces.ensures
