use Rattle.std.proofs.Common.{◌≡◌, ℕ, List, ◌++◌, ◌∙◌, ap, append_assoc, subst, OnOk, codes, string_bytes}
use Rattle.isle_assembler.specs.Conversions.{assembler}
use Rattle.isle_assembler.specs.Methods.{arguments, inst_line, line_begin, listed}
use Rattle.isle_assembler.proofs.Appended.{more}
use Rattle.isle_assembler.proofs.methods.push_inst_line.Goals as goal

pub returns : goal.returns
unfolding inst_line
returns c =
    let t0 = string_bytes c.args.text.now in
    let t1 = string_bytes c.push_pieces.new.text in
    let t2 = string_bytes c.push_arguments.new.text in
    let name = c.args.inst.now.name in
    let front : (u v w : List ℕ) → List ℕ = λ u v w. u ++ (codes "let inst = " ++ (v ++ (codes "inst::" ++ (w ++ codes "::new(")))) in
    let b3 = codes ").into();\n" in
    let b2 = listed (arguments c.args.inst.now) ++ b3 in
    let begun : t1 ≡ t0 ++ front line_begin assembler name =
    c.in_ok-push_pieces.ensures
    ∙ ap (λ u. t0 ++ front u c.assembler.result.now c.as_str.result.now) c.line_begin.ensures
    ∙ ap (λ v. t0 ++ front line_begin v c.as_str.result.now) c.assembler.ensures
    ∙ ap (λ w. t0 ++ front line_begin assembler w) c.as_str.ensures in
    subst (λ z. OnOk c.push_pieces-2.result (string_bytes c.push_pieces-2.new.text ≡ z))
    (more t1 t2 (listed (arguments c.args.inst.now)) b3 c.in_ok-push_arguments.ensures
    ∙ more t0 t1 (front line_begin assembler name) b2 begun
    ∙ ap (λ z. t0 ++ z)
    (append_assoc line_begin (codes "let inst = " ++ (assembler ++ (codes "inst::" ++ (name ++ codes "::new(")))) b2
    ∙ ap (λ z. line_begin ++ (codes "let inst = " ++ z))
    (append_assoc assembler (codes "inst::" ++ (name ++ codes "::new(")) b2 ∙ ap (λ z. assembler ++ (codes "inst::" ++ z)) (append_assoc name (codes "::new(") b2))))
    c.push_pieces-2.ensures
