use Rattle.std.proofs.Common.{◌≡◌, ℕ, List, ◌++◌, subst, OnOk, codes, string_bytes}
use Rattle.isle_assembler.specs.Conversions.{access_word, aligned_word, class_word, reg_mem}
use Rattle.isle_assembler.proofs.conversions.push_reg_mem.Goals as goal

pub returns : goal.returns
unfolding reg_mem
returns c =
    let text : (u v w y z : List ℕ) → List ℕ =
    λ u v w y z. codes "self.convert_" ++ (u ++ (codes "_mem_to_assembler_" ++ (v ++ (codes "_"
    ++ (w ++ (codes "_mem" ++ (y ++ (codes "(" ++ (z ++ codes ")"))))))))) in
    let Appended : List ℕ → Type 0 = λ z. OnOk c.push_pieces.result (string_bytes c.push_pieces.new.text ≡ string_bytes c.args.text.now ++ z) in
    let class : List ℕ = class_word c.args.class in
    let access : List ℕ = access_word c.args.operand.now.mutability in
    let aligned : List ℕ = aligned_word c.args.operand.now.align in
    subst (λ z. Appended (text class access class aligned z)) c.as_str.ensures
    (subst (λ y. Appended (text class access class y c.as_str.result.now)) c.aligned_word.ensures
    (subst (λ w. Appended (text class access w c.aligned_word.result.now c.as_str.result.now)) c.class_word-2.ensures
    (subst (λ v. Appended (text class v c.class_word-2.result.now c.aligned_word.result.now c.as_str.result.now)) c.access_word.ensures
    (subst (λ u. Appended (text u c.access_word.result.now c.class_word-2.result.now c.aligned_word.result.now c.as_str.result.now)) c.class_word.ensures
    c.push_pieces.ensures))))
