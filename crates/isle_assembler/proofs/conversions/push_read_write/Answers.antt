use Rattle.std.proofs.Common.{◌≡◌, ℕ, List, ◌++◌, subst, OnOk, codes, string_bytes}
use Rattle.isle_assembler.specs.Conversions.{class_word, read_write}
use Rattle.isle_assembler.proofs.conversions.push_read_write.Goals as goal

pub returns : goal.returns
unfolding read_write
returns c =
    let text : (u v : List ℕ) → List ℕ =
    λ u v. codes "self.convert_" ++ (u ++ (codes "_to_assembler_" ++ (c.args.name.now ++ (v ++ (codes "(" ++ (c.args.x.now ++ codes ")")))))) in
    let Appended : List ℕ → Type 0 = λ z. OnOk c.push_pieces.result (string_bytes c.push_pieces.new.text ≡ string_bytes c.args.text.now ++ z) in
    subst (λ v. Appended (text (class_word c.args.class) v)) c.class_word-2.ensures
    (subst (λ u. Appended (text u c.class_word-2.result.now)) c.class_word.ensures c.push_pieces.ensures)
