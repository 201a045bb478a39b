use Rattle.std.proofs.Common.{◌≡◌, ℕ, List, ◌++◌, subst, OnOk, codes, string_bytes}
use Rattle.isle_assembler.specs.Returns.{arm_begin, memory_arm}
use Rattle.isle_assembler.proofs.returns.push_memory_arm.Goals as goal

pub returns : goal.returns
unfolding memory_arm
returns c =
    let text : (u v : List ℕ) → List ℕ = λ u v. u ++ (codes "Mem(_) => { " ++ (v ++ codes " }")) in
    let Appended : List ℕ → Type 0 = λ z. OnOk c.push_pieces.result (string_bytes c.push_pieces.new.text ≡ string_bytes c.args.text.now ++ z) in
    subst (λ v. Appended (text (arm_begin c.args.class) v)) c.side_effect.ensures
    (subst (λ u. Appended (text u c.side_effect.result.now)) c.arm_begin.ensures c.push_pieces.ensures)
