use Rattle.std.proofs.Common.{◌≡◌, ◌++◌, ◌∙◌, subst, codes, string_bytes}
use Rattle.std.specs.Prelude.{OnOk}
use Rattle.isle_pulley.specs.Places.{temporary}
use Rattle.isle_pulley.proofs.pieces.push_temporary.Goals as goal

pub returns : goal.returns
unfolding temporary
returns c =
    subst (λ z. OnOk c.push_two.result (string_bytes c.push_two.new.text ≡ string_bytes c.args.text.now ++ (codes "temp_writable_" ++ z))) (c.as_str.ensures.value ∙ c.in_ok-lower.ensures.ok) c.push_two.ensures
