use Rattle.std.proofs.Common.{◌≡◌, subst, OnOk, string_bytes}
use Rattle.isle_prelude.proofs.TextLaws.{after_two}
use Rattle.isle_prelude.proofs.immediates.push_imm_types.Goals as goal

pub returns : goal.returns
returns c =
    subst (λ z. OnOk c.push_enum_types.result (string_bytes c.push_enum_types.new.text ≡ z))
    (after_two (string_bytes c.args.text.now) (string_bytes c.push_plain_types.new.text) (string_bytes c.push_primitive.new.text) _ _ _ c.in_ok-push_plain_types.ensures c.in_ok-push_primitive.ensures)
    c.push_enum_types.ensures
