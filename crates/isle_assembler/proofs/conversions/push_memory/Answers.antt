use Rattle.std.proofs.Common.{◌≡◌, ◌++◌, subst, OnOk, codes, string_bytes}
use Rattle.isle_assembler.specs.Conversions.{memory}
use Rattle.isle_assembler.proofs.conversions.push_memory.Goals as goal

pub returns : goal.returns
unfolding memory
returns c =
    subst
    (λ z. OnOk c.push_pieces.result (string_bytes c.push_pieces.new.text
    ≡ string_bytes c.args.text.now ++ (codes "self.convert_amode_to_assembler_amode(" ++ (z ++ codes ")"))))
    c.as_str-place.ensures c.push_pieces.ensures
