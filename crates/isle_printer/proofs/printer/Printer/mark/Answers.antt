use Rattle.std.proofs.Common.{◌++◌, ◌∷◌, [], ap, ◌∙◌}
use Rattle.std.specs.Prelude.{string_bytes}
use Rattle.isle_printer.specs.Token.{Mark}
use Rattle.isle_printer.proofs.Scans.{settles_after_mark, tokens-mark}
use Rattle.isle_printer.proofs.printer.Printer.mark.Goals as goal

pub invariant_of-self-2 : goal.invariant_of-self-2
invariant_of-self-2 c =
    let ends = rw c.as_bytes-bytes.ensures.value at c.in_ok-part_from.ensures.ok in
    rw (c.in_ok-push_str.ensures.bytes, c.noted-self-inside.ensures, c.as_bytes-bytes.ensures.value) (settles_after_mark (string_bytes c.part_from.new.text) c.args.mark.now c.requires ends)

pub returns : goal.returns
returns c =
    let ends = rw c.as_bytes-bytes.ensures.value at c.in_ok-part_from.ensures.ok in
    rw c.in_ok-push_str.ensures.bytes (tokens-mark (string_bytes c.part_from.new.text) c.args.mark.now c.requires ends ∙ ap (λ ts. ts ++ Mark c.args.mark.now ∷ []) (c.in_ok-part_from.ensures.same ∙ c.self.view_is))
