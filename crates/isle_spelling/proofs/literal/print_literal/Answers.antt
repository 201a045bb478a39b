use Rattle.std.proofs.Common.{◌%◌, ◌^◌, ap, ◌∙◌}
use Rattle.std.specs.Int.{w128, cast_unsigned}
use Rattle.std.proofs.lemmas.Int.{to_z-of_z}
use mir.Val.{bits}
use Rattle.isle_core.specs.Int.{width}
use Rattle.isle_spelling.specs.Literal.{literal_tokens, of_bits}
use Rattle.isle_spelling.proofs.Prints.{also}
use Rattle.isle_spelling.proofs.Wraps.{wrapped-low}
use Rattle.isle_spelling.proofs.literal.print_literal.Goals as goal

pub returns : goal.returns
returns c =
    let ty = c.args.ty in
    also c.print_bits.result _ _ _ _
    (ap (λ n. literal_tokens ty (of_bits ty n)) (c.low_bits.ensures ∙ ap (λ n. n % 2 ^ bits (width ty)) (c.cast_unsigned.ensures ∙ ap (cast_unsigned w128) (to_z-of_z w128 c.args.val c.ranges.val)))
    ∙ ap (literal_tokens ty) (wrapped-low ty c.args.val c.ranges.val))
    c.print_bits.ensures
