use Rattle.std.proofs.Common.{◌++◌, [], ◌∷◌, ap, ◌∙◌}
use Rattle.std.specs.Prelude.{codes}
use Rattle.std.specs.Int.{w128, cast_unsigned}
use Rattle.std.proofs.lemmas.Int.{to_z-of_z}
use Rattle.isle_printer.specs.Token.{Word}
use Rattle.isle_printer.specs.Number.{numeral}
use Rattle.isle_spelling.proofs.Prints.{also}
use Rattle.isle_spelling.proofs.raw.print_raw.Goals as goal

pub returns : goal.returns
returns c =
    also c.hexadecimal.result _ _ _ _
    (ap (λ n. Word (codes "0x" ++ numeral 16 n) ∷ []) (c.cast_unsigned.ensures ∙ ap (cast_unsigned w128) (to_z-of_z w128 c.args.val c.ranges.val)))
    c.hexadecimal.ensures
