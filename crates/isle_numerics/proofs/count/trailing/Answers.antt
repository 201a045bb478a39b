use Rattle.std.proofs.Common.{ap, ◌∙◌}
use Rattle.std.specs.Int.{w128, cast_signed}
use Rattle.isle_core.specs.Int.{width}
use Rattle.isle_numerics.proofs.CountLaws.{trailing_given}
use Rattle.isle_numerics.proofs.count.trailing.Goals as goal

pub returns : goal.returns
returns c = ap (cast_signed w128) c.min.ensures ∙ trailing_given (width c.args.ty) c.args.n c.bits.result c.bits.ensures
