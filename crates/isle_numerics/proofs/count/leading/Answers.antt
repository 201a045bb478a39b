use Rattle.isle_core.specs.Int.{width}
use Rattle.isle_numerics.proofs.CountLaws.{leading_given, leading_room}
use Rattle.isle_numerics.proofs.count.leading.Goals as goal

pub returns : goal.returns
returns c = leading_given (width c.args.ty) c.args.n c.bits.result c.bits.ensures c.requires

pub overflow_sub-result-2 : goal.overflow_sub-result-2
overflow_sub-result-2 c = leading_room (width c.args.ty) c.args.n c.bits.result c.bits.ensures c.requires
