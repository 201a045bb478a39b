use Rattle.std.proofs.Common.{refl}
use Rattle.isle_printer.specs.Token.{step, begun}
use Rattle.isle_spelling.specs.Fixed.{fixed_tokens}
use Rattle.isle_spelling.proofs.fixed.print_fixed.Goals as goal

pub fixed-requires : goal.fixed-requires
unfolding step begun
fixed-requires c = refl

pub returns : goal.returns
unfolding fixed_tokens
returns c = c.fixed.ensures
