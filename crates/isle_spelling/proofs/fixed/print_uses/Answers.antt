use Rattle.std.proofs.Common.{refl}
use Rattle.isle_printer.specs.Token.{step, begun}
use Rattle.isle_spelling.specs.Fixed.{uses_tokens}
use Rattle.isle_spelling.proofs.fixed.print_uses.Goals as goal

pub fixed-requires : goal.fixed-requires
unfolding step begun
fixed-requires c = refl

pub returns : goal.returns
unfolding uses_tokens
returns c = c.fixed.ensures
