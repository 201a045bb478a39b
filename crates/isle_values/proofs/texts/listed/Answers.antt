use Rattle.std.proofs.Common.{map}
use Rattle.isle_reading.specs.Views.{left}
use Rattle.isle_values.specs.Views.{written}
use Rattle.isle_values.proofs.Lists.{comes_ok, values_got}
use Rattle.isle_values.proofs.texts.listed.Goals as goal

pub returns-clause-got : goal.returns-clause-got
returns-clause-got c = comes_ok _ c.whole.result _ _ _ c.whole.ensures (λ read p. values_got c.len-most.result (left c.args.tokens.now) (left c.whole.new.tokens) (map written read.items) c.len-most.ensures p)
