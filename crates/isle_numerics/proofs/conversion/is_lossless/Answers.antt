use Rattle.isle_numerics.proofs.ConversionLaws.{converted}
use Rattle.isle_numerics.proofs.conversion.is_lossless.Goals as goal

pub returns-else-not-from-clause-law : goal.returns-else-not-from-clause-law
returns-else-not-from-clause-law c = converted c.args.from c.args.to

pub returns-else-from-to-clause-law : goal.returns-else-from-to-clause-law
returns-else-from-to-clause-law c = converted c.args.from c.args.to
