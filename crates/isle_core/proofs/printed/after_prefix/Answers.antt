use Rattle.isle_core.proofs.Prefixes.{strip_is}
use Rattle.isle_core.proofs.printed.after_prefix.Goals as goal

pub returns : goal.returns
returns c = strip_is c.args.prefix.now c.args.name.now c.strip_prefix.result c.strip_prefix.ensures.cases
