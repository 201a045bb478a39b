use Rattle.isle_operand_names.proofs.SetNames.{name_more}
use Rattle.isle_interpreter.proofs.served.added.Goals as goal

pub returns-clause-more : goal.returns-clause-more
returns-clause-more c other = name_more _ _ c.args.name other c.in_ok-insert.ensures.updates
