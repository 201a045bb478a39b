use Rattle.isle_pulley_rows.proofs.WordLaws.{split_is}
use Rattle.isle_pulley_rows.proofs.binary.split.Goals as goal

pub returns : goal.returns
returns c = split_is c.args.text.now c.split_once.result c.split_once.ensures.cases
