use Rattle.isle_pulley_rows.proofs.WordLaws.{strip_end_is}
use Rattle.isle_pulley_rows.proofs.binary.before_end.Goals as goal

pub returns : goal.returns
returns c = strip_end_is c.args.text.now c.strip_suffix.result c.strip_suffix.ensures.cases
