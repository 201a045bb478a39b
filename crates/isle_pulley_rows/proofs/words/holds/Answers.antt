use Rattle.isle_pulley_rows.proofs.WordLaws.{contains_is}
use Rattle.isle_pulley_rows.proofs.words.holds.Goals as goal

pub returns : goal.returns
returns c = contains_is c.args.word.now c.args.text.now c.contains.result c.requires c.contains.ensures.cases
