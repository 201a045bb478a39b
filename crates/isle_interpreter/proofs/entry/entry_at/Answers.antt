use Rattle.std.proofs.Common.{rules}
use Rattle.isle_interpreter.proofs.EntryPlaces.{constant_at, cases_at, turns_at}
use Rattle.isle_interpreter.proofs.entry.entry_at.Goals as goal

pub returns-then-index-consts : goal.returns-then-index-consts
returns-then-index-consts c = constant_at c.args.answers.now c.args.index c.index-consts-index.result (search rules) (search rules)

pub returns-then-after_consts-pure : goal.returns-then-after_consts-pure
returns-then-after_consts-pure c = cases_at c.args.answers.now c.args.index c.index-pure-after_consts.result (search rules) (search rules) (search rules)

pub returns : goal.returns
returns c = turns_at c.args.answers.now c.args.index c.index-as_slice-after_consts.result c.requires (search rules) (search rules) (search rules)
