use Rattle.std.proofs.Common.{sym, ◌∙◌}
use Rattle.isle_terms.proofs.EarlierNames.{placed_earlier, never_earlier}
use Rattle.isle_terms.proofs.names.is_before.Goals as goal

pub returns-in-Some : goal.returns-in-Some
returns-in-Some c = λ names name at. placed_earlier names name c.args.count c.in-Some.place (sym c.in-Some.is ∙ at)

pub returns-in-None : goal.returns-in-None
returns-in-None c = λ names name at. never_earlier names name c.args.count (sym c.in-None.is ∙ at)
