use Rattle.isle_emission.proofs.CaseSteps.{inside_match}
use Rattle.isle_emission.proofs.statements.match_over.Goals as goal

pub returns : goal.returns
returns c = rw (c.new.ensures) (inside_match c.args.read c.args.cases.items)
