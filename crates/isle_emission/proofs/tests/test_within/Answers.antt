use Rattle.isle_emission.proofs.StatementSteps.{inside_eq, inside_let}
use Rattle.isle_emission.proofs.tests.test_within.Goals as goal

pub returns-in-Equal : goal.returns-in-Equal
returns-in-Equal c = rw (c.new.ensures, c.in-Equal.is) (inside_eq c.in-Equal.a c.in-Equal.b c.args.inside.items)

pub returns-in-Fits : goal.returns-in-Fits
returns-in-Fits c = rw (c.new-in-Fits.ensures, c.in-Fits.is) (inside_let c.in-Fits.pat c.in-Fits.read c.args.inside.items)
