use Rattle.isle_judging.proofs.Ending.{parted, by_last, not_front}
use Rattle.isle_judging.proofs.fits.fits_ending.Goals as goal

pub returns-then-not-fits_body : goal.returns-then-not-fits_body
returns-then-not-fits_body c =
    not_front (parted c.args.kind c.args.stmts.now c.in-Some.front.now c.in-Some.last.now c.in-Some.ensures.cases.0) c.if-not-fits_body.ensures

pub returns-else-not-fits_body : goal.returns-else-not-fits_body
returns-else-not-fits_body c =
    by_last (parted c.args.kind c.args.stmts.now c.in-Some.front.now c.in-Some.last.now c.in-Some.ensures.cases.0) c.if-not-fits_body.ensures c.fits_last.result c.fits_last.ensures
