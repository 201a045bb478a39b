use Rattle.std.proofs.Common.{rules, ◌≡◌, Some, true, false}
use Rattle.isle_tree.specs.Views.{program}
use Rattle.isle_interpreter.specs.EntryViews.{entry}
use Rattle.isle_interpreter.specs.Served.{has}
use Rattle.isle_places.specs.Signatures.{signature_of}
use Rattle.isle_places.specs.SignatureViews.{signature}
use Rattle.isle_interpreter.proofs.EntryTests.{added, not_added, repeats, fits_right}
use Rattle.isle_interpreter.proofs.entries.is_right_callee.Goals as goal

pub returns-then-not-branch-clause-right : goal.returns-then-not-branch-clause-right
returns-then-not-branch-clause-right c earlier f m serves =
    let there : has c.args.served.now c.args.callee.now ≡ true = not_added _ _ c.in_ok-add.ensures.fresh c.if-not-branch.true in
    repeats (program c.args.signatures.now) f m earlier (entry c.args.given.now) c.args.callee.now c.args.served.now c.requires serves there

pub returns-in-Some-clause-right : goal.returns-in-Some-clause-right
returns-in-Some-clause-right c =
    let fresh : has c.args.served.now c.args.callee.now ≡ false = added _ _ c.in_ok-add.ensures.fresh c.if-not-branch.false in
    let of : signature_of (program c.args.signatures.now) c.args.callee.now ≡ Some (signature c.in-Some.signature) = search rules in
    fits_right (program c.args.signatures.now) (entry c.args.given.now) c.args.callee.now c.args.served.now (signature c.in-Some.signature) c.types.result.now c.fits.result c.requires fresh of c.types.ensures c.fits.ensures
