use Rattle.std.proofs.Common.{rules, ◌≡◌, true, false, subst}
use Rattle.std.specs.Prelude.{◌↔◌, IsTrue, IfOk}
use Rattle.isle_core.specs.ValueViews.{value}
use Rattle.isle_tree.specs.Views.{program}
use Rattle.isle_operand_names.specs.Sets.{has_name}
use Rattle.isle_interpreter.specs.Entries.{has_constant, is_typed, FitsPlaces}
use Rattle.isle_interpreter.proofs.EntryTests.{added, not_added, given_again, given_fits, clashes_so}
use Rattle.isle_interpreter.proofs.entries.is_right_constant.Goals as goal

pub returns-then-not-branch-clause-right : goal.returns-then-not-branch-clause-right
returns-then-not-branch-clause-right c earlier f m serves finds =
    let name = c.args.given.now.0 in
    let there : has_name c.args.served.now.constants name ≡ true = not_added _ _ (search rules) c.if-not-branch.true in
    given_again (program c.args.signatures.now) f m earlier name (value c.args.given.now.1) c.args.served.now serves there

pub returns-then-is_clashing-clause-right : goal.returns-then-is_clashing-clause-right
returns-then-is_clashing-clause-right c earlier f m serves finds =
    let name = c.args.given.now.0 in
    let shared : has_name c.args.clashing.now name ≡ true = search rules in
    clashes_so (program c.args.signatures.now) f m earlier name (value c.args.given.now.1) c.args.clashing.now finds shared

pub returns-clause-right : goal.returns-clause-right
returns-clause-right c =
    let name = c.args.given.now.0 in
    let fresh : has_name c.args.served.now.constants name ≡ false = added _ _ (search rules) c.if-not-branch.false in
    let there : has_constant (program c.args.signatures.now) name ≡ true = search rules in
    let alone : has_name c.args.clashing.now name ≡ false = search rules in
    let typed : is_typed (value c.args.given.now.1) ≡ true = search rules in
    let fits : IfOk c.fits.result (λ b. IsTrue b ↔ FitsPlaces (program c.args.signatures.now) name (value c.args.given.now.1)) =
    subst (λ n. IfOk c.fits.result (λ b. IsTrue b ↔ FitsPlaces (program c.args.signatures.now) n (value c.args.given.now.1))) c.as_str-4.ensures
    (subst (λ q. IfOk c.fits.result (λ b. IsTrue b ↔ FitsPlaces (program q) c.as_str-4.result.now (value c.args.given.now.1))) c.requires c.fits.ensures) in
    given_fits (program c.args.signatures.now) name (value c.args.given.now.1) c.args.served.now c.args.clashing.now c.fits.result fresh there alone typed fits
