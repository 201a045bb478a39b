use Rattle.std.proofs.Common.{rules, ◌≡◌, Some, None}
use Rattle.isle_core.specs.ValueViews.{value}
use Rattle.isle_tree.specs.Views.{program}
use Rattle.isle_interpreter.specs.Agreed.{at_name, agreed}
use Rattle.isle_places.specs.Places.{all_named}
use Rattle.isle_interpreter.proofs.Agreeing.{none_fits, several_fit, one_fits}
use Rattle.isle_interpreter.proofs.constants.Constants.fits.Goals as goal

pub returns-in-None : goal.returns-in-None
returns-in-None c =
    let is : at_name c.self.inside.types c.args.name.now ≡ agreed c.args.name.now (all_named (program c.args.self.now)) = search rules in
    let none : at_name c.self.inside.types c.args.name.now ≡ None = search rules in
    none_fits (program c.args.self.now) c.args.name.now (value c.args.given.now) (at_name c.self.inside.types c.args.name.now) is none

pub returns-in-Some-None : goal.returns-in-Some-None
returns-in-Some-None c =
    let is : at_name c.self.inside.types c.args.name.now ≡ agreed c.args.name.now (all_named (program c.args.self.now)) = search rules in
    let some : at_name c.self.inside.types c.args.name.now ≡ Some None = search rules in
    several_fit (program c.args.self.now) c.args.name.now (value c.args.given.now) (at_name c.self.inside.types c.args.name.now) is some

pub returns-in-Some-Some : goal.returns-in-Some-Some
returns-in-Some-Some c =
    let is : at_name c.self.inside.types c.args.name.now ≡ agreed c.args.name.now (all_named (program c.args.self.now)) = search rules in
    let some : at_name c.self.inside.types c.args.name.now ≡ Some (Some c.in-Some-Some.ty.now) = search rules in
    one_fits (program c.args.self.now) c.args.name.now (value c.args.given.now) (at_name c.self.inside.types c.args.name.now) c.in-Some-Some.ty.now c.args.types.now c.is_named.result is some c.requires c.is_named.ensures
