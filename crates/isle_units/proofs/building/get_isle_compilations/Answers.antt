use Rattle.isle_units.proofs.UnitLaws.{are_units}
use Rattle.isle_units.proofs.building.get_isle_compilations.Goals as goal

pub returns : goal.returns
returns c = are_units c.args.codegen_crate_dir.now c.args.gen_dir.now c.in_ok-items.items c.in_ok-items.ensures
