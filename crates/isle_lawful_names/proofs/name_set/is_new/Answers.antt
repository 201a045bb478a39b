use Rattle.std.proofs.Common.{rules, ◌≡◌, ap}
use Rattle.std.specs.Prelude.{not}
use Rattle.isle_lawful_names.specs.NameSet.{has_name}
use Rattle.isle_lawful_names.proofs.NameSteps.{new_told}
use Rattle.isle_lawful_names.proofs.name_set.is_new.Goals as goal

pub returns : goal.returns
returns c = λ earlier has.
    let is : c.contains.result ≡ has_name c.args.names.now c.args.name.now = search rules in
    new_told earlier c.args.name.now (has_name c.args.names.now c.args.name.now) (not c.contains.result) (ap not is) (has c.args.name.now)
