use Rattle.std.proofs.Common.{rules, ◌≡◌}
use Rattle.std.specs.Prelude.{not}
use Rattle.isle_lawful_names.specs.NameSet.{has_name}
use Rattle.isle_lawful_names.proofs.NameSteps.{new_told, names_more}
use Rattle.isle_lawful_names.proofs.name_set.added.Goals as goal

pub returns-clause-fresh : goal.returns-clause-fresh
returns-clause-fresh c = λ earlier has.
    let is : c.in_ok-insert.field-0 ≡ not (has_name c.args.names.now c.args.name.now) = search rules in
    new_told earlier c.args.name.now (has_name c.args.names.now c.args.name.now) c.in_ok-insert.field-0 is (has c.args.name.now)

pub returns-clause-more : goal.returns-clause-more
returns-clause-more c = λ earlier has. names_more earlier c.args.names.now c.insert.new.self c.args.name c.in_ok-insert.ensures.updates has
