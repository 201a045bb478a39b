use Rattle.std.proofs.Common.{rules, ◌≡◌, Some}
use Rattle.isle_build.specs.Built.{no_memory, no_unit}
use Rattle.isle_build.specs.UnitSource.{unit_named}
use Rattle.isle_build.proofs.FailureLaws.{files_fail}
use Rattle.isle_build.proofs.files.unit_files.Goals as goal

pub returns-in-Err-clause-err : goal.returns-in-Err-clause-err
returns-in-Err-clause-err g c = no_memory (search rules)

pub returns-in-Some-clause-err : goal.returns-in-Some-clause-err
returns-in-Some-clause-err g c =
    let is : unit_named c.args.unit.now ≡ Some c.in-Some.listed.now = search rules in
    files_fail c.args.tables.now c.args.unit.now c.in-Some.listed.now (g.D.Dir.files c.args.dir.now) (g.D.Dir.counts c.args.dir.now) (g.D.Dir.counts c.listed_files.new.dir) c.listed_files.result is c.listed_files.ensures.err

pub returns-clause-err : goal.returns-clause-err
returns-clause-err g c = no_unit (search rules)
