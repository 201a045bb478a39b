use Rattle.std.proofs.Common.{rules, ◌≡◌}
use Rattle.isle_core.specs.Inputs.{bytes_each}
use Rattle.isle_top.proofs.Tries.{files_tried}
use Rattle.isle_top.proofs.compiled.compiled.Goals as goal

pub returns-in-Ok-clause-tried : goal.returns-in-Ok-clause-tried
returns-in-Ok-clause-tried g c =
    let is : bytes_each c.as_slice.result.now ≡ c.args.names.now = search rules in
    files_tried c.from_files.result c.as_slice.result.now c.args.names.now (g.D.Dir.counts c.args.dir.now) (g.D.Dir.counts c.from_files.new.dir) is c.from_files.ensures.tried c.from_files.ensures.steady
