use Rattle.std.proofs.Common.{rules, ◌≡◌}
use Rattle.isle_command_line.specs.declared.commands.Source.TheVariants as source
use Rattle.isle_top.specs.Job.{surroundings}
use Rattle.isle_top.proofs.HadLaws.{file_read, unit_read, source_not_had}
use Rattle.isle_top.proofs.source.source_of.Goals as goal

pub returns-in-File-clause-read : goal.returns-in-File-clause-read
returns-in-File-clause-read g c =
    let is : c.args.source.now ≡ source.File c.as_str.result.now = search rules in
    file_read c.args.over.now.tables.now c.args.over.now.options.now c.args.source.now c.as_str.result.now (g.D.Dir.files c.args.dir.now) c.file_source.result is c.file_source.ensures.read

pub returns-in-Unit-clause-read : goal.returns-in-Unit-clause-read
returns-in-Unit-clause-read g c =
    let is : c.args.source.now ≡ source.Unit c.as_str-in-Unit.result.now = search rules in
    unit_read c.args.over.now.tables.now c.args.over.now.options.now c.args.source.now c.as_str-in-Unit.result.now (g.D.Dir.files c.args.dir.now) c.unit_source.result is c.unit_source.ensures.read

pub returns-in-Unit-clause-err : goal.returns-in-Unit-clause-err
returns-in-Unit-clause-err g c =
    let is : c.args.source.now ≡ source.Unit c.as_str-in-Unit.result.now = search rules in
    source_not_had c.args.over.now.tables.now c.args.over.now.options.now c.args.source.now c.as_str-in-Unit.result.now (surroundings (g.D.Dir.files c.args.dir.now) (g.D.Dir.counts c.args.dir.now) (g.D.Dir.counts c.unit_source.new.dir)) c.unit_source.result is c.unit_source.ensures.err
