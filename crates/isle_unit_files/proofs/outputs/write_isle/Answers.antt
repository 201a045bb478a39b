use Rattle.isle_prelude_files.specs.Outputs.{files_of}
use Rattle.isle_unit_files.proofs.Names.{rules_apart}
use Rattle.isle_unit_files.proofs.outputs.write_isle.Goals as goal

pub write_files-requires : goal.write_files-requires
write_files-requires g c = rules_apart (files_of c.isle_outputs.result) c.args.folder.now c.args.texts.now c.isle_outputs.ensures
