use Rattle.std.proofs.Common.{[], ◌∷◌}
use Rattle.isle_unit_files.proofs.Files.{last, six_then}
use Rattle.isle_unit_files.proofs.Names.{build_apart}
use Rattle.isle_unit_files.proofs.outputs.write_build.Goals as goal

pub write_files-requires : goal.write_files-requires
write_files-requires g c =
    build_apart _ c.args.folders c.args.texts.now (six_then c.isle_outputs.result _ (c.output-methods_macro.result ∷ []) c.isle_outputs.ensures (last c.output-methods_macro.ensures))
