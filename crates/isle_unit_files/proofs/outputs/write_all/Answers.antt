use Rattle.std.proofs.Common.{[], ◌∷◌, subst}
use Rattle.isle_prelude_files.specs.Outputs.{Writes}
use Rattle.isle_unit_files.proofs.Files.{last, more, six_then}
use Rattle.isle_unit_files.proofs.Names.{all_apart}
use Rattle.isle_unit_files.proofs.outputs.write_all.Goals as goal

pub write_files-requires : goal.write_files-requires
write_files-requires g c =
    all_apart _ c.args.folders c.args.texts.now
    (more c.output-rust.ensures (six_then c.isle_outputs.result _ (c.output-methods_macro.result ∷ []) c.isle_outputs.ensures (last c.output-methods_macro.ensures)))

pub returns-clause-files : goal.returns-clause-files
returns-clause-files g c =
    subst (λ fs. Writes fs (g.D.Dir.files c.args.dir.now) (g.D.Dir.files c.write_files.new.dir) c.write_files.result)
    (more c.output-rust.ensures (six_then c.isle_outputs.result _ (c.output-methods_macro.result ∷ []) c.isle_outputs.ensures (last c.output-methods_macro.ensures)))
    c.write_files.ensures.files
